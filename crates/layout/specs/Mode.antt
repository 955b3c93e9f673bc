-- The numbers of the modes (docs/LAYOUT.md, 'Modes'): the standard, 4 more for film, and 8 more for a variable rate.
-- Assumes nothing.
use Rattle.std.specs.Prelude.{ℕ, ◌+◌, ◌*◌, ◌≡◌, Bool, true, ◌||◌, eqb}
use Rattle.bits.specs.Bits.{pick}
use Rattle.headers.specs.Answers.{flag_of}
use Rattle.pictures.specs.declared.VbvStandard.{VbvStandard}
use Rattle.pictures.specs.declared.VbvStandard.TheVariants.{Mpeg1, Mpeg2}
use Rattle.verify.specs.Mode.{plain, mpeg2, mode_fits}
use Rattle.verify.specs.declared.VbvMode.{VbvMode}

abbrev pub standard_number : VbvStandard → ℕ
standard_number Mpeg1 = 1
standard_number Mpeg2 = 2

abbrev pub mode_number : VbvMode → ℕ
mode_number m = standard_number m.standard + 4 * flag_of m.film + 8 * flag_of m.variable

-- 1 MPEG-1, 2 MPEG-2, 6 MPEG-2 film, 10 and 14 these two at a variable rate; there is no other
unfoldable pub is_mode : ℕ → Bool
is_mode n = eqb n 1 || (eqb n 2 || (eqb n 6 || (eqb n 10 || eqb n 14)))

unfoldable pub mode_for : ℕ → VbvMode
mode_for n = pick (eqb n 1) (plain Mpeg1) (mpeg2 (eqb n 6 || eqb n 14) (eqb n 10 || eqb n 14))

-- what is owed: these are the numbers of the modes that there are, each of one
pub record ModesNumbered : Type 0 where
  pub has_number : (m : VbvMode) → mode_fits m ≡ true → (is_mode (mode_number m) ≡ true) × (mode_for (mode_number m) ≡ m)
  pub is_a_mode : (n : ℕ) → is_mode n ≡ true → (mode_fits (mode_for n) ≡ true) × (mode_number (mode_for n) ≡ n)
