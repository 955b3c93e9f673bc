-- The verdict in a mode that there is, and in one that there is not.
-- Assumes nothing.
use mathlib.Core.Path.{◌≡◌, refl, sym, ◌∙◌}
use mathlib.Core.Bool.{Bool, true, false, ◌||◌, true≢false}
use mathlib.Core.List.{List}
use Prim.Native.Nat.{ℕ}
use Rattle.bits.specs.Bits.{pick}
use Rattle.bits.specs.Refusals.{refused}
use Rattle.bits.proofs.Flags.{or_left, or_right}
use Rattle.pictures.specs.Cadence.{cadence_of}
use Rattle.pictures.specs.declared.VbvStandard.{VbvStandard}
use Rattle.pictures.specs.declared.VbvStandard.TheVariants.{Mpeg1, Mpeg2}
use Rattle.verify.specs.Mode.{plain, mpeg2, has_modes, mode_fits}
use Rattle.verify.specs.Check.{verdict_by, verdict}
use Rattle.verify.specs.declared.VbvMode.{VbvMode}

mpeg1_none : has_modes Mpeg1 ≡ false
unfolding has_modes
mpeg1_none = refl

mpeg2_has : has_modes Mpeg2 ≡ true
unfolding has_modes
mpeg2_has = refl

in_mpeg2 : (b : Bool) → pick b (has_modes Mpeg2) true ≡ true
unfolding pick
in_mpeg2 true = mpeg2_has
in_mpeg2 false = refl

-- every plain mode exists, and every one of MPEG-2; film or a variable rate outside MPEG-2 does not
pub plain_fits : (standard : VbvStandard) → mode_fits (plain standard) ≡ true
unfolding mode_fits pick
plain_fits standard = refl

pub mpeg2-fits : (film variable : Bool) → mode_fits (mpeg2 film variable) ≡ true
unfolding mode_fits
mpeg2-fits film variable = in_mpeg2 (film || variable)

module _ (m : VbvMode) where
  pub unfit_mode : mode_fits m ≡ false → (m.standard ≡ Mpeg1) × (m.film || m.variable ≡ true)
  unfolding mode_fits pick
  unfit_mode h = go (m.film || m.variable) refl m.standard refl h
    where
      go : (b : Bool) → m.film || m.variable ≡ b → (st : VbvStandard) → m.standard ≡ st → pick b (has_modes st) true ≡ false → (m.standard ≡ Mpeg1) × (m.film || m.variable ≡ true)
      go true e Mpeg1 f h = (f, e)
      go true e Mpeg2 f h = absurd (true≢false (sym mpeg2_has ∙ h))
      go false e st f h = absurd (true≢false h)

  pub mode_exists : mode_fits m ≡ true → m.standard ≡ Mpeg1 → (m.film ≡ false) × (m.variable ≡ false)
  unfolding mode_fits pick
  mode_exists h e = go (m.film || m.variable) refl (rw e at h)
    where
      go : (b : Bool) → m.film || m.variable ≡ b → pick b (has_modes Mpeg1) true ≡ true → (m.film ≡ false) × (m.variable ≡ false)
      go true f h = absurd (true≢false (sym h ∙ mpeg1_none))
      go false f h = (or_left m.film m.variable f, or_right m.film m.variable f)

  pub existing : (m.standard ≡ Mpeg1 → (m.film ≡ false) × (m.variable ≡ false)) → mode_fits m ≡ true
  unfolding mode_fits pick
  existing h = go m.standard refl
    where
      go : (st : VbvStandard) → m.standard ≡ st → pick (m.film || m.variable) (has_modes st) true ≡ true
      go Mpeg1 f = let a = (h f).0 in let b = (h f).1 in rw (a, b)
      go Mpeg2 f = in_mpeg2 (m.film || m.variable)

module _ (m : VbvMode) (s : List ℕ) (places : ℕ) where
  pub verdict_in : mode_fits m ≡ true → verdict m s places ≡ verdict_by m.standard m.variable (cadence_of m.film s) s places
  unfolding verdict pick
  verdict_in h = rw h

  pub verdict-none : mode_fits m ≡ false → verdict m s places ≡ refused 12 0 0 0
  unfolding verdict pick
  verdict-none h = rw h
