-- The modes and their numbers.
-- Assumes nothing.
use mathlib.Core.Path.{◌≡◌, refl, sym}
use mathlib.Core.Bool.{Bool, true, false, not, ◌&&◌, ◌||◌, true≢false}
use Prim.Native.Nat.{ℕ, ◌≤◌}
use native.Mathlib.Omega.{arith}
use lib.Dec.{eqb}
use borrow.Author.Tests.{eqb-true, ne_eqb}
use Rattle.bits.specs.Bits.{pick}
use Rattle.bits.proofs.Flags.{both_true}
use Rattle.pictures.specs.declared.VbvStandard.{VbvStandard}
use Rattle.pictures.specs.declared.VbvStandard.TheVariants.{Mpeg1, Mpeg2}
use Rattle.verify.specs.Mode.{plain, film, mpeg2, mode_fits}
use Rattle.verify.proofs.Modes.{plain_fits, mpeg2-fits, mode_exists}
use Rattle.layout.specs.Mode.{mode_number, is_mode, mode_for, ModesNumbered}

pub is_one : is_mode 1 ≡ true
unfolding is_mode
is_one = refl

pub is_two : is_mode 2 ≡ true
unfolding is_mode
is_two = refl

pub is_six : is_mode 6 ≡ true
unfolding is_mode
is_six = refl

pub is_ten : is_mode 10 ≡ true
unfolding is_mode
is_ten = refl

pub is_fourteen : is_mode 14 ≡ true
unfolding is_mode
is_fourteen = refl

pub for_one : mode_for 1 ≡ plain Mpeg1
unfolding mode_for pick
for_one = refl

pub for_two : mode_for 2 ≡ plain Mpeg2
unfolding mode_for pick
for_two = refl

pub for_six : mode_for 6 ≡ film
unfolding mode_for pick
for_six = refl

pub for_ten : mode_for 10 ≡ mpeg2 false true
unfolding mode_for pick
for_ten = refl

pub for_fourteen : mode_for 14 ≡ mpeg2 true true
unfolding mode_for pick
for_fourteen = refl

-- there is no other
pub no_other : (n : ℕ) → (n ≡ 1 → ⊥) → (n ≡ 2 → ⊥) → (n ≡ 6 → ⊥) → (n ≡ 10 → ⊥) → (n ≡ 14 → ⊥) → is_mode n ≡ false
unfolding is_mode
no_other n a b c d e = rw (ne_eqb n 1 a, ne_eqb n 2 b, ne_eqb n 6 c, ne_eqb n 10 d, ne_eqb n 14 e)

-- one of the five
pub data Numbered : ℕ → Type 0 where
  one : Numbered 1
  two : Numbered 2
  six : Numbered 6
  ten : Numbered 10
  fourteen : Numbered 14

pub one_of : (n : ℕ) → is_mode n ≡ true → Numbered n
unfolding is_mode
one_of n h = go (eqb n 1) refl (eqb n 2) refl (eqb n 6) refl (eqb n 10) refl (eqb n 14) refl h
  where
    go : (a : Bool) → eqb n 1 ≡ a → (b : Bool) → eqb n 2 ≡ b → (c : Bool) → eqb n 6 ≡ c → (d : Bool) → eqb n 10 ≡ d → (e : Bool) → eqb n 14 ≡ e
        → (a || (b || (c || (d || e)))) ≡ true → Numbered n
    go true x b y c z d u e v h = rw (eqb-true n 1 x) one
    go false x true y c z d u e v h = rw (eqb-true n 2 y) two
    go false x false y true z d u e v h = rw (eqb-true n 6 z) six
    go false x false y false z true u e v h = rw (eqb-true n 10 u) ten
    go false x false y false z false u true v h = rw (eqb-true n 14 v) fourteen
    go false x false y false z false u false v h = absurd (true≢false (sym h))

-- of MPEG-2 each has its number
pub mpeg2-number : (film variable : Bool) → (is_mode (mode_number (mpeg2 film variable)) ≡ true) × (mode_for (mode_number (mpeg2 film variable)) ≡ mpeg2 film variable)
mpeg2-number true true = (is_fourteen, for_fourteen)
mpeg2-number true false = (is_six, for_six)
mpeg2-number false true = (is_ten, for_ten)
mpeg2-number false false = (is_two, for_two)

numbered_back : (st : VbvStandard) (b v : Bool) → (st ≡ Mpeg1 → (b ≡ false) × (v ≡ false))
    → (is_mode (mode_number (record { standard = st; film = b; variable = v })) ≡ true)
    × (mode_for (mode_number (record { standard = st; film = b; variable = v })) ≡ record { standard = st; film = b; variable = v })
numbered_back Mpeg1 true v h = absurd (true≢false (h refl).0)
numbered_back Mpeg1 false true h = absurd (true≢false (h refl).1)
numbered_back Mpeg1 false false h = (is_one, for_one)
numbered_back Mpeg2 b v h = mpeg2-number b v

mode_of : {n : ℕ} → Numbered n → (mode_fits (mode_for n) ≡ true) × (mode_number (mode_for n) ≡ n)
mode_of one = rw for_one (plain_fits Mpeg1, refl)
mode_of two = rw for_two (plain_fits Mpeg2, refl)
mode_of six = rw for_six (mpeg2-fits true false, refl)
mode_of ten = rw for_ten (mpeg2-fits false true, refl)
mode_of fourteen = rw for_fourteen (mpeg2-fits true true, refl)

-- MPEG-1 with film, a variable rate or both: 5, 9 and 13 are none
pub no_mpeg1 : (film variable : Bool) → (film || variable) ≡ true → is_mode (mode_number (record { standard = Mpeg1; film = film; variable = variable })) ≡ false
unfolding is_mode
no_mpeg1 true true h = refl
no_mpeg1 true false h = refl
no_mpeg1 false true h = refl
no_mpeg1 false false h = absurd (true≢false (sym h))

-- ---- those of a writer

pub writer_mode : (film variable : Bool) → (is_mode (mode_number (mpeg2 film variable)) && not (eqb (mode_number (mpeg2 film variable)) 1)) ≡ true
writer_mode true true = rw is_fourteen
writer_mode true false = rw is_six
writer_mode false true = rw is_ten
writer_mode false false = rw is_two

pub mode_low : (film variable : Bool) → mode_number (mpeg2 film variable) ≤ 14
mode_low true true = omega arith
mode_low true false = omega arith
mode_low false true = omega arith
mode_low false false = omega arith

pub mode_back : (n : ℕ) → (is_mode n && not (eqb n 1)) ≡ true → mode_number (mpeg2 (mode_for n).film (mode_for n).variable) ≡ n
mode_back n h = let b = both_true (is_mode n) (not (eqb n 1)) h in go (one_of n b.0) b.1
  where
    go : {n : ℕ} → Numbered n → not (eqb n 1) ≡ true → mode_number (mpeg2 (mode_for n).film (mode_for n).variable) ≡ n
    go one h = absurd (true≢false (sym h))
    go two h = rw for_two
    go six h = rw for_six
    go ten h = rw for_ten
    go fourteen h = rw for_fourteen

pub modes_numbered : ModesNumbered
modes_numbered = record {
  has_number = λ m h. numbered_back m.standard m.film m.variable (mode_exists m h);
  is_a_mode = λ n h. mode_of (one_of n h);
}
