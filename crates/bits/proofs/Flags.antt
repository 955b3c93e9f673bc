-- What `&&`, `||` and a choice by a test say of their parts; chains of tests: into an answer by what each test gave, and back from it.
-- Assumes nothing.
use mathlib.Core.Path.{◌≡◌, refl, sym, ◌∙◌}
use Prim.Native.Nat.{ℕ}
use native.Mathlib.Omega.{arith}
use mathlib.Core.Bool.{Bool, true, false, not, ◌&&◌, ◌||◌, true≢false}
use Rattle.bits.specs.Bits.{pick}

pub and_left : (a b : Bool) → (a && b) ≡ true → a ≡ true
and_left true b e = refl
and_left false b e = e

pub and_right : (a b : Bool) → (a && b) ≡ true → b ≡ true
and_right true b e = e
and_right false b e = cc

pub both_true : (a b : Bool) → a && b ≡ true → (a ≡ true) × (b ≡ true)
both_true a b e = (and_left a b e, and_right a b e)

pub or_left : (a b : Bool) → (a || b) ≡ false → a ≡ false
or_left true b e = e
or_left false b e = refl

pub or_right : (a b : Bool) → (a || b) ≡ false → b ≡ false
or_right true b e = cc
or_right false b e = e

pub or_no : (a b : Bool) → a ≡ false → b ≡ false → (a || b) ≡ false
or_no a b f h = rw (f, h)

pub or_other : (a b : Bool) → (a || b) ≡ true → a ≡ false → b ≡ true
or_other true b h e = absurd (true≢false e)
or_other false b h e = h

-- a test is the one, where it is not the other
pub is_true : (b : Bool) → (b ≡ false → ⊥) → b ≡ true
is_true true n = refl
is_true false n = absurd (n refl)

pub is_false : (b : Bool) → (b ≡ true → ⊥) → b ≡ false
is_false true n = absurd (n refl)
is_false false n = refl

-- a flag that a callee returned and a branch tested
pub told_by : (r v t : Bool) → r ≡ v → r ≡ t → v ≡ t
told_by r v t p q = sym p ∙ q

-- two constructors are never the same: `clash cc`
pub clash : ◌≡◌ {A = ℕ} 0 1 → ⊥
clash z = omega arith

-- what holds of both sides holds of the one that a test picks
pub pick_elim : {A : Type 0} (P : A → Type 0) (b : Bool) {x y : A} → (b ≡ true → P x) → (b ≡ false → P y) → P (pick b x y)
unfolding pick
pick_elim P true f g = f refl
pick_elim P false f g = g refl

-- a function of a choice
pub pick_in : {A B : Type 0} (f : A → B) (t : Bool) (x y : A) → f (pick t x y) ≡ pick t (f x) (f y)
unfolding pick
pick_in f true x y = refl
pick_in f false x y = refl

-- two choices by one test: what holds between their first sides and, where the test fails, between their second ones
pub pick-alike : {A B : Type 0} (R : A → B → Type 0) (t : Bool) {a b : A} {c d : B} → R a c → (t ≡ false → R b d) → R (pick t a b) (pick t c d)
unfolding pick
pick-alike R true e h = e
pick-alike R false e h = h refl

-- past a test that holds, and past one that does not
pub yes : {A : Type 0} (t : Bool) (x y : A) {z : A} → t ≡ true → z ≡ x → z ≡ pick t x y
unfolding pick
yes t x y h e = rw h e

pub no : {A : Type 0} (t : Bool) (x y : A) {z : A} → t ≡ false → z ≡ y → z ≡ pick t x y
unfolding pick
no t x y h e = rw h e

-- past a test that must hold, and stopped by one
pub held : {A : Type 0} (t : Bool) (x y : A) {z : A} → t ≡ true → z ≡ y → z ≡ pick (not t) x y
unfolding pick
held t x y h e = rw h e

pub failed : {A : Type 0} (t : Bool) (x y : A) {z : A} → t ≡ false → z ≡ x → z ≡ pick (not t) x y
unfolding pick
failed t x y h e = rw h e

-- an answer that is not the one side comes from the other
pub was_no : {A : Type 0} (t : Bool) (x y : A) {z : A} → (x ≡ z → ⊥) → pick t x y ≡ z → (t ≡ false) × (y ≡ z)
unfolding pick
was_no true x y n h = absurd (n h)
was_no false x y n h = (refl, h)

pub was_held : {A : Type 0} (t : Bool) (x y : A) {z : A} → (x ≡ z → ⊥) → pick (not t) x y ≡ z → (t ≡ true) × (y ≡ z)
unfolding pick
was_held true x y n h = (refl, h)
was_held false x y n h = absurd (n h)
