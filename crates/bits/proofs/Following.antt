-- One read after another: where all succeed, and where more bytes change nothing.
-- Assumes nothing.
use mathlib.Core.Path.{◌≡◌, refl, sym, ap, ◌∙◌}
use Prim.Native.Nat.{ℕ}
use native.Mathlib.Omega.{arith}
use Rattle.bits.specs.Refusals.{Answer, value, refused, and_then, number}
use Rattle.bits.proofs.Flags.{clash}
use Rattle.bits.proofs.Reading.{ParseOutcome, cut, broken, whole}

-- no refusal is a value
pub refused-value : {X : Type 0} {n p c e : ℕ} {x : X} → refused n p c e ≡ value x → ⊥
refused-value h = clash cc

-- a value is one
pub same_value : {X : Type 0} {x y : X} → value x ≡ value y → x ≡ y
same_value e = cc

-- a value comes from values
pub then_value : {X Y : Type 0} (a : Answer X) {f : X → Answer Y} {y : Y} → and_then a f ≡ value y → (x : X) × (a ≡ value x) × (f x ≡ value y)
then_value (value x) e = (x, refl, e)
then_value (refused n p c k) e = absurd (clash cc)

-- what stays unless it is too short (1)
abbrev pub Stays : {X : Type 0} → Answer X → Answer X → Type 0
Stays a b = (a ≡ refused 1 0 0 0 → ⊥) → b ≡ a

pub then_stays : {X Y : Type 0} (a b : Answer X) (f g : X → Answer Y) → Stays a b → ((x : X) → Stays (f x) (g x)) → Stays (and_then a f) (and_then b g)
then_stays (refused n p c k) b f g same more h = rw (same (λ z. h (ap (λ x. and_then x f) z)))
then_stays (value x) b f g same more h = rw (same (λ z. let n = ap number z in omega arith)) (more x h)

-- so what is too short with more after it is too short
pub short_cut : {X : Type 0} {a b : Answer X} → ParseOutcome a → Stays a b → b ≡ refused 1 0 0 0 → a ≡ refused 1 0 0 0
short_cut cut same e = refl
short_cut broken same e = sym (same (λ z. let n = ap number z in omega arith)) ∙ e
short_cut (whole x) same e = sym (same (λ z. let n = ap number z in omega arith)) ∙ e
