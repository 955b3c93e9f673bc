-- What is answered, in paper 01's terms: a value, or a refusal: its number, with picture, coded and expected delay for the check's 9 to 11, the picture alone for the model's 9 and 10 and an
-- offer's 9, which know no coded delay, and zeros for every other.
-- Assumes nothing.
use Rattle.std.specs.Prelude.{ℕ, Bool}
use Rattle.bits.specs.Bits.{pick}
use Rattle.bits.specs.declared.VbvRefusal.{VbvRefusal}

pub data Answer (X : Type 0) : Type 0 where
  value : X → Answer X
  refused : ℕ → ℕ → ℕ → ℕ → Answer X

-- refuse n if the test holds, else go on
abbrev pub refuse : {X : Type 0} → ℕ → Bool → Answer X → Answer X
refuse n test rest = pick test (refused n 0 0 0) rest

-- the same with picture, coded and expected
abbrev pub violate : {X : Type 0} → ℕ → ℕ → ℕ → ℕ → Bool → Answer X → Answer X
violate n picture coded expected test rest = pick test (refused n picture coded expected) rest

-- on with a value; a refusal stays
abbrev pub and_then : {X Y : Type 0} → Answer X → (X → Answer Y) → Answer Y
and_then (value x) next = next x
and_then (refused n p c e) next = refused n p c e

-- the number of an answer: 0 for a value
abbrev pub number : {X : Type 0} → Answer X → ℕ
number (value x) = 0
number (refused n p c e) = n

-- what stands beside an answer, where an enum cannot hold it: the value, or another on a refusal
abbrev pub or_else : {X : Type 0} → X → Answer X → X
or_else other (value x) = x
or_else other (refused n p c e) = other

-- in the code's terms: a refusal that carries its number alone
abbrev pub plain : ℕ → VbvRefusal
plain n = record { number = n; picture = 0; coded = 0; expected = 0 }
