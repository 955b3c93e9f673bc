-- A read whose refusal is passed up; a test before a read: where both pass, and where more bytes change nothing.
-- Assumes nothing.
use mathlib.Core.Path.{◌≡◌, refl}
use mathlib.Core.Bool.{Bool, true, false}
use mathlib.Core.List.{List}
use Prim.Native.Nat.{ℕ}
use Rattle.std.specs.Prelude.{Err}
use Rattle.bits.specs.Bits.{pick}
use Rattle.bits.specs.Refusals.{Answer, value, refused, refuse, and_then}
use Rattle.bits.specs.Answers.{in_places, fields_answer}
use Rattle.bits.specs.declared.FieldsError.{FieldsError}
use Rattle.bits.specs.declared.FieldsError.TheVariants.{Short, Bad}
use Rattle.headers.specs.Answers.{header_refusal, fields_error}
use Rattle.bits.proofs.Following.{Stays}
use Rattle.bits.proofs.Flags.{clash}

pub past_value : {X : Type 0} (n : ℕ) (t : Bool) {a : Answer X} {x : X} → refuse n t a ≡ value x → (t ≡ false) × (a ≡ value x)
unfolding pick
past_value n true e = absurd (clash cc)
past_value n false e = (refl, e)

pub past_stays : {X : Type 0} (n : ℕ) (t : Bool) {a b : Answer X} → Stays a b → Stays (refuse n t a) (refuse n t b)
unfolding pick
past_stays n true same h = refl
past_stays n false same h = same h

-- a table's refusal is the header's
pub read_refused : {X : Type 0} (e : FieldsError) (p : Answer (List ℕ)) (next : List ℕ → Answer X) → fields_answer (Err e) ≡ in_places p
    → header_refusal (fields_error e) ≡ and_then p next
read_refused Short (value vs) next h = absurd (clash cc)
read_refused Bad (value vs) next h = absurd (clash cc)
read_refused Short (refused n p c x) next h = cc
read_refused Bad (refused n p c x) next h = cc
