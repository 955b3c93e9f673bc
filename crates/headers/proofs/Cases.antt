-- No two cases of an answer tell the same number and values: a promise by number says which case it is.
-- Assumes nothing.
use mathlib.Core.Path.{◌≡◌, refl, sym, ap, ◌∙◌}
use Prim.Native.Nat.{ℕ}
use lib.Dec.{eqb}
use Rattle.bits.specs.Bits.{pick}
use Rattle.bits.specs.Refusals.{Answer, value, refused}
use Rattle.headers.specs.Answers.{error_number, header_answer, next_answer}
use Rattle.headers.specs.declared.Error.{Error}
use Rattle.headers.specs.declared.Error.TheVariants.{ShortHeader, InvalidBitstream, FieldToWrite, ShortOutput}
use Rattle.std.specs.Prelude.{Option, Some, None, Result, Ok, Err}

-- a case of an answer, by what it tells
pub header_case : {X : Type 0} {r x : Result X Error} {a : Answer X} → r ≡ x → header_answer r ≡ a → header_answer x ≡ a
header_case e f = rw (← e) f

-- back from a number
unfoldable pub error_of : ℕ → Error
error_of n = pick (eqb n 1) ShortHeader (pick (eqb n 2) InvalidBitstream (pick (eqb n 16) FieldToWrite ShortOutput))

pub error_back : (e : Error) → error_of (error_number e) ≡ e
unfolding error_of pick
error_back ShortHeader = refl
error_back InvalidBitstream = refl
error_back FieldToWrite = refl
error_back ShortOutput = refl

answer_back : {X : Type 0} → Answer X → Result X Error
answer_back (value x) = Ok x
answer_back (refused n p c e) = Err (error_of n)

answer_told : {X : Type 0} (r : Result X Error) → answer_back (header_answer r) ≡ r
unfolding answer_back
answer_told (Ok x) = refl
answer_told (Err e) = ap Err (error_back e)

pub one_answer : {X : Type 0} (r q : Result X Error) → header_answer r ≡ header_answer q → r ≡ q
one_answer r q h = sym (answer_told r) ∙ ap answer_back h ∙ answer_told q

pub one-next : (r q : Option ℕ) → next_answer r ≡ next_answer q → r ≡ q
one-next (Some p) (Some q) h = cc
one-next (Some p) None h = cc
one-next None (Some q) h = cc
one-next None None h = refl
