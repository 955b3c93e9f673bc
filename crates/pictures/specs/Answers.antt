-- What the headers of a stream answer in paper 01's terms: the number and values of each case of each answer.
-- Assumes nothing.
use Rattle.std.specs.Prelude.{ℕ, Option, Some, None, Result, Ok, Err}
use Rattle.bits.specs.Refusals.{Answer, value, refused}
use Rattle.headers.specs.Answers.{error_number}
use Rattle.vbv.specs.Answers.{model_number}
use Rattle.pictures.specs.Seen.{Sight, nothing, one}
use Rattle.pictures.specs.declared.Unread.{Unread}
use Rattle.pictures.specs.declared.Unread.TheVariants.{Parse, Model, NoSequenceHeader, NoPictures}
use Rattle.pictures.specs.declared.SeenPicture.{SeenPicture}

abbrev pub unread_number : Unread → ℕ
unread_number (Parse e) = error_number e
unread_number (Model e) = model_number e
unread_number NoSequenceHeader = 3
unread_number NoPictures = 4

abbrev pub unread : {X : Type 0} → Unread → Answer X
unread e = refused (unread_number e) 0 0 0

abbrev pub unread_answer : {X : Type 0} → Result X Unread → Answer X
unread_answer (Ok x) = value x
unread_answer (Err e) = unread e

-- a picture and where the walk goes on, or no picture
abbrev pub sight : Option (SeenPicture × ℕ) → Sight
sight (Some (x, next)) = one x next
sight None = nothing

abbrev pub seen_answer : Result (Option (SeenPicture × ℕ)) Unread → Answer Sight
seen_answer (Ok o) = value (sight o)
seen_answer (Err e) = unread e
