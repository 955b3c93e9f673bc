-- No two refusals of the front tell the same number: a promise by number says which refusal it is.
-- Assumes nothing.
use mathlib.Core.Path.{◌≡◌, refl, sym, ap, ◌∙◌}
use Prim.Native.Nat.{ℕ}
use lib.Dec.{eqb}
use Rattle.bits.specs.Bits.{pick}
use Rattle.headers.specs.declared.Error.{Error}
use Rattle.headers.specs.declared.Error.TheVariants as h
use Rattle.vbv.specs.Steps.{model_error_of}
use Rattle.vbv.proofs.Numbers.{model_error_back}
use Rattle.vbv.specs.declared.VbvError.{VbvError}
use Rattle.vbv.specs.declared.VbvError.TheVariants as m
use Rattle.pictures.specs.Answers.{unread_number}
use Rattle.pictures.specs.declared.Unread.{Unread}
use Rattle.pictures.specs.declared.Unread.TheVariants.{Parse, Model, NoSequenceHeader, NoPictures}

-- back from the number
unfoldable unread_of : ℕ → Unread
unread_of n =
    pick (eqb n 1) (Parse h.ShortHeader)
    (pick (eqb n 2) (Parse h.InvalidBitstream)
    (pick (eqb n 3) NoSequenceHeader
    (pick (eqb n 4) NoPictures
    (pick (eqb n 16) (Parse h.FieldToWrite)
    (pick (eqb n 19) (Parse h.ShortOutput)
    (Model (model_error_of n)))))))

parse_back : (e : Error) → unread_of (unread_number (Parse e)) ≡ Parse e
unfolding unread_of pick
parse_back h.ShortHeader = refl
parse_back h.InvalidBitstream = refl
parse_back h.FieldToWrite = refl
parse_back h.ShortOutput = refl

model_back : (e : VbvError) → unread_of (unread_number (Model e)) ≡ Model e
unfolding unread_of pick
model_back m.FrameRateCode = ap Model (model_error_back m.FrameRateCode)
model_back m.Early = ap Model (model_error_back m.Early)
model_back m.DelayTooLong = ap Model (model_error_back m.DelayTooLong)
model_back m.Params = ap Model (model_error_back m.Params)
model_back m.Order = ap Model (model_error_back m.Order)
model_back m.Range = ap Model (model_error_back m.Range)

unread_back : (e : Unread) → unread_of (unread_number e) ≡ e
unfolding unread_of pick
unread_back (Parse e) = parse_back e
unread_back (Model e) = model_back e
unread_back NoSequenceHeader = refl
unread_back NoPictures = refl

pub one-unread : (e f : Unread) → unread_number e ≡ unread_number f → e ≡ f
one-unread e f h = sym (unread_back e) ∙ ap unread_of h ∙ unread_back f
