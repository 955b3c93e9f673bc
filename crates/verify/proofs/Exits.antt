-- What the check returns where a `?` passes an error on.
-- Assumes nothing.
use mathlib.Core.Path.{◌≡◌, refl}
use Rattle.std.specs.Prelude.{Result}
use Rattle.std.specs.Result.{IsErrAnd}
use Rattle.std.proofs.lemmas.Result.{err_from_is_err_and}
use Rattle.verify.specs.Answers.{refusal, verified_answer}
use Rattle.verify.specs.declared.VbvVerifyError.{VbvVerifyError}

pub told_err : {X : Type 0} (r : Result X VbvVerifyError) (e : VbvVerifyError) → IsErrAnd r (λ y. y ≡ e) → verified_answer r ≡ refusal e
told_err r e h = let p = err_from_is_err_and r h in rw (p.1, p.2) refl
