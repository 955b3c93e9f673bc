use mathlib.Core.Path.{◌∙◌}
use Rattle.verify.proofs.Exits.{told_err}
use Rattle.verify.proofs.Recording.{answered, unanswered}
use Rattle.verify.proofs.report.check_in_mode.Goals as goal

pub returns-in_err-report : goal.returns-in_err-report
returns-in_err-report c = told_err c.from_residual.result c.in_err-report.field-0.0 c.from_residual.ensures.1 ∙ unanswered _ _ _ c.in_err-report.ensures

pub returns : goal.returns
returns c = (answered _ _ _ c.in_ok-report.ensures).0
