use mathlib.Core.Path.{sym}
use Rattle.headers.proofs.Cases.{header_case}
use Rattle.picture_header.proofs.FactLaws.{facts_are, told_parsed, told_refused}
use Rattle.layers.specs.Layer.{facts_in}
use Rattle.layers.proofs.layer_facts.Goals as goal

pub returns-in_default : goal.returns-in_default
unfolding facts_in
returns-in_default c = rw (told_refused _ (sym (header_case c.in_default.is c.parse_with_extension.ensures)))

pub returns : goal.returns
unfolding facts_in
returns c =
    rw (told_parsed _ _ _ (sym (header_case c.in-Ok.is c.parse_with_extension.ensures)), facts_are _ _, c.is_anchor.ensures, c.is_field.ensures)
