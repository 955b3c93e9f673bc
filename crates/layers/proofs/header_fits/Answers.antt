use mathlib.Core.Path.{sym}
use Rattle.headers.proofs.Cases.{header_case}
use Rattle.picture_header.proofs.Picture.{picture-parsed}
use Rattle.layers.proofs.Ways.{tests_none, tests_are}
use Rattle.layers.proofs.header_fits.Goals as goal

pub padding_clear-requires : goal.padding_clear-requires
padding_clear-requires c = (picture-parsed _ _ _ (sym (header_case c.in-Ok.is c.parse_with_extension.ensures))).header

pub zeros_after-requires : goal.zeros_after-requires
zeros_after-requires c = (picture-parsed _ _ _ (sym (header_case c.in-Ok.is c.parse_with_extension.ensures))).header

pub returns-in_default : goal.returns-in_default
returns-in_default c = tests_none _ _ _ _ _ (header_case c.in_default.is c.parse_with_extension.ensures)

pub returns : goal.returns
returns c =
    rw (c.same_kind.ensures, c.agrees.ensures, c.is_field-field.ensures, c.vectors_fit.ensures, c.padding_clear.ensures, c.zeros_after.ensures)
    (tests_are _ _ _ _ _ _ (header_case c.in-Ok.is c.parse_with_extension.ensures))
