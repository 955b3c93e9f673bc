use mathlib.Core.Path.{◌≡◌, refl, sym, ◌∙◌}
use native.Mathlib.Omega.{arith}
use denote.Enum.Bare.{sameb}
use Rattle.std.proofs.lemmas.Result.{err_from_is_err_and}
use Rattle.bits.specs.Refusals.{value}
use Rattle.headers.specs.StartCode.{next_start_code}
use Rattle.headers.proofs.StartCode.{next-found}
use Rattle.picture_header.specs.contracts.PictureCodingType.{the_type}
use Rattle.picture_header.specs.declared.PictureCodingType.{PictureCodingType}
use Rattle.picture_header.specs.declared.PictureCodingType.TheVariants.{Intra, Predictive, Bidirectional, DcIntra}
use Rattle.picture_header.specs.PictureHeader.{picture_header_bytes}
use Rattle.picture_header.specs.Picture.{is_dc, picture}
use Rattle.picture_header.proofs.PictureHeader.{picture_header-parsed, header_inside}
use Rattle.picture_header.proofs.Picture.{after_header, after_missing, after_part, picture_past}
use Rattle.picture_header.proofs.Mpeg2PictureHeader.parse_with_extension.Goals as goal
use Rattle.picture_header.proofs.Mpeg2PictureHeader.parse_with_extension.Goals.{Else-eq, In-Some}

-- the test for a D picture
dc : (k : PictureCodingType) → sameb the_type k DcIntra ≡ is_dc k
unfolding is_dc
dc Intra = refl
dc Predictive = refl
dc Bidirectional = refl
dc DcIntra = refl

-- the ways after it
past : (c : Else-eq) → after_header c.args.buf.now c.in_ok-header.header ≡ picture c.args.buf.now
past c = picture_past _ _ (sym c.in_ok-header.ensures) (sym (dc _) ∙ sym c.if-eq.ensures)

next : (c : In-Some) → next_start_code c.args.buf.now (picture_header_bytes c.in_ok-header.header) ≡ value c.in-Some.at
next c = rw (← c.byte_length.ensures) (sym c.in-Some.ensures)

pub byte_length-requires : goal.byte_length-requires
byte_length-requires c = omega (arith, header_inside (picture_header-parsed _ _ (sym c.in_ok-header.ensures)))

pub returns-in_default : goal.returns-in_default
returns-in_default c =
    after_missing _ _ (rw c.byte_length.ensures at c.in_default.ensures) ∙ past (goal.at.returns-in_default c).Else-eq

pub slice_bounds-parse-count : goal.slice_bounds-parse-count
slice_bounds-parse-count c = omega (arith, (next-found _ _ _ (next c)).prefix.room)

pub slice_bounds-parse-start : goal.slice_bounds-parse-start
slice_bounds-parse-start c = omega (arith, (next-found _ _ _ (next c)).prefix.room)

pub returns-in_err-extension : goal.returns-in_err-extension
returns-in_err-extension c =
    let p = err_from_is_err_and c.from_residual-in_err-extension.result c.from_residual-in_err-extension.ensures.1 in
    let g = goal.at.returns-in_err-extension c in
    rw (p.1, p.2, ← past g.Else-eq, ← after_part _ _ _ (next g.In-Some), ← c.in_err-extension.ensures)

pub returns : goal.returns
returns c =
    let g = goal.at.returns c in
    rw (← past g.Else-eq, ← after_part _ _ _ (next g.In-Some), ← c.in_ok-extension.ensures)
