-- The ways of what is printed.
-- Assumes nothing.
use mathlib.Core.Path.{◌≡◌}
use Prim.Native.Nat.{ℕ, ◌*◌, ◌≤◌, ◌<◌}
use mathlib.Core.List.{List, ◌++◌}
use native.Mathlib.Omega.{arith}
use lib.ListN.{length, drop, length-append}
use borrow.Author.Tests.{le-leb, lt-leb}
use Rattle.bits.specs.Bits.{pick}
use Rattle.bits.specs.Answers.{over}
use Rattle.bits.specs.Refusals.{Answer, value, refused}
use Rattle.verify.specs.Answers.{refusal, refusal_of}
use Rattle.verify.specs.Check.{Accepted, verdict, report_of, reported, records}
use Rattle.verify.specs.Layout.{record_size, records_bytes}
use Rattle.pictures.specs.declared.VbvStandard.TheVariants.{Mpeg2}
use Rattle.verify.specs.Mode.{plain}
use Rattle.verify.specs.declared.VbvVerifyError.{VbvVerifyError}
use Rattle.verify.specs.declared.VbvStreamReport.{VbvStreamReport}
use Rattle.bits.proofs.Over.{over_is}
use Rattle.bits.proofs.Flags.{clash}
use Rattle.verify.proofs.Storing.{length-records}
use Rattle.verify.proofs.Bounds.{picture-count, records_small}
use Rattle.vbvcheck.specs.Text.{ascii, record_lines, refusal_text, report_text, verdict_text, printed}
use Rattle.vbvcheck.specs.Steps.{lines_of}
use Rattle.vbvcheck.proofs.Lines.{lines_are}

pub too_long : (s : List ℕ) → 65536 < length s → ascii "too long\n" ≡ printed s
unfolding printed pick
too_long s h = rw (lt-leb (length s) 65536 h)

-- the records' part is as long as before, so the records fit it
pub pictures_fit : (s : List ℕ) (places : ℕ) {x : VbvStreamReport} (old new : List ℕ) → value x ≡ reported (verdict (plain Mpeg2) s places)
    → new ≡ over (records_bytes (records (verdict (plain Mpeg2) s places))) old → record_size * x.pictures ≤ length new
pictures_fit s places old new h w =
    let v = verdict (plain Mpeg2) s places in
    rw (w, over_is (records_bytes (records v)) old, length-append (records_bytes (records v)) (drop (length (records_bytes (records v))) old))
    (omega (arith, picture-count v h, length-records (records v)))

-- the text of a verdict, by the answer that tells it
text_refused : (v : Answer Accepted) (e : VbvVerifyError) → refusal e ≡ reported v → refusal_text (refusal_of e) ≡ verdict_text v
unfolding verdict_text
text_refused (value a) e h = absurd (clash cc)
text_refused (refused n k c x) e h =
    let a : (refusal_of e).number ≡ n = cc in
    let b : (refusal_of e).picture ≡ k = cc in
    let d : (refusal_of e).coded ≡ c = cc in
    let f : (refusal_of e).expected ≡ x = cc in
    rw (← a, ← b, ← d, ← f)

text_reported : (v : Answer Accepted) (x : VbvStreamReport) → value x ≡ reported v
    → report_text x ++ (ascii "delay expected data_bits occupancy_before periods\n" ++ record_lines (records v)) ≡ verdict_text v
unfolding verdict_text
text_reported (value a) x h = let e : x ≡ report_of a = cc in rw e
text_reported (refused n k c y) x h = absurd (clash cc)

module _ (s : List ℕ) (places : ℕ) (h : length s ≤ 65536) (l : places ≡ 1024) where
  pub printed-refused : (e : VbvVerifyError) → refusal e ≡ reported (verdict (plain Mpeg2) s places) → refusal_text (refusal_of e) ≡ printed s
  unfolding printed pick
  printed-refused e t = rw (le-leb (length s) 65536 h, ← l) (text_refused (verdict (plain Mpeg2) s places) e t)

  pub printed_report : (x : VbvStreamReport) (old new : List ℕ) → value x ≡ reported (verdict (plain Mpeg2) s places)
      → new ≡ over (records_bytes (records (verdict (plain Mpeg2) s places))) old
      → report_text x ++ (ascii "delay expected data_bits occupancy_before periods\n" ++ lines_of x.pictures new) ≡ printed s
  unfolding printed pick
  printed_report x old new t w =
      let rs = records (verdict (plain Mpeg2) s places) in
      let e : lines_of x.pictures new ≡ record_lines rs
      = rw (picture-count (verdict (plain Mpeg2) s places) t, w, over_is (records_bytes rs) old) (lines_are rs (drop (length (records_bytes rs)) old) (records_small (plain Mpeg2) s places)) in
      rw (le-leb (length s) 65536 h, e, ← l) (text_reported (verdict (plain Mpeg2) s places) x t)
