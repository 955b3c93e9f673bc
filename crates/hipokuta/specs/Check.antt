-- `vbv_check` (paper 01, 'The buffer report' and 'Rust forms to replace'; docs/LAYOUT.md): a report or refusal place that is too short is 19, then a mode that is none (1 MPEG-1, 2 MPEG-2, 6 MPEG-2 film, 10 and 14 the last two at a variable rate) is 12, then the check's own answer.
-- `vbv_report`: the same, given a record place for each picture, without the records.
-- Assumes nothing.
use Rattle.std.specs.Prelude.{ℕ, ◌/◌, ◌≤◌, ◌≡◌, ◌↔◌, true, false, not, ◌||◌, List, ◌∷◌, ltb, length}
use Rattle.bits.specs.Answers.{over}
use Rattle.bits.specs.Refusals.{Answer, value, refused, refuse, number}
use Rattle.scan.specs.Pictures.{pictures}
use Rattle.verify.specs.Check.{Accepted, verdict, reported}
use Rattle.verify.specs.Layout.{record_size, records_bytes}
use Rattle.verify.specs.Mode.{plain, film, mpeg2}
use Rattle.pictures.specs.declared.VbvStandard.TheVariants.{Mpeg1, Mpeg2}
use Rattle.verify.specs.declared.VbvStreamReport.{VbvStreamReport}
use Rattle.words.specs.Words.{words_bytes, laid}
use Rattle.layout.specs.Mode.{is_mode, mode_for}
use Rattle.layout.specs.Answers.{report_size, refusal_size, report_words, refusal_words}
use Rattle.hipokuta.specs.Lent.{Slice, MutSlice}

-- of a stream, the mode's number and the places for report, records and refusal
unfoldable pub checked : List ℕ → ℕ → List ℕ → List ℕ → List ℕ → Answer Accepted
checked s mode report recs refusal =
    refuse 19 (ltb (length refusal) refusal_size || ltb (length report) report_size)
    (refuse 12 (not (is_mode mode))
    (verdict (mode_for mode) s (length recs / record_size)))

-- by what the slices hold when `vbv_check` is called
abbrev pub checked_in : Slice → ℕ → MutSlice → MutSlice → MutSlice → Answer Accepted
checked_in stream mode report recs refusal = checked stream.entry.now mode report.entry.now recs.entry.now refusal.entry.now

-- of a stream, the mode's number and the places for report and refusal; as many record places as the stream has pictures
unfoldable pub report_alone : List ℕ → ℕ → List ℕ → List ℕ → Answer VbvStreamReport
report_alone s mode report refusal =
    refuse 19 (ltb (length refusal) refusal_size || ltb (length report) report_size)
    (refuse 12 (not (is_mode mode))
    (reported (verdict (mode_for mode) s (length (pictures s)))))

-- by what the slices hold when `vbv_report` is called
abbrev pub report_alone_in : Slice → ℕ → MutSlice → MutSlice → Answer VbvStreamReport
report_alone_in stream mode report refusal = report_alone stream.entry.now mode report.entry.now refusal.entry.now

-- the places afterwards; a refusal place that is too short is left alone
unfoldable pub report_after : Answer VbvStreamReport → List ℕ → List ℕ
report_after (value r) place = laid (words_bytes (report_words r)) place
report_after (refused n k c e) place = place

unfoldable pub records_after : Answer Accepted → List ℕ → List ℕ
records_after (value a) place = over (records_bytes (a.first ∷ a.others)) place
records_after (refused n k c e) place = place

unfoldable pub refusal_after : {X : Type 0} → Answer X → List ℕ → List ℕ
refusal_after (value x) place = place
refusal_after (refused n k c e) place = laid (words_bytes (refusal_words record { number = n; picture = k; coded = c; expected = e })) place

-- ---- both on the same stream: `vbv_report` tells how many record places `vbv_check` needs

pub record Beside (s : List ℕ) (mode : ℕ) (report recs refusal : List ℕ) : Type 0 where
  -- n pictures are reported exactly where `vbv_check` with n record places or more accepts, with the same report
  pub accepts : (r : VbvStreamReport)
      → (reported (checked s mode report recs refusal) ≡ value r) ↔ ((report_alone s mode report refusal ≡ value r) × (r.pictures ≤ length recs / record_size))
  -- with a place for each picture both answer the same, and refuse the same
  pub enough : length (pictures s) ≤ length recs / record_size → reported (checked s mode report recs refusal) ≡ report_alone s mode report refusal
  -- with any places too, but for 15
  pub otherwise : (number (checked s mode report recs refusal) ≡ 15 → ⊥) → reported (checked s mode report recs refusal) ≡ report_alone s mode report refusal

-- what is owed
abbrev pub OwedOfReports : Type 0
OwedOfReports = (s : List ℕ) (mode : ℕ) (report recs refusal : List ℕ) → Beside s mode report recs refusal

-- ---- the modes of both (requests 05 and 06)

-- with places that are long enough: 1 is MPEG-1, 2 MPEG-2 and 6 MPEG-2 film, 10 and 14 these two at a variable rate, and there is no other
pub record Modes (s report recs refusal : List ℕ) : Type 0 where
  pub mpeg_1 : checked s 1 report recs refusal ≡ verdict (plain Mpeg1) s (length recs / record_size)
  pub mpeg_2 : checked s 2 report recs refusal ≡ verdict (plain Mpeg2) s (length recs / record_size)
  pub film_2 : checked s 6 report recs refusal ≡ verdict film s (length recs / record_size)
  pub variable_2 : checked s 10 report recs refusal ≡ verdict (mpeg2 false true) s (length recs / record_size)
  pub film_variable_2 : checked s 14 report recs refusal ≡ verdict (mpeg2 true true) s (length recs / record_size)
  pub no_mode : (mode : ℕ) → (mode ≡ 1 → ⊥) → (mode ≡ 2 → ⊥) → (mode ≡ 6 → ⊥) → (mode ≡ 10 → ⊥) → (mode ≡ 14 → ⊥)
      → (checked s mode report recs refusal ≡ refused 12 0 0 0) × (report_alone s mode report refusal ≡ refused 12 0 0 0)

-- what is owed
abbrev pub OwedOfModes : Type 0
OwedOfModes = (s report recs refusal : List ℕ) → report_size ≤ length report → refusal_size ≤ length refusal → Modes s report recs refusal
