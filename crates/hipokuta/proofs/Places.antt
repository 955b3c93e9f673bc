-- The report alone is that of the check with enough record places.
-- Assumes nothing.
use mathlib.Core.Path.{◌≡◌, refl, sym, ap, ◌∙◌}
use Prim.Native.Nat.{ℕ, ◌/◌, ◌≤◌}
use native.Mathlib.Omega.{arith}
use mathlib.Core.List.{List}
use lib.ListN.{length}
use borrow.Author.Tests.{le-ltb}
use mathlib.Core.Bool.{true, false}
use Rattle.bits.specs.Bits.{pick}
use Rattle.bits.specs.Refusals.{Answer, value, refused, number}
use Rattle.bits.proofs.Flags.{pick-alike}
use Rattle.bits.proofs.Following.{refused-value, same_value, then_value}
use Rattle.scan.specs.Pictures.{pictures}
use Rattle.verify.specs.Check.{Accepted, verdict, reported}
use Rattle.verify.specs.Layout.{record_size}
use Rattle.verify.proofs.Places.{enough-places, other_than_15, all_recorded}
use Rattle.verify.specs.declared.VbvMode.{VbvMode}
use Rattle.layout.specs.Mode.{is_mode, mode_for}
use Rattle.verify.specs.declared.VbvStreamReport.{VbvStreamReport}
use Rattle.layout.specs.Answers.{report_size, refusal_size}
use Rattle.layout.proofs.Modes.{is_one, is_two, is_six, is_ten, is_fourteen, for_one, for_two, for_six, for_ten, for_fourteen, no_other}
use Rattle.hipokuta.specs.Check.{checked, report_alone, OwedOfReports, Modes, OwedOfModes}

module _ (s : List ℕ) (mode : ℕ) (report recs refusal : List ℕ) where
  abbrev places : ℕ
  places = length recs / record_size

  -- what holds between the verdict with these places and that with one for each picture holds between the answers
  beside : (R : Answer Accepted → Answer VbvStreamReport → Type 0) → ((n : ℕ) → R (refused n 0 0 0) (refused n 0 0 0))
      → ((v : VbvMode) → R (verdict v s places) (reported (verdict v s (length (pictures s))))) → R (checked s mode report recs refusal) (report_alone s mode report refusal)
  unfolding checked report_alone
  beside R same f = pick-alike R _ (same 19) λ e. pick-alike R _ (same 12) λ e. f (mode_for mode)

  -- an accepted stream has as many places at least as it reports pictures
  accepts-here : (r : VbvStreamReport) → reported (checked s mode report recs refusal) ≡ value r
      → (report_alone s mode report refusal ≡ value r) × (r.pictures ≤ places)
  accepts-here r =
      beside (λ a b. reported a ≡ value r → (b ≡ value r) × (r.pictures ≤ places)) (λ n h. absurd (refused-value h)) λ v h.
      let a = then_value (verdict v s places) h in
      let c = all_recorded v s places a.1 in
      (sym (ap reported (enough-places v s places c.1)) ∙ h, rw (← same_value a.2) (omega (arith, c.0, c.1)))

  -- and back
  accepts-there : (r : VbvStreamReport) → report_alone s mode report refusal ≡ value r → r.pictures ≤ places → reported (checked s mode report recs refusal) ≡ value r
  accepts-there r =
      beside (λ a b. b ≡ value r → r.pictures ≤ places → reported a ≡ value r) (λ n h l. h) λ v h l.
      let a = then_value (verdict v s (length (pictures s))) h in
      let c = all_recorded v s (length (pictures s)) a.1 in
      let n = ap (λ (x : VbvStreamReport). x.pictures) (same_value a.2) in
      ap reported (enough-places v s places (omega (arith, c.0, n, l))) ∙ h

pub reports : OwedOfReports
reports s mode report recs refusal =
    record {
      accepts = λ r. (accepts-here s mode report recs refusal r, λ h. accepts-there s mode report recs refusal r h.0 h.1);
      enough = λ l. beside s mode report recs refusal (λ a b. reported a ≡ b) (λ n. refl) λ v. ap reported (enough-places v s _ l);
      otherwise = beside s mode report recs refusal (λ a b. (number a ≡ 15 → ⊥) → reported a ≡ b) (λ n h. refl) λ v h. ap reported (other_than_15 v s _ h);
    }

-- ---- the modes

module _ (s report recs refusal : List ℕ) (l : report_size ≤ length report) (h : refusal_size ≤ length refusal) where
  checked_in_lem : (mode : ℕ) → is_mode mode ≡ true → checked s mode report recs refusal ≡ verdict (mode_for mode) s (length recs / record_size)
  unfolding checked pick
  checked_in_lem mode e = rw (le-ltb (length refusal) refusal_size h, le-ltb (length report) report_size l, e)

  none-checked : (mode : ℕ) → is_mode mode ≡ false → checked s mode report recs refusal ≡ refused 12 0 0 0
  unfolding checked pick
  none-checked mode e = rw (le-ltb (length refusal) refusal_size h, le-ltb (length report) report_size l, e)

  none-reported : (mode : ℕ) → is_mode mode ≡ false → report_alone s mode report refusal ≡ refused 12 0 0 0
  unfolding report_alone pick
  none-reported mode e = rw (le-ltb (length refusal) refusal_size h, le-ltb (length report) report_size l, e)

  modes-of : Modes s report recs refusal
  modes-of = record {
    mpeg_1 = rw (← for_one) (checked_in_lem 1 is_one);
    mpeg_2 = rw (← for_two) (checked_in_lem 2 is_two);
    film_2 = rw (← for_six) (checked_in_lem 6 is_six);
    variable_2 = rw (← for_ten) (checked_in_lem 10 is_ten);
    film_variable_2 = rw (← for_fourteen) (checked_in_lem 14 is_fourteen);
    no_mode = λ mode a b c d f. let e = no_other mode a b c d f in (none-checked mode e, none-reported mode e);
  }

pub modes : OwedOfModes
modes s report recs refusal l h = modes-of s report recs refusal l h
