-- The records of an accepted stream come one after another from a walk over its pictures.
-- Assumes nothing.
use mathlib.Core.Path.{◌≡◌, refl, sym, ap, ◌∙◌}
use Prim.Native.Nat.{ℕ, ◌≤◌}
use native.Mathlib.Omega.{arith}
use mathlib.Core.List.{List, [], ◌∷◌}
use lib.ListN.{length}
use Rattle.std.specs.Prelude.{Some}
use Rattle.bits.specs.Refusals.{Answer, value, refused, and_then}
use Rattle.vbv.specs.declared.VbvParams.{VbvParams}
use Rattle.pictures.specs.Front.{opening}
use Rattle.pictures.specs.Cadence.{cadence_of}
use Rattle.pictures.specs.Seen.{next_seen, one}
use Rattle.pictures.specs.Order as walk
use Rattle.pictures.specs.Order.{Visits}
use Rattle.pictures.specs.declared.SeenPicture.{SeenPicture}
use Rattle.pictures.proofs.Order.{steps_give}
use Rattle.pictures.proofs.Due.{opening-short}
use Rattle.cadence.specs.Cadence.{interval, after}
use Rattle.cadence.specs.declared.VbvCadence.{VbvCadence}
use Rattle.verify.specs.Coded.{coded_of, timed}
use Rattle.verify.specs.Check.{Accepted, verdict, reported, records}
use Rattle.bits.proofs.Following.{refused-value, same_value}
use Rattle.verify.specs.declared.VbvStreamReport.{VbvStreamReport}
use Rattle.verify.specs.Steps.{advanced, last_of, beginning, recorder_of, went_on, recorded_by, next_record, checked}
use Rattle.verify.specs.declared.VbvMode.{VbvMode}
use Rattle.verify.specs.declared.VbvPictureRecord.{VbvPictureRecord}
use Rattle.verify.specs.declared.Progress.{Progress}
use Rattle.verify.specs.declared.Progress.TheVariants.{Fresh}
use Rattle.verify.specs.declared.recorder.VbvBeginning.{VbvBeginning}
use Rattle.verify.specs.declared.recorder.VbvRecorder.{VbvRecorder}
use Rattle.verify.proofs.Rising.{timed-first, timed-length}
use Rattle.verify.proofs.Verdict.{Recorded, none, more, recorded-length, judges}
use Rattle.verify.proofs.Walking.{beginning_is, first_recorder}
use Rattle.verify.proofs.Accepted.{in_mode, judged_is, passed, rising_by}

-- the walk at w gives these records, one after another
pub data Yields (s : List ℕ) : VbvRecorder → List VbvPictureRecord → Type 0 where
  last : {w : VbvRecorder} → Yields s w []
  next : {w after : VbvRecorder} {r : VbvPictureRecord} {rs : List VbvPictureRecord} → next_record s w ≡ (after, Some r) → Yields s after rs → Yields s w (r ∷ rs)

step-one : (s : List ℕ) (w : VbvRecorder) (x : SeenPicture) (n : ℕ) → next_seen w.mode.standard s w.at ≡ value (one x n) → next_record s w ≡ (went_on w x n, last_of (went_on w x n).progress)
unfolding next_record recorded_by
step-one s w x n e = rw e

yields : {m : VbvMode} {s : List ℕ} (p : VbvParams) (k : VbvCadence) (st : Progress) {xs : List SeenPicture} {i : ℕ} {rs : List VbvPictureRecord}
    → Visits m.standard s i (value xs) → Recorded m.variable p st (timed k xs) rs → Yields s (record { mode = m; params = p; at = i; cadence = k; progress = st }) rs
unfolding timed went_on
yields p k st (walk.ended h) none = last
yields {m} {s} p k st {i = i} (walk.went_on {next = n} {x = x} {xs = xs} h t) (more e u) =
    next (step-one s (record { mode = m; params = p; at = i; cadence = k; progress = st }) x n h ∙ rw e)
    (yields {m = m} {s = s} p (after k x.facts) (advanced m.variable p st (coded_of (interval k x.facts) x)) t u)

-- what `checked` answers
abbrev Told : Type 0
Told = Answer (VbvStreamReport × VbvBeginning)

-- from the first byte on those of the verdict, for which there are places
module _ (m : VbvMode) (s : List ℕ) (places : ℕ) where
  accepted_so : (v : Accepted) → verdict m s places ≡ value v
      → (opening m.standard s ≡ value v.params) × Yields s (first_recorder m s v.params) (v.first ∷ v.others) × (length (v.first ∷ v.others) ≤ places)
  accepted_so v h =
      let a = in_mode (passed m s places h) in
      let k = cadence_of m.film s in
      let f = a.first in
      let os = timed (after k f.facts) a.others in
      let j = judges m.variable v.params places (interval k f.facts) f os (rw (timed-first k f a.others) at (rising_by a)) in
      let r : Recorded m.variable v.params Fresh (timed k (f ∷ a.others)) (v.first ∷ v.others) = rw (timed-first k f a.others) (j.recorded v.first v.others (rw (timed-first k f a.others) at (judged_is a))) in (
        opening-short m.standard s a.is_read.short ∙ a.is_read.declares,
        yields v.params k Fresh (rw a.is_read.pictures_are at (steps_give m.standard s a.is_read.short)) r,
        omega (arith, recorded-length r, timed-length k (f ∷ a.others), a.places_suffice),
      )

  -- by a report
  module _ {x : VbvStreamReport} (h : value x ≡ reported (verdict m s places)) where
    as_accepted : (v : Accepted) × (verdict m s places ≡ value v)
    as_accepted = go (verdict m s places) refl h
      where
        go : (a : Answer Accepted) → verdict m s places ≡ a → value x ≡ reported a → (v : Accepted) × (verdict m s places ≡ value v)
        go (value v) e h = (v, e)
        go (refused n k c d) e h = absurd (refused-value (sym h))

    pub begins_to : {b : VbvBeginning} → value b ≡ beginning m s → Yields s (recorder_of m b) (records (verdict m s places))
    begins_to o = let (v, e) = as_accepted in let a = accepted_so v e in rw e (rw (same_value (rw (beginning_is m s a.0) at o)) a.1)

    pub opens_to : {w : VbvRecorder} → value w ≡ and_then (opening m.standard s) (λ p. value (first_recorder m s p)) → Yields s w (records (verdict m s places))
    opens_to o = let (v, e) = as_accepted in let a = accepted_so v e in rw e (rw (same_value (rw a.0 at o)) a.1)

    pub places_suffice : length (records (verdict m s places)) ≤ places
    places_suffice = let (v, e) = as_accepted in rw e (accepted_so v e).2

    begins : {n k c d : ℕ} → ◌≡◌ {A = Told} (refused n k c d) (and_then (beginning m s) (λ b. value (x, b))) → ⊥
    begins o = let (v, e) = as_accepted in refused-value (rw (beginning_is m s (accepted_so v e).0) at o)

    pub opens : {n k c d : ℕ} → refused n k c d ≡ and_then (opening m.standard s) (λ p. value (first_recorder m s p)) → ⊥
    opens o = let (v, e) = as_accepted in refused-value (rw (accepted_so v e).0 at o)

  -- by what `checked` answers
  pub answered : {x : VbvStreamReport} {b : VbvBeginning} → ◌≡◌ {A = Told} (value (x, b)) (checked m s (reported (verdict m s places))) → (value x ≡ reported (verdict m s places)) × (value b ≡ beginning m s)
  unfolding checked
  answered {x} {b} h = go (reported (verdict m s places)) (beginning m s) h
    where
      go : (a : Answer VbvStreamReport) (g : Answer VbvBeginning) → ◌≡◌ {A = Told} (value (x, b)) (and_then a (λ r. and_then g (λ y. value (r, y)))) → (value x ≡ a) × (value b ≡ g)
      go (value r) (value y) h = let e : (x, b) ≡ (r, y) = same_value h in (ap (λ p. value p.0) e, ap (λ p. value p.1) e)
      go (value r) (refused n k c d) h = absurd (refused-value (sym h))
      go (refused n k c d) g h = absurd (refused-value (sym h))

  pub unanswered : {n k c d : ℕ} → ◌≡◌ {A = Told} (refused n k c d) (checked m s (reported (verdict m s places))) → refused n k c d ≡ reported (verdict m s places)
  unfolding checked
  unanswered {n} {k} {c} {d} h = go (reported (verdict m s places)) refl h
    where
      go : (a : Answer VbvStreamReport) → reported (verdict m s places) ≡ a → ◌≡◌ {A = Told} (refused n k c d) (and_then a (λ r. and_then (beginning m s) (λ b. value (r, b)))) → refused n k c d ≡ a
      go (value x) e h = absurd (begins (sym e) h)
      go (refused i j x y) e h = ap (λ (z : Told). and_then {Y = VbvStreamReport} z (λ _. refused n k c d)) h

pub none_recorded : (v : Answer Accepted) {n k c d : ℕ} → refused n k c d ≡ reported v → records v ≡ []
none_recorded (value v) h = absurd (refused-value h)
none_recorded (refused n k c d) h = refl
