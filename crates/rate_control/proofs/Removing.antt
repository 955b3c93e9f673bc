-- The removals of the pictures that a list of calls places, one after another.
-- Assumes nothing.
use Rattle.std.specs.Prelude.{None}
use mathlib.Core.Path.{◌≡◌, refl, sym, ap, subst, subst₂, ◌∙◌}
use mathlib.Core.Bool.{Bool, true, false, true≢false}
use mathlib.Core.List.{List, [], ◌∷◌}
use Prim.Native.Nat.{ℕ, ◌+◌, ◌*◌}
use native.Mathlib.Omega.{arith}
use Rattle.bits.specs.Bits.{pick}
use Rattle.bits.specs.Refusals.{Answer, value, refused}
use Rattle.bits.proofs.Over.{over-take}
use Rattle.vbv.specs.Annex.{first_arrived, beyond}
use Rattle.vbv.specs.Model.{delivered}
use Rattle.vbv.specs.declared.RemovalInterval.{RemovalInterval}
use Rattle.vbv.specs.declared.VbvParams.{VbvParams}
use Rattle.cadence.specs.Cadence.{interval, after}
use Rattle.cadence.specs.declared.VbvCadence.{VbvCadence}
use Rattle.pictures.specs.Cadence.{cadence_by}
use Rattle.verify.specs.declared.VbvMode.{VbvMode}
use Rattle.layers.specs.Layer.{facts_in, offered_facts}
use Rattle.layers.proofs.Telling.{as_offered}
use Rattle.vbv.proofs.Laws.{over_units, beyond_units}
use Rattle.vbv.proofs.After.{model-after}
use Rattle.rate_control.specs.Answers.{Given, placed, again}
use Rattle.rate_control.specs.Offer.{Offer, position, content, end, cadence_at, interval_at, delivered_at, delivered_next, stuffing, delay, placed_bytes, with_pending, with_placed, left_by, out_of}
use Rattle.rate_control.specs.Calls.{Call, offering, withdrawing, step_of, left_by_call, steps_of}
use Rattle.rate_control.specs.Sent.{position_of, content_of, Stuffs, Sent, sent_position, sent_end, sent_by, sent, Removals, no_removal, removal_then, EachRemoval, InBuffer, WellPlaced, LeastStuffing}
use Rattle.rate_control.specs.Demand.{retries_after}
use Rattle.rate_control.specs.declared.CbrWriter.{CbrWriter}
use Rattle.rate_control.proofs.Chain.{Placing, Outcome, stays, closes, retries, hands_out, outcome}
use Rattle.rate_control.proofs.Placing.{delivered-later, end_is, stuffing-variable, stuffing-last, stuffing-least, delay_is, delay-low, delivered_told}
use Rattle.rate_control.proofs.Creation.{Fresh}
use Rattle.rate_control.proofs.Lasting.{before-later, before-first}
use Rattle.rate_control.proofs.Invariant.{Inv, call_inv, withdraw_is}

-- ---- one picture

-- the picture that a placing sends, n bytes being handed out before
unfoldable pub sent_of : ℕ → CbrWriter → Offer → Sent
sent_of n w o = record { before = n; offer = o; delay = delay w o; stuffing = stuffing w o; bytes = placed_bytes w o }

-- a removal, and what the check needs besides: at a constant rate the start code is there in time, and the bytes before are those that were removed
pub record Done (variable : Bool) (p : VbvParams) (i : RemovalInterval) (d previous : ℕ) (x : Sent) : Type 0 where
  pub in_buffer : InBuffer p d previous x
  pub as_placed : WellPlaced variable p d previous x
  pub least : LeastStuffing variable p i d previous x
  pub in_time : variable ≡ false → beyond p (sent_position x) d ≡ false
  pub begins : previous ≡ 8 * x.before

abbrev pub RemovalsDone : Bool → VbvParams → VbvCadence → ℕ → ℕ → List Sent → Type 0
RemovalsDone v p k d previous xs = Removals v p (Done v p) k d previous xs

weaker : {v : Bool} {p : VbvParams} {A B : RemovalInterval → ℕ → ℕ → Sent → Type 0} {k : VbvCadence} {d previous : ℕ} {xs : List Sent}
    → ((i : RemovalInterval) (d previous : ℕ) (x : Sent) → A i d previous x → B i d previous x) → Removals v p A k d previous xs → Removals v p B k d previous xs
weaker f no_removal = no_removal
weaker f (removal_then h r) = removal_then (f _ _ _ _ h) (weaker f r)

module _ (n : ℕ) (w : CbrWriter) (o : Offer) (k : w.model.prev_end_bits ≡ 8 * n) where
  pub position-same : position_of n o ≡ position w o
  unfolding position_of position
  position-same = omega arith

  pub content-same : content_of n o ≡ content w o
  unfolding content_of content
  content-same = omega arith

  pub stuffs-same : Placing w o → Stuffs w.variable w.model.params n (delivered_at w o) (interval_at w o) o (stuffing w o)
  stuffs-same g = record { least = λ e j. rw content-same (stuffing-least w o g.fitted e j); after_last = stuffing-last w o }

  end_same : sent_end (sent_of n w o) ≡ end w o
  unfolding sent_of
  end_same = omega (arith, end_is w o)

  place_done : Placing w o → Done w.variable w.model.params (interval_at w o) (delivered_at w o) w.model.prev_end_bits (sent_of n w o)
  unfolding sent_of placed_bytes
  place_done g =
      let p = w.model.params in
      record {
        in_buffer = record { no_overflow = over_units p _ _ g.no_overflow; no_underflow = rw end_same (beyond_units p _ _ g.no_underflow) };
        as_placed = record { bytes_are = refl; delay_exact = rw position-same (delay_is w o refl); delay_told = delay-low w o g; no_stuffing = stuffing-variable w o };
        least = stuffs-same g;
        in_time = λ e. rw position-same (g.in_time e);
        begins = k;
      }

-- ---- a finished writer places nothing

outcome_finished : {w : CbrWriter} {o : Offer} {a : Answer Given} → w.finished ≡ true → Outcome w o a
    → ((k : ℕ) (out : List ℕ) (rest : ℕ → List Sent) → sent_by k o a out rest ≡ rest k) × ((left_by w o a).finished ≡ true)
unfolding with_pending pick
outcome_finished h (stays e) = (λ k out rest. refl, rw e h)
outcome_finished h (closes g) = (λ k out rest. refl, h)
outcome_finished h (retries g) = (λ k out rest. refl, h)
outcome_finished h (hands_out g) = absurd (true≢false (sym h ∙ g.unfinished))

still_finished : (w : CbrWriter) → w.finished ≡ true → (with_pending w None).finished ≡ true
unfolding with_pending
still_finished w e = e

pub finished-none : {m : ℕ} (k : ℕ) (w : CbrWriter) (l : List Call) → Inv m w → w.finished ≡ true → sent k (steps_of w l) ≡ []
unfolding steps_of step_of left_by_call sent
finished-none k w [] h e = refl
finished-none {m = m} k w (offering o ∷ l) h e =
    let f = outcome_finished e (outcome w o) in
    f.0 k _ (λ j. sent j (steps_of (left_by_call w (offering o)) l)) ∙ finished-none {m = retries_after m (step_of w (offering o))} k _ l (call_inv (offering o) h) f.1
finished-none {m = m} k w (withdrawing ∷ l) h e = finished-none {m = retries_after m (step_of w withdrawing)} k _ l (call_inv withdrawing h) (rw (withdraw_is w h.fits) (still_finished w e))

-- ---- all of them

-- from a writer on: before the first picture Annex C of the whole, later the removals from what the writer has delivered, by its cadence
abbrev pub EachDone : Bool → Bool → VbvParams → List Sent → Type 0
EachDone v film p [] = Unit {0}
EachDone v film p (x ∷ xs) = RemovalsDone v p (cadence_by film x.offer.headers) (first_arrived v p (sent_position x) x.delay) 0 (x ∷ xs)

abbrev RemovalsFrom : Bool → VbvParams → Bool → VbvCadence → ℕ → ℕ → List Sent → Type 0
RemovalsFrom v p true k d previous xs = RemovalsDone v p k d previous xs
RemovalsFrom v p false k d previous xs = EachDone v k.film p xs

Claim : CbrWriter → List Sent → Type 0
Claim w xs = RemovalsFrom w.variable w.model.params w.model.started w.cadence (delivered w.model) w.model.prev_end_bits xs

removals-none : (v : Bool) (p : VbvParams) (b : Bool) (k : VbvCadence) (d previous : ℕ) → RemovalsFrom v p b k d previous []
removals-none v p true k d previous = no_removal
removals-none v p false k d previous = tt

-- what the offer says of a placed picture is what its layer tells
placed-lasts : (w : CbrWriter) (o : Offer) → Placing w o → interval_at w o ≡ interval (cadence_at w o.headers) (offered_facts o.kind o.interval o.layer)
unfolding interval_at
placed-lasts w o g = ap (interval (cadence_at w o.headers)) (as_offered w.cadence.film o.kind o.interval o.layer g.layer_fits)

module _ {m : ℕ} (n : ℕ) (w : CbrWriter) (o : Offer) (h : Inv m w) (k : w.model.prev_end_bits ≡ 8 * n) (g : Placing w o) (xs : List Sent)
    (c : RemovalsDone w.variable w.model.params (after (cadence_at w o.headers) (facts_in o.layer)) (delivered_next w o) (end w o) xs) where
  whole : RemovalsDone w.variable w.model.params (cadence_at w o.headers) (delivered_at w o) w.model.prev_end_bits (sent_of n w o ∷ xs)
  unfolding sent_of delivered_next
  whole =
      let f = as_offered w.cadence.film o.kind o.interval o.layer g.layer_fits in
      let d = rw (← end_same n w o k, placed-lasts w o g, f) at c in
      removal_then {k = cadence_at w o.headers} {d = delivered_at w o} {previous = w.model.prev_end_bits} {x = sent_of n w o} {xs = xs} (rw (← placed-lasts w o g) (place_done n w o k g)) d

  first : w.model.started ≡ false → delivered_at w o ≡ first_arrived w.variable w.model.params (position_of n o) (delay w o)
  first e = rw (position-same n w o k) (delivered_told w o g e)

  place_removals : Claim w (sent_of n w o ∷ xs)
  unfolding Claim sent_of
  place_removals = go w.model.started refl
    where
      go : (b : Bool) → w.model.started ≡ b → RemovalsFrom w.variable w.model.params b w.cadence (delivered w.model) w.model.prev_end_bits (sent_of n w o ∷ xs)
      go true e =
          subst₂ (λ (j : VbvCadence) (d : ℕ). RemovalsDone w.variable w.model.params j d w.model.prev_end_bits (sent_of n w o ∷ xs))
          (before-later w o.headers e) (delivered-later w o e) whole
      go false e =
          subst (λ (j : VbvCadence). RemovalsDone w.variable w.model.params j (first_arrived w.variable w.model.params (position_of n o) (delay w o)) 0 (sent_of n w o ∷ xs)) (before-first w o.headers e)
          (subst₂ (λ (d previous : ℕ). RemovalsDone w.variable w.model.params (cadence_at w o.headers) d previous (sent_of n w o ∷ xs)) (first e) (h.none_yet e) whole)

-- the bytes handed out after an answer
abbrev count_by : ℕ → Answer Given → ℕ
count_by n (value (placed q d bytes z)) = n + bytes
count_by n (value (again q)) = n
count_by n (refused k p c e) = n

outcome_bytes : {w : CbrWriter} {o : Offer} {a : Answer Given} (n : ℕ) → w.model.prev_end_bits ≡ 8 * n → Outcome w o a
    → (left_by w o a).model.prev_end_bits ≡ 8 * count_by n a
unfolding with_pending with_placed pick
outcome_bytes n k (stays e) = rw e k
outcome_bytes n k (closes g) = k
outcome_bytes n k (retries g) = k
outcome_bytes {w} {o} n k (hands_out g) = (model-after w.model (end w o) (delivered_next w o)).end_is ∙ omega (arith, end_is w o)

placed-removals : (w : CbrWriter) (o : Offer) {xs : List Sent} → Claim (with_placed w o) xs
    → RemovalsDone w.variable w.model.params (after (cadence_at w o.headers) (facts_in o.layer)) (delivered_next w o) (end w o) xs
unfolding Claim with_placed
placed-removals w o c =
    let a = model-after w.model (end w o) (delivered_next w o) in
    rw (a.delivered_is, a.params_kept, a.end_is, a.is_started) at (c)

outcome_removals : {m : ℕ} {w : CbrWriter} {o : Offer} {a : Answer Given} (n : ℕ) (l : List Call) → Inv m w → w.model.prev_end_bits ≡ 8 * n → Outcome w o a
    → Claim (left_by w o a) (sent (count_by n a) (steps_of (left_by w o a) l))
    → Claim w (sent_by n o a (out_of a (placed_bytes w o) o.out) (λ j. sent j (steps_of (left_by w o a) l)))
unfolding Claim with_pending sent_of pick
outcome_removals n l h k (stays e) c = let d = rw e at (c) in rw e d
outcome_removals n l h k (closes g) c = c
outcome_removals n l h k (retries g) c = c
outcome_removals {w = w} {o = o} n l h k (hands_out g) c =
    rw (over-take (placed_bytes w o) o.out) (place_removals n w o h k g _ (placed-removals w o c))

withdrawn-removals : {v : CbrWriter} (w : CbrWriter) (xs : List Sent) → v ≡ with_pending w None → Claim v xs → Claim w xs
unfolding with_pending Claim
withdrawn-removals w xs e c = subst (λ (v : CbrWriter). Claim v xs) e c

withdrawn-bytes : (w : CbrWriter) (n : ℕ) → w.model.prev_end_bits ≡ 8 * n → (with_pending w None).model.prev_end_bits ≡ 8 * n
unfolding with_pending
withdrawn-bytes w n k = k

removals_from : {m : ℕ} (n : ℕ) (w : CbrWriter) (l : List Call) → Inv m w → w.model.prev_end_bits ≡ 8 * n → Claim w (sent n (steps_of w l))
unfolding steps_of step_of left_by_call sent Claim
removals_from n w [] h k = removals-none w.variable w.model.params w.model.started w.cadence (delivered w.model) w.model.prev_end_bits
removals_from {m = m} n w (offering o ∷ l) h k =
    outcome_removals n l h k (outcome w o) (removals_from {m = retries_after m (step_of w (offering o))} _ _ l (call_inv (offering o) h) (outcome_bytes n k (outcome w o)))
removals_from {m = m} n w (withdrawing ∷ l) h k =
    let e = withdraw_is w h.fits in
    withdrawn-removals w _ e (removals_from {m = retries_after m (step_of w withdrawing)} n _ l (call_inv withdrawing h) (rw e (withdrawn-bytes w n k)))

-- by Annex C's own formula, of a writer that has placed nothing yet
pub fresh_done : {w : CbrWriter} → Fresh w → (l : List Call) → EachDone w.variable w.cadence.film w.model.params (sent 0 (steps_of w l))
unfolding Claim
fresh_done {w} f l =
    subst (λ (b : Bool). RemovalsFrom w.variable w.model.params b w.cadence (delivered w.model) w.model.prev_end_bits (sent 0 (steps_of w l))) f.unplaced
    (removals_from 0 w l f.inv f.at_zero)

-- a part of what holds at each removal, in the writer's mode
pub each : (m : VbvMode) {p : VbvParams} {B : RemovalInterval → ℕ → ℕ → Sent → Type 0} → ((i : RemovalInterval) (d previous : ℕ) (x : Sent) → Done m.variable p i d previous x → B i d previous x)
    → (xs : List Sent) → EachDone m.variable m.film p xs → EachRemoval m p B xs
each m f [] c = tt
each m f (x ∷ xs) c = weaker f c
