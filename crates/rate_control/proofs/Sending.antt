-- The bytes that a list of calls hands out are parts that fit, laid end to end.
-- Assumes nothing.
use mathlib.Core.Path.{◌≡◌, refl, sym, ap, subst}
use mathlib.Core.Bool.{Bool, true, false}
use mathlib.Core.List.{List, [], ◌∷◌, ◌++◌, append-nil}
use Prim.Native.Nat.{ℕ, ◌+◌}
use native.Mathlib.Omega.{arith}
use lib.ListN.{length, length-append}
use Rattle.bits.specs.Bits.{pick}
use Rattle.bits.specs.Refusals.{Answer}
use Rattle.bits.proofs.Over.{over-take}
use Rattle.headers.specs.RoundTrips.{Bytes}
use Rattle.vbv.specs.declared.RemovalInterval.{RemovalInterval}
use Rattle.vbv.specs.declared.VbvParams.{VbvParams}
use Rattle.vbv.proofs.After.{model-after}
use Rattle.scan.specs.Codes.{sequence_end}
use Rattle.scan.proofs.Laid.{Tail, tail_none, tail_end}
use Rattle.verify.specs.declared.CodedPicture.{CodedPicture}
use Rattle.pictures.specs.declared.SeenPicture.{SeenPicture}
use Rattle.verify.specs.Coded.{timed}
use Rattle.verify.proofs.Rising.{timed-none, timed-first}
use Rattle.cadence.specs.Cadence.{after}
use Rattle.cadence.specs.declared.VbvCadence.{VbvCadence}
use Rattle.layers.specs.Layer.{facts_in, offered_facts}
use Rattle.layers.proofs.Laws.{laid}
use Rattle.layers.proofs.Telling.{as_offered}
use Rattle.layers.proofs.Stream.{Part, bytes_of, PartFits, PartsFit, no_parts, part, stream, picture_of, seen, part_then, stream_none, stream_more, parts_none, parts_last, parts_more}
use Rattle.rate_control.specs.Answers.{Given}
use Rattle.rate_control.specs.Offer.{Offer, end, delivered_next, stuffing, delay, end_code, placed_bytes, with_pending, with_placed, left_by, out_of}
use Rattle.rate_control.specs.Calls.{Call, offering, withdrawing, step_of, left_by_call, steps_of}
use Rattle.rate_control.specs.Sent.{position_of, Sent, sent_position, sent_end, sent_by, sent, end_to_end, sent_facts, lasts_for}
use Rattle.rate_control.specs.Demand.{retries_after, AllBytes}
use Rattle.rate_control.specs.declared.CbrWriter.{CbrWriter}
use Rattle.rate_control.proofs.Storage.{end_code-last, end_code-none}
use Rattle.rate_control.proofs.Chain.{Placing, Outcome, stays, closes, retries, hands_out, outcome}
use Rattle.rate_control.proofs.Placing.{delay_word}
use Rattle.rate_control.proofs.Invariant.{Inv, outcome_inv, call_inv, withdraw_is}
use Rattle.rate_control.proofs.Removing.{sent_of, finished-none}

-- ---- one picture

-- a picture as its headers are to show it, and as the model is to see it
unfoldable pub seen_sent : Sent → SeenPicture
seen_sent x = record { pos_bits = sent_position x; end_bits = sent_end x; vbv_delay = x.delay; facts = facts_in x.offer.layer }

unfoldable pub seen_by : List Sent → List SeenPicture
seen_by [] = []
seen_by (x ∷ xs) = seen_sent x ∷ seen_by xs

unfoldable pub coded_sent : RemovalInterval → Sent → CodedPicture
coded_sent i x = record { pos_bits = sent_position x; end_bits = sent_end x; vbv_delay = x.delay; interval = i }

unfoldable pub coded_by : VbvCadence → List Sent → List CodedPicture
coded_by k [] = []
coded_by k (x ∷ xs) = coded_sent (lasts_for k x) x ∷ coded_by (after k (sent_facts x)) xs

abbrev part_of : CbrWriter → Offer → Part
part_of w o = record { headers = o.headers; layer = o.layer; delay = delay w o; zeros = stuffing w o }

placed_part : (w : CbrWriter) (o : Offer) → placed_bytes w o ≡ bytes_of (part_of w o) ++ end_code o.last
unfolding placed_bytes
placed_part w o = part_then (part_of w o) (end_code o.last)

placed-length : (w : CbrWriter) (o : Offer) → length (placed_bytes w o) ≡ length (bytes_of (part_of w o)) + length (end_code o.last)
placed-length w o = rw (placed_part w o) (length-append (bytes_of (part_of w o)) (end_code o.last))

-- ---- all of them

-- the headers of the first
abbrev pub first_headers : List Part → List ℕ
first_headers [] = []
first_headers (x ∷ xs) = x.headers

abbrev pub sent_headers : List Sent → List ℕ
sent_headers [] = []
sent_headers (x ∷ xs) = x.offer.headers

-- pictures sent, n bytes being handed out before: parts end to end and what follows them
pub record Sending (p : VbvParams) (placed : Bool) (n : ℕ) (xs : List Sent) : Type 0 where
  pub parts : List Part
  pub follows : List ℕ
  pub laid_is : end_to_end xs ≡ stream parts follows
  pub seen_is : seen n parts (length follows) ≡ seen_by xs
  pub timed_is : (k : VbvCadence) → timed k (seen_by xs) ≡ coded_by k xs
  pub headers_are : first_headers parts ≡ sent_headers xs
  pub fit : PartsFit p placed parts
  pub ends : Tail follows
  pub bare : parts ≡ [] → follows ≡ []

-- the picture of a part before others
seen_front : (n e : ℕ) (x : Part) (ys : List Part) (t : ℕ) {cs : List SeenPicture} → length (bytes_of x) ≡ e → (ys ≡ [] → t ≡ 0)
    → seen (n + e) ys t ≡ cs → seen n (x ∷ ys) t ≡ picture_of n x (n + e) ∷ cs
seen_front n e x [] t l z h =
    let c : n + (length (bytes_of x) + t) ≡ n + e = omega (arith, z refl) in
    rw (← h, parts_none, parts_last, c)
seen_front n e x (y ∷ ys) t l z h = rw (← h, ← l) (parts_more n x y ys t)

-- a picture before others; none after the last
module _ {p : VbvParams} {placed : Bool} (n : ℕ) (w : CbrWriter) (o : Offer) {xs : List Sent} (f : PartFits p placed (part_of w o))
    (t : facts_in o.layer ≡ offered_facts o.kind o.interval o.layer) (s : Sending p true (n + length (placed_bytes w o)) xs) (z : o.last ≡ true → xs ≡ []) where
  timed-more : (k : VbvCadence) → timed k (seen_by (sent_of n w o ∷ xs)) ≡ coded_by k (sent_of n w o ∷ xs)
  unfolding seen_by seen_sent coded_by coded_sent sent_of
  timed-more k = rw (timed-first, t, s.timed_is)

  last_sending : o.last ≡ true → Sending p placed n (sent_of n w o ∷ xs)
  unfolding seen_by seen_sent coded_by coded_sent sent_of end_to_end position_of
  last_sending e =
      let l = end_code-last o.last e in
      let c : n + (length (bytes_of (part_of w o)) + length sequence_end) ≡ n + length (placed_bytes w o) = omega (arith, placed-length w o, ap length l) in
      record {
        parts = part_of w o ∷ [];
        follows = sequence_end;
        laid_is = rw (z e, append-nil, placed_part w o, l, stream_more, stream_none);
        seen_is = rw (z e, parts_last, c);
        timed_is = timed-more;
        headers_are = refl;
        fit = part f no_parts;
        ends = tail_end;
        bare = λ h. cc;
      }

  other_sending : o.last ≡ false → Sending p placed n (sent_of n w o ∷ xs)
  unfolding seen_by seen_sent coded_by coded_sent sent_of end_to_end position_of
  other_sending e =
      let l = end_code-none o.last e in
      let c : length (bytes_of (part_of w o)) ≡ length (placed_bytes w o) = omega (arith, placed-length w o, ap length l) in
      record {
        parts = part_of w o ∷ s.parts;
        follows = s.follows;
        laid_is = rw (s.laid_is, placed_part w o, l, append-nil, stream_more);
        timed_is = timed-more;
        seen_is = seen_front n _ (part_of w o) s.parts (length s.follows) c (λ h. ap length (s.bare h)) s.seen_is;
        headers_are = refl;
        fit = part f s.fit;
        ends = s.ends;
        bare = λ h. cc;
      }

  place_sending : Sending p placed n (sent_of n w o ∷ xs)
  place_sending = go o.last refl
    where
      go : (t : Bool) → o.last ≡ t → Sending p placed n (sent_of n w o ∷ xs)
      go true e = last_sending e
      go false e = other_sending e

place_fit : {w : CbrWriter} {o : Offer} → Placing w o → Bytes o.layer → PartFits w.model.params w.model.started (part_of w o)
place_fit {w} {o} g b = record {
  headers_fit_lem = g.headers_fit_lem;
  laid = laid w.cadence.film o.kind o.interval o.layer g.layer_fits b (delay w o) (delay_word w o g);
}

same_sending : {p q : VbvParams} {a c : Bool} {n : ℕ} {xs : List Sent} → p ≡ q → a ≡ c → Sending p a n xs → Sending q c n xs
same_sending {p} {q} {a} {c} {n} {xs} e f s =
    subst (λ (z : Bool). Sending q z n xs) f (subst (λ (z : VbvParams). Sending z a n xs) e s)

outcome_sending : {m : ℕ} {w : CbrWriter} {o : Offer} {a : Answer Given} (n : ℕ) (l : List Call) → Inv m w → Bytes o.layer
    → Outcome w o a → ((k : ℕ) → Sending (left_by w o a).model.params (left_by w o a).model.started k (sent k (steps_of (left_by w o a) l)))
    → Sending w.model.params w.model.started n (sent_by n o a (out_of a (placed_bytes w o) o.out) (λ j. sent j (steps_of (left_by w o a) l)))
unfolding with_pending with_placed sent_of pick
outcome_sending n l h b (stays e) s = let d = rw e at (s n) in rw e d
outcome_sending n l h b (closes g) s = s n
outcome_sending n l h b (retries g) s = s n
outcome_sending {w = w} {o = o} n l h b (hands_out g) s =
    let a = model-after w.model (end w o) (delivered_next w o) in
    rw (over-take (placed_bytes w o) o.out)
    (place_sending n w o (place_fit g b) (as_offered w.cadence.film o.kind o.interval o.layer g.layer_fits) (same_sending a.params_kept a.is_started (s (n + length (placed_bytes w o))))
    (λ e. finished-none _ _ l (outcome_inv h (hands_out g)) e))

pub sending : {m : ℕ} (n : ℕ) (w : CbrWriter) (l : List Call) → Inv m w → AllBytes l
    → Sending w.model.params w.model.started n (sent n (steps_of w l))
unfolding steps_of step_of left_by_call end_to_end sent seen_by coded_by with_pending
sending n w [] h b = record {
  parts = [];
  follows = [];
  laid_is = sym (stream_none []);
  seen_is = parts_none n 0;
  timed_is = timed-none;
  headers_are = refl;
  fit = no_parts;
  ends = tail_none;
  bare = λ e. refl;
}
sending {m = m} n w (offering o ∷ l) h b =
    outcome_sending n l h b.0 (outcome w o) (λ k. sending {m = retries_after m (step_of w (offering o))} k _ l (call_inv (offering o) h) b.1)
sending {m = m} n w (withdrawing ∷ l) h b =
    let e = withdraw_is w h.fits in
    same_sending (ap (λ (v : CbrWriter). v.model.params) e) (ap (λ (v : CbrWriter). v.model.started) e) (sending {m = retries_after m (step_of w withdrawing)} n _ l (call_inv withdrawing h) b)
