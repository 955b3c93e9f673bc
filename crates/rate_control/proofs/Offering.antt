-- The ways through an offer: each with its answer, and with what the output part then holds.
-- Assumes nothing.
use Rattle.std.specs.Prelude.{Result, Ok, Err}
use mathlib.Core.Path.{◌≡◌, refl, sym, ap, ◌∙◌}
use mathlib.Core.Bool.{Bool, true, false}
use mathlib.Core.List.{List, [], ◌++◌}
use Prim.Native.Nat.{ℕ, ◌+◌, ◌≤◌, ◌<◌}
use native.Mathlib.Omega.{arith}
use lib.Dec.{leb, ltb, eqb}
use lib.ListN.{length, replicate}
use borrow.Author.Tests.{leb-true, lt-ltb, le-ltb, ltb-false, not-false}
use Rattle.bits.proofs.Flags.{or_right, pick_elim, was_no, clash, pick-alike}
use Rattle.bits.specs.Bits.{pick}
use Rattle.bits.specs.Answers.{over}
use Rattle.bits.specs.Refusals.{Answer}
use Rattle.vbv.specs.Model.{farthest}
use Rattle.vbv.specs.Steps.{ParamsFit}
use Rattle.vbv.specs.Patch.{patched}
use Rattle.vbv.specs.declared.RemovalInterval.{RemovalInterval}
use Rattle.vbv.proofs.Fitting.{params_fit_lem}
use Rattle.vbv.proofs.Laws.{fits-params}
use Rattle.layers.specs.declared.PictureKind.{PictureKind}
use Rattle.layers.specs.Layer.{facts_in}
use Rattle.cadence.specs.Cadence.{after}
use Rattle.cadence.specs.declared.VbvCadence.{VbvCadence}
use Rattle.rate_control.specs.Answers.{Given, offer_answer}
use Rattle.rate_control.specs.Writer.{writer_fits, index, of, asked}
use Rattle.rate_control.specs.Offer.{Offer, position, content, end, cadence_at, interval_at, stuffing, end_code, placed_bytes, with_placed, offer, left, out_of, out_after}
use Rattle.rate_control.specs.Steps.{timing, measured, tested, Placeable, placed_by, refused_in_code, too_large_in_code, placed_in_code, offer_in_code}
use Rattle.rate_control.specs.declared.CbrWriter.{CbrWriter}
use Rattle.rate_control.specs.declared.CbrError.{CbrError}
use Rattle.rate_control.specs.declared.CbrError.TheVariants.{Output}
use Rattle.rate_control.specs.declared.CbrOffered.{CbrOffered}
use Rattle.rate_control.specs.declared.Timing.{Timing}
use Rattle.rate_control.specs.declared.Placement.{Placement}
use Rattle.rate_control.specs.declared.Untested.{Untested}
use Rattle.rate_control.specs.declared.Untested.TheVariants.{Refused, TooLarge}
use Rattle.rate_control.proofs.Fitting.{all_fit_get, writer_fits_lem, end_far, model-constant}
use Rattle.rate_control.proofs.Lasting.{timing-lasts}
use Rattle.rate_control.proofs.Placing.{placed_size}
use Rattle.rate_control.proofs.Numbers.{answer_is, writer_is}
use Rattle.rate_control.proofs.Testing.{placement, measured_for, measured_is}

-- ---- the tests

module _ (w : CbrWriter) (f : Bool) (e : f ≡ writer_fits w) (h : f ≡ true) where
  pub end_of : w.model.prev_end_bits ≤ farthest
  end_of = end_far w (writer_fits_lem (sym e ∙ h))

  pub params_of : w.variable ≡ false → ParamsFit w.model.params
  params_of c = params_fit_lem (fits-params w.model (model-constant w (writer_fits_lem (sym e ∙ h)) c))

-- ---- the answer of the tests

-- what they are for an offer
abbrev pub tested_for : CbrWriter → Offer → Result Placement Untested
tested_for w o = tested w o.headers o.kind o.interval o.last o.layer (interval_at w o)

-- the cadence after its picture
abbrev pub cadence_left : CbrWriter → Offer → VbvCadence
cadence_left w o = after (cadence_at w o.headers) (facts_in o.layer)

-- the same with the code's timing, which plays no part where the layer does not fit
timing-same : (w : CbrWriter) (o : Offer)
    → tested w o.headers o.kind o.interval o.last o.layer (timing (cadence_at w o.headers) o.interval o.layer).interval ≡ tested_for w o
unfolding tested
timing-same w o =
    pick-alike Same _ refl λ h12.
    pick-alike Same _ refl λ h17.
    pick-alike Same _ refl λ h18.
    pick-alike Same _ refl λ h20.
    ap (λ (j : RemovalInterval). measured w.variable w.model (length o.headers) (length o.layer) j o.last) (timing-lasts w o (not-false _ h20))
  where
    Same : Result Placement Untested → Result Placement Untested → Type 0
    Same s t = s ≡ t

-- as the code comes to them, by the cadence k before the picture
pub tested_by : (w : CbrWriter) (o : Offer) {k : VbvCadence} {x : Timing} {t : Result Placement Untested} → k ≡ cadence_at w o.headers → x ≡ timing k o.interval o.layer
    → t ≡ tested w o.headers o.kind o.interval o.last o.layer x.interval → t ≡ tested_for w o
tested_by w o a b e = e ∙ rw (b, a) (timing-same w o)

pub placed-left : (w : CbrWriter) (headers : List ℕ) (k : PictureKind) (i : RemovalInterval) (layer : List ℕ) (last : Bool) (p : Placement) {b : VbvCadence} {x : Timing} {r : CbrOffered}
    → b ≡ cadence_at w headers → x ≡ timing b i layer → r ≡ placed_by w k (length layer) last p x.cadence
    → r ≡ placed_by w k (length layer) last p (after (cadence_at w headers) (facts_in layer))
unfolding timing
placed-left w headers k i layer last p a b e = e ∙ rw (b, a)

unfoldable answer_to : CbrWriter → Offer → Result Placement Untested → CbrOffered
answer_to w o (Err (Refused e)) = refused_in_code w e
answer_to w o (Err TooLarge) = too_large_in_code w o.kind (asked w o.kind)
answer_to w o (Ok p) =
    pick (ltb (length o.out) p.bytes) (refused_in_code w Output) (placed_by w o.kind (length o.layer) o.last p (cadence_left w o))

module _ (w : CbrWriter) (o : Offer) where
  answer-refused : (e : CbrError) → answer_to w o (Err (Refused e)) ≡ refused_in_code w e
  unfolding answer_to
  answer-refused e = refl

  answer_large : answer_to w o (Err TooLarge) ≡ too_large_in_code w o.kind (asked w o.kind)
  unfolding answer_to
  answer_large = refl

  placed_same : placed_by w o.kind (length o.layer) o.last (placement w o) (cadence_left w o) ≡ placed_in_code w o (asked w o.kind)
  unfolding placement placed_by placed_in_code with_placed
  placed_same = refl

  answer_ready : answer_to w o (Ok (placement w o))
      ≡ pick (ltb (length o.out) (length (placed_bytes w o))) (refused_in_code w Output) (placed_in_code w o (asked w o.kind))
  unfolding answer_to placement
  answer_ready = ap (pick (ltb (length o.out) (length (placed_bytes w o))) (refused_in_code w Output)) placed_same

  abbrev Gives : Result Placement Untested → CbrOffered → Type 0
  Gives j r = answer_to w o j ≡ r

  offer_is : answer_to w o (tested_for w o) ≡ offer_in_code w o
  unfolding tested offer_in_code measured_for
  offer_is =
      pick-alike Gives _ (answer-refused _) λ h12.
      pick-alike Gives _ (answer-refused _) λ h17.
      pick-alike Gives _ (answer-refused _) λ h18.
      pick-alike Gives _ (answer-refused _) λ h20.
      ap (answer_to w o) (measured_is w o (not-false _ h12)) ∙
      (pick-alike Gives _ (answer-refused _) λ h14.
      pick-alike Gives _ (answer-refused _) λ h7.
      pick-alike Gives _ (answer-refused _) λ h9.
      pick-alike Gives _ answer_large λ size.
      pick-alike Gives _ (answer-refused _) λ h22.
      answer_ready)

-- ---- a picture to place

not_ready : {u : Untested} {p : Placement} → Err u ≡ Ok p → ⊥
not_ready h = clash cc

record Readied (w : CbrWriter) (o : Offer) (p : Placement) : Type 0 where
  fitted : writer_fits w ≡ true
  end_far : end w o ≤ farthest
  is : p ≡ placement w o

readied : (w : CbrWriter) (o : Offer) (p : Placement) → tested_for w o ≡ Ok p → Readied w o p
unfolding tested measured_for
readied w o p h =
    let a = was_no _ _ _ not_ready h in
    let b = was_no _ _ _ not_ready a.1 in
    let c = was_no _ _ _ not_ready b.1 in
    let d = was_no _ _ _ not_ready c.1 in
    let f = not-false _ a.0 in
    let e14 = was_no _ _ _ not_ready (sym (measured_is w o f) ∙ d.1) in
    let e7 = was_no _ _ _ not_ready e14.1 in
    let e9 = was_no _ _ _ not_ready e7.1 in
    let size = was_no _ _ _ not_ready e9.1 in
    let e22 = was_no _ _ _ not_ready size.1 in
    record {
      fitted = f;
      end_far = ltb-false farthest (end w o) (or_right (ltb farthest (position w o)) _ e14.0);
      is = ready_same _ _ (sym e22.1);
    }
  where
    ready_same : (x y : Placement) → ◌≡◌ {A = Result Placement Untested} (Ok x) (Ok y) → x ≡ y
    ready_same x y e = cc

module _ (w : CbrWriter) (o : Offer) (j : Result Placement Untested) (e : j ≡ tested_for w o) (p : Placement) (h : j ≡ Ok p) where
  ready : Readied w o p
  ready = readied w o p (sym e ∙ h)

  bytes_of : p.bytes ≡ length o.headers + length o.layer + p.stuffing_bytes + length (end_code o.last)
  unfolding placement
  bytes_of = rw ready.is (placed_size w o)

  placeable_of : Placeable w o.kind (length o.layer) p
  unfolding of end content placement
  placeable_of =
      let r = ready in
      let v = writer_fits_lem r.fitted in
      let s : p.stuffing_bytes ≡ stuffing w o = ap (λ (x : Placement). x.stuffing_bytes) r.is in
      record {
        layer_far = omega (arith, r.end_far);
        target_far = leb-true _ _ (all_fit_get (λ t. leb t farthest) w.target_bits (index o.kind) refl v.targets);
        total_far = omega (arith, r.end_far, v.stuffed, end_far w v);
      }

  ready_is : offer_in_code w o ≡ pick (ltb (length o.out) p.bytes) (refused_in_code w Output) (placed_by w o.kind (length o.layer) o.last p (cadence_left w o))
  unfolding answer_to
  ready_is = sym (offer_is w o) ∙ rw (← e, h)

module _ (w : CbrWriter) (headers : List ℕ) (k : PictureKind) (i : RemovalInterval) (last : Bool) (layer : List ℕ) where
  abbrev any_out : Offer
  any_out = record { headers = headers; kind = k; interval = i; last = last; layer = layer; out = [] }

  module _ {b : VbvCadence} {x : Timing} {t : Result Placement Untested} (a : b ≡ cadence_at w headers) (c : x ≡ timing b i layer)
      (e : t ≡ tested w headers k i last layer x.interval) (p : Placement) (h : t ≡ Ok p) where
    pub bytes_are : p.bytes ≡ length headers + length layer + p.stuffing_bytes + length (end_code last)
    bytes_are = bytes_of w any_out t (tested_by w any_out a c e) p h

    pub placeable : Placeable w k (length layer) p
    placeable = placeable_of w any_out t (tested_by w any_out a c e) p h

-- ---- what is promised

-- the answer by number, the writer that is left, and what the output part holds
abbrev OfferPromised : CbrWriter → Offer → CbrOffered → List ℕ → Type 0
OfferPromised w o r x = (offer_answer r.answer ≡ offer w o) × ((r.writer ≡ left w o) × (x ≡ out_after w o))

promised : (w : CbrWriter) (o : Offer) (r : CbrOffered) (x : List ℕ) → r ≡ offer_in_code w o
    → x ≡ out_of (offer_answer r.answer) (placed_bytes w o) o.out → OfferPromised w o r x
promised w o r x e h =
    let a : offer_answer r.answer ≡ offer w o = ap (λ (s : CbrOffered). offer_answer s.answer) e ∙ answer_is w o in
    (a, (ap (λ (s : CbrOffered). s.writer) e ∙ writer_is w o, h ∙ ap (λ (s : Answer Given). out_of s (placed_bytes w o) o.out) a))

-- ---- the ways

module _ (w : CbrWriter) (o : Offer) (j : Result Placement Untested) (e : j ≡ tested_for w o) (r : CbrOffered) where
  pub offer-refused : (error : CbrError) → j ≡ Err (Refused error) → r ≡ refused_in_code w error → OfferPromised w o r o.out
  unfolding answer_to refused_in_code
  offer-refused error h g =
      let a : offer_in_code w o ≡ refused_in_code w error = sym (offer_is w o) ∙ rw (← e, h) in
      promised w o r o.out (g ∙ sym a) (rw g)

  pub offer_large : j ≡ Err TooLarge → r ≡ too_large_in_code w o.kind (asked w o.kind) → OfferPromised w o r o.out
  unfolding answer_to too_large_in_code
  offer_large h g =
      let a : offer_in_code w o ≡ too_large_in_code w o.kind (asked w o.kind) = sym (offer_is w o) ∙ rw (← e, h) in
      promised w o r o.out (g ∙ sym a)
      (rw g
      (pick_elim (λ (s : CbrOffered). o.out ≡ out_of (offer_answer s.answer) (placed_bytes w o) o.out) (eqb (asked w o.kind) 31) (λ f. refl) (λ f. refl)))

  module _ (p : Placement) (h : j ≡ Ok p) where
    pub offer-short : length o.out < p.bytes → r ≡ refused_in_code w Output → OfferPromised w o r o.out
    unfolding pick refused_in_code
    offer-short l g =
        let a : offer_in_code w o ≡ refused_in_code w Output = ready_is w o j e p h ∙ rw (lt-ltb _ _ l) in
        promised w o r o.out (g ∙ sym a) (rw g)

    pub offer-placed : (x : List ℕ) → p.bytes ≤ length o.out → r ≡ placed_by w o.kind (length o.layer) o.last p (cadence_left w o)
        → x ≡ over (o.headers ++ (patched o.layer p.vbv_delay ++ (replicate p.stuffing_bytes 0 ++ end_code o.last))) o.out
        → OfferPromised w o r x
    unfolding pick placement placed_bytes placed_in_code
    offer-placed x l g k =
        let s = (ready w o j e p h).is in
        let a : offer_in_code w o ≡ placed_by w o.kind (length o.layer) o.last p (cadence_left w o) = ready_is w o j e p h ∙ rw (le-ltb _ _ l) in
        let b : r ≡ placed_in_code w o (asked w o.kind) = g ∙ rw s (placed_same w o) in
        promised w o r x (g ∙ sym a) (rw (b, k, s))
