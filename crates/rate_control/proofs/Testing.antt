-- The tests as the code goes come to the chain of an offer.
-- Assumes nothing.
use Rattle.std.specs.Prelude.{Result, Ok, Err}
use mathlib.Core.Path.{◌≡◌, refl, sym, ap, ◌∙◌}
use mathlib.Core.Bool.{Bool, true, false, not, ◌||◌, ◌&&◌}
use Prim.Native.Nat.{ℕ, ◌+◌, ◌*◌, ◌≤◌, ◌<◌, max, ◌/◌}
use native.Mathlib.Omega.{arith}
use lib.Dec.{ltb}
use lib.ListN.{length}
use borrow.Author.Tests.{ltb-true, ltb-false, lt-ltb, le-ltb}
use Rattle.bits.proofs.Flags.{pick_elim, yes, no, pick-alike}
use Rattle.bits.specs.Bits.{pick}
use Rattle.vbv.specs.Annex.{first_delivered, full, overflows, beyond, arrived, expected_delay, greatest_end, least_end}
use Rattle.vbv.specs.Steps.{EndFits, model_of, removal_of}
use Rattle.vbv.specs.Model.{farthest, params_fit, delivered, model_fits, at_delivered, after_removal, next_delivered, periods, delay_for_picture, remove_picture, max_end_bits, min_end_bits}
use Rattle.vbv.specs.declared.RemovalInterval.{RemovalInterval}
use Rattle.vbv.specs.declared.VbvParams.{VbvParams}
use Rattle.vbv.specs.declared.VbvCbrModel.{VbvCbrModel}
use Rattle.vbv.specs.declared.VbvError.{VbvError}
use Rattle.vbv.specs.declared.VbvError.TheVariants.{Early, Range}
use Rattle.vbv.specs.declared.VbvViolation.{VbvViolation}
use Rattle.vbv.specs.declared.VbvRemovalError.{VbvRemovalError}
use Rattle.vbv.specs.declared.VbvRemovalError.TheVariants as rm
use Rattle.vbv.specs.declared.VbvViolation.TheVariants.{Overflow, Underflow}
use Rattle.vbv.proofs.Fitting.{params_fit_lem}
use Rattle.vbv.proofs.Laws.{beyond-greatest, delay-most, fits-params, started, model-starts}
use Rattle.vbv.proofs.Told.{next_delivered_is}
use Rattle.vbv.proofs.Named.{starts_named, removal_named, delays_named, max_named, min_named}
use Rattle.vbv.proofs.After.{after_same}
use Rattle.vbr.specs.Variable.{variable_fits, model_fits_at, remove_variable}
use Rattle.vbr.proofs.Laws.{variable-starts, variable_started}
use Rattle.vbr.proofs.Named.{variable-starts_named, variable-removal_named}
use Rattle.rate_control.specs.Writer.{writer_fits}
use Rattle.rate_control.specs.Offer.{Offer, position, content, end, first_delay, delivered_at, interval_at, brought_next, delivered_next, stuffing, delay, end_code, placed_bytes}
use Rattle.rate_control.specs.Steps.{started_at, stuffing_up_to, ready_by, by_end, violated, not_removed, by_size, by_most, with_stuffing, by_least, by_start, filled_at, flowed_by, by_filled, by_rate, extent_of, within14, measured}
use Rattle.rate_control.specs.declared.CbrWriter.{CbrWriter}
use Rattle.rate_control.specs.declared.CbrError.TheVariants.{Model, Violation, Stuffing}
use Rattle.rate_control.specs.declared.Extent.{Extent}
use Rattle.rate_control.specs.declared.Placement.{Placement}
use Rattle.rate_control.specs.declared.Untested.{Untested}
use Rattle.rate_control.specs.declared.Untested.TheVariants.{Refused, TooLarge}
use Rattle.rate_control.proofs.Fitting.{writer_fits_lem, end_far, model-constant, model-variable}
use Rattle.rate_control.proofs.Placing.{delivered-later, delivered-first, placed_size, stuffing-variable, end-variable, never-overflows, delay_is}
use Rattle.rate_control.proofs.Ways.{first-low}

-- ---- ranges

-- one of two numbers passes 2^48
either : (a b : ℕ) → farthest < max a b → (ltb farthest a || ltb farthest b) ≡ true
either a b h = go (ltb farthest a) refl
  where
    go : (t : Bool) → ltb farthest a ≡ t → (ltb farthest a || ltb farthest b) ≡ true
    go true e = rw e
    go false e = let l = ltb-false farthest a e in rw (e, lt-ltb farthest b (omega arith))

neither : (a b : ℕ) → a ≤ farthest → b ≤ farthest → (ltb farthest a || ltb farthest b) ≡ false
neither a b h g = rw (le-ltb farthest a h, le-ltb farthest b g)

-- ---- the answer of the tests, in the offer's own quantities

unfoldable pub placement : CbrWriter → Offer → Placement
placement w o = record {
  model = after_removal w.model (end w o) (delivered_next w o);
  vbv_delay = delay w o;
  bytes = length (placed_bytes w o);
  stuffing_bytes = stuffing w o;
}

unfoldable pub measured_for : CbrWriter → Offer → Result Placement Untested
measured_for w o =
    pick (ltb farthest (position w o) || ltb farthest (end w o)) (Err (Refused (Model Range)))
    (pick (not w.variable && beyond w.model.params (position w o) (delivered_at w o)) (Err (Refused (Model Early)))
    (pick (overflows w.model.params w.model.prev_end_bits (delivered_at w o)) (Err (Refused (Violation (Overflow w.model.removed 0 0))))
    (pick (beyond w.model.params (content w o) (delivered_at w o)) (Err TooLarge)
    (pick (beyond w.model.params (end w o) (delivered_at w o)) (Err (Refused Stuffing))
    (Ok (placement w o))))))

-- ---- the model that the pending picture is removed from

-- at a variable rate, or a constant one
pub record StartedFor (v : Bool) (w : CbrWriter) (o : Offer) (n : VbvCbrModel) : Type 0 where
  pub fits : model_fits_at v n ≡ true
  pub is_started : n.started ≡ true
  pub same_params : n.params ≡ w.model.params
  pub same_end : n.prev_end_bits ≡ w.model.prev_end_bits
  pub same_count : n.removed ≡ w.model.removed
  pub delivered_is : delivered n ≡ delivered_at w o

pub record StartedModel (v : Bool) (w : CbrWriter) (o : Offer) (r : Result VbvCbrModel VbvError) : Type 0 where
  pub model : VbvCbrModel
  pub started_is : r ≡ Ok model
  pub begun : StartedFor v w o model

kept : (v : Bool) (w : CbrWriter) (o : Offer) → model_fits_at v w.model ≡ true → w.model.started ≡ true → StartedFor v w o w.model
kept v w o f e = record { fits = f; is_started = e; same_params = refl; same_end = refl; same_count = refl; delivered_is = sym (delivered-later w o e) }

start_model_lem : (w : CbrWriter) (o : Offer) → writer_fits w ≡ true → w.variable ≡ false → position w o ≤ farthest
    → StartedModel false w o (started_at w.model (position w o))
unfolding started_at
start_model_lem w o f c h = go w.model.started refl
  where
    fitted : model_fits w.model ≡ true
    fitted = model-constant w (writer_fits_lem f) c

    go : (t : Bool) → w.model.started ≡ t → StartedModel false w o (started_at w.model (position w o))
    go true e = record { model = w.model; started_is = sym (yes _ _ _ e refl); begun = kept false w o fitted e }
    go false e =
        let d = first_delay w.model.params in
        let s = model-starts w.model d (position w o) fitted e h in
        let r = started w.model d (position w o) _ s in
        record {
          model = at_delivered w.model (first_delivered w.model.params (position w o) d);
          started_is = sym (no _ _ _ e refl) ∙ starts_named w.model d (position w o) fitted e h;
          begun =
              record {
                fits = r.fits (first-low w.model.params (params_fit_lem (fits-params w.model fitted)));
                is_started = r.is_started;
                same_params = r.params_kept;
                same_end = r.end_kept;
                same_count = r.count_kept;
                delivered_is = r.delivered_is ∙ sym (delivered-first w o c e);
              };
        }

fill_model : (w : CbrWriter) (o : Offer) → writer_fits w ≡ true → w.variable ≡ true → StartedModel true w o (filled_at w.model)
unfolding filled_at
fill_model w o f c = go w.model.started refl
  where
    fitted : variable_fits w.model ≡ true
    fitted = model-variable w (writer_fits_lem f) c

    go : (t : Bool) → w.model.started ≡ t → StartedModel true w o (filled_at w.model)
    go true e = record { model = w.model; started_is = sym (yes _ _ _ e refl); begun = kept true w o fitted e }
    go false e =
        let r = variable_started w.model _ (variable-starts w.model fitted e) in
        record {
          model = at_delivered w.model (full w.model.params 0);
          started_is = sym (no _ _ _ e refl) ∙ variable-starts_named w.model fitted e;
          begun =
              record {
                fits = r.fits;
                is_started = r.is_started;
                same_params = r.params_kept;
                same_end = r.end_kept;
                same_count = r.count_kept;
                delivered_is = r.delivered_is ∙ sym (delivered-first w o c e);
              };
        }

-- ---- what it says to the picture

-- the picture in the stream
abbrev pub extent : CbrWriter → Offer → Extent
extent w o = record { position = position w o; content = content w o; bytes = length o.headers + length o.layer + length (end_code o.last) }

extent_is : (w : CbrWriter) (o : Offer) → extent_of w.model (length o.headers) (length o.layer) o.last ≡ extent w o
unfolding extent_of position content
extent_is w o = refl

end_same : (w : CbrWriter) (o : Offer) → content w o + 8 * stuffing w o ≡ end w o
unfolding end
end_same w o = refl

-- the cases of each test
module _ (m : VbvCbrModel) (x : Extent) (z : ℕ) (i : RemovalInterval) where
  delay_case : (next : VbvCbrModel) (d : ℕ)
      → ready_by next x z (Ok d) ≡ Ok (record { model = next; vbv_delay = d; bytes = x.bytes + z; stuffing_bytes = z })
  unfolding ready_by
  delay_case next d = refl

  end-violated : (v : VbvViolation) → by_end m x z (Err (rm.Violation v)) ≡ Err (Refused Stuffing)
  unfolding by_end
  end-violated v = refl

  end-model : (next : VbvCbrModel) → by_end m x z (Ok next) ≡ ready_by next x z (model_of (delay_for_picture m x.position))
  unfolding by_end
  end-model next = refl

  size_over : (k c e : ℕ) → by_size m x z i (Err (rm.Violation (Overflow k c e))) ≡ Err (Refused (Violation (Overflow k c e)))
  unfolding by_size violated not_removed
  size_over k c e = refl

  size_under : (k c e : ℕ) → by_size m x z i (Err (rm.Violation (Underflow k c e))) ≡ Err TooLarge
  unfolding by_size violated not_removed
  size_under k c e = refl

  size_model : (next : VbvCbrModel) → by_size m x z i (Ok next) ≡ by_end m x z (removal_of (remove_picture m (x.content + 8 * z) i))
  unfolding by_size
  size_model next = refl

  most_case : (most : ℕ) → by_most m x z i (Ok most) ≡ pick (ltb most x.position) (Err (Refused (Model Early))) (by_size m x z i (removal_of (remove_picture m x.content i)))
  unfolding by_most
  most_case most = refl

-- at either rate
module _ (w : CbrWriter) (o : Offer) where
  ends : {v : Bool} {n : VbvCbrModel} → writer_fits w ≡ true → StartedFor v w o n → (e : ℕ) → w.model.prev_end_bits ≤ e → e ≤ farthest → EndFits n e
  ends f b e l h =
      let g = writer_fits_lem f in
      record { end_far = h; end_low = omega (arith, b.same_end); count = omega (arith, b.same_count, g.few, end_far w g) }

  next-at : {v : Bool} → w.variable ≡ v → delivered_next w o ≡ arrived v w.model.params (end w o) (delivered_at w o) (periods (interval_at w o))
  unfolding delivered_next
  next-at c = ap (λ (v : Bool). arrived v w.model.params (end w o) (delivered_at w o) (periods (interval_at w o))) c

  sizes : (extent w o).bytes + stuffing w o ≡ length (placed_bytes w o)
  sizes = omega (arith, placed_size w o)

  before : w.model.prev_end_bits ≤ position w o
  unfolding position
  before = omega arith

  inside : w.model.prev_end_bits ≤ content w o
  unfolding content
  inside = omega arith

-- ---- at a constant rate

module _ (w : CbrWriter) (o : Offer) (f : writer_fits w ≡ true) (c : w.variable ≡ false) (n : VbvCbrModel) (b : StartedFor false w o n) where
  abbrev p : VbvParams
  p = w.model.params

  abbrev x : Extent
  x = extent w o

  params-fits : params_fit w.model.params ≡ true
  params-fits = fits-params w.model (model-constant w (writer_fits_lem f) c)

  brought : next_delivered n (interval_at w o) ≡ brought_next w o
  unfolding brought_next
  brought = next_delivered_is n (interval_at w o) ∙ rw (b.delivered_is, b.same_params)

  next-same : next_delivered n (interval_at w o) ≡ delivered_next w o
  unfolding brought_next
  next-same = brought ∙ sym (next-at w o c)

  pub least_told : model_of (min_end_bits n (interval_at w o)) ≡ Ok (least_end p (brought_next w o))
  least_told = min_named n b.fits b.is_started (interval_at w o) ∙ rw (brought, b.same_params)

  most_told : model_of (max_end_bits n) ≡ Ok (greatest_end p (delivered_at w o))
  most_told = max_named n b.fits b.is_started ∙ rw (b.delivered_is, b.same_params)

  removal : (e : ℕ) → w.model.prev_end_bits ≤ e → e ≤ farthest
      → removal_of (remove_picture n e (interval_at w o))
      ≡ pick (overflows p w.model.prev_end_bits (delivered_at w o)) (Err (rm.Violation (Overflow w.model.removed 0 0)))
      (pick (beyond p e (delivered_at w o)) (Err (rm.Violation (Underflow w.model.removed 0 0)))
      (Ok (after_removal w.model e (delivered_next w o))))
  removal e l h =
      removal_named n b.fits b.is_started e (interval_at w o) (ends w o f b e l h)
      ∙ rw (next-same, after_same w.model n e (delivered_next w o) b.same_params b.same_count, b.delivered_is, b.same_end, b.same_count, b.same_params)

  -- in time and no overflow: the delay can be told
  ready_told : position w o ≤ farthest → beyond p (position w o) (delivered_at w o) ≡ false
      → overflows p w.model.prev_end_bits (delivered_at w o) ≡ false
      → ready_by (after_removal w.model (end w o) (delivered_next w o)) x (stuffing w o) (model_of (delay_for_picture n (position w o))) ≡ Ok (placement w o)
  unfolding placement
  ready_told h t g =
      let e : beyond n.params (position w o) (delivered n) ≡ false = rw (b.delivered_is, b.same_params) t in
      let l = delay-most p params-fits w.model.prev_end_bits (position w o) (delivered_at w o) g (before w o) in
      let k : expected_delay n.params (position w o) (delivered n) ≤ 65534 = rw (b.delivered_is, b.same_params) l in
      rw (delays_named n (position w o) b.fits b.is_started h e k, b.delivered_is, b.same_params)
      (delay_case n x (stuffing w o) (interval_at w o) _ _ ∙ rw (sizes w o, delay_is w o c))

  module _ (near : position w o ≤ farthest) (far : end w o ≤ farthest) where
    end_told : beyond p (position w o) (delivered_at w o) ≡ false → overflows p w.model.prev_end_bits (delivered_at w o) ≡ false
        → by_end n x (stuffing w o) (removal_of (remove_picture n (end w o) (interval_at w o)))
        ≡ pick (beyond p (end w o) (delivered_at w o)) (Err (Refused Stuffing)) (Ok (placement w o))
    end_told t g =
        let i = interval_at w o in
        ap (by_end n x (stuffing w o)) (removal (end w o) (omega (arith, inside w o, end_same w o)) far ∙ sym (no _ _ _ g refl))
        ∙ pick-alike (λ (r : Result VbvCbrModel VbvRemovalError) (j : Result Placement Untested). by_end n x (stuffing w o) r ≡ j) _ (end-violated n x (stuffing w o) i _)
        (λ h22. end-model n x (stuffing w o) i _ ∙ ready_told near t g)

    size_told : beyond p (position w o) (delivered_at w o) ≡ false
        → by_size n x (stuffing w o) (interval_at w o) (removal_of (remove_picture n (content w o) (interval_at w o)))
        ≡ pick (overflows p w.model.prev_end_bits (delivered_at w o)) (Err (Refused (Violation (Overflow w.model.removed 0 0))))
        (pick (beyond p (content w o) (delivered_at w o)) (Err TooLarge)
        (pick (beyond p (end w o) (delivered_at w o)) (Err (Refused Stuffing)) (Ok (placement w o))))
    size_told t =
        let i = interval_at w o in
        let z = stuffing w o in
        ap (by_size n x z i) (removal (content w o) (inside w o) (omega (arith, end_same w o)))
        ∙ pick-alike (λ (r : Result VbvCbrModel VbvRemovalError) (j : Result Placement Untested). by_size n x z i r ≡ j) _ (size_over n x z i _ _ _)
        (λ h9. pick-alike (λ (r : Result VbvCbrModel VbvRemovalError) (j : Result Placement Untested). by_size n x z i r ≡ j) _ (size_under n x z i _ _ _)
        (λ size. size_model n x z i _ ∙ rw (end_same w o) (end_told t h9)))

    asked_7 : (t : Bool) → t ≡ (not w.variable && t)
    asked_7 t = ap (λ (v : Bool). not v && t) (sym c)

    pub position_told : by_most n x (stuffing w o) (interval_at w o) (model_of (max_end_bits n)) ≡ measured_for w o
    unfolding measured_for
    position_told =
        rw most_told
        (most_case n x (stuffing w o) (interval_at w o) _
        ∙ rw (← beyond-greatest p params-fits (position w o) (delivered_at w o), ← asked_7 (beyond p (position w o) (delivered_at w o)))
        (pick-alike (λ (a b : Result Placement Untested). a ≡ b) _ refl (λ h7. size_told h7) ∙ no _ _ _ (neither (position w o) (end w o) near far) refl))

-- ---- at a variable rate

module _ (x : Extent) where
  flow_under : (k c e : ℕ) → flowed_by x (Err (rm.Violation (Underflow k c e))) ≡ Err TooLarge
  unfolding flowed_by violated not_removed
  flow_under k c e = refl

  flow_model : (next : VbvCbrModel) → flowed_by x (Ok next) ≡ Ok (record { model = next; vbv_delay = 0xFFFF; bytes = x.bytes; stuffing_bytes = 0 })
  unfolding flowed_by
  flow_model next = refl

  fill_case : (i : RemovalInterval) (m : VbvCbrModel) → by_filled x i (Ok m) ≡ flowed_by x (removal_of (remove_variable m x.content i))
  unfolding by_filled
  fill_case i m = refl

module _ (w : CbrWriter) (o : Offer) (f : writer_fits w ≡ true) (c : w.variable ≡ true) (n : VbvCbrModel) (b : StartedFor true w o n) where
  flowed-removal : content w o ≤ farthest
      → removal_of (remove_variable n (content w o) (interval_at w o))
      ≡ pick (beyond w.model.params (content w o) (delivered_at w o)) (Err (rm.Violation (Underflow w.model.removed 0 0)))
      (Ok (after_removal w.model (end w o) (delivered_next w o)))
  flowed-removal h =
      variable-removal_named n b.fits b.is_started (content w o) (interval_at w o) (ends w o f b (content w o) (inside w o) h)
      ∙ rw (next-at w o c, end-variable w o c, b.delivered_is, after_same w.model n (content w o) _ b.same_params b.same_count, b.same_params, b.same_count)

  flowed_ready : ◌≡◌ {A = Result Placement Untested} (Ok (record { model = after_removal w.model (end w o) (delivered_next w o); vbv_delay = 0xFFFF; bytes = (extent w o).bytes; stuffing_bytes = 0 })) (Ok (placement w o))
  unfolding placement
  flowed_ready =
      let s : length (placed_bytes w o) ≡ (extent w o).bytes = omega (arith, sizes w o, stuffing-variable w o c) in
      rw (s, stuffing-variable w o c, delay_is w o c)

  pub flowed_told : position w o ≤ farthest → content w o ≤ farthest → by_filled (extent w o) (interval_at w o) (Ok n) ≡ measured_for w o
  unfolding measured_for
  flowed_told near far =
      no _ _ _ (neither (position w o) (end w o) near (omega (arith, end-variable w o c)))
      (no _ _ _ (rw c)
      (no _ _ _ (never-overflows w o f c)
      (fill_case (extent w o) (interval_at w o) n
      ∙ ap (flowed_by (extent w o)) (flowed-removal far)
      ∙ pick-alike (λ (r : Result VbvCbrModel VbvRemovalError) (j : Result Placement Untested). flowed_by (extent w o) r ≡ j) _ (flow_under (extent w o) _ _ _)
      (λ size. flow_model (extent w o) _ ∙ flowed_ready ∙ no _ _ _ (rw (end-variable w o c) size) refl))))

-- ---- 14

module _ (w : CbrWriter) (o : Offer) where
  abbrev Same : Result Placement Untested → Type 0
  Same j = j ≡ measured_for w o

  far_told : farthest < max (position w o) (end w o) → Err (Refused (Model Range)) ≡ measured_for w o
  unfolding measured_for
  far_told h = yes _ _ _ (either (position w o) (end w o) h) refl

  module _ (f : writer_fits w ≡ true) where
    stuffed_told : w.variable ≡ false → (n : VbvCbrModel) → StartedFor false w o n → position w o ≤ farthest → with_stuffing n (extent w o) (interval_at w o) (stuffing w o) ≡ measured_for w o
    unfolding with_stuffing
    stuffed_told c n b near =
        pick_elim Same _ (λ e. far_told (omega (arith, ltb-true (farthest / 8) (stuffing w o) e, end_same w o))) λ z.
        pick_elim Same _ (λ e. far_told (omega (arith, ltb-true farthest (content w o + 8 * stuffing w o) e, end_same w o))) λ e.
        position_told w o f c n b near (omega (arith, ltb-false farthest (content w o + 8 * stuffing w o) e, end_same w o))

    stuffing_is : w.variable ≡ false → stuffing_up_to (least_end w.model.params (brought_next w o)) (content w o) o.last ≡ stuffing w o
    unfolding stuffing_up_to stuffing
    stuffing_is c = rw c

    start_told : w.variable ≡ false → position w o ≤ farthest
        → by_start (extent w o) (interval_at w o) o.last (started_at w.model (position w o)) ≡ measured_for w o
    unfolding by_start by_least
    start_told c near =
        let g = start_model_lem w o f c near in
        rw (g.started_is, least_told w o f c g.model g.begun, stuffing_is c) (stuffed_told c g.model g.begun near)

    fill_told : w.variable ≡ true → position w o ≤ farthest → content w o ≤ farthest → by_filled (extent w o) (interval_at w o) (filled_at w.model) ≡ measured_for w o
    fill_told c near far =
        let g = fill_model w o f c in
        rw g.started_is (flowed_told w o f c g.model g.begun near far)

    rate_told : (v : Bool) → w.variable ≡ v → position w o ≤ farthest → content w o ≤ farthest
        → by_rate v w.model (extent w o) (interval_at w o) o.last ≡ measured_for w o
    unfolding by_rate
    rate_told true c near far = fill_told c near far
    rate_told false c near far = start_told c near

    bytes_far : farthest / 8 < max (length o.headers) (length o.layer) → farthest < max (position w o) (end w o)
    unfolding position content
    bytes_far h = omega (arith, end_same w o)

    pub measured_is : measured w.variable w.model (length o.headers) (length o.layer) (interval_at w o) o.last ≡ measured_for w o
    unfolding measured within14
    measured_is =
        rw (extent_is w o)
        (pick_elim Same _ (λ e. far_told (bytes_far (ltb-true _ _ e))) λ b.
        pick_elim Same _ (λ e. far_told (omega (arith, ltb-true farthest (max (position w o) (content w o)) e, end_same w o))) λ e.
        let l = ltb-false farthest (max (position w o) (content w o)) e in
        rate_told w.variable refl (omega arith) (omega arith))
