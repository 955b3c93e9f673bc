-- What the test of a writer's state says, as bounds, and back.
-- Assumes nothing.
use Rattle.std.specs.Prelude.{Some, None}
use mathlib.Core.Path.{◌≡◌, refl}
use mathlib.Core.Bool.{Bool, true, false}
use mathlib.Core.List.{List, [], ◌∷◌}
use Prim.Native.Nat.{ℕ, zero, suc, ◌*◌, ◌%◌, ◌≤◌, ◌<◌}
use native.Mathlib.Omega.{arith}
use lib.Dec.{leb, eqb}
use lib.ListN.{length, get_or, set}
use borrow.Author.Tests.{leb-true, eqb-true, le-leb, eq-eqb}
use Rattle.bits.proofs.Flags.{both_true}
use Rattle.vbv.specs.Model.{farthest, params_in_range, model_fits}
use Rattle.vbv.proofs.Fitting.{range_fits, fit_in_at}
use Rattle.vbr.specs.Variable.{variable_fits, model_fits_at}
use Rattle.vbr.proofs.Either.{fits-params-at, fits_range_at}
use Rattle.rate_control.specs.Create.{within}
use Rattle.cadence.specs.Cadence.{cadence_fits}
use Rattle.rate_control.specs.Writer.{quantiser_fits, all_fit, pending_fits, writer_fits}
use Rattle.rate_control.specs.declared.CbrWriter.{CbrWriter}
use Rattle.rate_control.proofs.Retries.{Quant}

-- ---- tests of a list

pub all_fit-at : (f : ℕ → Bool) (xs : List ℕ) (i : ℕ) → all_fit f xs ≡ true → i < length xs → f (get_or xs i 0) ≡ true
unfolding all_fit
all_fit-at f [] i h l = absurd (omega arith)
all_fit-at f (x ∷ xs) zero h l = (both_true (f x) (all_fit f xs) h).0
all_fit-at f (x ∷ xs) (suc i) h l = all_fit-at f xs i (both_true (f x) (all_fit f xs) h).1 (omega arith)

-- at any place, where the test holds of 0
pub all_fit_get : (f : ℕ → Bool) (xs : List ℕ) (i : ℕ) → f 0 ≡ true → all_fit f xs ≡ true → f (get_or xs i 0) ≡ true
unfolding all_fit
all_fit_get f [] i z h = z
all_fit_get f (x ∷ xs) zero z h = (both_true (f x) (all_fit f xs) h).0
all_fit_get f (x ∷ xs) (suc i) z h = all_fit_get f xs i z (both_true (f x) (all_fit f xs) h).1

pub all_fit_set : (f : ℕ → Bool) (xs : List ℕ) (i x : ℕ) → all_fit f xs ≡ true → f x ≡ true → all_fit f (set xs i x) ≡ true
unfolding all_fit
all_fit_set f [] i x h g = h
all_fit_set f (y ∷ ys) zero x h g = rw (g, (both_true (f y) (all_fit f ys) h).1)
all_fit_set f (y ∷ ys) (suc i) x h g =
    let b = both_true (f y) (all_fit f ys) h in
    rw (b.0, all_fit_set f ys i x b.1 g)

-- ---- quantisers

-- a range as bounds
pub within_bounds : (low high v : ℕ) → within low high v ≡ true → (low ≤ v) × (v ≤ high)
unfolding within
within_bounds low high v h =
    let b = both_true (leb low v) (leb v high) h in
    (leb-true _ _ b.0, leb-true _ _ b.1)

pub in_bounds : (low high v : ℕ) → low ≤ v → v ≤ high → within low high v ≡ true
unfolding within
in_bounds low high v l h = simp (le-leb low v l, le-leb v high h)

pub quantiser_is : {q : ℕ} → quantiser_fits q ≡ true → Quant q
unfolding quantiser_fits
quantiser_is {q} h =
    let b = within_bounds 1 31 q h in
    record { low = b.0; high = b.1 }

pub is_quantiser : {q : ℕ} → Quant q → quantiser_fits q ≡ true
unfolding quantiser_fits
is_quantiser {q} h = in_bounds 1 31 q h.low h.high

pub none-fits : pending_fits None ≡ true
unfolding pending_fits
none-fits = refl

pub waits-fits : {q : ℕ} → Quant q → (k : _) → pending_fits (Some (k, q)) ≡ true
unfolding pending_fits
waits-fits h k = is_quantiser h

-- ---- the state

pub record WriterFits (w : CbrWriter) : Type 0 where
  pub model_fits_lem : model_fits_at w.variable w.model ≡ true
  pub whole_bytes : w.model.prev_end_bits % 8 ≡ 0
  pub few : 8 * w.model.removed ≤ w.model.prev_end_bits
  pub stuffed : 8 * w.stuffing_bytes ≤ w.model.prev_end_bits
  pub targets : all_fit (λ t. leb t farthest) w.target_bits ≡ true
  pub quantisers : all_fit quantiser_fits w.q ≡ true
  pub pending : pending_fits w.pending ≡ true
  pub cadence : cadence_fits w.cadence ≡ true

pub writer_fits_lem : {w : CbrWriter} → writer_fits w ≡ true → WriterFits w
unfolding writer_fits
writer_fits_lem {w} h =
    let a = both_true (model_fits_at w.variable w.model) _ h in
    let b = both_true (eqb (w.model.prev_end_bits % 8) 0) _ a.1 in
    let c = both_true (leb (8 * w.model.removed) w.model.prev_end_bits) _ b.1 in
    let d = both_true (leb (8 * w.stuffing_bytes) w.model.prev_end_bits) _ c.1 in
    let e = both_true (all_fit (λ t. leb t farthest) w.target_bits) _ d.1 in
    let f = both_true (all_fit quantiser_fits w.q) _ e.1 in
    let g = both_true (pending_fits w.pending) _ f.1 in
    record {
      model_fits_lem = a.0;
      whole_bytes = eqb-true _ _ b.0;
      few = leb-true _ _ c.0;
      stuffed = leb-true _ _ d.0;
      targets = e.0;
      quantisers = f.0;
      pending = g.0;
      cadence = g.1;
    }

pub fitting-writer : (w : CbrWriter) → WriterFits w → writer_fits w ≡ true
unfolding writer_fits
fitting-writer w f =
    simp (f.model_fits_lem, eq-eqb _ _ f.whole_bytes, le-leb _ _ f.few, le-leb _ _ f.stuffed, f.targets, f.quantisers, f.pending, f.cadence)

-- ---- the model, at its rate

module _ (w : CbrWriter) (f : WriterFits w) where
  pub params_range : params_in_range w.model.params ≡ true
  params_range = fit_in_at w.variable w.model.params (fits-params-at w.variable w.model f.model_fits_lem)

  pub end_far : w.model.prev_end_bits ≤ farthest
  end_far = (range_fits (fits_range_at w.variable w.model f.model_fits_lem)).end_high

  pub model-constant : w.variable ≡ false → model_fits w.model ≡ true
  model-constant e = rw e at f.model_fits_lem

  pub model-variable : w.variable ≡ true → variable_fits w.model ≡ true
  model-variable e = rw e at f.model_fits_lem
