-- The model after a removal with d units delivered, whatever the model itself said: so a writer's first picture, which starts the model, is removed like any other.
-- Assumes nothing.
use mathlib.Core.Path.{◌≡◌, refl, sym, ap}
use mathlib.Core.Bool.{Bool, true, false}
use mathlib.Core.List.{List}
use Prim.Native.Nat.{ℕ, ◌+◌, ◌*◌, ◌≤◌, ◌<◌}
use native.Mathlib.Omega.{arith}
use native.Mathlib.Nat.{mod-lt, div-lt_iff_lt-mul}
use lib.ListN.{length}
use Rattle.vbv.specs.declared.RemovalInterval.{RemovalInterval}
use Rattle.vbv.specs.declared.VbvCbrModel.{VbvCbrModel}
use Rattle.vbv.specs.Annex.{unit, gain, overflows, beyond}
use Rattle.vbv.specs.Model.{params_in_range, delivered, model_fits, at_delivered, after_removal, periods}
use Rattle.vbv.specs.Steps.{EndFits}
use Rattle.vbv.specs.Patch.{starts_picture, patched}
use Rattle.vbv.proofs.Fitting.{RangeFits, in_range, model_fits_lem, fitting-model, fitting-end, unit_pos, unit_pos_in}
use Rattle.vbv.proofs.Laws.{over_units, fits-params, delivered_at_lem, delivered-after, picture-removed, removes}
use Rattle.vbv.proofs.Told.{next_delivered_is}
use Rattle.vbv.proofs.Patching.{patched-length, patch-none}

pub record ModelAfter (m : VbvCbrModel) (end d : ℕ) (next : VbvCbrModel) : Type 0 where
  pub params_kept : next.params ≡ m.params
  pub end_is : next.prev_end_bits ≡ end
  pub count_is : next.removed ≡ m.removed + 1
  pub is_started : next.started ≡ true
  pub delivered_is : delivered next ≡ d

pub model-after : (m : VbvCbrModel) (end d : ℕ) → ModelAfter m end d (after_removal m end d)
unfolding after_removal
model-after m end d = record { params_kept = refl; end_is = refl; count_is = refl; is_started = refl; delivered_is = delivered-after m end d }

-- the same with d units delivered and nothing removed
pub record ModelWith (m : VbvCbrModel) (d : ℕ) (next : VbvCbrModel) : Type 0 where
  pub params_kept : next.params ≡ m.params
  pub end_kept : next.prev_end_bits ≡ m.prev_end_bits
  pub count_kept : next.removed ≡ m.removed
  pub is_started : next.started ≡ true
  pub delivered_is : delivered next ≡ d

pub model-with : (m : VbvCbrModel) (d : ℕ) → ModelWith m d (at_delivered m d)
unfolding at_delivered
model-with m d = record { params_kept = refl; end_kept = refl; count_kept = refl; is_started = refl; delivered_is = delivered_at_lem m d }

-- the rest is less than a bit
pub at_rest : (m : VbvCbrModel) (d : ℕ) → 0 < unit m.params → (at_delivered m d).rest < unit m.params
unfolding at_delivered
at_rest m d u = mod-lt d u

-- it hangs on the parameters and the count alone
pub after_same : (m n : VbvCbrModel) (end d : ℕ) → n.params ≡ m.params → n.removed ≡ m.removed → after_removal n end d ≡ after_removal m end d
unfolding after_removal
after_same m n end d e f = rw (e, f)

-- whatever the ratio: with at most a full buffer delivered a state is in its ranges
pub with_range : (m : VbvCbrModel) (d : ℕ) → RangeFits m → d ≤ (m.prev_end_bits + m.params.buffer_size_bits) * unit m.params
    → RangeFits (at_delivered m d)
unfolding at_delivered
with_range m d v l =
    let u = unit_pos_in m.params v.params_in in
    let b = (in_range m.params v.params_in).1 in
    let q = (div-lt_iff_lt-mul {k = unit m.params} {x = d} {y = m.prev_end_bits + m.params.buffer_size_bits + 1} u).1 (omega arith) in
    record { params_in = v.params_in; whole_high = omega arith; rest_low = mod-lt d u; end_high = v.end_high; removed_high = v.removed_high }

pub after_range : (m : VbvCbrModel) (end d : ℕ) → params_in_range m.params ≡ true → EndFits m end
    → d ≤ (end + m.params.buffer_size_bits) * unit m.params → RangeFits (after_removal m end d)
unfolding after_removal
after_range m end d r g l =
    let u = unit_pos_in m.params r in
    let b = (in_range m.params r).1 in
    let q = (div-lt_iff_lt-mul {k = unit m.params} {x = d} {y = end + m.params.buffer_size_bits + 1} u).1 (omega arith) in
    record { params_in = r; whole_high = omega arith; rest_low = mod-lt d u; end_high = g.end_far; removed_high = omega arith }

module _ (m : VbvCbrModel) (f : model_fits m ≡ true) (d : ℕ) (o : overflows m.params m.prev_end_bits d ≡ false) where
  -- a model that does not overflow with d delivered fits with d delivered
  at-fits : model_fits (at_delivered m d) ≡ true
  unfolding at_delivered unit
  at-fits =
      let v = model_fits_lem f in
      let u = unit_pos m.params (fits-params m f) in
      let l = over_units m.params m.prev_end_bits d o in
      let q = (div-lt_iff_lt-mul {k = unit m.params} {x = d} {y = m.prev_end_bits + m.params.buffer_size_bits + 1} u).1 (omega arith) in
      fitting-model _
      (record { params_fit = v.params_fit; whole_high = omega arith; rest_low = mod-lt d u; end_high = v.end_high; removed_high = v.removed_high })

  -- validity is kept
  pub after-fits : (end : ℕ) (i : RemovalInterval) → EndFits m end → beyond m.params end d ≡ false
      → model_fits (after_removal m end (d + gain m.params (periods i))) ≡ true
  unfolding at_delivered after_removal
  after-fits end i g u =
      let n : VbvCbrModel = at_delivered m d in
      let e = delivered_at_lem m d in
      let r = picture-removed n end i _ (removes n end i at-fits refl (fitting-end n end (record { end_far = g.end_far; end_low = g.end_low; count = g.count })) (rw e o) (rw e u)) in
      rw (next_delivered_is n i, e) at r.fits

-- patching keeps the length
pub patched_size : (s : List ℕ) (d : ℕ) → length (patched s d) ≡ length s
patched_size s d = go (starts_picture s) refl
  where
    go : (t : Bool) → starts_picture s ≡ t → length (patched s d) ≡ length s
    go true h = patched-length s d h
    go false h = ap length (sym (patch-none s d h).1)
