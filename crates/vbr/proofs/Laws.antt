-- The laws of the model at a variable rate that the crates above cite: of each step that gave a model, and of what is told.
-- Assumes nothing.
use mathlib.Core.Path.{◌≡◌, refl, sym}
use mathlib.Core.Bool.{true, false}
use Prim.Native.Nat.{ℕ, ◌+◌, ◌*◌, ◌≤◌}
use native.Mathlib.Omega.{arith}
use Rattle.bits.specs.Refusals.{value, refused, violate}
use Rattle.bits.proofs.Flags.{no, held, failed, was_no, was_held}
use Rattle.bits.proofs.Following.{refused-value}
use Rattle.vbv.specs.Annex.{unit, overflows, beyond, occupancy, full, arrived}
use Rattle.vbv.specs.Model.{params_in_range, delivered, at_delivered, after_removal, periods, end_fits}
use Rattle.vbv.specs.Steps.{EndFits}
use Rattle.vbv.specs.declared.RemovalInterval.{RemovalInterval}
use Rattle.vbv.specs.declared.VbvParams.{VbvParams}
use Rattle.vbv.specs.declared.VbvCbrModel.{VbvCbrModel}
use Rattle.vbv.proofs.Fitting.{unit_pos_in, end_fits_lem, fitting-end}
use Rattle.vbv.proofs.Laws.{units_over, occupancy-most_in}
use Rattle.vbv.proofs.Arrival.{first-most, arrived-most, arrived-full}
use Rattle.vbv.proofs.After.{model-with, model-after, with_range, after_range}
use Rattle.vbr.specs.Variable.{variable_fits, of_filled, new_variable, start_variable, remove_variable, occupancy_variable}
use Rattle.vbr.proofs.Fitting.{variable_fits_lem, variable_range, fitting-variable}

-- a state that fits has parameters in their ranges
pub variable-params : (m : VbvCbrModel) → variable_fits m ≡ true → params_in_range m.params ≡ true
variable-params m f = (variable_fits_lem f).params_in

-- a started one never overflows, and holds at most the buffer
pub no_overflow : (m : VbvCbrModel) → variable_fits m ≡ true → m.started ≡ true → overflows m.params m.prev_end_bits (delivered m) ≡ false
no_overflow m f s = (variable_fits_lem f).at_most_full s

pub held-most : (m : VbvCbrModel) → variable_fits m ≡ true → m.started ≡ true
    → occupancy m.params m.prev_end_bits (delivered m) ≤ m.params.buffer_size_bits
held-most m f s = occupancy-most_in m.params (variable-params m f) m.prev_end_bits (delivered m) (no_overflow m f s)

-- validity is kept: with a full buffer, and after a removal, whatever the state had delivered
pub full-fits : (m : VbvCbrModel) → variable_fits m ≡ true → variable_fits (at_delivered m (full m.params 0)) ≡ true
full-fits m f =
    let p = m.params in
    let v = variable_fits_lem f in
    let w = model-with m (full p 0) in
    let l : full p 0 ≤ (m.prev_end_bits + p.buffer_size_bits) * unit p = omega (arith, first-most p) in
    fitting-variable _ (with_range m (full p 0) (variable_range v) l)
    (λ s. rw (w.delivered_is, w.params_kept, w.end_kept) (units_over p m.prev_end_bits (full p 0) l))

pub after-fits : (m : VbvCbrModel) (end d n : ℕ) → variable_fits m ≡ true → EndFits m end
    → variable_fits (after_removal m end (arrived true m.params end d n)) ≡ true
after-fits m end d n f g =
    let p = m.params in
    let w = model-after m end (arrived true p end d n) in
    fitting-variable _ (after_range m end (arrived true p end d n) (variable-params m f) g (arrived-most p end d n))
    (λ s. rw (w.delivered_is, w.params_kept, w.end_is) (arrived-full p end d n))

-- a model made of parameters
pub record VariableMade (p : VbvParams) (m : VbvCbrModel) : Type 0 where
  pub params_fit : params_in_range p ≡ true
  pub params_kept : m.params ≡ p
  pub at_zero : m.prev_end_bits ≡ 0
  pub none_removed : m.removed ≡ 0
  pub unstarted : m.started ≡ false
  pub fits : variable_fits m ≡ true

pub variable-made : (p : VbvParams) (m : VbvCbrModel) → new_variable p ≡ value m → VariableMade p m
unfolding new_variable
variable-made p m h =
    let a = was_held (params_in_range p) _ _ refused-value h in
    let e : m ≡ record { params = p; whole = 0; rest = 0; prev_end_bits = 0; removed = 0; started = false } = cc a.1 in
    rw e
    (record {
      params_fit = a.0;
      params_kept = refl;
      at_zero = refl;
      none_removed = refl;
      unstarted = refl;
      fits =
          fitting-variable _
          (record { params_in = a.0; whole_high = omega arith; rest_low = unit_pos_in p a.0; end_high = omega arith; removed_high = omega arith })
          (λ s. cc);
    })

pub variable_unmade : (p : VbvParams) → params_in_range p ≡ false → new_variable p ≡ refused 12 0 0 0
unfolding new_variable
variable_unmade p h = sym (failed _ _ _ h refl)

pub variable_makes : (p : VbvParams) → params_in_range p ≡ true
    → new_variable p ≡ value (record { params = p; whole = 0; rest = 0; prev_end_bits = 0; removed = 0; started = false })
unfolding new_variable
variable_makes p h = sym (held _ _ _ h refl)

-- a started model
pub record VariableStarted (m next : VbvCbrModel) : Type 0 where
  pub fitted : variable_fits m ≡ true
  pub unstarted : m.started ≡ false
  pub next_is : next ≡ at_delivered m (full m.params 0)
  pub delivered_is : delivered next ≡ full m.params 0
  pub params_kept : next.params ≡ m.params
  pub end_kept : next.prev_end_bits ≡ m.prev_end_bits
  pub count_kept : next.removed ≡ m.removed
  pub is_started : next.started ≡ true
  pub fits : variable_fits next ≡ true

pub variable_started : (m next : VbvCbrModel) → start_variable m ≡ value next → VariableStarted m next
unfolding start_variable
variable_started m next h =
    let a = was_held (variable_fits m) _ _ refused-value h in
    let b = was_no _ _ _ refused-value a.1 in
    let e : next ≡ at_delivered m (full m.params 0) = cc b.1 in
    let w = model-with m (full m.params 0) in
    rw e
    (record {
      fitted = a.0;
      unstarted = b.0;
      next_is = refl;
      delivered_is = w.delivered_is;
      params_kept = w.params_kept;
      end_kept = w.end_kept;
      count_kept = w.count_kept;
      is_started = w.is_started;
      fits = full-fits m a.0;
    })

pub variable-starts : (m : VbvCbrModel) → variable_fits m ≡ true → m.started ≡ false → start_variable m ≡ value (at_delivered m (full m.params 0))
unfolding start_variable
variable-starts m f s = sym (held _ _ _ f (no _ _ _ s refl))

-- a picture removed
pub record VariableRemoved (m : VbvCbrModel) (end : ℕ) (i : RemovalInterval) (next : VbvCbrModel) : Type 0 where
  pub fitted : variable_fits m ≡ true
  pub was_started : m.started ≡ true
  pub end_fitted : EndFits m end
  pub no_underflow : beyond m.params end (delivered m) ≡ false
  pub next_is : next ≡ after_removal m end (arrived true m.params end (delivered m) (periods i))
  pub delivered_is : delivered next ≡ arrived true m.params end (delivered m) (periods i)
  pub params_kept : next.params ≡ m.params
  pub end_is : next.prev_end_bits ≡ end
  pub count_is : next.removed ≡ m.removed + 1
  pub is_started : next.started ≡ true
  pub fits : variable_fits next ≡ true

pub variable-removed : (m : VbvCbrModel) (end : ℕ) (i : RemovalInterval) (next : VbvCbrModel) → remove_variable m end i ≡ value next
    → VariableRemoved m end i next
unfolding remove_variable
variable-removed m end i next h =
    let a = was_held (variable_fits m) _ _ refused-value h in
    let b = was_held m.started _ _ refused-value a.1 in
    let c = was_held (end_fits m end) _ _ refused-value b.1 in
    let u = was_no _ _ _ refused-value c.1 in
    let e : next ≡ after_removal m end (arrived true m.params end (delivered m) (periods i)) = cc u.1 in
    let w = model-after m end (arrived true m.params end (delivered m) (periods i)) in
    rw e
    (record {
      fitted = a.0;
      was_started = b.0;
      end_fitted = end_fits_lem c.0;
      no_underflow = u.0;
      next_is = refl;
      delivered_is = w.delivered_is;
      params_kept = w.params_kept;
      end_is = w.end_is;
      count_is = w.count_is;
      is_started = w.is_started;
      fits = after-fits m end (delivered m) (periods i) a.0 (end_fits_lem c.0);
    })

pub variable_removes : (m : VbvCbrModel) (end : ℕ) (i : RemovalInterval) → variable_fits m ≡ true → m.started ≡ true → end_fits m end ≡ true
    → beyond m.params end (delivered m) ≡ false
    → remove_variable m end i ≡ value (after_removal m end (arrived true m.params end (delivered m) (periods i)))
unfolding remove_variable
variable_removes m end i f s g u = sym (held _ _ _ f (held _ _ _ s (held _ _ _ g (no _ _ _ u refl))))

-- what a model that fits and was started tells
module _ (m : VbvCbrModel) (f : variable_fits m ≡ true) (s : m.started ≡ true) where
  pub variable-removal_told : (end : ℕ) (i : RemovalInterval) → EndFits m end
      → remove_variable m end i
      ≡ violate 10 m.removed 0 0 (beyond m.params end (delivered m))
      (value (after_removal m end (arrived true m.params end (delivered m) (periods i))))
  unfolding remove_variable
  variable-removal_told end i h = sym (held _ _ _ f (held _ _ _ s (held _ _ _ (fitting-end m end h) refl)))

  pub variable-occupancy_told : occupancy_variable m ≡ value (occupancy m.params m.prev_end_bits (delivered m))
  unfolding occupancy_variable of_filled
  variable-occupancy_told = sym (held _ _ _ f (held _ _ _ s refl))
