-- The ways through the tests of an offer, by what the model answers.
-- Assumes nothing.
use Rattle.std.specs.Prelude.{Result, Ok, Err}
use mathlib.Core.Path.{◌≡◌, ◌∙◌}
use mathlib.Core.Bool.{Bool}
use Prim.Native.Nat.{ℕ, ◌+◌, ◌*◌, ◌/◌, ◌≤◌, ◌<◌}
use native.Mathlib.Omega.{arith}
use native.Mathlib.Nat.{div-lt_iff_lt-mul}
use borrow.Author.Tests.{lt-ltb, le-ltb}
use Rattle.bits.specs.Bits.{pick}
use Rattle.bits.specs.Refusals.{Answer}
use Rattle.vbv.specs.Answers.{model_answer, removal_answer}
use Rattle.vbv.proofs.Numbers.{model_case, removal_case}
use Rattle.vbv.specs.Steps.{ParamsFit, model_of, removal_of}
use Rattle.vbv.specs.Model.{farthest, delay_for_picture, remove_picture, max_end_bits}
use Rattle.vbr.specs.Variable.{remove_variable}
use Rattle.vbv.specs.declared.RemovalInterval.{RemovalInterval}
use Rattle.vbv.specs.declared.VbvParams.{VbvParams}
use Rattle.vbv.specs.declared.VbvCbrModel.{VbvCbrModel}
use Rattle.vbv.specs.declared.VbvError.{VbvError}
use Rattle.vbv.specs.declared.VbvError.TheVariants.{Early, Range}
use Rattle.vbv.specs.declared.VbvRemovalError.{VbvRemovalError}
use Rattle.vbv.specs.declared.VbvRemovalError.TheVariants as rm
use Rattle.rate_control.specs.Offer.{first_delay}
use Rattle.rate_control.specs.Steps.{stuffing_up_to, ready_by, by_end, not_removed, by_size, by_most, with_stuffing, by_least, flowed_by, by_filled}
use Rattle.rate_control.specs.declared.CbrError.TheVariants.{Model}
use Rattle.rate_control.specs.declared.Extent.{Extent}
use Rattle.rate_control.specs.declared.Placement.{Placement}
use Rattle.rate_control.specs.declared.Untested.{Untested}
use Rattle.rate_control.specs.declared.Untested.TheVariants.{Refused}

-- ---- the first delay

pub first-low : (p : VbvParams) → ParamsFit p → first_delay p < 65536
unfolding first_delay
first-low p f =
    (div-lt_iff_lt-mul {k = 4 * p.bit_rate} {x = 90000 * p.buffer_size_bits * 3} {y = 65536} (omega arith)).1 (omega arith)

-- ---- what the model refuses, and what follows a model that it gives

module _ (next : VbvCbrModel) (x : Extent) (z : ℕ) (r : Result ℕ VbvError) (v : Answer ℕ) (e : model_answer r ≡ v) where
  delay_no : (error : VbvError) → r ≡ Err error → Err (Refused (Model error)) ≡ ready_by next x z (model_of v)
  unfolding ready_by
  delay_no error h = rw (model_case h e)

module _ (m : VbvCbrModel) (x : Extent) (z : ℕ) (r : Result VbvCbrModel VbvRemovalError) (v : Answer VbvCbrModel) (e : removal_answer r ≡ v) where
  pub end_no : (error : VbvError) → r ≡ Err (rm.Model error) → Err (Refused (Model error)) ≡ by_end m x z (removal_of v)
  unfolding by_end
  end_no error h = rw (removal_case h e)

  pub told_no : (next : VbvCbrModel) (s : Result ℕ VbvError) (error : VbvError) → r ≡ Ok next → model_answer s ≡ delay_for_picture m x.position → s ≡ Err error
      → Err (Refused (Model error)) ≡ by_end m x z (removal_of v)
  unfolding by_end
  told_no next s error h k l = delay_no next x z s _ k error l ∙ rw (removal_case h e)

module _ (m : VbvCbrModel) (x : Extent) (z : ℕ) (i : RemovalInterval) (r : Result ℕ VbvError) (v : Answer ℕ) (e : model_answer r ≡ v) where
  pub most_no : (error : VbvError) → r ≡ Err error → Err (Refused (Model error)) ≡ by_most m x z i (model_of v)
  unfolding by_most
  most_no error h = rw (model_case h e)

  module _ (most : ℕ) (h : r ≡ Ok most) where
    pub most-early : (u : Untested) → most < x.position → u ≡ Refused (Model Early) → Err u ≡ by_most m x z i (model_of v)
    unfolding by_most pick
    most-early u g k = rw (model_case h e, lt-ltb _ _ g, k)

    module _ (g : x.position ≤ most) (s : Result VbvCbrModel VbvRemovalError) (k : removal_answer s ≡ remove_picture m x.content i) where
      pub size_no : (error : VbvRemovalError) → s ≡ Err error → Err (not_removed error) ≡ by_most m x z i (model_of v)
      unfolding by_most by_size pick
      size_no error l = rw (model_case h e, le-ltb _ _ g, removal_case l k)

      pub size_yes : (next : VbvCbrModel) (j : Result Placement Untested) → s ≡ Ok next → j ≡ by_end m x z (removal_of (remove_picture m (x.content + 8 * z) i))
          → j ≡ by_most m x z i (model_of v)
      unfolding by_most by_size pick
      size_yes next j l q = q ∙ rw (model_case h e, le-ltb _ _ g, removal_case l k)

-- ---- at a variable rate

module _ (x : Extent) (i : RemovalInterval) (r v : Result VbvCbrModel VbvError) (e : r ≡ v) (n : VbvCbrModel) (h : r ≡ Ok n)
    (s : Result VbvCbrModel VbvRemovalError) (k : removal_answer s ≡ remove_variable n x.content i) where
  pub flow_no : (error : VbvRemovalError) → s ≡ Err error → Err (not_removed error) ≡ by_filled x i v
  unfolding by_filled flowed_by
  flow_no error l = rw (← e, h, removal_case l k)

-- ---- the end

module _ (m : VbvCbrModel) (x : Extent) (i : RemovalInterval) (last : Bool) (r : Result ℕ VbvError) (v : Answer ℕ) (e : model_answer r ≡ v) where
  pub least_no : (error : VbvError) → r ≡ Err error → Err (Refused (Model error)) ≡ by_least m x i last (model_of v)
  unfolding by_least
  least_no error h = rw (model_case h e)

  module _ (least z : ℕ) (h : r ≡ Ok least) (k : z ≡ stuffing_up_to least x.content last) where
    pub far_stuffing : (u : Untested) → farthest / 8 < z → u ≡ Refused (Model Range) → Err u ≡ by_least m x i last (model_of v)
    unfolding by_least with_stuffing pick
    far_stuffing u g q = rw (model_case h e, ← k, lt-ltb (farthest / 8) z g, q)

    module _ (g : z ≤ farthest / 8) where
      pub far_end : (u : Untested) → farthest < x.content + 8 * z → u ≡ Refused (Model Range) → Err u ≡ by_least m x i last (model_of v)
      unfolding by_least with_stuffing pick
      far_end u l q = rw (model_case h e, ← k, le-ltb (farthest / 8) z g, lt-ltb farthest (x.content + 8 * z) l, q)

      pub near-end : (j : Result Placement Untested) → x.content + 8 * z ≤ farthest → j ≡ by_most m x z i (model_of (max_end_bits m)) → j ≡ by_least m x i last (model_of v)
      unfolding by_least with_stuffing pick
      near-end j l q = q ∙ rw (model_case h e, ← k, le-ltb (farthest / 8) z g, le-ltb farthest (x.content + 8 * z) l)
