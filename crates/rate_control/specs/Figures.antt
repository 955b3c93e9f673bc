-- The figures of paper 01 that are marked P: one joint statement about the definitions.
-- Assumes nothing.
use Rattle.std.specs.Prelude.{◌≡◌, true, List, [], ◌∷◌, ℕ, zero, suc, ◌+◌, ◌*◌, ◌≤◌, ◌<◌}
use Rattle.layers.specs.declared.PictureKind.TheVariants.{I, P, B}
use Rattle.vbv.specs.declared.VbvParams.{VbvParams}
use Rattle.vbv.specs.Figures.{ModelFigures, at25}
use Rattle.vbv.specs.Params.{params_of, same_params}
use Rattle.rate_control.specs.Targets.{targets}
use Rattle.rate_control.specs.Writer.{of, coarser, steered}
use Rattle.rate_control.specs.Offer.{first_delay}

-- the first n quantisers of a picture that is sent back again and again
unfoldable pub retried : ℕ → ℕ → List ℕ
retried zero q = []
retried (suc n) q = coarser q ∷ retried n (coarser q)

pub record WriterFigures : Type 0 where
  pub model : ModelFigures
  pub first_delay_lem : first_delay (at25 1000000 327680) ≡ 22118
  pub targets_of_three : targets (at25 1000000 327680) 2 4 ≡ 118181 ∷ 47272 ∷ 26590 ∷ []
  pub retries_from_1 : retried 11 1 ≡ 2 ∷ 3 ∷ 4 ∷ 6 ∷ 8 ∷ 11 ∷ 14 ∷ 18 ∷ 23 ∷ 29 ∷ 31 ∷ []

-- figures that no paper has: the target of each kind; targets at 50/2; and at 30,000/1001, where a picture's bits are no whole number
pub record TargetFigures : Type 0 where
  pub of_i : of I (targets (at25 1000000 327680) 2 4) ≡ 118181
  pub of_p : of P (targets (at25 1000000 327680) 2 4) ≡ 47272
  pub of_b : of B (targets (at25 1000000 327680) 2 4) ≡ 26590
  -- 50/2, which is 25/1 (request 02)
  pub of_50_over_2 : targets (params_of 2500 20 (50, 2)) 2 4 ≡ 118181 ∷ 47272 ∷ 26590 ∷ []
  pub floored : targets (record { bit_rate = 1000000; buffer_size_bits = 327680; frn = 30000; frd = 1001 }) 2 4 ≡ 98581 ∷ 39432 ∷ 22180 ∷ []

-- the first delay is three quarters of the buffer in ticks, whole ones, for every rate and buffer; and further steps of a retry than those from 1
pub record Rules : Type 0 where
  pub first_delay_low : (p : VbvParams) → 4 * p.bit_rate * first_delay p ≤ 270000 * p.buffer_size_bits
  pub first_delay_high : (p : VbvParams) → 1 ≤ p.bit_rate → 270000 * p.buffer_size_bits < 4 * p.bit_rate * (first_delay p + 1)
  pub coarser_5 : coarser 5 ≡ 7
  pub coarser_10 : coarser 10 ≡ 13
  pub coarser_20 : coarser 20 ≡ 26
  pub coarser_24 : coarser 24 ≡ 31
  pub coarser_30 : coarser 30 ≡ 31

-- of a frame rate only the value counts (request 02): the same targets and first delay
pub record ValueTargets : Type 0 where
  pub same_targets : (p q : VbvParams) (between anchors : ℕ) → same_params p q ≡ true → targets p between anchors ≡ targets q between anchors
  pub same_first_delay : (p q : VbvParams) → same_params p q ≡ true → first_delay p ≡ first_delay q

-- figures that no paper has: the edges of the rule by which a quantiser goes up, stays or goes down, for a target of 1,000; 31 and 1 are kept to; a target of 0 counts as 1
pub record Steering : Type 0 where
  pub stays_at_1200 : steered 10 1000 1200 ≡ 10
  pub up_at_1201 : steered 10 1000 1201 ≡ 11
  pub stays_at_700 : steered 10 1000 700 ≡ 10
  pub down_at_699 : steered 10 1000 699 ≡ 9
  pub most : steered 31 1000 1201 ≡ 31
  pub least : steered 1 1000 699 ≡ 1
  pub no_target : steered 10 0 2 ≡ 11
