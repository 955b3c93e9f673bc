-- A writer's state: its ranges, and what it keeps for each kind of picture (paper 01, 'A placed picture').
-- Assumes nothing.
use Rattle.std.specs.Prelude.{ℕ, ◌+◌, ◌-◌, ◌*◌, ◌/◌, ◌%◌, min, max, List, [], ◌∷◌, Bool, true, false, not, ◌&&◌, leb, ltb, eqb, get_or, Option, Some, None}
use Rattle.bits.specs.Bits.{pick}
use Rattle.vbv.specs.Model.{farthest}
use Rattle.vbr.specs.Variable.{model_fits_at}
use Rattle.cadence.specs.Cadence.{cadence_fits}
use Rattle.layers.specs.declared.PictureKind.{PictureKind}
use Rattle.layers.specs.declared.PictureKind.TheVariants.{I, P, B}
use Rattle.rate_control.specs.Create.{within}
use Rattle.rate_control.specs.declared.CbrWriter.{CbrWriter}

-- ---- ranges

-- a quantiser_scale_code (6.3.16)
unfoldable pub quantiser_fits : ℕ → Bool
unfolding within
quantiser_fits q = within 1 31 q

unfoldable pub all_fit : (ℕ → Bool) → List ℕ → Bool
all_fit f [] = true
all_fit f (x ∷ xs) = f x && all_fit f xs

unfoldable pub pending_fits : Option (PictureKind × ℕ) → Bool
pending_fits None = true
pending_fits (Some x) = quantiser_fits x.1

-- the model's ranges, at a variable rate its own (request 06); the previous end is whole bytes, at least as many as pictures placed, and as bytes stuffed; targets up to 2^48, quantisers 1 to 31; outside film no cadence is kept
unfoldable pub writer_fits : CbrWriter → Bool
writer_fits w =
    model_fits_at w.variable w.model
    && (eqb (w.model.prev_end_bits % 8) 0
    && (leb (8 * w.model.removed) w.model.prev_end_bits
    && (leb (8 * w.stuffing_bytes) w.model.prev_end_bits
    && (all_fit (λ t. leb t farthest) w.target_bits
    && (all_fit quantiser_fits w.q
    && (pending_fits w.pending && cadence_fits w.cadence))))))

-- ---- by kind

abbrev pub index : PictureKind → ℕ
index I = 0
index P = 1
index B = 2

-- one of three, for a kind
unfoldable pub of : PictureKind → List ℕ → ℕ
of k xs = get_or xs (index k) 0

-- the pending picture is of another kind
unfoldable pub clashes : Option (PictureKind × ℕ) → PictureKind → Bool
clashes None k = false
clashes (Some x) k = not (eqb (index x.0) (index k))

-- the quantiser that a layer is asked for with: the pending picture's, or the kind's
unfoldable pub pending_or : Option (PictureKind × ℕ) → ℕ → ℕ
pending_or None q = q
pending_or (Some x) q = x.1

unfoldable pub asked : CbrWriter → PictureKind → ℕ
unfolding pending_or of
asked w k = pending_or w.pending (of k w.q)

-- ---- the quantiser

-- with which a picture that is too large is to be encoded again
unfoldable pub coarser : ℕ → ℕ
coarser q = min 31 (q + 1 + q / 4)

-- the kind's next quantiser, from the one just placed and the layer's bits; a target of 0 counts as 1
unfoldable pub steered : ℕ → ℕ → ℕ → ℕ
steered q target bits =
    pick (ltb (6 * max 1 target) (5 * bits)) (min 31 (q + 1))
    (pick (ltb (10 * bits) (7 * max 1 target)) (max 1 (q - 1)) q)
