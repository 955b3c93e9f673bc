-- The bits that a picture of each kind is meant to have (paper 01, 'A placed picture'; `type_target_bits`): the bits of a group of pictures, shared
-- out by weight.
-- Assumes nothing.
use Rattle.std.specs.Prelude.{ℕ, ◌+◌, ◌*◌, ◌/◌, List, [], ◌∷◌}
use Rattle.vbv.specs.declared.VbvParams.{VbvParams}

-- in a group one I picture, its anchors as P pictures, and B pictures before each anchor
unfoldable pub group_pictures : ℕ → ℕ → ℕ
group_pictures between anchors = 1 + anchors * (between + 1)

-- a picture's share of the rate, whole bits, for each of them
unfoldable pub group_bits : VbvParams → ℕ → ℕ → ℕ
group_bits p between anchors = p.bit_rate * p.frd / p.frn * group_pictures between anchors

-- weights 40, 16 and 9 for I, P and B
unfoldable pub group_weight : ℕ → ℕ → ℕ
group_weight between anchors = 40 + 16 * anchors + 9 * (anchors * between)

unfoldable pub target : VbvParams → ℕ → ℕ → ℕ → ℕ
target p between anchors weight = group_bits p between anchors * weight / group_weight between anchors

unfoldable pub targets : VbvParams → ℕ → ℕ → List ℕ
targets p between anchors = target p between anchors 40 ∷ target p between anchors 16 ∷ target p between anchors 9 ∷ []
