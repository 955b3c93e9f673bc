-- How long a picture lasts in film mode, from the pictures before it and no state (paper 02, request 05, sentence by sentence). What the cadence keeps is held to this.
-- Assumes nothing.
use Rattle.std.specs.Prelude.{ℕ, ◌≡◌, Bool, true, false, not, ◌&&◌, List, [], ◌∷◌}
use Rattle.bits.specs.Bits.{pick}
use Rattle.vbv.specs.Model.{periods}
use Rattle.picture_header.specs.declared.PictureFacts.{PictureFacts}
use Rattle.cadence.specs.Cadence.{opened, interval, after}
use Rattle.cadence.specs.declared.VbvCadence.{VbvCadence}

-- the pictures before, the latest first

-- an odd number of field pictures with no frame picture among them: 'Consecutive fields pair up', so the latest waits for the second of its pair
unfoldable pub odd_fields : List PictureFacts → Bool
odd_fields [] = false
odd_fields (x ∷ xs) = x.field && not (odd_fields xs)

-- the flags of the previous anchor, repeat_first_field and top_field_first; none where there is none.
-- An I or P frame is an anchor. 'a pair, or a field left over, led by I or P is an anchor without the flag': so is a first field that is I or P; the second field of a pair says nothing
unfoldable pub anchor_flags : List PictureFacts → Bool × Bool
anchor_flags [] = (false, false)
anchor_flags (x ∷ xs) =
    pick x.field
    (pick (x.anchor && not (odd_fields xs)) (false, false) (anchor_flags xs))
    (pick x.anchor (x.repeat, x.top) (anchor_flags xs))

-- the first field of the pair that this one would be the second of is I or P
unfoldable pub led_pair : List PictureFacts → Bool
led_pair [] = false
led_pair (x ∷ xs) = odd_fields (x ∷ xs) && x.anchor

-- 'the anchor before the pair': the latest picture is the pair's first
unfoldable pub before_pair : List PictureFacts → Bool × Bool
before_pair [] = (false, false)
before_pair (x ∷ xs) = anchor_flags xs

-- a frame by these flags
unfoldable pub frame_lasts : Bool → Bool × Bool → ℕ
frame_lasts progressive f = pick f.0 (pick progressive (pick f.1 6 4) 3) 2

-- how long picture x lasts after these
unfoldable pub lasts_after : Bool → Bool → List PictureFacts → PictureFacts → ℕ
lasts_after progressive low xs x =
    pick x.field
    (pick (led_pair xs && ((before_pair xs).0 && (not progressive && not low))) 2 1)
    (pick (x.anchor && not low) (frame_lasts progressive (anchor_flags xs)) (frame_lasts progressive (x.repeat, x.top)))

-- the cadence after these pictures, of a film sequence
unfoldable pub cadence_after : Bool → Bool → List PictureFacts → VbvCadence
cadence_after progressive low [] = opened true progressive low
cadence_after progressive low (x ∷ xs) = after (cadence_after progressive low xs) x

-- what is owed: the cadence tells what the pictures before do
abbrev pub ByHistory : Type 0
ByHistory = (progressive low : Bool) (xs : List PictureFacts) (x : PictureFacts)
    → periods (interval (cadence_after progressive low xs) x) ≡ lasts_after progressive low xs x
