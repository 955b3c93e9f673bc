-- The steps of the walk give the pictures of a stream, which lie one after another within it; those of MPEG-1 are all frames.
-- Assumes nothing.
use mathlib.Core.Path.{◌≡◌, refl, sym, ap, ◌∙◌}
use Prim.Native.Nat.{ℕ, zero, suc, ◌+◌, ◌*◌, ◌≤◌, ◌<◌}
use mathlib.Core.List.{List, [], ◌∷◌}
use mathlib.Core.Bool.{false}
use native.Mathlib.Omega.{arith}
use lib.ListN.{length, drop}
use Rattle.vbv.specs.Model.{farthest}
use Rattle.bits.specs.Refusals.{Answer, value, refused}
use Rattle.bits.proofs.Following.{then_value}
use Rattle.picture_header.proofs.FactLaws.{header_told_frame, header_told_small, picture_told_small}
use Rattle.scan.specs.Pictures.{Pic, pictures}
use Rattle.scan.specs.Order as scanned
use Rattle.scan.specs.Order.{InOrder}
use Rattle.scan.proofs.Pictures.{in_order}
use Rattle.pictures.specs.Seen.{shown, seen_of, seen_at, seen_each, seen_pictures, Sight, next_seen, nothing, one}
use Rattle.pictures.specs.Order.{Visits, ended, stopped, went_on, stopped_later, StepsGivePictures, Rising, last, next, SeenRising}
use Rattle.pictures.specs.declared.VbvStandard.{VbvStandard}
use Rattle.pictures.specs.declared.VbvStandard.TheVariants.{Mpeg1, Mpeg2}
use Rattle.picture_header.specs.declared.PictureFacts.{PictureFacts}
use Rattle.pictures.specs.declared.SeenPicture.{SeenPicture}
use Rattle.pictures.proofs.Seeing.{seen_from, seen_from_first, before, Onward, no_more, unread, one_more, onward}

-- ---- the steps

module _ (standard : VbvStandard) (s : List ℕ) (short : 8 * length s ≤ farthest) where
  -- a picture, and the steps after it
  goes_on : {i k : ℕ} {x : SeenPicture} → next_seen standard s i ≡ value (one x k) → (a : Answer (List SeenPicture)) → Visits standard s k a
      → Visits standard s i (before x a)
  goes_on e (refused n j c d) v = stopped_later e v
  goes_on e (value xs) v = went_on e v

  -- no more steps than bytes
  visits : (n i : ℕ) → length s ≤ n + i → Visits standard s i (seen_from standard s i)
  visits zero i b = go (next_seen standard s i) refl (onward standard s short i)
    where
      go : (o : Answer Sight) → next_seen standard s i ≡ o → Onward standard s i o → Visits standard s i (seen_from standard s i)
      go (value nothing) e (no_more h) = rw h (ended e)
      go (refused m j c d) e (unread h) = rw h (stopped e)
      go (value (one x k)) e (one_more l m h) = absurd (omega arith)
  visits (suc n) i b = go (λ k l. visits n k l) (next_seen standard s i) refl (onward standard s short i)
    where
      go : ((k : ℕ) → length s ≤ n + k → Visits standard s k (seen_from standard s k)) → (o : Answer Sight) → next_seen standard s i ≡ o → Onward standard s i o
          → Visits standard s i (seen_from standard s i)
      go ih (value nothing) e (no_more h) = rw h (ended e)
      go ih (refused m j c d) e (unread h) = rw h (stopped e)
      go ih (value (one x k)) e (one_more l m h) = rw h (goes_on e (seen_from standard s k) (ih k (omega arith)))

pub steps_give : StepsGivePictures
steps_give standard s short = rw (seen_from_first standard s) at (visits standard s short (length s) 0 (omega arith))

-- ---- how many there are

each_length : (standard : VbvStandard) (s : List ℕ) (qs : List Pic) (xs : List SeenPicture) → seen_each standard s qs ≡ value xs → length xs ≡ length qs
unfolding seen_each
each_length standard s [] xs h = let e : [] ≡ xs = cc in rw (← e)
each_length standard s (q ∷ qs) xs h =
    let a = then_value (seen_at standard s q) h in
    let c = then_value (seen_each standard s qs) a.2 in
    let y : a.0 ∷ c.0 ≡ xs = cc in
    rw (← y) (ap suc (each_length standard s qs c.0 c.1))

pub seen_length : (standard : VbvStandard) (s : List ℕ) (xs : List SeenPicture) → seen_pictures standard s ≡ value xs → length xs ≡ length (pictures s)
unfolding seen_pictures
seen_length standard s xs h = each_length standard s (pictures s) xs h

-- ---- MPEG-1 pictures are all frames

pub data Frames : List SeenPicture → Type 0 where
  no_frame : Frames []
  one_frame : {x : SeenPicture} {xs : List SeenPicture} → x.facts.field ≡ false → Frames xs → Frames (x ∷ xs)

pub first_frame : {x : SeenPicture} {xs : List SeenPicture} → Frames (x ∷ xs) → x.facts.field ≡ false
first_frame (one_frame h t) = h

pub other_frames : {x : SeenPicture} {xs : List SeenPicture} → Frames (x ∷ xs) → Frames xs
other_frames (one_frame h t) = t

frame_at : (s : List ℕ) (q : Pic) (x : SeenPicture) → seen_at Mpeg1 s q ≡ value x → x.facts.field ≡ false
unfolding seen_at seen_of shown
frame_at s q x h =
    let a = then_value (shown Mpeg1 (drop q.start s)) h in
    let e : seen_of q a.0 ≡ x = cc in
    sym (ap (λ (y : SeenPicture). y.facts.field) e) ∙ header_told_frame (drop q.start s) a.0 a.1

each_frame : (s : List ℕ) (qs : List Pic) (xs : List SeenPicture) → seen_each Mpeg1 s qs ≡ value xs → Frames xs
unfolding seen_each
each_frame s [] xs h = let e : [] ≡ xs = cc in rw (← e) no_frame
each_frame s (q ∷ qs) xs h =
    let a = then_value (seen_at Mpeg1 s q) h in
    let c = then_value (seen_each Mpeg1 s qs) a.2 in
    let y : a.0 ∷ c.0 ≡ xs = cc in
    rw (← y) (one_frame {x = a.0} (frame_at s q a.0 a.1) (each_frame s qs c.0 c.1))

pub all_frames : (s : List ℕ) (xs : List SeenPicture) → seen_pictures Mpeg1 s ≡ value xs → Frames xs
unfolding seen_pictures
all_frames s xs h = each_frame s (pictures s) xs h

-- ---- where the pictures lie

-- a coded delay is a number of 16 bits
shown_small : (standard : VbvStandard) (s : List ℕ) (t : ℕ × PictureFacts) → shown standard s ≡ value t → t.0 < 65536
unfolding shown
shown_small Mpeg1 s t e = header_told_small s t e
shown_small Mpeg2 s t e = picture_told_small s t e

seen_from_lem : (standard : VbvStandard) (s : List ℕ) (q : Pic) (x : SeenPicture) → seen_at standard s q ≡ value x
    → (x.pos_bits ≡ 8 * (q.start + 4)) × (x.end_bits ≡ 8 * q.end) × (x.vbv_delay < 65536)
unfolding seen_at seen_of
seen_from_lem standard s q x h =
    let a = then_value (shown standard (drop q.start s)) h in
    let e : seen_of q a.0 ≡ x = cc in (
      sym (ap (λ (y : SeenPicture). y.pos_bits) e),
      sym (ap (λ (y : SeenPicture). y.end_bits) e),
      omega (arith, ap (λ (y : SeenPicture). y.vbv_delay) e, shown_small standard (drop q.start s) a.0 a.1),
    )

module _ (standard : VbvStandard) (s : List ℕ) (short : 8 * length s ≤ farthest) where
  -- after what ends at byte e
  rising : {qs : List Pic} {e : ℕ} → InOrder (length s) e qs → (xs : List SeenPicture) → seen_each standard s qs ≡ value xs → Rising (8 * e) xs
  unfolding seen_each
  rising scanned.none xs h = let e : [] ≡ xs = cc in rw (← e) last
  rising {e = e} (scanned.more {q = q} {qs = qs} l r b o) xs h =
      let a = then_value (seen_at standard s q) h in
      let c = then_value (seen_each standard s qs) a.2 in
      let f = seen_from_lem standard s q a.0 a.1 in
      let ee : a.0.end_bits ≡ 8 * q.end = f.1 in
      let y : a.0 ∷ c.0 ≡ xs = cc in
      rw (← y)
      (next {previous = 8 * e} {x = a.0} {xs = c.0}
      (record { begins = omega arith; ends = omega arith; end_near = omega arith; delay_small = f.2 })
      (rw ee (rising o c.0 c.1)))

pub seen_rising : SeenRising
unfolding seen_pictures
seen_rising standard s xs short h = rising standard s short (in_order s) xs h
