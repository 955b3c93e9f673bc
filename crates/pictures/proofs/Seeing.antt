-- The pictures of a stream as their headers show them, one at a time: what a step gives, and that the steps give them all.
-- Assumes nothing.
use mathlib.Core.Path.{◌≡◌, refl}
use Prim.Native.Nat.{ℕ, ◌+◌, ◌*◌, ◌≤◌, ◌<◌}
use mathlib.Core.List.{List, [], ◌∷◌}
use native.Mathlib.Omega.{arith}
use borrow.Author.Tests.{lt-ltb, le-ltb}
use lib.ListN.{length, drop}
use Rattle.vbv.specs.Model.{farthest}
use Rattle.bits.specs.Bits.{pick}
use Rattle.bits.specs.Refusals.{Answer, value, refused, and_then}
use Rattle.std.specs.Prelude.{Option, Some, None}
use Rattle.scan.specs.declared.PictureSpan.{PictureSpan}
use Rattle.scan.specs.Pictures.{Pic, pictures, next_picture}
use Rattle.scan.proofs.Pictures.{pictures_at, PictureStep, picture-step, pictures-done, pictures_walk}
use Rattle.pictures.specs.Seen.{shown, seen_of, seen_at, seen_each, seen_pictures, Sight, nothing, one, sight_at, next_seen}
use Rattle.pictures.specs.declared.VbvStandard.{VbvStandard}
use Rattle.picture_header.specs.declared.PictureFacts.{PictureFacts}
use Rattle.pictures.specs.declared.SeenPicture.{SeenPicture}

-- ---- a list of places

module _ (standard : VbvStandard) (s : List ℕ) where
  pub seen_none : seen_each standard s [] ≡ value []
  unfolding seen_each
  seen_none = refl

  -- a picture whose headers are read, before others
  pub seen_more : (start end d : ℕ) (f : PictureFacts) (qs : List Pic) (xs : List SeenPicture)
      → shown standard (drop start s) ≡ value (d, f) → seen_each standard s qs ≡ value xs
      → seen_each standard s (record { start = start; end = end } ∷ qs)
      ≡ value (record { pos_bits = 8 * (start + 4); end_bits = 8 * end; vbv_delay = d; facts = f } ∷ xs)
  unfolding seen_each seen_at seen_of
  seen_more start end d f qs xs e r = rw (e, r)

  pub seen_all : {qs : List Pic} {xs : List SeenPicture} → pictures s ≡ qs → seen_each standard s qs ≡ value xs → seen_pictures standard s ≡ value xs
  unfolding seen_pictures
  seen_all e r = rw e r

-- ---- a step, by what the scan and the headers give

module _ (standard : VbvStandard) (s : List ℕ) (short : 8 * length s ≤ farthest) where
  pub next_is : (i : ℕ) → next_seen standard s i ≡ sight_at standard s (next_picture s i)
  unfolding next_seen pick
  next_is i = rw (le-ltb farthest (8 * length s) short)

module _ (standard : VbvStandard) (s : List ℕ) (i : ℕ) where
  pub next_long : farthest < 8 * length s → refused 14 0 0 0 ≡ next_seen standard s i
  unfolding next_seen pick
  next_long h = rw (lt-ltb farthest (8 * length s) (omega arith))

  module _ (h : 8 * length s ≤ farthest) where
    pub next-done : next_picture s i ≡ None → value nothing ≡ next_seen standard s i
    unfolding sight_at
    next-done e = rw (next_is standard s (omega arith) i, e)

    module _ (p : PictureSpan) (e : next_picture s i ≡ Some p) where
      pub next-unread : (n : ℕ) → refused n 0 0 0 ≡ shown standard (drop p.at s) → refused n 0 0 0 ≡ next_seen standard s i
      unfolding sight_at seen_at
      next-unread n d = rw (next_is standard s (omega arith) i, e, ← d)

      pub next-shown : (d : ℕ) (f : PictureFacts) → value (d, f) ≡ shown standard (drop p.at s)
          → value (one (seen_of (record { start = p.at; end = p.end }) (d, f)) p.next) ≡ next_seen standard s i
      unfolding sight_at seen_at
      next-shown d f g = rw (next_is standard s (omega arith) i, e, ← g)

-- ---- the steps

-- the pictures seen from a place on
unfoldable pub seen_from : VbvStandard → List ℕ → ℕ → Answer (List SeenPicture)
seen_from standard s i = seen_each standard s (pictures_at s i)

pub seen_from_first : (standard : VbvStandard) (s : List ℕ) → seen_from standard s 0 ≡ seen_pictures standard s
unfolding seen_from seen_pictures
seen_from_first standard s = rw (pictures_walk s)

-- a picture before those that follow
abbrev pub before : SeenPicture → Answer (List SeenPicture) → Answer (List SeenPicture)
before x a = and_then a (λ xs. value (x ∷ xs))

-- one step: the last, a header refused, or a picture, its place known
pub data Onward (standard : VbvStandard) (s : List ℕ) (i : ℕ) : Answer Sight → Type 0 where
  no_more : seen_from standard s i ≡ value [] → Onward standard s i (value nothing)
  unread : {n k c e : ℕ} → seen_from standard s i ≡ refused n k c e → Onward standard s i (refused n k c e)
  one_more : {x : SeenPicture} {next : ℕ} → i < next → next ≤ length s → seen_from standard s i ≡ before x (seen_from standard s next)
      → Onward standard s i (value (one x next))

module _ (standard : VbvStandard) (s : List ℕ) (short : 8 * length s ≤ farthest) where
  by_place : (i : ℕ) (o : Option PictureSpan) → next_picture s i ≡ o → Onward standard s i (sight_at standard s o)
  unfolding sight_at seen_from seen_each
  by_place i None e = no_more (rw (pictures-done s i e))
  by_place i (Some p) e = go (seen_at standard s (record { start = p.at; end = p.end })) refl
    where
      w : PictureStep s i p.at p.end p.next
      w = picture-step s i p.at p.end p.next e

      go : (o : Answer SeenPicture) → seen_at standard s (record { start = p.at; end = p.end }) ≡ o → Onward standard s i (and_then o (λ x. value (one x p.next)))
      go (value x) h = one_more {x = x} {next = p.next} (omega (arith, w.from, w.low)) (omega (arith, w.on, w.high)) (rw (w.list, h))
      go (refused n j c d) h = unread {n = n} {k = j} {c = c} {e = d} (rw (w.list, h))

  -- the one law of the walk
  pub onward : (i : ℕ) → Onward standard s i (next_seen standard s i)
  onward i = rw (next_is standard s short i) (by_place i (next_picture s i) refl)

  -- the same by what a step has answered
  pub seen_end : (i : ℕ) → next_seen standard s i ≡ value nothing → seen_from standard s i ≡ value []
  seen_end i e = go (rw e at (onward i))
    where
      go : Onward standard s i (value nothing) → seen_from standard s i ≡ value []
      go (no_more h) = h

  pub seen_refused : (i : ℕ) {n k c d : ℕ} → next_seen standard s i ≡ refused n k c d → seen_from standard s i ≡ refused n k c d
  seen_refused i {n} {k} {c} {d} e = go (rw e at (onward i))
    where
      go : Onward standard s i (refused n k c d) → seen_from standard s i ≡ refused n k c d
      go (unread h) = h

  pub seen_one : (i : ℕ) {next : ℕ} {x : SeenPicture} → next_seen standard s i ≡ value (one x next)
      → (i < next) × (next ≤ length s) × (seen_from standard s i ≡ before x (seen_from standard s next))
  seen_one i {next} {x} e = go (rw e at (onward i))
    where
      go : Onward standard s i (value (one x next)) → (i < next) × (next ≤ length s) × (seen_from standard s i ≡ before x (seen_from standard s next))
      go (one_more l h q) = (l, h, q)
