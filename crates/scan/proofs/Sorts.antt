-- Which codes are slices and pictures, and codes passed over.
-- Assumes nothing.
use mathlib.Core.Path.{◌≡◌, refl, ap}
use Prim.Native.Nat.{ℕ, ◌<◌}
use mathlib.Core.List.{List, [], ◌∷◌, ◌++◌}
use mathlib.Core.Bool.{Bool, true, false, and-false}
use borrow.Author.Tests.{lt-leb, ne_eqb}
use Rattle.bits.specs.Bits.{pick}
use Rattle.bits.specs.StartCodes.{picture_start_code, last_slice_code, sequence_header_code}
use Rattle.bits.proofs.Flags.{both_true}
use Rattle.scan.specs.declared.StartCode.{StartCode}
use Rattle.scan.specs.Codes.{every, found}
use Rattle.scan.specs.Pictures.{is_slice, not_slice, not_picture, not_sequence, skip}
use Rattle.std.specs.Prelude.{Some}

-- 00 and what lies above AF are no slices
pub slice_zero : is_slice 0 ≡ false
unfolding is_slice
slice_zero = refl

pub slice_above : (c : ℕ) → last_slice_code < c → is_slice c ≡ false
unfolding is_slice
slice_above c h = rw (lt-leb c last_slice_code h, and-false)

pub not_slice_above : (c : ℕ) → last_slice_code < c → not_slice c ≡ true
unfolding not_slice
not_slice_above c h = rw (slice_above c h)

pub not_picture_lem : (c : ℕ) → (c ≡ 0 → ⊥) → not_picture c ≡ true
unfolding not_picture
not_picture_lem c n = rw (ne_eqb c 0 n)

pub picture-code : not_picture picture_start_code ≡ false
unfolding not_picture
picture-code = refl

pub sequence-code : not_sequence sequence_header_code ≡ false
unfolding not_sequence
sequence-code = refl

-- a test that follows from another
pub every_by : (p q : ℕ → Bool) → ((c : ℕ) → p c ≡ true → q c ≡ true) → (cs : List StartCode) → every p cs ≡ true → every q cs ≡ true
unfolding every
every_by p q f [] h = refl
every_by p q f (c ∷ cs) h =
    let b = both_true (p c.code) (every p cs) h in
    rw (f c.code b.0) (every_by p q f cs b.1)

pub every_empty : (p : ℕ → Bool) → every p [] ≡ true
unfolding every
every_empty p = refl

-- a code that the search does not pass over
pub skip_stops : (p : ℕ → Bool) (c : StartCode) (cs : List StartCode) → p c.code ≡ false → skip p (c ∷ cs) ≡ c ∷ cs
unfolding skip pick
skip_stops p c cs h = rw h

-- what a search passes over, and where it stops
pub record PassedOver (p : ℕ → Bool) (cs : List StartCode) : Type 0 where
  pub front : List StartCode
  pub all : every p front ≡ true
  pub split : cs ≡ front ++ skip p cs

pub skip_split : (p : ℕ → Bool) (cs : List StartCode) → PassedOver p cs
unfolding skip pick every
skip_split p [] = record { front = []; all = refl; split = refl }
skip_split p (c ∷ cs) = go (skip_split p cs) (p c.code) refl
  where
    go : PassedOver p cs → (t : Bool) → p c.code ≡ t → PassedOver p (c ∷ cs)
    go r true e = record { front = c ∷ r.front; all = rw (e, r.all); split = rw e (ap (λ (l : List StartCode). c ∷ l) r.split) }
    go r false e = record { front = []; all = refl; split = rw e }

pub found_first : (c : StartCode) (cs : List StartCode) → found (c ∷ cs) ≡ Some c
unfolding found
found_first c cs = refl
