-- Bytes stored one part after another: headers, layer, its delay, zeros and the sequence's end.
-- Assumes nothing.
use mathlib.Core.Path.{◌≡◌, refl, sym, ap, ◌∙◌}
use mathlib.Core.Bool.{Bool, true, false}
use mathlib.Core.List.{List, [], ◌++◌, append_assoc}
use Prim.Native.Nat.{ℕ, suc, ◌+◌, ◌-◌, ◌≤◌, ◌<◌}
use native.Mathlib.Omega.{arith}
use native.Mathlib.Numerals.{add-one}
use lib.ListN.{length, get_or, take, drop, set, replicate, drop_of_length-le, length-append, length-drop, length-replicate}
use lib.Seq.{sets, sets-eq, length-sets, drop-cons, take_at, drop_at, length-take-le}
use borrow.Rule.Slice.PartMut.{put_mid}
use Rattle.std.proofs.lemmas.List.{take_all}
use Rattle.std.proofs.lemmas.Slice.{put_mid-paste}
use Rattle.bits.specs.Answers.{over}
use Rattle.bits.proofs.Over.{over_sets, sets_append}
use Rattle.vbv.specs.Patch.{patched}
use Rattle.vbv.proofs.After.{patched_size}
use Rattle.scan.specs.Codes.{sequence_end}
use Rattle.rate_control.specs.Offer.{end_code}

-- one byte more
pub put_step : (out bytes : List ℕ) (at k : ℕ) → k < length bytes
    → sets (set out (at + k) (get_or bytes k 0)) (at + (k + 1)) (drop (k + 1) bytes) ≡ sets out (at + k) (drop k bytes)
put_step out bytes at k h =
    let e : at + (k + 1) ≡ suc (at + k) = omega arith in
    rw (e, add-one k, drop-cons bytes k 0 h)

pub put_done : (out bytes : List ℕ) (at k : ℕ) → length bytes ≤ k → sets out at (drop k bytes) ≡ out
put_done out bytes at k h = ap (sets out at) (drop_of_length-le bytes h)

-- a part of a run, written
pub part_set : (s x y : List ℕ) (a k : ℕ) → a + length x ≤ length s → k ≡ length x → y ≡ x → put_mid a k s y ≡ sets s a x
part_set s x y a k h e g =
    put_mid-paste a k s y x (length x) g (sym e) refl
    ∙ rw (take_all (length x) x (omega arith)) (sym (sets-eq x s a h))

pub zeros_set : (s y : List ℕ) (a z : ℕ) → a + z ≤ length s → y ≡ replicate (length (take (a + z - a) (drop a s))) 0 → put_mid a (a + z - a) s y ≡ sets s a (replicate z 0)
zeros_set s y a z h g =
    let l : length (replicate {A = ℕ} z 0) ≡ z = length-replicate {A = ℕ} z 0 in
    let n : length (take (a + z - a) (drop a s)) ≡ z = length-take-le (a + z - a) (drop a s) (omega (arith, length-drop a s)) ∙ omega arith in
    part_set s (replicate z 0) y a (a + z - a) (omega arith) (omega arith) (rw (g, n))

-- the sequence's end, after the last picture
pub end_code-last : (last : Bool) → last ≡ true → end_code last ≡ sequence_end
unfolding end_code
end_code-last last h = rw h

pub end_code-none : (last : Bool) → last ≡ false → end_code last ≡ []
unfolding end_code
end_code-none last h = rw h

pub end_put : (o out : List ℕ) (at : ℕ) (last : Bool) → last ≡ true → o ≡ sets out at sequence_end → o ≡ sets out at (end_code last)
end_put o out at last h e = rw (end_code-last last h) e

pub end_none : (out : List ℕ) (at : ℕ) (last : Bool) → last ≡ false → out ≡ sets out at (end_code last)
end_none out at last h = rw (end_code-none last h)

pub end_size : (last : Bool) → last ≡ true → length (end_code last) ≡ 4
end_size last h = ap length (end_code-last last h)

-- a run over another one of its length, in its place: what a part lent becomes
module _ (s x y : List ℕ) (a : ℕ) (h : a + length x ≤ length s) (l : length y ≡ length x) where
  laid_is : sets s a x ≡ take a s ++ (x ++ drop (a + length x) s)
  laid_is = sets-eq x s a h ∙ append_assoc (take a s) x (drop (a + length x) s)

  long : length (take a s) ≡ a
  long = length-take-le a s (omega arith)

  pub part_is : take (length x) (drop a (sets s a x)) ≡ x
  part_is = rw (laid_is, drop_at (take a s) (x ++ drop (a + length x) s) a long) (take_at x _ (length x) refl)

  pub part_back : take a (sets s a x) ++ (y ++ drop (length x) (drop a (sets s a x))) ≡ sets s a y
  part_back =
      rw (laid_is, take_at (take a s) (x ++ drop (a + length x) s) a long, drop_at (take a s) (x ++ drop (a + length x) s) a long, drop_at x (drop (a + length x) s) (length x) refl, ← l)
      (sym (sets-eq y s a (omega arith) ∙ append_assoc (take a s) y (drop (a + length y) s)))

-- all of it
pub all_put : (out h l : List ℕ) (d z : ℕ) (last : Bool) → length h + length l + z + length (end_code last) ≤ length out
    → sets (sets (sets (sets out 0 h) (length h) (patched l d)) (length h + length l) (replicate z 0)) (length h + length l + z) (end_code last)
    ≡ over (h ++ (patched l d ++ (replicate z 0 ++ end_code last))) out
all_put out h l d z last r =
    let p = patched l d in
    let n : length p ≡ length l = patched_size l d in
    let t = end_code last in
    let zs : List ℕ = replicate z 0 in
    let m : length zs ≡ z = length-replicate {A = ℕ} z 0 in
    let all : List ℕ = h ++ (p ++ (zs ++ t)) in
    let size : length all ≤ length out = simp length-append (omega arith) in
    let e : 0 + length h ≡ length h = omega arith in
    sym
    (sym (over_sets all out size)
    ∙ sets_append h (p ++ (zs ++ t)) out 0 ∙ rw e
    (sets_append p (zs ++ t) (sets out 0 h) (length h) ∙ rw n
    (sets_append zs t (sets (sets out 0 h) (length h) p) (length h + length l) ∙ rw m)))

-- the same as the code does it: the layer's part is lent, and comes back with its delay
pub all_laid : (out h l a b y f g : List ℕ) (d z : ℕ) (last : Bool) → length h + length l + z + length (end_code last) ≤ length out
    → a ≡ sets out 0 h → b ≡ sets a (length h) l → y ≡ patched (take (length h + length l - length h) (drop (length h) b)) d
    → f ≡ sets (take (length h) b ++ (y ++ drop (length h + length l - length h) (drop (length h) b))) (length h + length l) (replicate z 0)
    → g ≡ sets f (length h + length l + z) (end_code last)
    → g ≡ over (h ++ (patched l d ++ (replicate z 0 ++ end_code last))) out
all_laid out h l a b y f g d z last r p q u v w =
    let e : length h + length l - length h ≡ length l = omega arith in
    let s = sets out 0 h in
    let n : length s ≡ length out = length-sets out 0 h in
    let m : length h + length l ≤ length s = omega arith in
    let i = part_is s l (patched l d) (length h) m (patched_size l d) in
    let j = part_back s l (patched l d) (length h) m (patched_size l d) in
    let b' : b ≡ sets s (length h) l = q ∙ rw p in
    let y' : y ≡ patched l d = u ∙ rw (b', e, i) in
    let f' : f ≡ sets (sets s (length h) (patched l d)) (length h + length l) (replicate z 0) = v ∙ rw (y', b', e, j) in
    w ∙ rw f' (all_put out h l d z last r)
