-- Words stored byte by byte and one after another; bytes laid over a place, and what they leave.
-- Assumes nothing.
use mathlib.Core.Path.{◌≡◌, refl, sym, ap, ◌∙◌}
use Prim.Native.Nat.{ℕ, zero, suc, ◌+◌, ◌-◌, ◌*◌, ◌/◌, ◌%◌, ◌^◌, ◌≤◌, ◌<◌}
use mathlib.Core.List.{List, ◌++◌, append_assoc, append-nil}
use native.Mathlib.Omega.{arith}
use native.Mathlib.Decide.{dec_le}
use native.Mathlib.Numerals.{add-one}
use lib.ListN.{length, get_or, set, take, drop, length-drop, drop_of_length-le}
use lib.Seq.{sets, sets-eq, drop-cons, drop-drop, take_all}
use borrow.Author.Tests.{le-leb, lt-leb}
use borrow.Rule.Slice.PartMut.{put_mid}
use Rattle.std.specs.Int.{w64, byte_at, bytes_low_first, to_le_bytes}
use native.Mathlib.Nat.{pow-suc, pow-zero, div-one, div-div-eq-div-mul}
use Rattle.bits.specs.Bits.{pick}
use Rattle.bits.specs.Answers.{over}
use Rattle.bits.proofs.Over.{over_is, over-drop, over-length, over_sets, sets_append}
use Rattle.words.specs.Words.{low_first, words_bytes, laid}
use Rattle.words.proofs.Bytes.{length-low, length_words}

-- the library's bytes of a number are the same
byte_is : (i v : ℕ) → byte_at i v ≡ v / 256 ^ i % 256
byte_is zero v = omega (arith, pow-zero 256)
byte_is (suc i) v = refl

low_from_byte : (n i v : ℕ) → bytes_low_first i n v ≡ low_first n (v / 256 ^ i)
unfolding low_first
low_from_byte zero i v = refl
low_from_byte (suc n) i v = rw (byte_is i v, low_from_byte n (suc i) v, pow-suc 256 i, div-div-eq-div-mul v (256 ^ i) 256)

pub le_low : (v : ℕ) → to_le_bytes w64 v ≡ low_first 8 v
le_low v = low_from_byte 8 0 v ∙ ap (low_first 8) (div-one v)

-- a word stored in a part of a place
pub word_stored : {ys : List ℕ} (out : List ℕ) (at n v : ℕ) → n ≡ 8 → at + 8 ≤ length out → ys ≡ to_le_bytes w64 v
    → put_mid at n out ys ≡ sets out at (low_first 8 v)
word_stored out at n v m h e =
    let l : at + length (low_first 8 v) ≤ length out = omega (arith, length-low 8 v) in
    rw (e ∙ le_low v, m, drop-drop 8 at out)
    (sym (rw (length-low 8 v) at (sets-eq (low_first 8 v) out at l) ∙ append_assoc (take at out) (low_first 8 v) (drop (at + 8) out)))

-- a word, and those after it
pub words_step : (out ws : List ℕ) (k : ℕ) → k < length ws
    → sets (sets out (8 * k) (low_first 8 (get_or ws k 0))) (8 * (k + 1)) (words_bytes (drop (k + 1) ws))
    ≡ sets out (8 * k) (words_bytes (drop k ws))
unfolding words_bytes
words_step out ws k h =
    let e : 8 * k + 8 ≡ 8 * (k + 1) = omega arith in
    rw (drop-cons ws k 0 h, add-one k)
    (sym (sets_append (low_first 8 (get_or ws k 0)) (words_bytes (drop (suc k) ws)) out (8 * k) ∙ rw (length-low 8 (get_or ws k 0), e, add-one k)))

pub words_end : (out ws : List ℕ) (k : ℕ) → length ws ≤ k → sets out (8 * k) (words_bytes (drop k ws)) ≡ out
unfolding words_bytes
words_end out ws k h = rw (drop_of_length-le ws {i = k} h)

-- all of them from byte 0 on
pub words_over : (out ws : List ℕ) → 8 * length ws ≤ length out → sets out 0 (words_bytes ws) ≡ over (words_bytes ws) out
words_over out ws h = over_sets (words_bytes ws) out (omega (arith, length_words ws))

-- ---- a place

pub laid-over : (bytes place : List ℕ) → length bytes ≤ length place → laid bytes place ≡ over bytes place
unfolding laid pick
laid-over bytes place h = rw (le-leb _ _ h)

pub laid-short : (bytes place : List ℕ) → length place < length bytes → laid bytes place ≡ place
unfolding laid pick
laid-short bytes place h = rw (lt-leb _ _ h)

pub length-laid : (bytes place : List ℕ) → length (laid bytes place) ≡ length place
length-laid bytes place = go (dec_le (length bytes) (length place))
  where
    go : Dec (length bytes ≤ length place) → length (laid bytes place) ≡ length place
    go (yes h) = rw (laid-over bytes place h) (over-length bytes place h)
    go (no h) = rw (laid-short bytes place (omega arith))

-- what is laid last stays
pub laid-laid : (new old place : List ℕ) → length new ≡ length old → laid new (laid old place) ≡ laid new place
laid-laid new old place e = go (dec_le (length old) (length place))
  where
    go : Dec (length old ≤ length place) → laid new (laid old place) ≡ laid new place
    go (yes h) =
        let l : length new ≤ length (over old place) = omega (arith, over-length old place h) in
        let d : drop (length new) (over old place) ≡ drop (length new) place = rw e (over-drop old place) in
        rw (laid-over old place h, laid-over new (over old place) l, laid-over new place (omega arith), over_is new (over old place), over_is new place, d)
    go (no h) = rw (laid-short old place (omega arith))

-- what a slice becomes whose part from a place on was lent
pub laid_part : (bytes s : List ℕ) (at : ℕ) → at + length bytes ≤ length s
    → take at s ++ (laid bytes (take (length s - at) (drop at s)) ++ drop (length s - at) (drop at s)) ≡ sets s at bytes
laid_part bytes s at h =
    let l = length-drop at s in
    rw (take_all (length s - at) (drop at s) (omega arith), drop_of_length-le (drop at s) {i = length s - at} (omega arith), append-nil, laid-over bytes (drop at s) (omega arith), over_is bytes (drop at s), drop-drop (length bytes) at s)
    (sym (sets-eq bytes s at h ∙ append_assoc (take at s) bytes (drop (at + length bytes) s)))

module _ (ws place : List ℕ) where
  pub way_laid : (out : List ℕ) → length ws ≤ length place / 8 → out ≡ over (words_bytes ws) place → out ≡ laid (words_bytes ws) place
  way_laid out h e = e ∙ sym (laid-over (words_bytes ws) place (omega (arith, length_words ws)))

  pub way_short : length place / 8 < length ws → place ≡ laid (words_bytes ws) place
  way_short h = sym (laid-short (words_bytes ws) place (omega (arith, length_words ws)))
