-- Writing a table and a header, and the round trips over any table: what was written is read again, what was read is written again.
-- Assumes nothing.
use mathlib.Core.Path.{◌≡◌, refl, sym, ap, ◌∙◌}
use mathlib.Core.List.{List, [], ◌∷◌, ◌++◌, append_assoc, append-nil}
use mathlib.Core.Bool.{true, false}
use mathlib.Core.Logic.{⊎_elim}
use Prim.Native.Nat.{ℕ, zero, suc, ◌+◌, ◌*◌, ◌/◌, ◌≤◌, ◌<◌, zero-le}
use native.Mathlib.Nat.{zero-add, add_assoc, mod-eq_of_lt}
use native.Mathlib.Omega.{arith}
use lib.Dec.{lit<}
use lib.ListN.{length, get_or, take, drop, length-append, get_or-append}
use lib.Seq.{get_or-append-add, take_at, take-add, drop_at, drop-append-add, drop-drop}
use borrow.Author.Tests.{le-ltb, lt-ltb}
use Rattle.bits.specs.Bits.{pick, num, bit_at, bits_at, digits, bit_list, pack, append_bits}
use Rattle.bits.specs.Refusals.{value, refused}
use Rattle.bits.specs.Fields.{Field, read_fields, read_header, field_bits, write_fields, write_header, fits_all, total}
use Rattle.bits.specs.Answers.{over, write_answer, write_result}
use Rattle.bits.proofs.Laws.{num-same, bits_bound, bit_append, bit_drop, length_digits, digits-num, bit_list-length, bit_list-append}
use Rattle.bits.proofs.Reading.{there_is, there_true, obeys_is, obeys_true, read_more, read_field, read_drop, same_self, header_more, header_got}
use Rattle.bits.proofs.Appending.{Below, lt_or_le, digits_bits, below_append, below_front, below_drop, length-pack, pack_bit, pack-take, pack-bytes, append-zero}
use Rattle.bits.proofs.Checking.{Fits, fits_none, fits_more, fits-of, fits_all_lem, fits-length}
use Rattle.bits.proofs.Putting.{field_bits_bound, length-field_bits}
use Rattle.bits.proofs.Flags.{clash}

-- how long the bytes are
pub length_fields : (fs : List Field) (vs : List ℕ) → length vs ≡ length fs → length (write_fields fs vs) ≡ (total fs + 7) / 8
unfolding write_fields
length_fields fs vs e = length-pack (field_bits fs vs) ∙ rw (length-field_bits fs vs e)

pub length_header : (code : List ℕ) (fs : List Field) (vs : List ℕ) → length code ≡ 4 → length vs ≡ length fs
    → length (write_header code fs vs) ≡ 4 + (total fs + 7) / 8
unfolding write_header
length_header code fs vs l e = length-append code (write_fields fs vs) ∙ rw (l, length_fields fs vs e)

pub total_bound : {fs : List Field} {vs : List ℕ} → Fits fs vs → total fs ≤ 32 * length fs
unfolding total
total_bound fits_none = zero-le
total_bound (fits_more {f} {fs} a b c d r) = omega (arith, total_bound r)

-- bits appended to whole bytes
pub append-after : (code s bs : List ℕ) → Below 256 code → append_bits (over code s) (8 * length code) bs ≡ over (code ++ pack bs) s
unfolding append_bits over
append-after code s bs b =
    let e : take (8 * length code) (bit_list (code ++ drop (length code) s)) ≡ bit_list code =
    ap (take (8 * length code)) (bit_list-append code (drop (length code) s)) ∙ take_at (bit_list code) _ _ (bit_list-length code) in
    let m : (8 * length code + length bs + 7) / 8 ≡ length code + (length bs + 7) / 8 = omega arith in
    rw (
      e,
      pack-bytes code bs b,
      m,
      drop-append-add code (drop (length code) s) ((length bs + 7) / 8),
      drop-drop ((length bs + 7) / 8) (length code) s,
      length-append code (pack bs),
      length-pack bs,
    )

-- a header written first can be gone on with at its last bit
pub written-append : (code : List ℕ) (fs : List Field) (vs s : List ℕ) → Below 256 code
    → over (write_header code fs vs) s ≡ append_bits s 0 (bit_list code ++ field_bits fs vs)
unfolding write_header write_fields
written-append code fs vs s b =
    sym (append-zero s (bit_list code ++ field_bits fs vs) ∙ ap (λ (l : List ℕ). over l s) (pack-bytes code (field_bits fs vs) b))

-- the ways of `write_header`
pub over_four : (code s : List ℕ) {a : List ℕ} → length code ≡ 4 → a ≡ code → a ++ drop 4 s ≡ over code s
unfolding over
over_four code s l e = rw (e, l)

module _ (code : List ℕ) (fs : List Field) (vs out : List ℕ) where
  pub write_unfit : fits_all fs vs ≡ false → (refused 16 0 0 0 ≡ write_answer code fs vs out) × (out ≡ write_result code fs vs out)
  unfolding write_answer write_result pick
  write_unfit e = (rw e, rw e)

  module _ (l : length code ≡ 4) (e : fits_all fs vs ≡ true) where
    long : length (write_header code fs vs) ≡ 4 + (total fs + 7) / 8
    long = length_header code fs vs l (fits-length (fits-of fs vs e))

    pub write_full : length out < 4 + (total fs + 7) / 8 → (refused 19 0 0 0 ≡ write_answer code fs vs out) × (out ≡ write_result code fs vs out)
    unfolding write_answer write_result pick
    write_full h = (rw (e, long, lt-ltb _ _ h), rw (e, long, lt-ltb _ _ h))

    pub write_bytes : {m o : List ℕ} {n : ℕ} → n ≡ total fs → 4 + (n + 7) / 8 ≤ length out → m ≡ over code out → Below 256 m
        → o ≡ append_bits m 32 (field_bits fs vs)
        → (value (4 + (n + 7) / 8) ≡ write_answer code fs vs out) × (o ≡ write_result code fs vs out)
    unfolding write_answer write_result pick over write_header write_fields
    write_bytes t h p b q =
        let r : length (code ++ pack (field_bits fs vs)) ≤ length out = omega (arith, long) in
        let i : 32 ≡ 8 * length code = omega arith in
        let a = append-after code out (field_bits fs vs) (below_front 256 code (drop (length code) out) (rw p at b)) in
        (rw (e, le-ltb _ _ r) (rw (long, t)), q ∙ rw (e, le-ltb _ _ r, p) (ap (λ (x : ℕ). append_bits (over code out) x (field_bits fs vs)) i ∙ a))

-- where the bits of the fields stand in s from bit i on, the table reads their values
pub reads_back : {fs : List Field} {vs : List ℕ} → Fits fs vs → (s : List ℕ) (i : ℕ)
    → i + length (field_bits fs vs) ≤ 8 * length s
    → ((k : ℕ) → k < length (field_bits fs vs) → bit_at s (i + k) ≡ get_or (field_bits fs vs) k 0)
    → read_fields fs s i ≡ value vs
unfolding field_bits read_fields bits_at
reads_back fits_none s i l h = refl
reads_back (fits_more {f} {fs} {v} {vs} a b c d r) s i l h =
    let w = f.width in
    let n : length (digits w v ++ field_bits fs vs) ≡ w + length (field_bits fs vs) =
    length-append (digits w v) (field_bits fs vs) ∙ ap (λ (x : ℕ). x + length (field_bits fs vs)) (length_digits w v) in
    let e : bits_at s i w ≡ v =
    num-same (bit_at s) (λ j. get_or (digits w v) j 0) i 0 w
    (λ k t. h k (omega arith) ∙ get_or-append (digits w v) (field_bits fs vs) 0 k (omega (arith, length_digits w v))
    ∙ ap (λ (x : ℕ). get_or (digits w v) x 0) (sym (zero-add k)))
    ∙ digits-num w v ∙ mod-eq_of_lt b in
    let m : read_fields fs s (i + w) ≡ value vs =
    reads_back r s (i + w) (omega arith)
    (λ k t. ap (bit_at s) (add_assoc i w k) ∙ h (w + k) (omega arith)
    ∙ ap (λ (x : ℕ). get_or (digits w v ++ field_bits fs vs) (x + k) 0) (sym (length_digits w v))
    ∙ get_or-append-add (digits w v) (field_bits fs vs) k 0) in
    read_more f fs s i (there_is s i w a (omega arith)) (rw e (obeys_is f v c d)) ∙ rw (e, m)

-- so they are read from the bits packed, whatever stands before and after
pub reads_packed : {fs : List Field} {vs : List ℕ} → Fits fs vs → (pre post t : List ℕ) → Below 2 pre → Below 2 post
    → read_fields fs (pack (pre ++ field_bits fs vs ++ post) ++ t) (length pre) ≡ value vs
reads_packed {fs} {vs} r pre post t p q =
    let bs = pre ++ field_bits fs vs ++ post in
    let m : length (pre ++ field_bits fs vs) ≡ length pre + length (field_bits fs vs) = length-append pre (field_bits fs vs) in
    let n : length bs ≡ length (pre ++ field_bits fs vs) + length post = length-append (pre ++ field_bits fs vs) post in
    let b : Below 2 bs = below_append 2 (pre ++ field_bits fs vs) post (below_append 2 pre (field_bits fs vs) p (field_bits_bound fs vs)) q in
    reads_back r (pack bs ++ t) (length pre)
    (omega (arith, length-append (pack bs) t, length-pack bs))
    (λ k h. bit_append (pack bs) t (length pre + k) (omega (arith, length-pack bs)) ∙ pack_bit bs (length pre + k) b (omega arith)
    ∙ get_or-append (pre ++ field_bits fs vs) post 0 (length pre + k) (omega arith) ∙ get_or-append-add pre (field_bits fs vs) k 0)

-- reading what was written gives the values
pub read_written : (fs : List Field) (vs t : List ℕ) → fits_all fs vs ≡ true → read_fields fs (write_fields fs vs ++ t) 0 ≡ value vs
unfolding write_fields
read_written fs vs t e = rw append-nil at (reads_packed (fits-of fs vs e) [] [] t (λ k. lit< tt) (λ k. lit< tt))

pub header_read_written : (code : List ℕ) (fs : List Field) (vs t : List ℕ) → length code ≡ 4 → fits_all fs vs ≡ true
    → read_header code fs (write_header code fs vs ++ t) ≡ value vs
unfolding write_header
header_read_written code fs vs t l e =
    let s = (code ++ write_fields fs vs) ++ t in
    let a : s ≡ code ++ (write_fields fs vs ++ t) = append_assoc code (write_fields fs vs) t in
    let g : 4 ≤ length s = omega (arith, ap length a ∙ length-append code (write_fields fs vs ++ t)) in
    let f : take 4 s ≡ code = ap (take 4) a ∙ take_at code _ 4 l in
    let d : drop 4 s ≡ write_fields fs vs ++ t = ap (drop 4) a ∙ drop_at code _ 4 l in
    header_more code fs s g (rw f (same_self code))
    ∙ sym (read_drop fs 4 s 0 g) ∙ ap (λ (x : List ℕ). read_fields fs x 0) d ∙ read_written fs vs t e

-- the bits of what was read are the bits that stand there
pub read_room : (fs : List Field) (s : List ℕ) (i : ℕ) (vs : List ℕ) → i ≤ 8 * length s → read_fields fs s i ≡ value vs → i + total fs ≤ 8 * length s
unfolding total
read_room [] s i vs l e = omega arith
read_room (f ∷ fs) s i vs l e =
    let t = read_field f fs s i vs e in
    omega (arith, read_room fs s (i + f.width) t.rest (there_true s i f.width t.is_there).1 t.then)

pub writes_back : (fs : List Field) (s : List ℕ) (i : ℕ) (vs : List ℕ) → i ≤ 8 * length s → read_fields fs s i ≡ value vs
    → field_bits fs vs ≡ take (total fs) (drop i (bit_list s))
unfolding field_bits total
writes_back [] s i vs l e = refl
writes_back (f ∷ fs) s i vs l e =
    let w = f.width in
    let t = read_field f fs s i vs e in
    let h : i + w ≤ 8 * length s = (there_true s i w t.is_there).1 in
    rw (t.all, digits_bits s i w h, writes_back fs s (i + w) t.rest h t.then, ← drop-drop w i (bit_list s))
    (sym (take-add w (total fs) (drop i (bit_list s))))

-- writing what was read gives back the bytes, where what is left of the last byte is zeros
pub write_read : (fs : List Field) (s vs : List ℕ) → Below 256 s → read_fields fs s 0 ≡ value vs
    → ((k : ℕ) → total fs ≤ k → k < 8 * ((total fs + 7) / 8) → bit_at s k ≡ 0)
    → write_fields fs vs ≡ take ((total fs + 7) / 8) s
unfolding write_fields
write_read fs s vs b e z =
    ap pack (writes_back fs s 0 vs zero-le e) ∙ pack-take s (total fs) b (omega (arith, read_room fs s 0 vs zero-le e)) z

-- values that were read fit their table
read_fit : (fs : List Field) (s : List ℕ) (i : ℕ) (vs : List ℕ) → read_fields fs s i ≡ value vs → Fits fs vs
unfolding read_fields
read_fit [] s i [] e = fits_none
read_fit [] s i (v ∷ vs) e = absurd (clash cc)
read_fit (f ∷ fs) s i vs e =
    let w = f.width in
    let t = read_field f fs s i vs e in
    let o = obeys_true f (bits_at s i w) t.obeyed in
    rw t.all (fits_more (there_true s i w t.is_there).0 (bits_bound s i w) o.0 o.1 (read_fit fs s (i + w) t.rest t.then))

pub read_fits : (fs : List Field) (s : List ℕ) (i : ℕ) (vs : List ℕ) → read_fields fs s i ≡ value vs → fits_all fs vs ≡ true
read_fits fs s i vs e = fits_all_lem (read_fit fs s i vs e)

pub header_write_read : (code : List ℕ) (fs : List Field) (s vs : List ℕ) → Below 256 s → read_header code fs s ≡ value vs
    → ((k : ℕ) → 32 + total fs ≤ k → k < 32 + 8 * ((total fs + 7) / 8) → bit_at s k ≡ 0)
    → write_header code fs vs ≡ take (4 + (total fs + 7) / 8) s
unfolding write_header
header_write_read code fs s vs b e z =
    let r = header_got code fs s vs e in
    let w : write_fields fs vs ≡ take ((total fs + 7) / 8) (drop 4 s) =
    write_read fs (drop 4 s) vs (below_drop 256 4 s b) (read_drop fs 4 s 0 r.long ∙ r.fields_read)
    (λ k p h. bit_drop 4 s k ∙ z (32 + k) (omega arith) (omega arith)) in
    rw (w, ← r.code_first) (sym (take-add 4 ((total fs + 7) / 8) s))

-- bits that make 0 are zeros
pub bits_zero : (s : List ℕ) (i n : ℕ) → bits_at s i n ≡ 0 → (k : ℕ) → i ≤ k → k < i + n → bit_at s k ≡ 0
unfolding bits_at num
bits_zero s i zero e k l h = absurd (omega arith)
bits_zero s i (suc n) e k l h =
    ⊎_elim (λ (p : k < i + n). bits_zero s i n (omega arith) k l p) (λ (p : i + n ≤ k). let d : k ≡ i + n = omega arith in rw d (omega arith)) (lt_or_le k (i + n))
