-- The bits of a table's fields, and the loop of `put_fields`, which appends them field after field.
-- Assumes nothing.
use mathlib.Core.Path.{◌≡◌, refl, sym, ap, ◌∙◌}
use mathlib.Core.List.{List, [], ◌∷◌, ◌++◌, append_assoc, append-nil}
use mathlib.Core.Bool.{true}
use Prim.Native.Nat.{ℕ, zero, suc, ◌+◌, ◌*◌, ◌≤◌, ◌<◌, zero-le}
use native.Mathlib.Numerals.{add-one}
use native.Mathlib.Nat.{add-zero}
use native.Mathlib.Omega.{arith}
use lib.Dec.{lit<}
use lib.ListN.{length, get_or, take, drop, replicate, length-append, take-append-drop}
use lib.Seq.{take-suc, take_all, length-take-le}
use Rattle.bits.specs.Bits.{pick, there, digits, bit_list, append_bits}
use Rattle.bits.specs.Fields.{Field, field, any_value, field_bits, total}
use Rattle.bits.specs.Answers.{table_of, wrote_bits}
use Rattle.bits.proofs.Laws.{length_digits}
use Rattle.bits.proofs.Reading.{there_is, field_at, table_at, table_room}
use Rattle.bits.proofs.Appending.{Below, below_append, digit_bound, append-length, append-append, append-none}
use Rattle.bits.proofs.Checking.{Fits, fits-length, fits_width}

pub field_bits_bound : (fs : List Field) (vs : List ℕ) → Below 2 (field_bits fs vs)
unfolding field_bits
field_bits_bound [] vs k = lit< tt
field_bits_bound (f ∷ fs) [] k = lit< tt
field_bits_bound (f ∷ fs) (v ∷ vs) k =
    below_append 2 (digits f.width v) (field_bits fs vs) (digit_bound f.width v) (field_bits_bound fs vs) k

pub length-field_bits : (fs : List Field) (vs : List ℕ) → length vs ≡ length fs → length (field_bits fs vs) ≡ total fs
unfolding field_bits total
length-field_bits [] vs e = refl
length-field_bits (f ∷ fs) [] e = omega arith
length-field_bits (f ∷ fs) (v ∷ vs) e =
    omega (arith, length-append (digits f.width v) (field_bits fs vs), length_digits f.width v, length-field_bits fs vs (omega arith))

-- two tables end to end
pub field_bits-append : (fs gs : List Field) (vs ws : List ℕ) → length vs ≡ length fs
    → field_bits (fs ++ gs) (vs ++ ws) ≡ field_bits fs vs ++ field_bits gs ws
unfolding field_bits
field_bits-append [] gs [] ws e = refl
field_bits-append [] gs (v ∷ vs) ws e = absurd (omega arith)
field_bits-append (f ∷ fs) gs [] ws e = absurd (omega arith)
field_bits-append (f ∷ fs) gs (v ∷ vs) ws e = rw (field_bits-append fs gs vs ws (omega arith), append_assoc)

pub total-append : (fs gs : List Field) → total (fs ++ gs) ≡ total fs + total gs
unfolding total
total-append [] gs = omega arith
total-append (f ∷ fs) gs = omega (arith, total-append fs gs)

-- a field for each byte
pub field_bits-bytes : (n : ℕ) (s : List ℕ) → length s ≡ n → field_bits (replicate n (any_value 8)) s ≡ bit_list s
unfolding field_bits bit_list
field_bits-bytes zero [] e = refl
field_bits-bytes zero (b ∷ s) e = absurd (omega arith)
field_bits-bytes (suc n) [] e = absurd (omega arith)
field_bits-bytes (suc n) (b ∷ s) e = ap (λ (l : List ℕ). digits 8 b ++ l) (field_bits-bytes n s (omega arith))

-- what `append_bits` leaves, by its answer
module _ (s : List ℕ) (i n v : ℕ) where
  pub wrote_there : there s i n ≡ true → wrote_bits s i n v ≡ append_bits s i (digits n v)
  unfolding wrote_bits pick
  wrote_there e = rw e

-- the code's loop, after k fields
pub record Putting (t vs s out : List ℕ) (at k : ℕ) : Type 0 where
  pub fit : Fits (table_of 24 t) vs
  pub space : 32 + total (table_of 24 t) ≤ 8 * length s
  pub within : k ≤ length vs
  pub most : length vs ≤ 24
  pub room : 3 * length vs ≤ length t
  pub near : at ≤ 32 + 32 * k
  pub place : at ≡ 32 + total (take k (table_of 24 t))
  pub out_is : out ≡ append_bits s 32 (field_bits (take k (table_of 24 t)) (take k vs))

pub putting_none : {t vs s : List ℕ} → Fits (table_of 24 t) vs → 32 + total (table_of 24 t) ≤ 8 * length s → Below 256 s → Putting t vs s s 32 0
unfolding field_bits total
putting_none {t} {s = s} f h b = record {
  fit = f;
  space = h;
  within = zero-le;
  most = omega (arith, fits-length f, table_room 24 t);
  room = omega (arith, fits-length f, table_room 24 t);
  near = omega arith;
  place = refl;
  out_is = sym (append-none s 4 (omega arith) b);
}

module _ {t vs s out : List ℕ} {at k : ℕ} (r : Putting t vs s out at k) where
  many : length vs ≡ length (table_of 24 t)
  many = fits-length r.fit

  part : (j : ℕ) → total (take j (table_of 24 t)) ≤ total (table_of 24 t)
  part j = omega (arith, sym (total-append (take j (table_of 24 t)) (drop j (table_of 24 t))) ∙ ap total (take-append-drop j (table_of 24 t)))

  taken : (j : ℕ) → j ≤ length vs → length (take j vs) ≡ length (take j (table_of 24 t))
  taken j h = length-take-le j vs h ∙ sym (length-take-le j (table_of 24 t) (omega (arith, many)))

  bits : length (field_bits (take k (table_of 24 t)) (take k vs)) ≡ total (take k (table_of 24 t))
  bits = length-field_bits _ _ (taken k r.within)

  pub putting_length : length out ≡ length s
  putting_length = rw r.out_is (append-length s 32 _ (omega (arith, bits, part k, r.space)))

  pub putting_end : length vs ≤ k → out ≡ append_bits s 32 (field_bits (table_of 24 t) vs)
  putting_end h =
      r.out_is ∙ rw (take_all k (table_of 24 t) (omega (arith, many)), take_all k vs h)

  module _ {w v : ℕ} (h : k < length vs) (e : w ≡ get_or t (3 * k) 0) (x : v ≡ get_or vs k 0) where
    here : get_or (table_of 24 t) k (field 0 0 0) ≡ field_at t k
    here = table_at 24 t k (omega (arith, many))

    pub putting_width : w ≤ 32
    putting_width = omega (arith, rw here at (fits_width r.fit k))

    more : take (k + 1) (table_of 24 t) ≡ take k (table_of 24 t) ++ (field_at t k ∷ [])
    more = rw (add-one k, take-suc (table_of 24 t) k (field 0 0 0) (omega (arith, many)), here)

    wider : total (take (k + 1) (table_of 24 t)) ≡ total (take k (table_of 24 t)) + w
    unfolding total
    wider = ap total more ∙ total-append (take k (table_of 24 t)) (field_at t k ∷ []) ∙ rw (add-zero (get_or t (3 * k) 0), e)

    longer : field_bits (take (k + 1) (table_of 24 t)) (take (k + 1) vs) ≡ field_bits (take k (table_of 24 t)) (take k vs) ++ digits w v
    unfolding field_bits
    longer =
        rw (more, add-one k, take-suc vs k 0 h, field_bits-append _ _ _ _ (taken k r.within), append-nil, e, x)

    pub putting_more : {o : List ℕ} → o ≡ wrote_bits out at w v → Putting t vs s o (at + w) (k + 1)
    putting_more {o} q = record {
      fit = r.fit;
      space = r.space;
      within = omega arith;
      most = r.most;
      room = r.room;
      near = omega (arith, r.near, putting_width);
      place = omega (arith, wider, r.place);
      out_is =
          let g : at + w ≤ 8 * length out = omega (arith, putting_length, wider, part (k + 1), r.place, r.space) in
          let a : at ≡ 32 + length (field_bits (take k (table_of 24 t)) (take k vs)) = omega (arith, bits, r.place) in
          q ∙ wrote_there out at w v (there_is out at w putting_width g)
          ∙ rw (r.out_is, a, longer)
          (append-append s 32 _ (digits w v) (field_bits_bound _ _)
          (omega (arith, bits, wider, part (k + 1), length_digits w v, r.place, r.space)));
    }
