-- The loop of read_fields: what is known after k fields, and each way to go on.
-- Assumes nothing.
use mathlib.Core.Path.{◌≡◌, refl, sym, ap, ◌∙◌}
use mathlib.Core.List.{List, [], ◌∷◌, append-nil}
use mathlib.Core.Bool.{Bool, true, false}
use Prim.Native.Nat.{ℕ, suc, ◌+◌, ◌-◌, ◌*◌, ◌≤◌, ◌<◌}
use native.Mathlib.Numerals.{add-one}
use native.Mathlib.Omega.{arith}
use lib.ListN.{length, get_or, take, drop, set, replicate, length-set, take-append-drop, drop_of_length-le}
use lib.Seq.{drop-cons, drop-set-lt, take-suc-set, length-take-le}
use Rattle.bits.specs.Bits.{bits_at, there}
use Rattle.bits.specs.Refusals.{value, refused}
use Rattle.bits.specs.Fields.{field, obeys, read_fields}
use Rattle.bits.specs.Answers.{read_bits, greatest, table_of, places, in_places, fields_answer}
use Rattle.std.specs.Prelude.{Ok}
use Rattle.bits.proofs.Reading.{there_true, bits_found, missed, field_at, table_room, table_at, prepended, prepended_none, after-after, read_short, read_bad, read_more}

-- a store at the first of the places that are left
rest_more : (vs : List ℕ) (k v m : ℕ) → k < length vs → drop k vs ≡ replicate (suc m) 0 → drop (suc k) (set vs k v) ≡ replicate m 0
rest_more vs k v m h e =
    let x : get_or vs k 0 ∷ drop (suc k) vs ≡ 0 ∷ replicate m 0 = sym (drop-cons vs k 0 h) ∙ e in
    rw (drop-set-lt (suc k) vs k v (omega arith)) (cc)

-- the code's loop, after k fields: their values stand first in vs and zeros after them, and the other fields are read from bit i on
pub record FieldsReading (t s : List ℕ) (start : ℕ) (vs : List ℕ) (k i : ℕ) : Type 0 where
  pub most : length (table_of 24 t) ≤ 24
  pub room : 3 * length (table_of 24 t) ≤ length t
  pub near : i ≤ start + 255 * k
  pub long : length vs ≡ 24
  pub rest : drop k vs ≡ replicate (24 - k) 0
  pub progress : read_fields (table_of 24 t) s start ≡ prepended (take k vs) (read_fields (drop k (table_of 24 t)) s i)

pub fields_reading_none : (t s : List ℕ) (start : ℕ) → FieldsReading t s start (replicate 24 0) 0 start
fields_reading_none t s start = record {
  most = omega (arith, table_room 24 t);
  room = omega (arith, table_room 24 t);
  near = omega arith;
  long = refl;
  rest = refl;
  progress = sym (prepended_none _);
}

module _ {t s : List ℕ} {start : ℕ} {vs : List ℕ} {k i w : ℕ} (r : FieldsReading t s start vs k i) (h : k < length (table_of 24 t)) (e : w ≡ get_or t (3 * k) 0) where
  next : read_fields (table_of 24 t) s start ≡ prepended (take k vs) (read_fields (field_at t k ∷ drop (suc k) (table_of 24 t)) s i)
  next = r.progress ∙ rw (drop-cons (table_of 24 t) k (field 0 0 0) (omega arith), table_at 24 t k (omega arith))

  pub reading_short : refused 1 0 0 0 ≡ read_bits s i w → read_fields (table_of 24 t) s start ≡ refused 1 0 0 0
  reading_short m =
      rw (next, read_short (field_at t k) (drop (suc k) (table_of 24 t)) s i (missed s i _ (m ∙ ap (read_bits s i) e)))

  module _ {v : ℕ} (f : value v ≡ read_bits s i w) where
    number_is : (there s i (get_or t (3 * k) 0) ≡ true) × (v ≡ bits_at s i (get_or t (3 * k) 0))
    number_is = bits_found s i (get_or t (3 * k) 0) v (f ∙ ap (read_bits s i) e)

    pub reading_width : w ≤ 32
    reading_width = (there_true s i w (bits_found s i w v f).0).0

    module _ {o : Bool} (u : o ≡ obeys (field w (get_or t (3 * k + 1) 0) (greatest w (get_or t (3 * k + 2) 0))) v) where
      rule : o ≡ obeys (field_at t k) v
      rule = rw (← e) u

      pub reading_bad : o ≡ false → read_fields (table_of 24 t) s start ≡ refused 2 0 0 0
      reading_bad q =
          rw (next, read_bad (field_at t k) (drop (suc k) (table_of 24 t)) s i number_is.0 (rw (← number_is.1) (sym rule ∙ q)))

      pub reading_more : o ≡ true → w < 256 → FieldsReading t s start (set vs k v) (k + 1) (i + w)
      reading_more q b = record {
        most = r.most;
        room = r.room;
        near = omega arith;
        long = simp length-set r.long;
        rest =
            let d : 24 - k ≡ suc (24 - suc k) = omega (arith) in
            rw (add-one k) (rest_more vs k v (24 - suc k) (omega (arith, r.long)) (rw d at r.rest));
        progress =
            next ∙ rw (read_more (field_at t k) (drop (suc k) (table_of 24 t)) s i number_is.0 (rw (← number_is.1) (sym rule ∙ q)), after-after (take k vs) (bits_at s i (get_or t (3 * k) 0) ∷ []) (read_fields (drop (suc k) (table_of 24 t)) s (i + get_or t (3 * k) 0)), add-one k, take-suc-set vs k _ (omega (arith, r.long)), e, number_is.1);
      }

pub reading_end : {t s : List ℕ} {start : ℕ} {vs : List ℕ} {k i : ℕ} → FieldsReading t s start vs k i → k ≡ length (table_of 24 t)
    → fields_answer (Ok vs) ≡ in_places (read_fields (table_of 24 t) s start)
unfolding places read_fields
reading_end {t} {s} {start} {vs} {k} {i} r h =
    sym (rw (
      r.progress,
      drop_of_length-le (table_of 24 t) {i = k} (omega arith),
      append-nil (take k vs),
      length-take-le k vs (omega (arith, r.long, table_room 24 t)),
      ← r.rest,
      take-append-drop k vs,
    ))
