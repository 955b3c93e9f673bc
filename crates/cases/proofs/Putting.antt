-- Bytes put one after another, as far as there is room, are those of a run of stores.
-- Assumes nothing.
use Rattle.std.proofs.Common.{◌≡◌, ℕ, suc, ◌+◌, ◌<◌, ◌≤◌, min, max, Bool, true, false, ltb, List, [], ◌∷◌, length, get_or, drop, set, sym, refl, ap, ◌∙◌, add-one, arith, length-set, drop-cons, ltb-false, ltb-true}
use Rattle.std.proofs.Math.Seq.{sets, set_out, drop-length}

-- past the end nothing is stored
sets_out : (l : List ℕ) (i : ℕ) (vs : List ℕ) → length l ≤ i → sets l i vs ≡ l
sets_out l i [] h = refl
sets_out l i (a ∷ vs) h = rw (set_out l i a h) (sets_out l (suc i) vs (omega arith))

one_put : (l : List ℕ) (i b : ℕ) (vs : List ℕ) (t : Bool) → ltb i (length l) ≡ t
    → sets (set l i b) (max i (min (i + 1) (length l))) vs ≡ sets l i (b ∷ vs)
one_put l i b vs true h =
    let e : max i (min (i + 1) (length l)) ≡ suc i = omega (arith, ltb-true i (length l) h) in
    rw e
one_put l i b vs false h =
    let g = ltb-false i (length l) h in
    let e : max i (min (i + 1) (length l)) ≡ i = omega arith in
    rw (e, set_out l i b g) (sets_out l i vs g ∙ sym (sets_out l (suc i) vs (omega arith)))

-- the first i bytes are put
pub record Put (out₀ : List ℕ) (at : ℕ) (bytes out : List ℕ) (next i : ℕ) : Type 0 where
  pub as_long : length out ≡ length out₀
  pub few : i ≤ length bytes
  pub stores : sets out next (drop i bytes) ≡ sets out₀ at bytes

pub put_none : (out : List ℕ) (at : ℕ) (bytes : List ℕ) → Put out at bytes out at 0
put_none out at bytes = record { as_long = refl; few = omega arith; stores = refl }

pub put_more : {out₀ : List ℕ} {at : ℕ} {bytes out : List ℕ} {next i : ℕ} → Put out₀ at bytes out next i → i < length bytes
    → {new : List ℕ} → new ≡ set out next (get_or bytes i 0) → {after : ℕ} → after ≡ max next (min (next + 1) (length out))
    → Put out₀ at bytes new after (i + 1)
put_more {out₀} {at} {bytes} {out} {next} {i} p l {new} e {after} f =
    rw (add-one i)
    record {
      as_long = rw e (length-set out next (get_or bytes i 0) ∙ p.as_long);
      few = omega arith;
      stores =
          rw (e, f) (one_put out next (get_or bytes i 0) (drop (suc i) bytes) (ltb next (length out)) refl
          ∙ ap (λ (xs : List ℕ). sets out next xs) (sym (drop-cons bytes i 0 l)) ∙ p.stores);
    }

pub put_all : {out₀ : List ℕ} {at : ℕ} {bytes out : List ℕ} {next i : ℕ} → Put out₀ at bytes out next i → length bytes ≤ i → out ≡ sets out₀ at bytes
put_all {bytes = bytes} {i = i} p l = let e : i ≡ length bytes = omega (arith, p.few) in rw (e, drop-length bytes) at p.stores
