-- A writer's state put over a place and read from it, and the other way.
-- Assumes nothing.
use mathlib.Core.Path.{◌≡◌, refl, sym}
use mathlib.Core.Bool.{Bool, true}
use mathlib.Core.List.{List, ◌∷◌, ◌++◌}
use Prim.Native.Nat.{ℕ, zero, suc, ◌≤◌, ◌<◌}
use native.Mathlib.Omega.{arith}
use lib.Dec.{T, leb, ltb, eqb, lit<}
use lib.ListN.{length, get_or, take, drop, length-append, take-append-drop}
use lib.Seq.{length-take-le}
use borrow.Author.Tests.{leb-true, eqb-true, le-leb}
use Rattle.bits.specs.Bits.{pick}
use Rattle.bits.proofs.Over.{over_is}
use Rattle.bits.proofs.Flags.{both_true}
use Rattle.headers.specs.Answers.{flag_of}
use Rattle.headers.proofs.Answers.{flag_same, flag-back, flag-bound}
use Rattle.layers.specs.declared.PictureKind.{PictureKind}
use Rattle.layers.specs.declared.PictureKind.TheVariants.{I, P, B}
use Rattle.vbv.specs.declared.VbvCbrModel.{VbvCbrModel}
use Rattle.rate_control.specs.Writer.{writer_fits}
use Rattle.std.specs.Prelude.{Option, Some, None}
use Rattle.rate_control.specs.declared.CbrWriter.{CbrWriter}
use Rattle.rate_control.proofs.States.{Three, of_three, is_three}
use Rattle.words.specs.Words.{words_bytes, laid, word_at}
use Rattle.words.proofs.Bytes.{length_words, word_put, words_from, words_back}
use Rattle.words.proofs.Laying.{laid-over, length-laid}
use Rattle.layout.specs.State.{state_size, pending_code, pending_quantiser, cadence_words, state_words, state_bytes, pending_of, codes_fit, writer_at, state_fits}
use Rattle.cadence.specs.declared.VbvCadence.{VbvCadence}
use Rattle.layout.proofs.Cadences.{cadence-length, Stands, stands_fits, stands_rate, stands_read, cadence_back}
use Rattle.layout.proofs.Ranges.{code_low, state_small}

-- ---- a writer's lists

length-state_words : (w : CbrWriter) → length w.target_bits ≡ 3 → length w.q ≡ 3 → length (state_words w) ≡ 25
unfolding state_words
length-state_words w t q =
    let rest = pending_code w.pending ∷ pending_quantiser w.pending ∷ w.stuffing_bytes ∷ flag_of w.finished ∷ cadence_words w.variable w.cadence in
    omega (arith, length-append w.target_bits (w.q ++ rest), length-append w.q rest, cadence-length w.variable w.cadence)

pub length-state : (w : CbrWriter) → length w.target_bits ≡ 3 → length w.q ≡ 3 → length (state_bytes w) ≡ state_size
unfolding state_bytes
length-state w t q = omega (arith, length_words (state_words w), length-state_words w t q)

-- ---- read what was put

pending_read : (p : Option (PictureKind × ℕ)) → pending_of (pending_code p) (pending_quantiser p) ≡ p
unfolding pending_of pending_code pending_quantiser pick
pending_read None = refl
pending_read (Some (I, q)) = refl
pending_read (Some (P, q)) = refl
pending_read (Some (B, q)) = refl

-- no quantiser where none is pending
pending_told : (p : Option (PictureKind × ℕ)) → pick (eqb (pending_code p) 0) (eqb (pending_quantiser p) 0) true ≡ true
unfolding pending_code pending_quantiser pick
pending_told None = refl
pending_told (Some (I, q)) = refl
pending_told (Some (P, q)) = refl
pending_told (Some (B, q)) = refl

-- the words of a writer stand in a place
abbrev Stand : CbrWriter → List ℕ → Type 0
Stand w s = (k : ℕ) → T (ltb k 25) → word_at s k ≡ get_or (state_words w) k 0

stand_put : (w : CbrWriter) (place : List ℕ) → writer_fits w ≡ true → length w.target_bits ≡ 3 → length w.q ≡ 3 → state_size ≤ length place
    → Stand w (laid (state_bytes w) place)
unfolding state_bytes
stand_put w place h t q l k g =
    let b = words_bytes (state_words w) in
    rw (laid-over b place (omega (arith, length-state w t q)), over_is b place)
    (word_put (state_small w h) (drop (length b) place) k (omega (arith, lit< {m = k} {n = 25} g, length-state_words w t q)))

-- so they are read: the codes fit, and the writer is that one
stand_read : (m : VbvCbrModel) {t q : List ℕ} → Three t → Three q → (p : Option (PictureKind × ℕ)) (n : ℕ) (f : Bool) (k : VbvCadence) (v : Bool) (s : List ℕ)
    → Stand (record { model = m; target_bits = t; q = q; pending = p; stuffing_bytes = n; finished = f; cadence = k; variable = v }) s
    → (codes_fit s ≡ true)
    × (writer_at s ≡ record { model = m; target_bits = t; q = q; pending = p; stuffing_bytes = n; finished = f; cadence = k; variable = v })
unfolding state_words cadence_words codes_fit writer_at
stand_read m (of_three a b c) (of_three d e g) p n f k v s at = (
  rw (at 8 tt, at 15 tt, at 16 tt, at 18 tt, pending_told p, stands_fits v k s stands) (simp (le-leb _ _ (flag-bound m.started), le-leb _ _ (code_low p), le-leb _ _ (flag-bound f))),
  rw (
    at 0 tt,
    at 1 tt,
    at 2 tt,
    at 3 tt,
    at 4 tt,
    at 5 tt,
    at 6 tt,
    at 7 tt,
    at 8 tt,
    flag_same m.started,
    at 9 tt,
    at 10 tt,
    at 11 tt,
    at 12 tt,
    at 13 tt,
    at 14 tt,
    at 15 tt,
    at 16 tt,
    pending_read p,
    at 17 tt,
    at 18 tt,
    flag_same f,
    stands_read v k s stands,
    stands_rate v k s stands,
  ),
)
  where
    stands : Stands v k s
    stands = record { mode = at 19 tt; progressive = at 20 tt; low_delay = at 21 tt; repeat = at 22 tt; top = at 23 tt; waiting = at 24 tt }

module _ (w : CbrWriter) (place : List ℕ) (h : writer_fits w ≡ true) (t : length w.target_bits ≡ 3) (q : length w.q ≡ 3) (l : state_size ≤ length place) where
  pub read_put : (state_fits (laid (state_bytes w) place) ≡ true) × (writer_at (laid (state_bytes w) place) ≡ w)
  unfolding state_fits
  read_put =
      let s = laid (state_bytes w) place in
      let r = stand_read w.model (is_three _ t) (is_three _ q) w.pending w.stuffing_bytes w.finished w.cadence w.variable s (stand_put w place h t q l) in
      (rw (length-laid (state_bytes w) place, le-leb _ _ l, r.0, r.1, h), r.1)

-- ---- put back what was read

-- what the test of a place says
pub state_fits_lem : (s : List ℕ) → state_fits s ≡ true → (state_size ≤ length s) × (codes_fit s ≡ true) × (writer_fits (writer_at s) ≡ true)
unfolding state_fits
state_fits_lem s h =
    let a = both_true (leb state_size (length s)) _ h in
    let b = both_true (codes_fit s) _ a.1 in
    (leb-true _ _ a.0, b.0, b.1)

code_back : (v q : ℕ) → v ≤ 3 → pending_code (pending_of v q) ≡ v
unfolding pending_code pending_of pick
code_back zero q h = refl
code_back (suc zero) q h = refl
code_back (suc (suc zero)) q h = refl
code_back (suc (suc (suc zero))) q h = refl
code_back (suc (suc (suc (suc v)))) q h = absurd (omega arith)

quantiser_back : (v q : ℕ) → v ≤ 3 → pick (eqb v 0) (eqb q 0) true ≡ true → pending_quantiser (pending_of v q) ≡ q
unfolding pending_quantiser pending_of pick
quantiser_back zero q h t = sym (eqb-true q 0 t)
quantiser_back (suc zero) q h t = refl
quantiser_back (suc (suc zero)) q h t = refl
quantiser_back (suc (suc (suc zero))) q h t = refl
quantiser_back (suc (suc (suc (suc v)))) q h t = absurd (omega arith)

words_read : (s : List ℕ) → codes_fit s ≡ true → state_words (writer_at s) ≡ words_from 0 25 s
unfolding codes_fit state_words writer_at
words_read s h =
    let a = both_true (leb (word_at s 8) 1) _ h in
    let b = both_true (leb (word_at s 15) 3) _ a.1 in
    let c = both_true (pick (eqb (word_at s 15) 0) (eqb (word_at s 16) 0) true) _ b.1 in
    let d = both_true (leb (word_at s 18) 1) _ c.1 in
    rw (
      flag-back (word_at s 8) (leb-true _ _ a.0),
      code_back (word_at s 15) (word_at s 16) (leb-true _ _ b.0),
      quantiser_back (word_at s 15) (word_at s 16) (leb-true _ _ b.0) c.0,
      flag-back (word_at s 18) (leb-true _ _ d.0),
      cadence_back s d.1,
    )

pub read_back : (s : List ℕ) → state_fits s ≡ true → ((k : ℕ) → get_or s k 0 < 256) → laid (state_bytes (writer_at s)) s ≡ s
unfolding state_bytes
read_back s h b =
    let f = state_fits_lem s h in
    let l = length-take-le state_size s f.0 in
    rw (words_read s f.1, words_back s 25 0 b f.0, laid-over (take state_size s) s (omega arith), over_is (take state_size s) s, l) (take-append-drop state_size s)
