-- The cadence of a writer as words, and back.
-- Assumes nothing.
use mathlib.Core.Path.{◌≡◌, refl}
use mathlib.Core.Bool.{Bool, true, not, ◌&&◌}
use mathlib.Core.List.{List, [], ◌∷◌}
use Prim.Native.Nat.{ℕ, zero, suc, ◌≤◌, ◌<◌, ◌^◌}
use native.Mathlib.Omega.{arith}
use lib.Dec.{leb, eqb}
use lib.ListN.{length}
use borrow.Author.Tests.{leb-true, le-leb}
use Rattle.bits.specs.Bits.{pick}
use Rattle.bits.proofs.Flags.{both_true}
use Rattle.headers.specs.Answers.{flag_of}
use Rattle.headers.proofs.Answers.{flag_same, flag-back, flag-bound}
use Rattle.cadence.specs.declared.OpenField.{OpenField}
use Rattle.cadence.specs.declared.OpenField.TheVariants.{Closed, LedByAnchor, LedByOther}
use Rattle.cadence.specs.declared.VbvCadence.{VbvCadence}
use Rattle.verify.specs.Mode.{mpeg2}
use Rattle.words.specs.Words.{word_at}
use Rattle.words.proofs.Bytes.{AllWords, none, some}
use Rattle.layout.specs.Mode.{mode_number, is_mode, mode_for}
use Rattle.layout.specs.State.{open_code, open_of, cadence_words, cadence_codes_fit, cadence_in}
use Rattle.layout.proofs.Modes.{mpeg2-number, writer_mode, mode_low, mode_back}

open_low : (o : OpenField) → open_code o ≤ 2
unfolding open_code
open_low Closed = omega arith
open_low LedByAnchor = omega arith
open_low LedByOther = omega arith

open_read : (o : OpenField) → open_of (open_code o) ≡ o
unfolding open_of open_code pick
open_read Closed = refl
open_read LedByAnchor = refl
open_read LedByOther = refl

open_back : (v : ℕ) → v ≤ 2 → open_code (open_of v) ≡ v
unfolding open_of open_code pick
open_back zero h = refl
open_back (suc zero) h = refl
open_back (suc (suc zero)) h = refl
open_back (suc (suc (suc v))) h = absurd (omega arith)

small_more : {v : ℕ} {vs : List ℕ} → v < 2 ^ 64 → AllWords vs → AllWords (v ∷ vs)
small_more h f = some h f

pub cadence_small : (v : Bool) (k : VbvCadence) → AllWords (cadence_words v k)
unfolding cadence_words
cadence_small v k =
    small_more (omega (arith, mode_low k.film v))
    (small_more (omega (arith, flag-bound k.progressive))
    (small_more (omega (arith, flag-bound k.low_delay))
    (small_more (omega (arith, flag-bound k.repeat))
    (small_more (omega (arith, flag-bound k.top))
    (small_more (omega (arith, open_low k.waiting)) none)))))

pub cadence-length : (v : Bool) (k : VbvCadence) → length (cadence_words v k) ≡ 6
unfolding cadence_words
cadence-length v k = refl

-- read what was put
pub record Stands (v : Bool) (k : VbvCadence) (s : List ℕ) : Type 0 where
  pub mode : word_at s 19 ≡ mode_number (mpeg2 k.film v)
  pub progressive : word_at s 20 ≡ flag_of k.progressive
  pub low_delay : word_at s 21 ≡ flag_of k.low_delay
  pub repeat : word_at s 22 ≡ flag_of k.repeat
  pub top : word_at s 23 ≡ flag_of k.top
  pub waiting : word_at s 24 ≡ open_code k.waiting

pub stands_fits : (v : Bool) (k : VbvCadence) (s : List ℕ) → Stands v k s → cadence_codes_fit s ≡ true
unfolding cadence_codes_fit
stands_fits v k s h =
    rw (h.mode, h.progressive, h.low_delay, h.repeat, h.top, h.waiting, writer_mode k.film v)
    (simp (le-leb _ _ (flag-bound k.progressive), le-leb _ _ (flag-bound k.low_delay), le-leb _ _ (flag-bound k.repeat), le-leb _ _ (flag-bound k.top), le-leb _ _ (open_low k.waiting)))

pub stands_rate : (v : Bool) (k : VbvCadence) (s : List ℕ) → Stands v k s → (mode_for (word_at s 19)).variable ≡ v
stands_rate v k s h = rw (h.mode, (mpeg2-number k.film v).1)

pub stands_read : (v : Bool) (k : VbvCadence) (s : List ℕ) → Stands v k s → cadence_in s ≡ k
unfolding cadence_in
stands_read v k s h =
    rw (
      h.mode,
      (mpeg2-number k.film v).1,
      h.progressive,
      flag_same k.progressive,
      h.low_delay,
      flag_same k.low_delay,
      h.repeat,
      flag_same k.repeat,
      h.top,
      flag_same k.top,
      h.waiting,
      open_read k.waiting,
    )

-- put back what was read
pub cadence_back : (s : List ℕ) → cadence_codes_fit s ≡ true
    → cadence_words (mode_for (word_at s 19)).variable (cadence_in s) ≡ word_at s 19 ∷ word_at s 20 ∷ word_at s 21 ∷ word_at s 22 ∷ word_at s 23 ∷ word_at s 24 ∷ []
unfolding cadence_codes_fit cadence_words cadence_in
cadence_back s h =
    let a = both_true (is_mode (word_at s 19) && not (eqb (word_at s 19) 1)) _ h in
    let b = both_true (leb (word_at s 20) 1) _ a.1 in
    let c = both_true (leb (word_at s 21) 1) _ b.1 in
    let d = both_true (leb (word_at s 22) 1) _ c.1 in
    let e = both_true (leb (word_at s 23) 1) _ d.1 in
    rw (
      mode_back (word_at s 19) a.0,
      flag-back (word_at s 20) (leb-true _ _ b.0),
      flag-back (word_at s 21) (leb-true _ _ c.0),
      flag-back (word_at s 22) (leb-true _ _ d.0),
      flag-back (word_at s 23) (leb-true _ _ e.0),
      open_back (word_at s 24) (leb-true _ _ e.1),
    )
