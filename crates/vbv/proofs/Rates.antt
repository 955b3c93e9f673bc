-- The figures of frame rates hold; and only the value of a frame rate counts.
-- Assumes nothing.
use mathlib.Core.Path.{◌≡◌, refl, sym, ◌∙◌}
use mathlib.Core.Bool.{false, ◌&&◌, and-false}
use Prim.Native.Nat.{ℕ, ◌+◌, ◌*◌, ◌≤◌}
use native.Mathlib.Omega.{arith}
use native.Mathlib.Nat.{mul-one}
use lib.Dec.{leb}
use borrow.Author.Tests.{le-leb, lt-leb}
use Rattle.bits.specs.Bits.{pick}
use Rattle.bits.specs.Refusals.{Answer, value, refused, and_then}
use Rattle.bits.proofs.Following.{then_value, same_value}
use Rattle.vbv.specs.Answers.{code_rate, frame_rate}
use Rattle.vbv.specs.Rates.{LookupDue, RateFigures, RatesOwed}
use Rattle.vbv.proofs.Cases.{RateCode, known, unknown, rate-code}
use Rattle.vbv.proofs.Scale.{same_told}

too_wide : (c n d : ℕ) → (leb n 3 && leb d 31) ≡ false → frame_rate c n d ≡ refused 12 0 0 0
unfolding frame_rate pick
too_wide c n d e = rw e

in_width : (c n d : ℕ) → n ≤ 3 → d ≤ 31 → frame_rate c n d ≡ and_then (code_rate c) (λ f. value (f.0 * (n + 1), f.1 * (d + 1)))
unfolding frame_rate pick
in_width c n d l h = rw (le-leb n 3 l, le-leb d 31 h)

-- of the code alone
own_rate : (c : ℕ) (f : ℕ × ℕ) → frame_rate c 0 0 ≡ value f → code_rate c ≡ value f
own_rate c f e =
    let a = then_value (code_rate c) (sym (in_width c 0 0 (omega arith) (omega arith)) ∙ e) in
    let g : ◌≡◌ {A = ℕ × ℕ} (a.0.0 * 1, a.0.1 * 1) f = same_value a.2 in
    rw (← g, mul-one, mul-one) a.1

lookup_due : LookupDue
lookup_due = record {
  n_wide = λ c n d h. too_wide c n d (rw (lt-leb n 3 h));
  d_wide = λ c n d h. too_wide c n d (rw (lt-leb d 31 h) (and-false (leb n 3)));
  no_rate = λ c n d l h z. go c n d l h z (rate-code c n d l h);
  product = λ c n d f l h e. rw (in_width c n d l h, own_rate c f e);
}
  where
    go : (c n d : ℕ) → n ≤ 3 → d ≤ 31 → (1 ≤ c → c ≤ 8 → ⊥) → {x : Answer (ℕ × ℕ)} → RateCode c 4 32 x → x ≡ refused 6 0 0 0
    go c n d l h z (known i j k m o q) = absurd (z i j)
    go c n d l h z (unknown y) = refl

figures : RateFigures
unfolding frame_rate code_rate pick
figures = record {
  code_1 = refl;
  code_2 = refl;
  code_3 = refl;
  code_4 = refl;
  code_5 = refl;
  code_6 = refl;
  code_7 = refl;
  code_8 = refl;
  greatest = refl;
  half_of_50 = refl;
  doubled_and_halved = refl;
  two_fifths = refl;
  up = refl;
  down = refl;
  wide_n = refl;
  wide_d = refl;
  wide_n_alone = refl;
  wide_d_alone = refl;
  no_code = refl;
  no_code_0 = refl;
}

pub rates : RatesOwed
rates = record { lookup = lookup_due; figures = figures; value_decides = same_told }
