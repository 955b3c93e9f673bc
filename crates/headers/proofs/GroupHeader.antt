-- The group header: the nominal rate, the time code, and that it always fits.
-- Assumes nothing.
use mathlib.Core.Path.{◌≡◌, refl, sym}
use mathlib.Core.List.{[], ◌∷◌}
use mathlib.Core.Bool.{Bool, true, false, not, ◌&&◌}
use Prim.Native.Nat.{ℕ, zero, suc, ◌≤◌, ◌<◌, zero-le}
use native.Mathlib.Nat.{mod-lt}
use native.Mathlib.Omega.{arith}
use borrow.Author.Tests.{le-leb, lt-leb, leb-true}
use lib.Dec.{leb, lit≤}
use lib.ListN.{get_or}
use Rattle.bits.specs.Bits.{pick}
use Rattle.bits.specs.Refusals.{Answer, value, refused, and_then}
use Rattle.bits.specs.Fields.{fits_all, total}
use Rattle.bits.proofs.Flags.{both_true, clash}
use Rattle.bits.proofs.Reading.{total-none, total-more}
use Rattle.bits.proofs.Checking.{fits_none, fits_more, fits_all_lem}
use Rattle.headers.specs.Answers.{flag_of}
use Rattle.headers.specs.GroupHeader.{group_fields, group_values, nominal_rates, nominal_rate, time_code, time_code_at}
use Rattle.headers.specs.declared.gop_header.TimeCode.{TimeCode}
use Rattle.headers.specs.declared.gop_header.Mpeg2Gop.{Mpeg2Gop}
use Rattle.headers.proofs.Answers.{flag-bound}

-- the ways of `nominal_pictures_per_second`
module _ (c : ℕ) where
  pub rate_low : c < 1 → refused 6 0 0 0 ≡ nominal_rate c
  unfolding nominal_rate pick
  rate_low h = rw (lt-leb 1 c h)

  pub rate_high : 8 < c → refused 6 0 0 0 ≡ nominal_rate c
  unfolding nominal_rate pick
  rate_high h = rw (le-leb 1 c (omega arith), lt-leb c 8 h)

  pub rate_is : 1 ≤ c → c ≤ 8 → value (get_or nominal_rates c 0) ≡ nominal_rate c
  unfolding nominal_rate pick
  rate_is l h = rw (le-leb 1 c l, le-leb c 8 h)

-- the ways of `from_display_index`
module _ (n c : ℕ) where
  pub code_at : {p : ℕ} → value p ≡ nominal_rate c → value (time_code n p) ≡ time_code_at n c
  unfolding time_code_at
  code_at e = rw (← e)

  pub no_code : refused 6 0 0 0 ≡ nominal_rate c → refused 6 0 0 0 ≡ time_code_at n c
  unfolding time_code_at
  no_code e = rw (← e)

-- a nominal rate is between 24 and 60
rates : (c : ℕ) → 1 ≤ c → c ≤ 8 → (24 ≤ get_or nominal_rates c 0) × (get_or nominal_rates c 0 ≤ 60)
rates zero l h = absurd (omega arith)
rates (suc zero) l h = (lit≤ tt, lit≤ tt)
rates (suc (suc zero)) l h = (lit≤ tt, lit≤ tt)
rates (suc (suc (suc zero))) l h = (lit≤ tt, lit≤ tt)
rates (suc (suc (suc (suc zero)))) l h = (lit≤ tt, lit≤ tt)
rates (suc (suc (suc (suc (suc zero))))) l h = (lit≤ tt, lit≤ tt)
rates (suc (suc (suc (suc (suc (suc zero)))))) l h = (lit≤ tt, lit≤ tt)
rates (suc (suc (suc (suc (suc (suc (suc zero))))))) l h = (lit≤ tt, lit≤ tt)
rates (suc (suc (suc (suc (suc (suc (suc (suc zero)))))))) l h = (lit≤ tt, lit≤ tt)
rates (suc (suc (suc (suc (suc (suc (suc (suc (suc c))))))))) l h = absurd (omega arith)

pub rate_bound : (c p : ℕ) → value p ≡ nominal_rate c → (24 ≤ p) × (p ≤ 60)
unfolding nominal_rate pick
rate_bound c p e = case (leb 1 c && leb c 8) refl e
  where
    case : (b : Bool) → leb 1 c && leb c 8 ≡ b → value p ≡ pick (not b) (refused 6 0 0 0) (value (get_or nominal_rates c 0))
        → (24 ≤ p) × (p ≤ 60)
    case true t q =
        let r = both_true (leb 1 c) (leb c 8) t in
        let m : p ≡ get_or nominal_rates c 0 = cc in
        rw m (rates c (leb-true 1 c r.0) (leb-true c 8 r.1))
    case false t q = absurd (clash cc)

-- the values, one by one
pub group_values_are : (g : Mpeg2Gop) → group_values g
    ≡ flag_of g.time_code.drop_frame ∷ g.time_code.hours ∷ g.time_code.minutes ∷ 1 ∷ g.time_code.seconds ∷ g.time_code.pictures
    ∷ flag_of g.closed_gop ∷ flag_of g.broken_link ∷ []
unfolding group_values
group_values_are g = refl

-- the time code of a display index always fits
code_fits : (n p : ℕ) (closed broken : Bool) → 0 < p → p ≤ 64
    → fits_all group_fields (group_values record { time_code = time_code n p; closed_gop = closed; broken_link = broken }) ≡ true
unfolding group_values time_code
code_fits n p closed broken h l =
    fits_all_lem
    (fits_more (omega arith) (omega arith) zero-le (omega arith)
    (fits_more (omega arith) (omega arith) zero-le (omega arith)
    (fits_more (omega arith) (omega arith) zero-le (omega arith)
    (fits_more (omega arith) (omega arith) (omega arith) (omega arith)
    (fits_more (omega arith) (omega arith) zero-le (omega arith)
    (fits_more (omega arith) (omega (arith, mod-lt n h)) zero-le (omega (arith, mod-lt n h))
    (fits_more (omega arith) (omega (arith, flag-bound closed)) zero-le (omega (arith, flag-bound closed))
    (fits_more (omega arith) (omega (arith, flag-bound broken)) zero-le (omega (arith, flag-bound broken))
    fits_none))))))))

time_coded : (n c : ℕ) (t : TimeCode) → time_code_at n c ≡ value t → (p : ℕ) × (value p ≡ nominal_rate c) × (t ≡ time_code n p)
unfolding time_code_at
time_coded n c t e = case (nominal_rate c) refl e
  where
    case : (r : Answer ℕ) → nominal_rate c ≡ r → and_then r (λ p. value (time_code n p)) ≡ value t → (p : ℕ) × (value p ≡ nominal_rate c) × (t ≡ time_code n p)
    case (value p) q z = (p, sym q, cc)
    case (refused m k d x) q z = (0, (cc), (cc))

pub group_total : total group_fields ≡ 27
group_total = simp (total-more, total-none)

pub time_code-fits : (n c : ℕ) (code : TimeCode) (closed broken : Bool) → time_code_at n c ≡ value code
    → fits_all group_fields (group_values record { time_code = code; closed_gop = closed; broken_link = broken }) ≡ true
time_code-fits n c code closed broken e =
    let d = time_coded n c code e in
    let b = rate_bound c d.0 d.1 in
    rw d.2 (code_fits n d.0 closed broken (omega arith) (omega arith))
