-- Arithmetic of whole bits and a remainder, in units.
-- Assumes nothing.
use mathlib.Core.Path.{◌≡◌, refl, ap, sym}
use mathlib.Core.Bool.{Bool, true, false}
use mathlib.Core.Logic.{⊎_elim}
use Prim.Native.Nat.{ℕ, suc, ◌+◌, ◌-◌, ◌*◌, ◌/◌, ◌%◌, ◌^◌, ◌≤◌, ◌<◌}
use native.Mathlib.Omega.{arith}
use native.Mathlib.Nat.{mod-lt, div-le_self, div-add-mod', suc-mul, mul-le-mul, mul-add-div, mul-add-div_right, mul-add-mod_self_right, div-lt_iff_lt-mul, le-div_iff_mul-le, div-div-eq-div-mul, add-mul-div_right, div-eq_of_lt}
use lib.Dec.{ltb}
use lib.Arith.{digits_div, digits_mod}
use borrow.Author.Tests.{ltb-true, lt-ltb}
use Rattle.bits.proofs.Appending.{lt_or_le}
use Rattle.vbv.specs.Model.{farthest, most_delivered}

-- two tests that say the same are the same
same_test : (x y : Bool) → (x ≡ true → y ≡ true) → (y ≡ true → x ≡ true) → x ≡ y
same_test true true f g = refl
same_test true false f g = sym (f refl)
same_test false true f g = g refl
same_test false false f g = refl

pub same_lt : (a b c d : ℕ) → (a < b → c < d) → (c < d → a < b) → ltb a b ≡ ltb c d
same_lt a b c d f g = same_test _ _ (λ h. lt-ltb _ _ (f (ltb-true _ _ h))) (λ h. lt-ltb _ _ (g (ltb-true _ _ h)))

-- a number of units against so many whole ones: by the floor, and by the ceiling
pub below_floor : (d e u : ℕ) → 0 < u → ltb d (e * u) ≡ ltb (d / u) e
below_floor d e u h = same_lt _ _ _ _ (div-lt_iff_lt-mul h).1 (div-lt_iff_lt-mul h).0

pub above_ceiling : (k d u : ℕ) → 0 < u → ltb (k * u) d ≡ ltb k ((d + (u - 1)) / u)
above_ceiling k d u h =
    same_lt _ _ _ _
    (λ (g : k * u < d). (le-div_iff_mul-le {k = u} {x = suc k} {y = d + (u - 1)} h).1 (omega (arith, suc-mul k u)))
    (λ (g : k < (d + (u - 1)) / u).
    let i = (le-div_iff_mul-le {k = u} {x = suc k} {y = d + (u - 1)} h).0 g in
    omega (arith, suc-mul k u))

-- the ceiling of whole ones and a remainder
pub ceiling_whole : (w u : ℕ) → 0 < u → (w * u + 0 + (u - 1)) / u ≡ w
ceiling_whole w u h =
    let e : w * u + 0 + (u - 1) ≡ w * u + (u - 1) = omega arith in
    rw e (digits_div w {m = u} {r = u - 1} (omega arith))

pub ceiling_more : (w r u : ℕ) → 0 < r → r < u → (w * u + r + (u - 1)) / u ≡ w + 1
ceiling_more w r u g h =
    let e : w * u + r + (u - 1) ≡ (w + 1) * u + (r - 1) = omega arith in
    rw e (digits_div (w + 1) {m = u} {r = r - 1} (omega arith))

-- the floor and the ceiling of what is beyond k whole ones
pub above : (w r k u : ℕ) → k ≤ w → w * u + r - k * u ≡ (w - k) * u + r
above w r k u h =
    let e : (w - k + k) * u ≡ w * u = ap (λ (x : ℕ). x * u) (omega arith) in
    omega arith

pub floor_beyond : (w r k u : ℕ) → r < u → (w * u + r - k * u) / u ≡ w - k
floor_beyond w r k u h =
    ⊎_elim
    (λ (g : w < k).
    let e : w * u + r - k * u ≡ 0 = omega (arith, mul-le-mul {n₁ = w + 1} {m₁ = u} {n₂ = k} {m₂ = u} (omega arith) (omega arith)) in
    rw (e, div-eq_of_lt {n = 0} {m = u} (omega arith)) (omega arith))
    (λ (g : k ≤ w). rw (above w r k u g) (digits_div (w - k) h))
    (lt_or_le w k)

pub ceiling_beyond : (n k u : ℕ) → 0 < u → (n - k * u + (u - 1)) / u ≡ (n + (u - 1)) / u - k
ceiling_beyond n k u h =
    ⊎_elim
    (λ (g : n < k * u).
    let e : n - k * u + (u - 1) ≡ u - 1 = omega arith in
    let q : (n + (u - 1)) / u < k + 1 = (div-lt_iff_lt-mul {k = u} {x = n + (u - 1)} {y = k + 1} h).1 (omega arith) in
    rw (e, div-eq_of_lt {n = u - 1} {m = u} (omega arith)) (omega arith))
    (λ (g : k * u ≤ n).
    let e : n + (u - 1) ≡ n - k * u + (u - 1) + k * u = omega arith in
    rw (e, add-mul-div_right (n - k * u + (u - 1)) k h) (omega arith))
    (lt_or_le n (k * u))

-- t ticks' worth after p whole bits
start_split : (p t f : ℕ) → p * (180000 * f) + t * 2 * f ≡ (p + t / 90000) * (180000 * f) + t % 90000 * 2 * f
start_split p t f = omega (arith, ap (λ (x : ℕ). x * f) (div-add-mod' t 90000))

pub start-low : (t f : ℕ) → 1 ≤ f → t % 90000 * 2 * f < 180000 * f
start-low t f h = omega (arith, mul-le-mul {n₁ = t % 90000} {m₁ = f} {n₂ = 89999} {m₂ = f} (omega arith) (omega arith))

pub start_div : (p t f : ℕ) → 1 ≤ f → (p * (180000 * f) + t * 2 * f) / (180000 * f) ≡ p + t / 90000
start_div p t f h = rw (start_split p t f) (digits_div (p + t / 90000) (start-low t f h))

pub start_mod : (p t f : ℕ) → 1 ≤ f → (p * (180000 * f) + t * 2 * f) % (180000 * f) ≡ t % 90000 * 2 * f
start_mod p t f h = rw (start_split p t f) (digits_mod (p + t / 90000) (start-low t f h))

-- n field periods' worth more: whole bits, and what may be more than one
next_split : (w r rate d n f : ℕ)
    → w * (180000 * f) + r + rate * 90000 * d * n
    ≡ (w + rate * d * n / (2 * f)) * (180000 * f) + (r + rate * d * n % (2 * f) * 90000)
next_split w r rate d n f = omega (arith, div-add-mod' (rate * d * n) (2 * f))

pub next_div : (w r rate d n f : ℕ) → 1 ≤ f
    → (w * (180000 * f) + r + rate * 90000 * d * n) / (180000 * f)
    ≡ w + rate * d * n / (2 * f) + (r + rate * d * n % (2 * f) * 90000) / (180000 * f)
next_div w r rate d n f h =
    rw (next_split w r rate d n f) (mul-add-div_right (omega arith) (w + rate * d * n / (2 * f)) (r + rate * d * n % (2 * f) * 90000))

pub next_mod : (w r rate d n f : ℕ)
    → (w * (180000 * f) + r + rate * 90000 * d * n) % (180000 * f)
    ≡ (r + rate * d * n % (2 * f) * 90000) % (180000 * f)
next_mod w r rate d n f =
    rw (next_split w r rate d n f) (mul-add-mod_self_right (w + rate * d * n / (2 * f)) (180000 * f) (r + rate * d * n % (2 * f) * 90000))

-- the expected delay with no product wider than 64 bits; a second's bits are more than it can say
pub delay_split : (b r f rate : ℕ) → 1 ≤ f
    → (b * (180000 * f) + r + f * rate) / (2 * f * rate) ≡ (180000 * b + r / f + rate) / (2 * rate)
delay_split b r f rate h =
    let e : b * (180000 * f) + r + f * rate ≡ f * (180000 * b + rate) + r = omega arith in
    let g : 2 * f * rate ≡ f * (2 * rate) = omega arith in
    let k : 180000 * b + rate + r / f ≡ 180000 * b + r / f + rate = omega arith in
    rw (e, g, ← div-div-eq-div-mul (f * (180000 * b + rate) + r) f (2 * rate), mul-add-div h (180000 * b + rate) r, k)

pub delay_large : (b r f rate : ℕ) → 1 ≤ rate → rate ≤ b → 65534 < (180000 * b + r / f + rate) / (2 * rate)
delay_large b r f rate h g = (le-div_iff_mul-le {k = 2 * rate} {x = 65535} {y = 180000 * b + r / f + rate} (omega arith)).1 (omega arith)

-- numbers in their ranges stay in 64 bits, step by step: the start
pub ticks_most : (d r : ℕ) → d < 65536 → r ≤ 429496729200 → d * r < 2 ^ 55
ticks_most d r h g = omega (arith, mul-le-mul {n₁ = d} {m₁ = r} {n₂ = 65535} {m₂ = 429496729200} (omega arith) g)

pub ticks_fit : (d r : ℕ) → d < 65536 → r ≤ 429496729200 → d * r < 2 ^ 64
ticks_fit d r h g = omega (arith, ticks_most d r h g)

pub start_fit : (p d r : ℕ) → p ≤ farthest → d < 65536 → r ≤ 429496729200 → p + d * r / 90000 < 2 ^ 64
start_fit p d r k h g = omega (arith, ticks_most d r h g)

pub rest_fit : (t f : ℕ) → 1 ≤ f → f ≤ 240000 → t % 90000 * 2 * f < 2 ^ 64
rest_fit t f h g = omega (arith, start-low t f h)

-- the advance
pub rate_fit : (r d : ℕ) → r ≤ 429496729200 → d ≤ 32032 → r * d < 2 ^ 64
rate_fit r d h g = omega (arith, mul-le-mul {n₁ = r} {m₁ = d} {n₂ = 429496729200} {m₂ = 32032} h g)

gain-most : (r d n : ℕ) → r ≤ 429496729200 → d ≤ 32032 → n ≤ 6 → r * d * n ≤ 82545835378406400
gain-most r d n h g k =
    let e = mul-le-mul {n₁ = r} {m₁ = d} {n₂ = 429496729200} {m₂ = 32032} h g in
    omega (arith, mul-le-mul {n₁ = r * d} {m₁ = n} {n₂ = 429496729200 * 32032} {m₂ = 6} e k)

pub gain_fit : (r d n : ℕ) → r ≤ 429496729200 → d ≤ 32032 → n ≤ 6 → r * d * n < 2 ^ 64
gain_fit r d n h g k = omega (arith, gain-most r d n h g k)

pub left_fit : (x f : ℕ) → 1 ≤ f → f ≤ 240000 → x % (2 * f) * 90000 < 2 ^ 64
left_fit x f h g = omega (arith, mod-lt x {m = 2 * f} (omega arith))

pub sum_fit : (r x f : ℕ) → r < 180000 * f → 1 ≤ f → f ≤ 240000 → r + x % (2 * f) * 90000 < 2 ^ 64
sum_fit r x f l h g = omega (arith, mod-lt x {m = 2 * f} (omega arith))

pub whole_fit : (w r d n f : ℕ) → w ≤ most_delivered → r ≤ 429496729200 → d ≤ 32032 → n ≤ 6 → w + r * d * n / (2 * f) < 2 ^ 64
whole_fit w r d n f l h g k = omega (arith, gain-most r d n h g k, div-le_self (r * d * n) (2 * f))

pub next-most : (w s r d n f : ℕ) → w ≤ most_delivered → s < 180000 * f → 1 ≤ f → f ≤ 240000 → r ≤ 429496729200 → d ≤ 32032 → n ≤ 6
    → w + r * d * n / (2 * f) + (s + r * d * n % (2 * f) * 90000) / (180000 * f) ≤ w + 82545921778406400
next-most w s r d n f l t a b h g k =
    omega (
      arith,
      gain-most r d n h g k,
      mod-lt (r * d * n) {m = 2 * f} (omega arith),
      div-le_self (r * d * n) (2 * f),
      div-le_self (s + r * d * n % (2 * f) * 90000) (180000 * f),
    )

pub next_fit : (w s r d n f : ℕ) → w ≤ most_delivered → s < 180000 * f → 1 ≤ f → f ≤ 240000 → r ≤ 429496729200 → d ≤ 32032 → n ≤ 6
    → w + r * d * n / (2 * f) + (s + r * d * n % (2 * f) * 90000) / (180000 * f) < 2 ^ 64
next_fit w s r d n f l t a b h g k = omega (arith, next-most w s r d n f l t a b h g k)

-- the delay
pub delay_fit : (b r f : ℕ) → b < 429496729200 → r < 43200000000 → 180000 * b + r / f < 2 ^ 64
delay_fit b r f h g = omega (arith, div-le_self r f)

pub delay_fit_2 : (b r f s : ℕ) → b < 429496729200 → r < 43200000000 → s ≤ 429496729200 → 180000 * b + r / f + s < 2 ^ 64
delay_fit_2 b r f s h g k = omega (arith, div-le_self r f)
