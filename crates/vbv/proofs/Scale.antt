-- Parameters that are the same (specs/Params `sameParams`) but for the numerator and denominator of the frame rate: what Annex C says of them is the same. Delivered bits d, counted in
-- p's units, and e, counted in q's, are as many bits.
-- Assumes nothing.
use mathlib.Core.Path.{◌≡◌, refl, sym, ap, ◌∙◌}
use Prim.Native.Nat.{ℕ, ◌+◌, ◌-◌, ◌*◌, ◌/◌, ◌≤◌, ◌<◌, min}
use native.Mathlib.Omega.{arith}
use native.Mathlib.Decide.{dec_lt}
use borrow.Author.Tests.{eqb-true}
use mathlib.Core.Bool.{Bool, true, false}
use Rattle.bits.proofs.Flags.{and_left, and_right}
use native.Mathlib.Nat.{mul-lt-mul_of_pos_right, lt_of_mul-lt-mul_right, mul-div-mul_right, mul_comm, mul-sub, le_antisymm}
use Rattle.vbv.specs.declared.VbvParams.{VbvParams}
use Rattle.vbv.specs.Annex.{unit, first_delivered, gain, overflows, beyond, expected_delay, occupancy, greatest_end, least_end, full, first_arrived, arrived, expected}
use Rattle.vbv.specs.Model.{params_in_range, ratio_fits, params_fit, params_fit_at}
use Rattle.vbv.specs.Params.{same_params}
use Rattle.vbv.specs.Rates.{SameBits, SameTold}
use Rattle.vbv.proofs.Arith.{same_lt}
use Rattle.vbv.proofs.Fitting.{not-zero}
use Rattle.vbv.proofs.Fractions.{fractions}

-- the same rate, buffer and frame rate, whose numerator and denominator may differ
pub record SameValue (p q : VbvParams) : Type 0 where
  pub rate : q.bit_rate ≡ p.bit_rate
  pub size : q.buffer_size_bits ≡ p.buffer_size_bits
  pub frames : p.frn * q.frd ≡ q.frn * p.frd
  pub p_in : params_in_range p ≡ true
  pub q_in : params_in_range q ≡ true

pub same_value : (p q : VbvParams) → same_params p q ≡ true → SameValue p q
unfolding same_params
same_value p q h =
    let a : params_in_range p ≡ true = search (and_left, and_right) depth 8 in
    let b : params_in_range q ≡ true = search (and_left, and_right) depth 8 in
    record {
      rate = eqb-true _ _ (search (and_left, and_right) depth 8);
      size = eqb-true _ _ (search (and_left, and_right) depth 8);
      frames = sym (eqb-true (q.frn * p.frd) (p.frn * q.frd) (search (and_left, and_right) depth 8));
      p_in = a;
      q_in = b;
    }

-- ---- numbers

below : (x d e f g : ℕ) → 1 ≤ g → d * g ≡ e * f → x * (180000 * f) < d → x * (180000 * g) < e
below x d e f g h s l =
    let k : x * (180000 * f) * g < d * g = mul-lt-mul_of_pos_right l (omega arith) in
    let m : x * (180000 * f) * g ≡ x * (180000 * g) * f = omega arith in
    lt_of_mul-lt-mul_right f (omega arith)

above : (x d e f g : ℕ) → 1 ≤ g → d * g ≡ e * f → d < x * (180000 * f) → e < x * (180000 * g)
above x d e f g h s l =
    let k : d * g < x * (180000 * f) * g = mul-lt-mul_of_pos_right l (omega arith) in
    let m : x * (180000 * f) * g ≡ x * (180000 * g) * f = omega arith in
    lt_of_mul-lt-mul_right f (omega arith)

at_most : (x d e f g : ℕ) → 1 ≤ f → d * g ≡ e * f → d ≤ x * (180000 * f) → e ≤ x * (180000 * g)
at_most x d e f g h s l = go (dec_lt (x * (180000 * g)) e)
  where
    go : Dec (x * (180000 * g) < e) → e ≤ x * (180000 * g)
    go (yes z) = absurd (let k = below x e d g f h (sym s) z in omega arith)
    go (no z) = omega (arith, z)

less : (x d e f g : ℕ) → d * g ≡ e * f → (d - x * (180000 * f)) * g ≡ (e - x * (180000 * g)) * f
less x d e f g s =
    let a : (d - x * (180000 * f)) * g ≡ g * d - g * (x * (180000 * f)) = mul_comm (d - x * (180000 * f)) g ∙ mul-sub g d (x * (180000 * f)) in
    let b : (e - x * (180000 * g)) * f ≡ f * e - f * (x * (180000 * g)) = mul_comm (e - x * (180000 * g)) f ∙ mul-sub f e (x * (180000 * g)) in
    let c : g * (x * (180000 * f)) ≡ f * (x * (180000 * g)) = omega arith in
    let k : g * d ≡ f * e = omega arith in
    rw (a, b, c, k) refl

quotient : (a b c d f g : ℕ) → 1 ≤ f → 1 ≤ g → a * g ≡ c * f → b * g ≡ d * f → a / b ≡ c / d
quotient a b c d f g hf hg s t =
    sym (mul-div-mul_right {m = g} a b (omega arith)) ∙ ap (λ (z : ℕ). z / (b * g)) s ∙ ap (λ (z : ℕ). c * f / z) t ∙ mul-div-mul_right {m = f} c d (omega arith)

-- the lesser of both
lesser : (a b c d f g : ℕ) → 1 ≤ f → 1 ≤ g → a * g ≡ c * f → b * g ≡ d * f → min a b * g ≡ min c d * f
lesser a b c d f g hf hg s t = go (dec_lt a b)
  where
    go : Dec (a < b) → min a b * g ≡ min c d * f
    go (yes z) =
        let k : a * g < b * g = mul-lt-mul_of_pos_right z (omega arith) in
        let l : c < d = lt_of_mul-lt-mul_right f (omega arith) in
        let x : min a b ≡ a = omega arith in
        let y : min c d ≡ c = omega arith in
        rw (x, y) s
    go (no z) = go_2 (dec_lt c d)
      where
        go_2 : Dec (c < d) → min a b * g ≡ min c d * f
        go_2 (yes y) =
            let k : c * f < d * f = mul-lt-mul_of_pos_right y (omega arith) in
            absurd (z (lt_of_mul-lt-mul_right g (omega arith)))
        go_2 (no y) =
            let x : min a b ≡ b = omega (arith, z) in
            let w : min c d ≡ d = omega (arith, y) in
            rw (x, w) t

-- ---- Annex C

module _ {p q : VbvParams} (v : SameValue p q) where
  p-low : 1 ≤ p.frn
  p-low = (not-zero p v.p_in).1

  q-low : 1 ≤ q.frn
  q-low = (not-zero q v.q_in).1

  p-rate : 1 ≤ p.bit_rate
  p-rate = (not-zero p v.p_in).0

  q-rate : 1 ≤ q.bit_rate
  q-rate = rw v.rate p-rate

  -- a frame's share of the rate, whole bits
  pub same_share : p.bit_rate * p.frd / p.frn ≡ q.bit_rate * q.frd / q.frn
  same_share =
      let k : p.bit_rate * (p.frn * q.frd) ≡ p.bit_rate * (q.frn * p.frd) = ap (λ (z : ℕ). p.bit_rate * z) v.frames in
      rw v.rate (quotient (p.bit_rate * p.frd) p.frn (p.bit_rate * q.frd) q.frn p.frn q.frn p-low q-low (omega arith) (omega arith))

  same-fits : params_fit p ≡ params_fit q
  unfolding params_fit ratio_fits
  same-fits = rw (v.p_in, v.q_in, v.rate, v.size)

  pub same_first : (position delay : ℕ) → SameBits p q (first_delivered p position delay) (first_delivered q position delay)
  unfolding first_delivered unit
  same_first position delay = rw v.rate (omega arith)

  pub same-gain : (d e n : ℕ) → SameBits p q d e → SameBits p q (d + gain p n) (e + gain q n)
  unfolding gain
  same-gain d e n s =
      let k : p.bit_rate * 90000 * n * (p.frn * q.frd) ≡ p.bit_rate * 90000 * n * (q.frn * p.frd) = ap (λ (z : ℕ). p.bit_rate * 90000 * n * z) v.frames in
      rw v.rate (omega arith)

  -- a full buffer, and what has arrived at either kind of rate
  same_full : (end : ℕ) → SameBits p q (full p end) (full q end)
  unfolding full unit
  same_full end = rw v.size (omega arith)

  same-fits_at : (w : Bool) → params_fit_at w p ≡ params_fit_at w q
  same-fits_at true = rw (v.p_in, v.q_in)
  same-fits_at false = same-fits

  pub same-first_arrived : (w : Bool) (position delay : ℕ) → SameBits p q (first_arrived w p position delay) (first_arrived w q position delay)
  same-first_arrived true position delay = same_full 0
  same-first_arrived false position delay = same_first position delay

  pub same-arrived : (w : Bool) (end d e n : ℕ) → SameBits p q d e → SameBits p q (arrived w p end d n) (arrived w q end e n)
  same-arrived true end d e n s = lesser (d + gain p n) (full p end) (e + gain q n) (full q end) p.frn q.frn p-low q-low (same-gain d e n s) (same_full end)
  same-arrived false end d e n s = same-gain d e n s

  module _ (d e : ℕ) (s : SameBits p q d e) where
    pub same-overflows : (previous : ℕ) → overflows p previous d ≡ overflows q previous e
    unfolding overflows unit
    same-overflows previous =
        rw v.size
        (same_lt _ _ _ _ (below _ d e p.frn q.frn q-low s) (below _ e d q.frn p.frn p-low (sym s)))

    pub same-beyond : (end : ℕ) → beyond p end d ≡ beyond q end e
    unfolding beyond unit
    same-beyond end = same_lt _ _ _ _ (above end d e p.frn q.frn q-low s) (above end e d q.frn p.frn p-low (sym s))

    pub same-occupancy : (previous : ℕ) → occupancy p previous d ≡ occupancy q previous e
    unfolding occupancy unit
    same-occupancy previous =
        quotient (d - previous * (180000 * p.frn)) (180000 * p.frn) (e - previous * (180000 * q.frn)) (180000 * q.frn) p.frn q.frn
        p-low q-low (less previous d e p.frn q.frn s) (omega arith)

    pub same-expected : (position : ℕ) → expected_delay p position d ≡ expected_delay q position e
    unfolding expected_delay unit
    same-expected position =
        let l = less position d e p.frn q.frn s in
        rw v.rate
        (quotient (d - position * (180000 * p.frn) + p.frn * p.bit_rate) (2 * p.frn * p.bit_rate)
        (e - position * (180000 * q.frn) + q.frn * p.bit_rate) (2 * q.frn * p.bit_rate) p.frn q.frn
        p-low q-low (omega arith) (omega arith))

    pub same-expected_at : (w : Bool) (position : ℕ) → expected w p position d ≡ expected w q position e
    same-expected_at true position = refl
    same-expected_at false position = same-expected position

    same-greatest : greatest_end p d ≡ greatest_end q e
    unfolding greatest_end unit
    same-greatest = quotient d (180000 * p.frn) e (180000 * q.frn) p.frn q.frn p-low q-low s (omega arith)

    least-most : least_end q e ≤ least_end p d
    unfolding unit
    least-most =
        let a = ((fractions p p-rate p-low).least_is (least_end p d) d).0 (omega arith) in
        ((fractions q q-rate q-low).least_is (least_end p d) e).1
        (rw v.size (at_most (least_end p d + p.buffer_size_bits) d e p.frn q.frn p-low s a))

turned : {p q : VbvParams} → SameValue p q → SameValue q p
turned v = record { rate = sym v.rate; size = sym v.size; frames = sym v.frames; p_in = v.q_in; q_in = v.p_in }

pub same_told : (p q : VbvParams) → same_params p q ≡ true → SameTold p q
same_told p q h =
    let v = same_value p q h in
    record {
      fits = same-fits v;
      first = same_first v;
      later = same-gain v;
      overflow = λ previous d e s. same-overflows v d e s previous;
      underflow = λ end d e s. same-beyond v d e s end;
      expected = λ position d e s. same-expected v d e s position;
      held = λ previous d e s. same-occupancy v d e s previous;
      greatest_end_lem = λ d e s. same-greatest v d e s;
      least_end_lem = λ d e s. le_antisymm (least-most (turned v) e d (sym s)) (least-most v d e s);
      fits_at = same-fits_at v;
      first_arrived_lem = same-first_arrived v;
      next_arrived = same-arrived v;
      expected_at_lem = λ w position d e s. same-expected_at v d e s w position;
    }
