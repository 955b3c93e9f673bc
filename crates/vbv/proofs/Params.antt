-- R, B and the frame rate by the fields of a sequence header, field by field; and the test whether two are the same.
-- Assumes nothing.
use mathlib.Core.Path.{◌≡◌, refl, sym, ◌∙◌}
use mathlib.Core.Bool.{Bool, true, false, ◌&&◌}
use Prim.Native.Nat.{ℕ, ◌*◌, ◌≤◌}
use lib.Dec.{leb, eqb}
use borrow.Author.Tests.{le-leb, eq-eqb}
use Rattle.bits.proofs.Flags.{and_left, and_right, both_true}
use Rattle.vbv.specs.Model.{params_in_range}
use Rattle.vbv.specs.Params.{rate_unit, buffer_unit, params_of, same_params}
use Rattle.vbv.specs.declared.VbvParams.{VbvParams}

pub params_are : (rate buffer n d : ℕ)
    → params_of rate buffer (n, d) ≡ record { bit_rate = rate_unit * rate; buffer_size_bits = buffer_unit * buffer; frn = n; frd = d }
unfolding params_of
params_are rate buffer n d = refl

module _ (rate buffer : ℕ) (f : ℕ × ℕ) where
  pub params-rate : (params_of rate buffer f).bit_rate ≡ rate_unit * rate
  unfolding params_of
  params-rate = refl

  pub params_buffer : (params_of rate buffer f).buffer_size_bits ≡ buffer_unit * buffer
  unfolding params_of
  params_buffer = refl

  pub params_frn : (params_of rate buffer f).frn ≡ f.0
  unfolding params_of
  params_frn = refl

  pub params_frd : (params_of rate buffer f).frd ≡ f.1
  unfolding params_of
  params_frd = refl

-- the test whether two are the same, by that of their ranges
module _ (p q : VbvParams) (a b : Bool) (e : a ≡ params_in_range p) (f : b ≡ params_in_range q) where
  pub both_in : a && b ≡ true → (params_in_range p ≡ true) × (params_in_range q ≡ true)
  both_in h = let z = both_true a b h in (sym e ∙ z.0, sym f ∙ z.1)

  pub same_in : a && b ≡ true
      → (eqb q.bit_rate p.bit_rate && eqb q.buffer_size_bits p.buffer_size_bits && eqb (q.frn * p.frd) (p.frn * q.frd)) ≡ same_params p q
  unfolding same_params
  same_in h = let z = both_in h in rw (z.0, z.1)

  pub same_out : a && b ≡ false → false ≡ same_params p q
  unfolding same_params
  same_out h = let z : (params_in_range p && params_in_range q) ≡ false = rw (← e, ← f) h in rw z

-- and back, where the one is in its ranges and the other's frame rate too
module _ (p q : VbvParams) (h : params_in_range p ≡ true) (r : q.bit_rate ≡ p.bit_rate) (b : q.buffer_size_bits ≡ p.buffer_size_bits)
    (f : (1 ≤ q.frn) × (q.frn ≤ 240000) × (1 ≤ q.frd) × (q.frd ≤ 32032)) where
  other_in : params_in_range q ≡ true
  unfolding params_in_range
  other_in =
      let rate_low : leb 1 p.bit_rate ≡ true = search (and_left, and_right) depth 14 in
      let rate_high : leb p.bit_rate 429496729200 ≡ true = search (and_left, and_right) depth 14 in
      let size_low : leb 1 p.buffer_size_bits ≡ true = search (and_left, and_right) depth 14 in
      let size_high : leb p.buffer_size_bits 4294950912 ≡ true = search (and_left, and_right) depth 14 in
      simp (r, b, rate_low, rate_high, size_low, size_high, le-leb _ _ f.0, le-leb _ _ f.1, le-leb _ _ f.2, le-leb _ _ f.3)

  pub same_by : q.frn * p.frd ≡ p.frn * q.frd → same_params p q ≡ true
  unfolding same_params
  same_by e = rw (h, other_in, eq-eqb _ _ r, eq-eqb _ _ b, eq-eqb _ _ e)
