-- A configuration in fields of few bits: creation answers to it as to the values themselves.
-- Assumes nothing.
use mathlib.Core.Path.{◌≡◌, refl, ap, ◌∙◌}
use Prim.Native.Nat.{ℕ, ◌≤◌, ◌<◌}
use native.Mathlib.Omega.{arith}
use native.Mathlib.Decide.{dec_lt}
use borrow.Author.Tests.{le-leb, lt-leb}
use Rattle.bits.specs.Bits.{pick}
use Rattle.bits.specs.Refusals.{Answer}
use Rattle.rate_control.specs.Create.{create}
use Rattle.rate_control.specs.Due.{Ranges, CreationDue, bad_range, bad_code, bad_ratio, created}
use Rattle.rate_control.specs.declared.CbrConfig.{CbrConfig}
use Rattle.rate_control.specs.declared.CbrWriter.{CbrWriter}
use Rattle.rate_control.proofs.Creating.{creation_due, creation_only}
use Rattle.layout.specs.Steps.{or_outside, narrowed}

pub inside : (most outside v : ℕ) → v ≤ most → or_outside most outside v ≡ v
unfolding or_outside pick
inside most outside v h = rw (le-leb v most h)

pub above : (most outside v : ℕ) → most < v → or_outside most outside v ≡ outside
unfolding or_outside pick
above most outside v h = rw (lt-leb v most h)

-- what is out of the range comes of no value in it, so a value in it is the value itself
back : (low most outside v : ℕ) → (low ≤ outside → outside ≤ most → ⊥) → low ≤ or_outside most outside v → or_outside most outside v ≤ most → or_outside most outside v ≡ v
back low most outside v n l h = go (dec_lt most v)
  where
    go : Dec (most < v) → or_outside most outside v ≡ v
    go (yes g) = let e = above most outside v g in absurd (n (omega (arith, l)) (omega (arith, h)))
    go (no g) = inside most outside v (omega (arith, g))

-- it fits where it has to
pub small : (most outside v bound : ℕ) → most < bound → outside < bound → or_outside most outside v < bound
small most outside v bound l h = go (dec_lt most v)
  where
    go : Dec (most < v) → or_outside most outside v < bound
    go (yes g) = rw (above most outside v g) h
    go (no g) = rw (inside most outside v (omega (arith, g))) (omega (arith, g))

module _ (c : CbrConfig) where
  narrow_ranges : Ranges c → Ranges (narrowed c)
  unfolding narrowed
  narrow_ranges r =
      let rate = inside 262143 0 c.bit_rate_value r.rate_high in
      let buffer = inside 1023 0 c.vbv_buffer_size_value r.buffer_high in
      let n = inside 3 4 c.frame_rate_extension_n r.n_high in
      let d = inside 31 32 c.frame_rate_extension_d r.d_high in
      let q = inside 31 0 c.initial_quantiser_scale_code r.quantiser_high in
      let between = inside 15 16 c.b_between r.between_high in
      let anchors = inside 255 0 c.anchors_per_gop r.anchors_high in
      record {
        mode_written = r.mode_written;
        rate_low = rw rate r.rate_low;
        rate_high = rw rate r.rate_high;
        buffer_low = rw buffer r.buffer_low;
        buffer_high = rw buffer r.buffer_high;
        n_high = rw n r.n_high;
        d_high = rw d r.d_high;
        quantiser_low = rw q r.quantiser_low;
        quantiser_high = rw q r.quantiser_high;
        between_high = rw between r.between_high;
        anchors_low = rw anchors r.anchors_low;
        anchors_high = rw anchors r.anchors_high;
      }

  -- the fields but the code, where the narrow ones are in their ranges
  record Kept : Type 0 where
    mode : (narrowed c).mode ≡ c.mode
    rate : (narrowed c).bit_rate_value ≡ c.bit_rate_value
    buffer : (narrowed c).vbv_buffer_size_value ≡ c.vbv_buffer_size_value
    n : (narrowed c).frame_rate_extension_n ≡ c.frame_rate_extension_n
    d : (narrowed c).frame_rate_extension_d ≡ c.frame_rate_extension_d
    quantiser : (narrowed c).initial_quantiser_scale_code ≡ c.initial_quantiser_scale_code
    between : (narrowed c).b_between ≡ c.b_between
    anchors : (narrowed c).anchors_per_gop ≡ c.anchors_per_gop

  kept : Ranges (narrowed c) → Kept
  unfolding narrowed
  kept r = record {
    mode = refl;
    rate = back 1 262143 0 _ (λ l h. omega arith) r.rate_low r.rate_high;
    buffer = back 1 1023 0 _ (λ l h. omega arith) r.buffer_low r.buffer_high;
    n = back 0 3 4 _ (λ l h. omega arith) (omega arith) r.n_high;
    d = back 0 31 32 _ (λ l h. omega arith) (omega arith) r.d_high;
    quantiser = back 1 31 0 _ (λ l h. omega arith) r.quantiser_low r.quantiser_high;
    between = back 0 15 16 _ (λ l h. omega arith) (omega arith) r.between_high;
    anchors = back 1 255 0 _ (λ l h. omega arith) r.anchors_low r.anchors_high;
  }

  widened : Ranges (narrowed c) → Ranges c
  widened r =
      let k = kept r in
      record {
        mode_written = rw (← k.mode) r.mode_written;
        rate_low = rw (← k.rate) r.rate_low;
        rate_high = rw (← k.rate) r.rate_high;
        buffer_low = rw (← k.buffer) r.buffer_low;
        buffer_high = rw (← k.buffer) r.buffer_high;
        n_high = rw (← k.n) r.n_high;
        d_high = rw (← k.d) r.d_high;
        quantiser_low = rw (← k.quantiser) r.quantiser_low;
        quantiser_high = rw (← k.quantiser) r.quantiser_high;
        between_high = rw (← k.between) r.between_high;
        anchors_low = rw (← k.anchors) r.anchors_low;
        anchors_high = rw (← k.anchors) r.anchors_high;
      }

  code_kept : 1 ≤ (narrowed c).frame_rate_code → (narrowed c).frame_rate_code ≤ 8 → (narrowed c).frame_rate_code ≡ c.frame_rate_code
  unfolding narrowed
  code_kept l h = back 1 8 0 _ (λ l h. omega arith) l h

  all_kept : Ranges (narrowed c) → 1 ≤ (narrowed c).frame_rate_code → (narrowed c).frame_rate_code ≤ 8 → narrowed c ≡ c
  unfolding narrowed
  all_kept r l h =
      let k = kept r in
      rw (k.rate, k.buffer, code_kept l h, k.n, k.d, k.quantiser, k.between, k.anchors)

  no_code : (1 ≤ (narrowed c).frame_rate_code → (narrowed c).frame_rate_code ≤ 8 → ⊥) → 1 ≤ c.frame_rate_code → c.frame_rate_code ≤ 8 → ⊥
  unfolding narrowed
  no_code n l h = let e = inside 8 0 c.frame_rate_code h in n (rw e l) (rw e h)

  pub narrowed_creates : create (narrowed c) ≡ create c
  narrowed_creates = go (creation_due (narrowed c))
    where
      go : {a : Answer CbrWriter} → CreationDue (narrowed c) a → a ≡ create c
      go (bad_range n) = creation_only c _ (bad_range (λ r. n (narrow_ranges r)))
      go (bad_code r n) = creation_only c _ (bad_code (widened r) (no_code n))
      go (bad_ratio v r l h e z) = creation_only (narrowed c) _ (bad_ratio v r l h e z) ∙ ap create (all_kept r l h)
      go (created r l h e z) = creation_only (narrowed c) _ (created r l h e z) ∙ ap create (all_kept r l h)
