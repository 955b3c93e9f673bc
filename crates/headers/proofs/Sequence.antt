-- A sequence header with its extension: the ways that reading the two goes, and what stands after them.
-- Assumes nothing.
use mathlib.Core.Path.{◌≡◌, sym, ap, ◌∙◌}
use mathlib.Core.List.{List}
use Prim.Native.Nat.{ℕ, ◌-◌, ◌≤◌}
use native.Mathlib.Omega.{arith}
use lib.ListN.{length, take, drop}
use lib.Seq.{drop-append-le}
use Rattle.bits.specs.Refusals.{value, refused, number}
use Rattle.bits.proofs.Reading.{rest_is}
use Rattle.bits.proofs.Following.{then_value}
use Rattle.headers.specs.StartCode.{next_start_code}
use Rattle.headers.specs.SequenceHeader.{sequence_header, sequence_header_bytes}
use Rattle.headers.specs.SequenceExtension.{sequence_extension}
use Rattle.headers.specs.Sequence.{sequence_of, sequence}
use Rattle.headers.specs.RoundTrips.{SequenceStays}
use Rattle.headers.proofs.StartCode.{next-found, next-append}
use Rattle.headers.proofs.SequenceHeader.{sequence_header-append}
use Rattle.headers.proofs.SequenceExtension.{extension_bounds, extension_append}
use Rattle.headers.specs.declared.sequence_header.Mpeg2SequenceHeader.{Mpeg2SequenceHeader}
use Rattle.headers.specs.declared.sequence_extension.Mpeg2SequenceExtension.{Mpeg2SequenceExtension}
use Rattle.headers.specs.declared.sequence_extension.Mpeg2Sequence.{Mpeg2Sequence}

-- the ways of from_buf
module _ (s : List ℕ) where
  pub sequence-refused : {n p c x : ℕ} → refused n p c x ≡ sequence_header s → refused n p c x ≡ sequence s
  unfolding sequence
  sequence-refused e = rw (← e)

  module _ (h : Mpeg2SequenceHeader) (e : value h ≡ sequence_header s) (n : ℕ) (b : n ≡ sequence_header_bytes h) where
    pub sequence_missing : refused 2 0 0 0 ≡ next_start_code s n → refused 2 0 0 0 ≡ sequence s
    unfolding sequence
    sequence_missing m = rw (← e, ← b, ← m)

    module _ (p : ℕ) (f : value p ≡ next_start_code s n) where
      pub extension_refused : {a b d x : ℕ} → refused a b d x ≡ sequence_extension (take (length s - p) (drop p s)) → refused a b d x ≡ sequence s
      unfolding sequence
      extension_refused g = rw (← e, ← b, ← f, ← rest_is s p, ← g)

      pub sequence_parsed : (x : Mpeg2SequenceExtension) → value x ≡ sequence_extension (take (length s - p) (drop p s)) → value (sequence_of h x) ≡ sequence s
      unfolding sequence
      sequence_parsed x g = rw (← e, ← b, ← f, ← rest_is s p, ← g)

-- what a parsed sequence is
pub record SequenceParts (s : List ℕ) (q : Mpeg2Sequence) : Type 0 where
  pub place : ℕ
  pub header : Mpeg2SequenceHeader
  pub extension : Mpeg2SequenceExtension
  pub header_parsed : sequence_header s ≡ value header
  pub code_found : next_start_code s (sequence_header_bytes header) ≡ value place
  pub extension_parsed : sequence_extension (drop place s) ≡ value extension
  pub sequence_is : q ≡ sequence_of header extension

pub sequence_parts : (s : List ℕ) (q : Mpeg2Sequence) → sequence s ≡ value q → SequenceParts s q
unfolding sequence
sequence_parts s q e =
    let a = then_value (sequence_header s) e in
    let b = then_value (next_start_code s (sequence_header_bytes a.0)) a.2 in
    let c = then_value (sequence_extension (drop b.0 s)) b.2 in
    record {
      place = b.0;
      header = a.0;
      extension = c.0;
      header_parsed = a.1;
      code_found = b.1;
      extension_parsed = c.1;
      sequence_is = cc;
    }

-- the extensions of the frame rate have 2 and 5 bits
pub sequence-frames : (s : List ℕ) (q : Mpeg2Sequence) → sequence s ≡ value q
    → (q.extension.frame_rate_extension_n ≤ 3) × (q.extension.frame_rate_extension_d ≤ 31)
unfolding sequence_of
sequence-frames s q e =
    let p = sequence_parts s q e in
    let b = extension_bounds (drop p.place s) p.extension p.extension_parsed in
    rw p.sequence_is (b.frame_n, b.frame_d)

-- what stands after a parsed sequence does not matter
pub sequence-append : SequenceStays
unfolding sequence
sequence-append s t q a =
    let p = sequence_parts s q a in
    let f = next-found s (sequence_header_bytes p.header) p.place p.code_found in
    let l : p.place ≤ length s = omega (arith, f.prefix.room) in
    let h = sequence_header-append s t (λ e. let n = ap number (sym p.header_parsed ∙ e) in omega arith) ∙ p.header_parsed in
    let c = next-append s t (sequence_header_bytes p.header) p.place p.code_found in
    let x = extension_append (drop p.place s) t (λ e. let n = ap number (sym p.extension_parsed ∙ e) in omega arith) ∙ p.extension_parsed in
    rw (h, c, drop-append-le p.place s t l, x) (ap value (sym p.sequence_is))
