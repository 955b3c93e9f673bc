-- A removal is recorded exactly when it conforms to Annex C.
-- Assumes nothing.
use mathlib.Core.Path.{◌≡◌, refl, sym}
use mathlib.Core.Bool.{Bool, true, false, true≢false}
use Prim.Native.Nat.{ℕ, ◌+◌, ◌*◌, ◌≤◌}
use lib.Dec.{ltb}
use borrow.Author.Tests.{ltb-false, le-ltb}
use Rattle.bits.specs.Refusals.{value}
use Rattle.bits.proofs.Flags.{or_left, or_right, no, was_no}
use Rattle.vbv.specs.Annex.{unit, expected_delay, first_arrived, arrived}
use Rattle.vbv.specs.declared.VbvParams.{VbvParams}
use Rattle.bits.proofs.Following.{refused-value}
use Rattle.vbv.proofs.Laws.{over_units, units_over, beyond_units, units_beyond}
use Rattle.vbv.proofs.Arrival.{first-most, arrived-most}
use Rattle.verify.specs.declared.CodedPicture.{CodedPicture}
use Rattle.verify.specs.declared.VbvPictureRecord.{VbvPictureRecord}
use Rattle.verify.specs.Run.{apart, record_of, taken_out, removal}
use Rattle.verify.specs.Accepted.{Conforms}

-- delays that are not apart, both ways
pub near : (coded expected : ℕ) → apart coded expected ≡ false → (coded ≤ expected + 1) × (expected ≤ coded + 1)
unfolding apart
near coded expected h = (
  ltb-false _ _ (or_right (ltb (coded + 1) expected) (ltb (expected + 1) coded) h),
  ltb-false _ _ (or_left (ltb (coded + 1) expected) (ltb (expected + 1) coded) h),
)

not-apart : (coded expected : ℕ) → coded ≤ expected + 1 → expected ≤ coded + 1 → apart coded expected ≡ false
unfolding apart
not-apart coded expected g h = simp (le-ltb (coded + 1) expected h, le-ltb (expected + 1) coded g)

-- at a variable rate no more has come than fills the buffer: so at the first removal, and at every next one
abbrev pub Bounded : Bool → VbvParams → ℕ → ℕ → Type 0
Bounded v p previous d = v ≡ true → d ≤ (previous + p.buffer_size_bits) * unit p

pub first_bounded : (v : Bool) (p : VbvParams) (position delay : ℕ) → Bounded v p 0 (first_arrived v p position delay)
first_bounded true p position delay h = first-most p
first_bounded false p position delay h = absurd (true≢false (sym h))

pub next_bounded : (v : Bool) (p : VbvParams) (end d n : ℕ) → Bounded v p end (arrived v p end d n)
next_bounded true p end d n h = arrived-most p end d n
next_bounded false p end d n h = absurd (true≢false (sym h))

-- the last test: the picture is all there
taken-there : (v : Bool) (p : VbvParams) (n previous d : ℕ) (c : CodedPicture) (r : VbvPictureRecord) → taken_out v p n previous d c ≡ value r
    → (c.end_bits * unit p ≤ d) × (r ≡ record_of v p previous d c)
unfolding taken_out
taken-there v p n previous d c r h = let u = was_no _ _ _ refused-value h in (beyond_units p c.end_bits d u.0, cc u.1)

there-taken : {v : Bool} {p : VbvParams} {previous d : ℕ} {c : CodedPicture} {r : VbvPictureRecord} (n : ℕ) → Conforms v p previous d c r → taken_out v p n previous d c ≡ value r
unfolding taken_out
there-taken {v} {p} {previous} {d} {c} n h = sym (no _ _ _ (units_beyond p c.end_bits d h.no_underflow) (rw h.record_is))

pub conforms : (v : Bool) (p : VbvParams) (n previous d : ℕ) (c : CodedPicture) (r : VbvPictureRecord) → Bounded v p previous d → removal v p n previous d c ≡ value r
    → Conforms v p previous d c r
unfolding removal
conforms true p n previous d c r b h =
    let u = taken-there true p n previous d c r h in
    record { as_coded = λ e. absurd (true≢false e); no_overflow = b refl; no_underflow = u.0; record_is = u.1 }
conforms false p n previous d c r _ h =
    let a = was_no _ _ _ refused-value h in
    let b = was_no _ _ _ refused-value a.1 in
    let e = was_no _ _ _ refused-value b.1 in
    let o = was_no _ _ _ refused-value e.1 in
    let u = taken-there false p n previous d c r o.1 in
    let m = near c.vbv_delay (expected_delay p c.pos_bits d) e.0 in
    record {
      as_coded = λ _. record {
        begun = beyond_units p c.pos_bits d a.0;
        sayable = ltb-false 65534 _ b.0;
        coded_most = m.0;
        expected_most = m.1;
      };
      no_overflow = over_units p previous d o.0;
      no_underflow = u.0;
      record_is = u.1;
    }

pub conforming : {v : Bool} {p : VbvParams} {previous d : ℕ} {c : CodedPicture} {r : VbvPictureRecord} (n : ℕ) → Conforms v p previous d c r
    → removal v p n previous d c ≡ value r
unfolding removal
conforming {v = true} n h = there-taken n h
conforming {v = false} {p} {previous} {d} {c} n h =
    let a = h.as_coded refl in
    sym
    (no _ _ _ (units_beyond p c.pos_bits d a.begun)
    (no _ _ _ (le-ltb 65534 _ a.sayable)
    (no _ _ _ (not-apart _ _ a.coded_most a.expected_most)
    (no _ _ _ (units_over p previous d h.no_overflow)
    (sym (there-taken n h))))))
