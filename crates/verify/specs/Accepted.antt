-- Which streams the check accepts, in the terms of Annex C (ISO/IEC 13818-2 Annex C; 11172-2 C.1.4): those that pass the tests before the run and whose removals all conform, and no others.
-- What is delivered is counted in 1/unit bit; vbv/specs/Fractions.antt says that these are the standard's fractions, vbv/specs/Arrival.antt what arrives at a variable rate. Assumes nothing.
use Rattle.std.specs.Prelude.{ℕ, ◌+◌, ◌*◌, ◌≤◌, ◌≡◌, ◌↔◌, Bool, true, false, List, [], ◌∷◌, length}
use Rattle.bits.specs.Refusals.{value}
use Rattle.vbv.specs.Annex.{unit, expected_delay, first_arrived, arrived}
use Rattle.vbv.specs.Model.{params_fit_at, periods}
use Rattle.vbv.specs.declared.VbvParams.{VbvParams}
use Rattle.pictures.specs.Due.{Read}
use Rattle.pictures.specs.Cadence.{cadence_of}
use Rattle.pictures.specs.declared.VbvStandard.TheVariants.{Mpeg1}
use Rattle.pictures.specs.declared.SeenPicture.{SeenPicture}
use Rattle.verify.specs.Coded.{timed}
use Rattle.verify.specs.Run.{record_of}
use Rattle.verify.specs.Check.{Accepted, verdict}
use Rattle.verify.specs.declared.VbvMode.{VbvMode}
use Rattle.verify.specs.declared.CodedPicture.{CodedPicture}
use Rattle.verify.specs.declared.VbvPictureRecord.{VbvPictureRecord}

-- at a constant rate picture c is due with d arrived
pub record AsCoded (p : VbvParams) (d : ℕ) (c : CodedPicture) : Type 0 where
  -- 7: its start code has come
  pub begun : c.pos_bits * unit p ≤ d
  -- 8: the expected delay can be coded
  pub sayable : expected_delay p c.pos_bits d ≤ 65534
  -- 11: the coded and the expected delay differ by at most 1
  pub coded_most : c.vbv_delay ≤ expected_delay p c.pos_bits d + 1
  pub expected_most : expected_delay p c.pos_bits d ≤ c.vbv_delay + 1

-- it is removed with d arrived, all before `previous` removed, and r is recorded
pub record Conforms (variable : Bool) (p : VbvParams) (previous d : ℕ) (c : CodedPicture) (r : VbvPictureRecord) : Type 0 where
  -- 7, 8, 11; at a variable rate no time is told
  pub as_coded : variable ≡ false → AsCoded p d c
  -- 9 (C.5): just before the removal at most B bits are in the buffer
  pub no_overflow : d ≤ (previous + p.buffer_size_bits) * unit p
  -- 10 (C.6): and all bits of the picture are
  pub no_underflow : c.end_bits * unit p ≤ d
  pub record_is : r ≡ record_of variable p previous d c

-- one removal after another, each with its record; by the next one the picture's interval brings its gain (C.9, C.11), at a variable rate up to a full buffer (C.3.2)
pub data Along (variable : Bool) (p : VbvParams) (Each : ℕ → ℕ → CodedPicture → VbvPictureRecord → Type 0) : ℕ → ℕ → List CodedPicture → List VbvPictureRecord → Type 0 where
  none : {previous d : ℕ} → Along variable p Each previous d [] []
  more : {previous d : ℕ} {c : CodedPicture} {cs : List CodedPicture} {r : VbvPictureRecord} {rs : List VbvPictureRecord} → Each previous d c r
      → Along variable p Each c.end_bits (arrived variable p c.end_bits d (periods c.interval)) cs rs → Along variable p Each previous d (c ∷ cs) (r ∷ rs)

-- what is read of a stream in a mode that exists: 12, 14, 3, 1, 2, 6, 4 are passed
pub record ReadIn (m : VbvMode) (s : List ℕ) (p : VbvParams) (x : SeenPicture) (xs : List SeenPicture) : Type 0 where
  pub mode_exists : m.standard ≡ Mpeg1 → (m.film ≡ false) × (m.variable ≡ false)
  pub is_read : Read m.standard s p x xs

-- the pictures of a stream as the model sees them: by the cadence that its first sequence header opens
abbrev pub timed_in : VbvMode → List ℕ → List SeenPicture → List CodedPicture
timed_in m s xs = timed (cadence_of m.film s) xs

-- the delays that the rate asks: at a constant one 5, the first is not 0xFFFF; at a variable one 25, every one is
abbrev pub DelaysFit : Bool → List SeenPicture → Type 0
DelaysFit variable [] = Unit {0}
DelaysFit false (x ∷ xs) = x.vbv_delay ≡ 0xFFFF → ⊥
DelaysFit true (x ∷ xs) = (x.vbv_delay ≡ 0xFFFF) × DelaysFit true xs

-- a stream that declares p, whose pictures are recorded as rs
pub record Passes (m : VbvMode) (s : List ℕ) (places : ℕ) (p : VbvParams) (rs : List VbvPictureRecord) : Type 0 where
  -- 12, 14, 3, 1, 2, 6, 4: the mode exists, the stream has 2^48 bits at most, its first sequence header and every picture header can be read, and there is one
  pub first : SeenPicture
  pub others : List SeenPicture
  pub is_read : ReadIn m s p first others
  -- 5 or 25, 12, 15: the delays are of such a rate, the parameters are in their ranges, and there is a place for each record
  pub delays_fit : DelaysFit m.variable (first ∷ others)
  pub params_fit : params_fit_at m.variable p ≡ true
  pub places_suffice : length (first ∷ others) ≤ places
  -- every removal conforms; at the first one all is delivered up to the first picture's position, and what its coded delay brings (C.3.1); at a variable rate the buffer is full (C.3.2)
  pub removals : Along m.variable p (Conforms m.variable p) 0 (first_arrived m.variable p first.pos_bits first.vbv_delay) (timed_in m s (first ∷ others)) rs

-- what is owed: accepted exactly when it passes
abbrev pub AcceptedExactly : Type 0
AcceptedExactly =
    (m : VbvMode) (s : List ℕ) (places : ℕ) (a : Accepted)
    → (verdict m s places ≡ value a) ↔ Passes m s places a.params (a.first ∷ a.others)

-- the records subtract in ℕ, where a difference is cut off at 0. In those of an accepted stream none is: of its data bits, its occupancy before and after
-- (nor is the expected delay at a constant rate: `begun` says so of an accepted picture, and of another 7 is tested first)
pub record Uncut (p : VbvParams) (previous d : ℕ) (c : CodedPicture) (r : VbvPictureRecord) : Type 0 where
  pub for_data : previous ≤ c.end_bits
  pub for_before : previous * unit p ≤ d
  pub for_after : r.data_bits ≤ r.occupancy_before_bits

abbrev pub NothingCut : Type 0
NothingCut =
    (m : VbvMode) (s : List ℕ) (places : ℕ) (p : VbvParams) (rs : List VbvPictureRecord) (a : Passes m s places p rs)
    → Along m.variable p (Uncut p) 0 (first_arrived m.variable p a.first.pos_bits a.first.vbv_delay) (timed_in m s (a.first ∷ a.others)) rs
