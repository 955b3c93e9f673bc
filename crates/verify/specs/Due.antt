-- Which answer the check of a stream is due (paper 01, 'The buffer report'; paper 02, requests 05 and 06), by conditions in ≤ and <: accepted, or refused by the first test that fails, in the paper's order.
-- So a bad last header comes before a mismatch at the first picture, and the first violation is the one that is told. Assumes nothing.
use Rattle.std.specs.Prelude.{ℕ, suc, ◌+◌, ◌*◌, ◌≤◌, ◌<◌, ◌≡◌, Bool, true, false, List, [], ◌∷◌, length}
use Rattle.bits.specs.Refusals.{Answer, value, refused}
use Rattle.vbv.specs.Annex.{unit, expected_delay, first_arrived, arrived}
use Rattle.vbv.specs.Model.{params_fit_at, periods}
use Rattle.vbv.specs.declared.VbvParams.{VbvParams}
use Rattle.pictures.specs.Due.{FrontDue}
use Rattle.pictures.specs.declared.VbvStandard.TheVariants.{Mpeg1}
use Rattle.pictures.specs.declared.SeenPicture.{SeenPicture}
use Rattle.verify.specs.Check.{Accepted, verdict}
use Rattle.verify.specs.Accepted.{AsCoded, Conforms, ReadIn, timed_in, DelaysFit}
use Rattle.verify.specs.declared.VbvMode.{VbvMode}
use Rattle.verify.specs.declared.CodedPicture.{CodedPicture}
use Rattle.verify.specs.declared.VbvPictureRecord.{VbvPictureRecord}

-- ---- a removal: picture n, with d arrived and all before `previous` removed

-- at a constant rate
abbrev pub expected_at : VbvParams → ℕ → CodedPicture → ℕ
expected_at p d c = expected_delay p c.pos_bits d

-- at a constant rate 7, 8, 11, 9, 10; at a variable one 10 alone, and its expected delay is 65,535
pub data RemovalDue (p : VbvParams) (n previous d : ℕ) (c : CodedPicture) : Bool → Answer VbvPictureRecord → Type 0 where
  early : d < c.pos_bits * unit p → RemovalDue p n previous d c false (refused 7 0 0 0)
  unsayable : c.pos_bits * unit p ≤ d → 65534 < expected_at p d c → RemovalDue p n previous d c false (refused 8 0 0 0)
  coded_short : c.pos_bits * unit p ≤ d → expected_at p d c ≤ 65534 → c.vbv_delay + 1 < expected_at p d c
      → RemovalDue p n previous d c false (refused 11 n c.vbv_delay (expected_at p d c))
  coded_long : c.pos_bits * unit p ≤ d → expected_at p d c ≤ 65534 → expected_at p d c + 1 < c.vbv_delay
      → RemovalDue p n previous d c false (refused 11 n c.vbv_delay (expected_at p d c))
  overflow : AsCoded p d c → (previous + p.buffer_size_bits) * unit p < d
      → RemovalDue p n previous d c false (refused 9 n c.vbv_delay (expected_at p d c))
  underflow : AsCoded p d c → d ≤ (previous + p.buffer_size_bits) * unit p → d < c.end_bits * unit p
      → RemovalDue p n previous d c false (refused 10 n c.vbv_delay (expected_at p d c))
  variable_underflow : d ≤ (previous + p.buffer_size_bits) * unit p → d < c.end_bits * unit p
      → RemovalDue p n previous d c true (refused 10 n c.vbv_delay 65535)
  recorded : {v : Bool} {r : VbvPictureRecord} → Conforms v p previous d c r → RemovalDue p n previous d c v (value r)

-- one removal after another, up to the first that is refused
pub data RunDue (v : Bool) (p : VbvParams) : ℕ → ℕ → ℕ → List CodedPicture → Answer (List VbvPictureRecord) → Type 0 where
  ended : {n previous d : ℕ} → RunDue v p n previous d [] (value [])
  stopped : {n previous d m k i j : ℕ} {c : CodedPicture} {cs : List CodedPicture} → RemovalDue p n previous d c v (refused m k i j)
      → RunDue v p n previous d (c ∷ cs) (refused m k i j)
  stopped_later : {n previous d m k i j : ℕ} {c : CodedPicture} {cs : List CodedPicture} {r : VbvPictureRecord} → RemovalDue p n previous d c v (value r)
      → RunDue v p (suc n) c.end_bits (arrived v p c.end_bits d (periods c.interval)) cs (refused m k i j) → RunDue v p n previous d (c ∷ cs) (refused m k i j)
  went_on : {n previous d : ℕ} {c : CodedPicture} {cs : List CodedPicture} {r : VbvPictureRecord} {rs : List VbvPictureRecord} → RemovalDue p n previous d c v (value r)
      → RunDue v p (suc n) c.end_bits (arrived v p c.end_bits d (periods c.interval)) cs (value rs) → RunDue v p n previous d (c ∷ cs) (value (r ∷ rs))

-- ---- the stream

-- one of the delays is not 0xFFFF
pub data OtherDelay : List SeenPicture → Type 0 where
  here : {x : SeenPicture} {xs : List SeenPicture} → (x.vbv_delay ≡ 0xFFFF → ⊥) → OtherDelay (x ∷ xs)
  later : {x : SeenPicture} {xs : List SeenPicture} → OtherDelay xs → OtherDelay (x ∷ xs)

-- passed: 5 or 25, 12, 15 too
pub record Modelled (m : VbvMode) (s : List ℕ) (places : ℕ) (p : VbvParams) (x : SeenPicture) (xs : List SeenPicture) : Type 0 where
  pub is_read : ReadIn m s p x xs
  pub delays_fit : DelaysFit m.variable (x ∷ xs)
  pub params_fit : params_fit_at m.variable p ≡ true
  pub places_suffice : length (x ∷ xs) ≤ places

pub data VerdictDue (m : VbvMode) (s : List ℕ) (places : ℕ) : Answer Accepted → Type 0 where
  no_film : m.standard ≡ Mpeg1 → m.film ≡ true → VerdictDue m s places (refused 12 0 0 0)
  no_variable : m.standard ≡ Mpeg1 → m.variable ≡ true → VerdictDue m s places (refused 12 0 0 0)
  by_front : {n k i j : ℕ} → (m.standard ≡ Mpeg1 → (m.film ≡ false) × (m.variable ≡ false)) → FrontDue m.standard s (refused n k i j) → VerdictDue m s places (refused n k i j)
  variable_rate : {p : VbvParams} {x : SeenPicture} {xs : List SeenPicture} → m.variable ≡ false → ReadIn m s p x xs → x.vbv_delay ≡ 0xFFFF
      → VerdictDue m s places (refused 5 0 0 0)
  constant_rate : {p : VbvParams} {x : SeenPicture} {xs : List SeenPicture} → m.variable ≡ true → ReadIn m s p x xs → OtherDelay (x ∷ xs)
      → VerdictDue m s places (refused 25 0 0 0)
  unfit : {p : VbvParams} {x : SeenPicture} {xs : List SeenPicture} → ReadIn m s p x xs → DelaysFit m.variable (x ∷ xs) → params_fit_at m.variable p ≡ false
      → VerdictDue m s places (refused 12 0 0 0)
  few_places : {p : VbvParams} {x : SeenPicture} {xs : List SeenPicture} → ReadIn m s p x xs → DelaysFit m.variable (x ∷ xs) → params_fit_at m.variable p ≡ true
      → places < length (x ∷ xs) → VerdictDue m s places (refused 15 0 0 0)
  stopped : {p : VbvParams} {x : SeenPicture} {xs : List SeenPicture} {n k i j : ℕ} → Modelled m s places p x xs
      → RunDue m.variable p 0 0 (first_arrived m.variable p x.pos_bits x.vbv_delay) (timed_in m s (x ∷ xs)) (refused n k i j) → VerdictDue m s places (refused n k i j)
  accepted : {p : VbvParams} {x : SeenPicture} {xs : List SeenPicture} {r : VbvPictureRecord} {rs : List VbvPictureRecord} → Modelled m s places p x xs
      → RunDue m.variable p 0 0 (first_arrived m.variable p x.pos_bits x.vbv_delay) (timed_in m s (x ∷ xs)) (value (r ∷ rs))
      → VerdictDue m s places (value (record { params = p; first = r; others = rs }))

-- what is owed
abbrev pub CheckDue : Type 0
CheckDue = (m : VbvMode) (s : List ℕ) (places : ℕ) → VerdictDue m s places (verdict m s places)
