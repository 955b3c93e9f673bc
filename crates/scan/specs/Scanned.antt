-- The scan by places (paper 02, request 03): how many places it looks at, and what is owed of it.
-- Assumes nothing.
use Rattle.std.specs.Prelude.{ℕ, zero, suc, ◌+◌, ◌-◌, ◌*◌, ◌/◌, ◌≤◌, ◌<◌, ◌≡◌, Some, None, List, [], ◌∷◌, Bool, true, false, eqb, leb, length, get_or, drop}
use Rattle.bits.specs.Bits.{pick}
use Rattle.scan.specs.declared.StartCode.{StartCode}
use Rattle.scan.specs.declared.Scanned.{Scanned}
use Rattle.scan.specs.Codes.{starts, codes, next_code}

-- from a place without a code, where `s` begins, the next is one on if its third byte is 00, otherwise three
unfoldable pub stride : List ℕ → ℕ
unfolding pick
stride s = pick (eqb (get_or s 2 0) 0) 1 3

-- how many places a scan of `s` looks at, the first `k` bytes being passed over. A place with four bytes from it on is looked at; where there are fewer the scan ends. At a code it ends too or,
-- with `all`, goes on 4 bytes after the code's offset
unfoldable pub looks : Bool → ℕ → List ℕ → ℕ
unfolding pick starts stride
looks all k [] = 0
looks all (suc k) (b ∷ s) = looks all k s
looks all zero (b ∷ s) =
    pick (leb 4 (length (b ∷ s)))
    (suc (pick (starts (b ∷ s)) (pick all (looks all 3 s) 0) (looks all (stride (b ∷ s) - 1) s)))
    0

-- from offset `from` on, up to the first code, its own place among them
unfoldable pub looked : List ℕ → ℕ → ℕ
unfolding looks
looked s from = looks false 0 (drop from s)

-- the answer: the next code, and the places looked at for it
unfoldable pub scanned : List ℕ → ℕ → Scanned
unfolding next_code looked
scanned s from = record { found = next_code s from; looked = looked s from }

-- of the whole stream
unfoldable pub looked_all : List ℕ → ℕ
unfolding looks
looked_all s = looks true 0 s

-- one place more
unfoldable pub one_more : Scanned → Scanned
one_more r = record { found = r.found; looked = suc r.looked }

-- scans from `from` on, each from 4 bytes after the offset of the last one's code, up to one that finds none: the codes that they find, and the places that they look at together
pub data ScansGive (s : List ℕ) : ℕ → List StartCode → ℕ → Type 0 where
  none : {from n : ℕ} → scanned s from ≡ record { found = None; looked = n } → ScansGive s from [] n
  more : {from offset code n m : ℕ} {cs : List StartCode} → scanned s from ≡ record { found = Some (record { offset = offset; code = code }); looked = n } → ScansGive s (offset + 4) cs m
      → ScansGive s from (record { offset = offset; code = code } ∷ cs) (n + m)

-- all bytes from `from` on are above 01
abbrev pub AboveOne : List ℕ → ℕ → Type 0
AboveOne s from = (i : ℕ) → from ≤ i → i < length s → 1 < get_or s i 0

-- what is owed of the scan
pub record OwedOfScans : Type 0 where
  -- the code is the one found without a count
  pub same_code : (s : List ℕ) (i : ℕ) → (scanned s i).found ≡ next_code s i
  -- request 03 place by place: these four determine code and count
  pub too_few : (s : List ℕ) (i : ℕ) → length s < i + 4 → scanned s i ≡ record { found = None; looked = 0 }
  pub at_code : (s : List ℕ) (i : ℕ) → starts (drop i s) ≡ true → scanned s i ≡ record { found = Some (record { offset = i; code = get_or s (i + 3) 0 }); looked = 1 }
  pub one_on : (s : List ℕ) (i : ℕ) → i + 4 ≤ length s → starts (drop i s) ≡ false → get_or s (i + 2) 0 ≡ 0 → scanned s i ≡ one_more (scanned s (i + 1))
  pub three_on : (s : List ℕ) (i : ℕ) → i + 4 ≤ length s → starts (drop i s) ≡ false → (get_or s (i + 2) 0 ≡ 0 → ⊥) → scanned s i ≡ one_more (scanned s (i + 3))
  -- one after another scans find the stream's codes, and look at as many places together as the scan of the whole
  pub whole : (s : List ℕ) → ScansGive s 0 (codes s) (looked_all s)
  -- over n bytes all above 01 at most n / 3 places, in one scan and in all; from the middle on likewise
  pub a_third : (s : List ℕ) → AboveOne s 0 → (looked s 0 ≤ length s / 3) × (looked_all s ≤ length s / 3)
  pub a_third_from : (s : List ℕ) (from : ℕ) → AboveOne s from → (looked s from ≤ (length s - from) / 3) × (3 * looked s from ≤ length s - from)
  -- never more places than there are with four bytes from them on
  pub few : (s : List ℕ) (from : ℕ) → looked s from ≤ length s - from - 3
  pub few_all : (s : List ℕ) → looked_all s ≤ length s - 3
