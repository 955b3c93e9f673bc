-- What a search that passes over some codes says of all of them; a test as code makes it.
-- Assumes nothing.
use mathlib.Core.Path.{◌≡◌, refl}
use Prim.Native.Nat.{ℕ}
use mathlib.Core.List.{List, [], ◌∷◌}
use mathlib.Core.Bool.{Bool, true, false, not, ◌&&◌}
use lib.Dec.{eqb}
use Rattle.bits.specs.Bits.{pick}
use Rattle.bits.specs.StartCodes.{sequence_header_code}
use Rattle.std.specs.Prelude.{is_some}
use Rattle.scan.specs.declared.StartCode.{StartCode}
use Rattle.scan.specs.Codes.{codes, codes_at, every, found}
use Rattle.scan.specs.Pictures.{not_sequence, skip}

pub sequence_test : (c : ℕ) → not (eqb c sequence_header_code) ≡ not_sequence c
unfolding not_sequence
sequence_test c = refl

-- the scan of a part is the scan from its first byte
pub codes_from-zero : (s : List ℕ) → codes s ≡ codes_at s 0
unfolding codes codes_at
codes_from-zero s = refl

-- every code passes just where a search that passes over those finds none
pub every_told : (p : ℕ → Bool) (cs : List StartCode) (b : Bool) → is_some (found (skip p cs)) ≡ not b → b ≡ every p cs
unfolding every skip found pick
every_told p [] true e = refl
every_told p [] false e = cc
every_told p (c ∷ cs) b e = go (p c.code) (every_told p cs b) e
  where
    go : (t : Bool) → (is_some (found (skip p cs)) ≡ not b → b ≡ every p cs) → is_some (found (pick t (skip p cs) (c ∷ cs))) ≡ not b → b ≡ (t && every p cs)
    go true ih e = ih e
    go false ih e = stopped b e
      where
        stopped : (b : Bool) → true ≡ not b → b ≡ false
        stopped true e = cc
        stopped false e = refl

pub every_more : (p : ℕ → Bool) (c : StartCode) (cs : List StartCode) → every p (c ∷ cs) ≡ (p c.code && every p cs)
unfolding every
every_more p c cs = refl
