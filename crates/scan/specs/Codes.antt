-- Start codes of a stream (ISO/IEC 13818-2 6.2.1; paper 01, 'The buffer report'): 00 00 01 and one more byte, found left to right; after one the scan goes on 4 bytes later.
-- Assumes nothing.
use Rattle.std.specs.Prelude.{ℕ, zero, suc, ◌-◌, Option, Some, None, List, [], ◌∷◌, Bool, true, ◌&&◌, leb, length, get_or, take, drop}
use Rattle.bits.specs.Bits.{pick}
use Rattle.bits.specs.Fields.{same_bytes}
use Rattle.bits.specs.StartCodes.{start_code_prefix, start_code, sequence_end_code}
use Rattle.scan.specs.declared.StartCode.{StartCode}

-- the bytes begin with a start code: 00 00 01 and one more byte
unfoldable pub starts : List ℕ → Bool
starts s = leb 4 (length s) && same_bytes (take 3 s) start_code_prefix

-- the start codes of the bytes `s`, which stand at offset `o` of the stream; the first `k` bytes are passed over
unfoldable pub codes_from : ℕ → ℕ → List ℕ → List StartCode
unfolding pick starts
codes_from o k [] = []
codes_from o (suc k) (b ∷ s) = codes_from (suc o) k s
codes_from o zero (b ∷ s) =
    pick (starts (b ∷ s))
    (record { offset = o; code = get_or (b ∷ s) 3 0 } ∷ codes_from (suc o) 3 s)
    (codes_from (suc o) 0 s)

unfoldable pub codes : List ℕ → List StartCode
unfolding codes_from
codes s = codes_from 0 0 s

-- the start codes that a scan of `s` finds which begins at offset `i`
unfoldable pub codes_at : List ℕ → ℕ → List StartCode
unfolding codes_from
codes_at s i = codes_from i 0 (drop i s)

-- every code passes the test
unfoldable pub every : (ℕ → Bool) → List StartCode → Bool
every p [] = true
every p (c ∷ cs) = p c.code && every p cs

-- the first of the codes
unfoldable pub found : List StartCode → Option StartCode
found [] = None
found (c ∷ cs) = Some c

-- the first start code that a scan from `from` finds; from inside a code it may be one that the scan of the whole does not have
unfoldable pub next_code : List ℕ → ℕ → Option StartCode
unfolding found codes_at
next_code s from = found (codes_at s from)

-- the bytes end 00 00 01
unfoldable pub ends_prefix : List ℕ → Bool
ends_prefix s = same_bytes (drop (length s - 3) s) start_code_prefix

-- sequence_end(): a sequence end code (6.2.2)
abbrev pub sequence_end : List ℕ
sequence_end = start_code sequence_end_code
