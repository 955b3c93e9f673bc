-- The cadence that a sequence header opens (paper 02, request 05): film or not, progressive_sequence and low_delay of the extension after it (6.3.5), no picture yet.
-- Assumes nothing.
use Rattle.std.specs.Prelude.{ℕ, Bool, false, List, drop, Option, Some, None}
use Rattle.bits.specs.Refusals.{value, and_then, or_else}
use Rattle.headers.specs.Sequence.{sequence}
use Rattle.scan.specs.Codes.{codes, found}
use Rattle.scan.specs.Pictures.{skip, not_sequence}
use Rattle.scan.specs.declared.StartCode.{StartCode}
use Rattle.cadence.specs.Cadence.{opened}
use Rattle.cadence.specs.declared.VbvCadence.{VbvCadence}

-- by the sequence header that s begins with; both flags 0 where it or its extension is refused (in film mode report and writer then refuse too)
unfoldable pub cadence_by : Bool → List ℕ → VbvCadence
cadence_by film s =
    or_else (opened film false false)
    (and_then (sequence s) (λ q. value (opened film q.extension.progressive_sequence q.extension.low_delay)))

unfoldable pub opened_at : Bool → List ℕ → Option StartCode → VbvCadence
opened_at film s (Some c) = cadence_by film (drop c.offset s)
opened_at film s None = opened film false false

-- by the first B3 of a stream, for all its pictures, those before it too
unfoldable pub cadence_of : Bool → List ℕ → VbvCadence
cadence_of film s = opened_at film s (found (skip not_sequence (codes s)))
