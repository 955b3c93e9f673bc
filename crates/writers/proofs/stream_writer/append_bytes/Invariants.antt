use mathlib.Core.Path.{◌≡◌}
use Rattle.bits.proofs.Laying.{bytes_appended}
use Rattle.writers.proofs.stream_writer.append_bytes.Given as goal

abbrev pub invariant-loop-k : goal.invariant-loop-k
invariant-loop-k l = l.out ≡ bytes_appended l.initial.out l.at l.fn.bytes l.k
