use native.Mathlib.Omega.{arith}
use Rattle.headers.specs.SequenceHeader.{sequence_header_bytes}
use Rattle.headers.proofs.sequence_extension.sequence_header_byte_length.Goals as goal

pub returns : goal.returns
unfolding sequence_header_bytes
returns c = omega arith
