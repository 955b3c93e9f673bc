-- A sequence header and the sequence extension after it (ISO/IEC 13818-2 6.2.2), with the sizes, the rate and the buffer that the two make (6.3.3, 6.3.5).
-- Assumes nothing.
use Rattle.std.specs.Prelude.{ℕ, ◌+◌, ◌*◌, List, drop}
use Rattle.bits.specs.Refusals.{Answer, value, and_then}
use Rattle.headers.specs.StartCode.{next_start_code}
use Rattle.headers.specs.SequenceHeader.{sequence_header, sequence_header_bytes}
use Rattle.headers.specs.SequenceExtension.{sequence_extension}
use Rattle.headers.specs.declared.sequence_header.Mpeg2SequenceHeader.{Mpeg2SequenceHeader}
use Rattle.headers.specs.declared.sequence_extension.Mpeg2SequenceExtension.{Mpeg2SequenceExtension}
use Rattle.headers.specs.declared.sequence_extension.Mpeg2Sequence.{Mpeg2Sequence}

-- 2, 2, 12 and 8 bits of the extension stand above the header's 12, 12, 18 and 10
unfoldable pub sequence_of : Mpeg2SequenceHeader → Mpeg2SequenceExtension → Mpeg2Sequence
sequence_of h x = record {
  header = h;
  extension = x;
  horizontal_size = x.horizontal_size_extension * 4096 + h.width;
  vertical_size = x.vertical_size_extension * 4096 + h.height;
  bit_rate = x.bit_rate_extension * 262144 + h.bit_rate;
  vbv_buffer_size = x.vbv_buffer_size_extension * 1024 + h.vbv_buffer_size;
}

-- the header, and the extension at the next start code
unfoldable pub sequence : List ℕ → Answer Mpeg2Sequence
sequence s =
    and_then (sequence_header s) (λ h.
    and_then (next_start_code s (sequence_header_bytes h)) (λ place.
    and_then (sequence_extension (drop place s)) (λ extension.
    value (sequence_of h extension))))
