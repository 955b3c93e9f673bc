-- What the first sequence header of a stream declares: R, B and the frame rate (ISO/IEC 13818-2 6.3.3, 6.3.5; 11172-2 2.4.3.2; paper 01, 'The buffer report').
-- Assumes nothing.
use Rattle.std.specs.Prelude.{ℕ, List, drop, Option, Some, None}
use Rattle.bits.specs.Refusals.{Answer, value, refused, and_then}
use Rattle.headers.specs.SequenceHeader.{sequence_header}
use Rattle.headers.specs.Sequence.{sequence}
use Rattle.vbv.specs.Answers.{frame_rate}
use Rattle.vbv.specs.Params.{params_of}
use Rattle.vbv.specs.declared.VbvParams.{VbvParams}
use Rattle.scan.specs.Codes.{codes, found}
use Rattle.scan.specs.Pictures.{skip, not_sequence}
use Rattle.scan.specs.declared.StartCode.{StartCode}
use Rattle.pictures.specs.declared.VbvStandard.{VbvStandard}
use Rattle.pictures.specs.declared.VbvStandard.TheVariants.{Mpeg1, Mpeg2}

-- R, B and the frame rate of a code (6) and its extensions n and d (their 12 does not occur: they are read from 2 and 5 bits)
unfoldable pub rated : ℕ → ℕ → ℕ → ℕ → ℕ → Answer VbvParams
rated rate buffer code n d =
    and_then (frame_rate code n d) (λ f. value (params_of rate buffer f))

-- MPEG-1 reads the sequence header alone, MPEG-2 the extension after it too (1, 2); 11172-2 has no n and d (request 02: 'MPEG-1 passes zeros')
unfoldable pub declared_by : VbvStandard → List ℕ → Answer VbvParams
declared_by Mpeg1 s = and_then (sequence_header s) (λ h. rated h.bit_rate h.vbv_buffer_size h.frame_rate_code 0 0)
declared_by Mpeg2 s =
    and_then (sequence s) (λ q.
    rated q.bit_rate q.vbv_buffer_size q.header.frame_rate_code q.extension.frame_rate_extension_n q.extension.frame_rate_extension_d)

unfoldable pub declared_at : VbvStandard → List ℕ → Option StartCode → Answer VbvParams
declared_at standard s (Some c) = declared_by standard (drop c.offset s)
declared_at standard s None = refused 3 0 0 0

-- by the first B3
unfoldable pub declared : VbvStandard → List ℕ → Answer VbvParams
declared standard s = declared_at standard s (found (skip not_sequence (codes s)))
