-- R, B and the frame rate by the fields of a sequence header (ISO/IEC 13818-2 6.3.3, 6.3.5; 11172-2 2.4.3.2), and when two of them are the same.
-- Assumes nothing.
use Rattle.std.specs.Prelude.{ℕ, ◌*◌, Bool, ◌&&◌, eqb}
use Rattle.vbv.specs.Model.{params_in_range}
use Rattle.vbv.specs.declared.VbvParams.{VbvParams}

-- bit_rate counts units of 400 bits a second, vbv_buffer_size units of 16 × 1024 bits
abbrev pub rate_unit : ℕ
rate_unit = 400

abbrev pub buffer_unit : ℕ
buffer_unit = 16384

-- of the two fields and the frame rate frn / frd
unfoldable pub params_of : ℕ → ℕ → ℕ × ℕ → VbvParams
params_of rate buffer f = record { bit_rate = rate_unit * rate; buffer_size_bits = buffer_unit * buffer; frn = f.0; frd = f.1 }

-- the same R, the same B and a frame rate of the same value, whatever its numerator and denominator (request 02). Parameters out of paper 01's ranges are the same as none: 0 / 0 has no
-- value, and within the ranges the products fit in 64 bits
unfoldable pub same_params : VbvParams → VbvParams → Bool
same_params p q =
    params_in_range p
    && params_in_range q
    && eqb q.bit_rate p.bit_rate
    && eqb q.buffer_size_bits p.buffer_size_bits
    && eqb (q.frn * p.frd) (p.frn * q.frd)
