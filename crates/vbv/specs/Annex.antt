-- The video buffering verifier (ISO/IEC 13818-2 Annex C; 11172-2 Annex C), exact, in unbounded ℕ: at a constant rate, and at a variable one, where every vbv_delay is 0xFFFF (C.3.2).
-- Bits delivered to the buffer are counted in 1/unit bit: in these every tick of 1/90,000 s and every field period delivers a whole number.
-- Assumes nothing.
use Rattle.std.specs.Prelude.{ℕ, ◌+◌, ◌-◌, ◌*◌, ◌/◌, min, Bool, true, false, ltb}
use Rattle.vbv.specs.declared.VbvParams.{VbvParams}

unfoldable pub unit : VbvParams → ℕ
unit p = 180000 * p.frn

-- C.3.1; 11172-2 C.1.3: delivered at the first removal: all up to `position`, where the picture start code ends, and what `delay` ticks bring
unfoldable pub first_delivered : VbvParams → ℕ → ℕ → ℕ
first_delivered p position delay = position * unit p + delay * p.bit_rate * 2 * p.frn

-- C.9, C.11: what so many field periods of frd / (2 × frn) s bring
unfoldable pub gain : VbvParams → ℕ → ℕ
gain p periods = p.bit_rate * 90000 * p.frd * periods

-- C.5; 11172-2 C.1.4: with d delivered and all before `previous` removed, more is in the buffer than it holds
unfoldable pub overflows : VbvParams → ℕ → ℕ → Bool
overflows p previous d = ltb ((previous + p.buffer_size_bits) * unit p) d

-- C.6; 11172-2 C.1.4: `end` lies beyond the bits delivered, so the picture, or the start code, that ends there is not already delivered
unfoldable pub beyond : VbvParams → ℕ → ℕ → Bool
beyond p end d = ltb d (end * unit p)

-- C.3.1, 6.3.9; 11172-2 2.4.3.4: ticks from the arrival of `position` to the removal; halves up (paper 01)
unfoldable pub expected_delay : VbvParams → ℕ → ℕ → ℕ
expected_delay p position d = (d - position * unit p + p.frn * p.bit_rate) / (2 * p.frn * p.bit_rate)

-- whole bits in the buffer before a removal
unfoldable pub occupancy : VbvParams → ℕ → ℕ → ℕ
occupancy p previous d = (d - previous * unit p) / unit p

-- the greatest end that is already delivered, and the least after which a removal at d does not overflow
unfoldable pub greatest_end : VbvParams → ℕ → ℕ
greatest_end p d = d / unit p

unfoldable pub least_end : VbvParams → ℕ → ℕ
least_end p d = (d - p.buffer_size_bits * unit p + (unit p - 1)) / unit p

-- ---- at a variable rate, or a constant one (paper 02, request 06)

-- all up to `end`, which is removed, and a full buffer
unfoldable pub full : VbvParams → ℕ → ℕ
full p end = (end + p.buffer_size_bits) * unit p

-- arrived at the first removal (C.3.1, C.3.2): at a variable rate the buffer is full, wherever the picture lies and whatever its delay
abbrev pub first_arrived : Bool → VbvParams → ℕ → ℕ → ℕ
first_arrived true p position delay = full p 0
first_arrived false p position delay = first_delivered p position delay

-- arrived at the removal that comes so many field periods after one with d arrived, of a picture that ends at `end` (C.3.2): at a variable rate the buffer stays at B once it is full
abbrev pub arrived : Bool → VbvParams → ℕ → ℕ → ℕ → ℕ
arrived true p end d periods = min (d + gain p periods) (full p end)
arrived false p end d periods = d + gain p periods

-- 6.3.9: the delay of a picture at `position`: at a variable rate 0xFFFF, and no time is told
abbrev pub expected : Bool → VbvParams → ℕ → ℕ → ℕ
expected true p position d = 0xFFFF
expected false p position d = expected_delay p position d
