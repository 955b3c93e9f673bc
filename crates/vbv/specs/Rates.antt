-- Frame rates with extensions (ISO/IEC 13818-2 6.3.5; request 02): which answer the lookup is due; figures; and that of a frame rate only the value counts, not the numerator and denominator that it is written with.
-- Assumes nothing.
use Rattle.std.specs.Prelude.{ℕ, ◌+◌, ◌*◌, ◌≤◌, ◌<◌, ◌≡◌, Bool, true}
use Rattle.bits.specs.Refusals.{value, refused}
use Rattle.vbv.specs.Annex.{first_delivered, gain, overflows, beyond, expected_delay, occupancy, greatest_end, least_end, first_arrived, arrived, expected as expected_by}
use Rattle.vbv.specs.Answers.{frame_rate}
use Rattle.vbv.specs.Model.{params_fit, params_fit_at}
use Rattle.vbv.specs.Params.{same_params}
use Rattle.vbv.specs.declared.VbvParams.{VbvParams}

-- 12 for an n or d that is too wide, whatever the code; then 6 for a code other than 1 to 8; then the product of the code's own rate
pub record LookupDue : Type 0 where
  pub n_wide : (c n d : ℕ) → 3 < n → frame_rate c n d ≡ refused 12 0 0 0
  pub d_wide : (c n d : ℕ) → 31 < d → frame_rate c n d ≡ refused 12 0 0 0
  pub no_rate : (c n d : ℕ) → n ≤ 3 → d ≤ 31 → (1 ≤ c → c ≤ 8 → ⊥) → frame_rate c n d ≡ refused 6 0 0 0
  pub product : (c n d : ℕ) (f : ℕ × ℕ) → n ≤ 3 → d ≤ 31 → frame_rate c 0 0 ≡ value f → frame_rate c n d ≡ value (f.0 * (n + 1), f.1 * (d + 1))

pub record RateFigures : Type 0 where
  -- the codes alone
  pub code_1 : frame_rate 1 0 0 ≡ value (24000, 1001)
  pub code_2 : frame_rate 2 0 0 ≡ value (24, 1)
  pub code_3 : frame_rate 3 0 0 ≡ value (25, 1)
  pub code_4 : frame_rate 4 0 0 ≡ value (30000, 1001)
  pub code_5 : frame_rate 5 0 0 ≡ value (30, 1)
  pub code_6 : frame_rate 6 0 0 ≡ value (50, 1)
  pub code_7 : frame_rate 7 0 0 ≡ value (60000, 1001)
  pub code_8 : frame_rate 8 0 0 ≡ value (60, 1)
  -- paper 01's greatest values; nothing is reduced
  pub greatest : frame_rate 7 3 31 ≡ value (240000, 32032)
  pub half_of_50 : frame_rate 6 0 1 ≡ value (50, 2)
  pub doubled_and_halved : frame_rate 3 1 1 ≡ value (50, 2)
  -- n times up, d times down: 24000/1001 × 2 / 5
  pub two_fifths : frame_rate 1 1 4 ≡ value (48000, 5005)
  pub up : frame_rate 3 1 0 ≡ value (50, 1)
  pub down : frame_rate 3 0 1 ≡ value (25, 2)
  -- 12 before 6
  pub wide_n : frame_rate 9 4 0 ≡ refused 12 0 0 0
  pub wide_d : frame_rate 9 0 32 ≡ refused 12 0 0 0
  pub wide_n_alone : frame_rate 3 4 0 ≡ refused 12 0 0 0
  pub wide_d_alone : frame_rate 3 0 32 ≡ refused 12 0 0 0
  pub no_code : frame_rate 9 0 0 ≡ refused 6 0 0 0
  pub no_code_0 : frame_rate 0 3 31 ≡ refused 6 0 0 0

-- d units of p are as many bits as e units of q
abbrev pub SameBits : VbvParams → VbvParams → ℕ → ℕ → Type 0
SameBits p q d e = d * q.frn ≡ e * p.frn

-- Annex C of p and of q: the first removal and what a period brings are as many bits, and where as many bits are delivered everything that is told is the same
pub record SameTold (p q : VbvParams) : Type 0 where
  pub fits : params_fit p ≡ params_fit q
  pub first : (position delay : ℕ) → SameBits p q (first_delivered p position delay) (first_delivered q position delay)
  pub later : (d e n : ℕ) → SameBits p q d e → SameBits p q (d + gain p n) (e + gain q n)
  pub overflow : (previous d e : ℕ) → SameBits p q d e → overflows p previous d ≡ overflows q previous e
  pub underflow : (end d e : ℕ) → SameBits p q d e → beyond p end d ≡ beyond q end e
  pub expected : (position d e : ℕ) → SameBits p q d e → expected_delay p position d ≡ expected_delay q position e
  pub held : (previous d e : ℕ) → SameBits p q d e → occupancy p previous d ≡ occupancy q previous e
  pub greatest_end_lem : (d e : ℕ) → SameBits p q d e → greatest_end p d ≡ greatest_end q e
  pub least_end_lem : (d e : ℕ) → SameBits p q d e → least_end p d ≡ least_end q e
  -- at a variable rate too (request 06)
  pub fits_at : (v : Bool) → params_fit_at v p ≡ params_fit_at v q
  pub first_arrived_lem : (v : Bool) (position delay : ℕ) → SameBits p q (first_arrived v p position delay) (first_arrived v q position delay)
  pub next_arrived : (v : Bool) (end d e n : ℕ) → SameBits p q d e → SameBits p q (arrived v p end d n) (arrived v q end e n)
  pub expected_at_lem : (v : Bool) (position d e : ℕ) → SameBits p q d e → expected_by v p position d ≡ expected_by v q position e

-- what is owed
pub record RatesOwed : Type 0 where
  pub lookup : LookupDue
  pub figures : RateFigures
  pub value_decides : (p q : VbvParams) → same_params p q ≡ true → SameTold p q
