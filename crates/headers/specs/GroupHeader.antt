-- group_of_pictures_header() (ISO/IEC 13818-2 6.2.2.6, 6.3.8; 11172-2 2.4.2.4): its fields in stream order, and the time code of a display index.
-- Assumes nothing.
use Rattle.std.specs.Prelude.{ℕ, ◌/◌, ◌%◌, List, [], ◌∷◌, false, not, ◌&&◌, leb, get_or, Option, Some, None}
use Rattle.bits.specs.Refusals.{Answer, value, refused, refuse, and_then}
use Rattle.bits.specs.Fields.{Field, any_value, exactly}
use Rattle.headers.specs.Answers.{flag_of}
use Rattle.headers.specs.declared.gop_header.TimeCode.{TimeCode}
use Rattle.headers.specs.declared.gop_header.Mpeg2Gop.{Mpeg2Gop}

-- Table 6-11; the writer holds its values to their widths alone (docs/DIFFERENCES.md)
abbrev pub group_fields : List Field
group_fields =
    any_value 1 ∷  -- 0 drop_frame_flag
    any_value 5 ∷  -- 1 time_code_hours
    any_value 6 ∷  -- 2 time_code_minutes
    exactly 1 1 ∷  -- 3 marker_bit
    any_value 6 ∷  -- 4 time_code_seconds
    any_value 6 ∷  -- 5 time_code_pictures
    any_value 1 ∷  -- 6 closed_gop
    any_value 1 ∷ []  -- 7 broken_link

unfoldable pub group_values : Mpeg2Gop → List ℕ
group_values g =
    flag_of g.time_code.drop_frame
    ∷ g.time_code.hours
    ∷ g.time_code.minutes
    ∷ 1
    ∷ g.time_code.seconds
    ∷ g.time_code.pictures
    ∷ flag_of g.closed_gop
    ∷ flag_of g.broken_link
    ∷ []

-- Table 6-4, each rate rounded to whole pictures (6.3.8); 0 is forbidden and 9 to 15 are reserved
abbrev pub nominal_rates : List ℕ
nominal_rates = 0 ∷ 24 ∷ 24 ∷ 25 ∷ 30 ∷ 30 ∷ 50 ∷ 60 ∷ 60 ∷ []

unfoldable pub nominal_rate : ℕ → Answer ℕ
nominal_rate c = refuse 6 (not (leb 1 c && leb c 8)) (value (get_or nominal_rates c 0))

-- the time code of picture n in display order at p pictures a second, without dropped numbers; hours begin again after 23
unfoldable pub time_code : ℕ → ℕ → TimeCode
time_code n p = record {
  drop_frame = false;
  hours = n / p / 60 / 60 % 24;
  minutes = n / p / 60 % 60;
  seconds = n / p % 60;
  pictures = n % p;
}

-- the same at frame_rate_code c
unfoldable pub time_code_at : ℕ → ℕ → Answer TimeCode
time_code_at n c = and_then (nominal_rate c) (λ p. value (time_code n p))

-- the number and the value of each case
abbrev pub rate_code_answer : {X : Type 0} → Option X → Answer X
rate_code_answer (Some x) = value x
rate_code_answer None = refused 6 0 0 0
