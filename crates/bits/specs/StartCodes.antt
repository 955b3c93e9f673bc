-- The start codes (ISO/IEC 13818-2 6.2.1, Table 6-1; 11172-2 2.4.2.1) that are read or written: the prefix, and the fourth byte by the standard's name.
-- Assumes nothing.
use Rattle.std.specs.Prelude.{ℕ, List, [], ◌∷◌, ◌++◌}

-- the three bytes that every start code begins with (start_code_prefix)
abbrev pub start_code_prefix : List ℕ
start_code_prefix = 0x00 ∷ 0x00 ∷ 0x01 ∷ []

-- the four bytes of a start code
abbrev pub start_code : ℕ → List ℕ
start_code code = start_code_prefix ++ (code ∷ [])

abbrev pub picture_start_code : ℕ
picture_start_code = 0x00

-- slice_start_code is any from the first to the last
abbrev pub first_slice_code : ℕ
first_slice_code = 0x01

abbrev pub last_slice_code : ℕ
last_slice_code = 0xAF

abbrev pub user_data_start_code : ℕ
user_data_start_code = 0xB2

abbrev pub sequence_header_code : ℕ
sequence_header_code = 0xB3

abbrev pub extension_start_code : ℕ
extension_start_code = 0xB5

abbrev pub sequence_end_code : ℕ
sequence_end_code = 0xB7

abbrev pub group_start_code : ℕ
group_start_code = 0xB8
