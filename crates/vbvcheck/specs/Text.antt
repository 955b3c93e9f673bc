-- What `vbvcheck` prints of a stream (paper 01, 'Figures to hold against it'): up to 65,536 bytes and 1,024 records of MPEG-2.
-- Assumes nothing.
use Rattle.std.specs.Prelude.{ℕ, zero, suc, ◌+◌, ◌/◌, ◌%◌, List, [], ◌∷◌, ◌++◌, ltb, leb, length}
use Prim.Native.Char.{code}
use Prim.Native.String.{String, [] as nothing, ◌∷◌ as ◌then◌}
use Rattle.bits.specs.Bits.{pick}
use Rattle.bits.specs.Refusals.{Answer, value, refused}
use Rattle.verify.specs.Check.{Accepted, verdict, report_of}
use Rattle.pictures.specs.declared.VbvStandard.TheVariants.{Mpeg2}
use Rattle.verify.specs.Mode.{plain}
use Rattle.verify.specs.declared.VbvPictureRecord.{VbvPictureRecord}
use Rattle.verify.specs.declared.VbvStreamReport.{VbvStreamReport}
use Rattle.bits.specs.declared.VbvRefusal.{VbvRefusal}

-- a text's bytes
abbrev pub ascii : String → List ℕ
ascii nothing = []
ascii (c then s) = code c ∷ ascii s

-- a number of at most k decimal digits
unfoldable pub decimal : ℕ → ℕ → List ℕ
decimal zero n = []
decimal (suc k) n = pick (ltb n 10) ((48 + n) ∷ []) (decimal k (n / 10) ++ ((48 + n % 10) ∷ []))

-- numbers, a space between them and a line end after them; 20 digits hold 64 bits
abbrev pub ending : List ℕ → ℕ
ending [] = code "\n"
ending (n ∷ ns) = code " "

unfoldable pub line : List ℕ → List ℕ
line [] = []
line (n ∷ ns) = decimal 20 n ++ (ending ns ∷ line ns)

unfoldable pub record_lines : List VbvPictureRecord → List ℕ
record_lines [] = []
record_lines (r ∷ rs) =
    line (r.vbv_delay ∷ r.expected_delay ∷ r.data_bits ∷ r.occupancy_before_bits ∷ r.periods ∷ []) ++ record_lines rs

unfoldable pub report_text : VbvStreamReport → List ℕ
report_text r =
    ascii "bit_rate buffer_bits pictures min_after max_before\n"
    ++ line (r.bit_rate ∷ r.buffer_size_bits ∷ r.pictures ∷ r.min_occupancy_after_bits ∷ r.max_occupancy_before_bits ∷ [])

unfoldable pub refusal_text : VbvRefusal → List ℕ
refusal_text r = ascii "refused picture coded expected\n" ++ line (r.number ∷ r.picture ∷ r.coded ∷ r.expected ∷ [])

unfoldable pub verdict_text : Answer Accepted → List ℕ
verdict_text (value a) = report_text (report_of a) ++ (ascii "delay expected data_bits occupancy_before periods\n" ++ record_lines (a.first ∷ a.others))
verdict_text (refused n k c e) = refusal_text (record { number = n; picture = k; coded = c; expected = e })

unfoldable pub printed : List ℕ → List ℕ
printed s = pick (leb (length s) 65536) (verdict_text (verdict (plain Mpeg2) s 1024)) (ascii "too long\n")
