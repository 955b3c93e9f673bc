-- What `vbv_check` and `vbv_report` test before they read the stream.
-- Assumes nothing.
use Rattle.std.specs.Prelude.{ℕ, Result, Ok, Err, ◌||◌, List, ltb, length}
use Rattle.bits.specs.Bits.{pick}
use Rattle.bits.specs.Refusals.{plain}
use Rattle.bits.specs.declared.VbvRefusal.{VbvRefusal}
use Rattle.verify.specs.declared.VbvMode.{VbvMode}
use Rattle.layout.specs.Mode.{is_mode, mode_for}
use Rattle.layout.specs.Answers.{report_size, refusal_size}

-- of the mode's number and the places for report and refusal: the mode, or 19 where a place is too short, then 12
unfoldable pub asked : ℕ → List ℕ → List ℕ → Result VbvMode VbvRefusal
asked mode report refusal =
    pick (ltb (length refusal) refusal_size || ltb (length report) report_size) (Err (plain 19))
    (pick (is_mode mode) (Ok (mode_for mode)) (Err (plain 12)))
