-- The check of a stream (paper 01, 'The buffer report'; paper 02, requests 05 and 06): 12 for a mode that does not exist (MPEG-1 with film or a variable rate); the front (14, 3, sequence header, extension, 6, every picture header, 4), then at a constant rate 5, 12, 15 and the run's
-- 7, 8, 11, 9, 10, at a variable one 25, 12, 15 and the run's 10.
-- Assumes nothing.
use Rattle.std.specs.Prelude.{ℕ, List, [], ◌∷◌, Bool, true, false, not, ◌&&◌, ltb, eqb, length}
use Rattle.bits.specs.Refusals.{Answer, value, refused, refuse, and_then}
use Rattle.vbv.specs.Annex.{first_arrived}
use Rattle.vbv.specs.Model.{params_fit_at}
use Rattle.vbv.specs.declared.VbvParams.{VbvParams}
use Rattle.verify.specs.Mode.{mode_fits}
use Rattle.verify.specs.Coded.{timed}
use Rattle.verify.specs.Run.{run, least_after, greatest_before}
use Rattle.pictures.specs.Front.{front}
use Rattle.pictures.specs.Cadence.{cadence_of}
use Rattle.pictures.specs.declared.VbvStandard.{VbvStandard}
use Rattle.cadence.specs.declared.VbvCadence.{VbvCadence}
use Rattle.verify.specs.declared.VbvMode.{VbvMode}
use Rattle.pictures.specs.declared.SeenPicture.{SeenPicture}
use Rattle.verify.specs.declared.VbvPictureRecord.{VbvPictureRecord}
use Rattle.verify.specs.declared.VbvStreamReport.{VbvStreamReport}
use Rattle.verify.specs.declared.CodedPicture.{CodedPicture}

-- an accepted stream: what it declares, and a record a picture, the first beside the others
pub record Accepted : Type 0 where
  pub params : VbvParams
  pub first : VbvPictureRecord
  pub others : List VbvPictureRecord

-- a run over one picture at least has a record
abbrev pub accepted : VbvParams → List VbvPictureRecord → Answer Accepted
accepted p [] = refused 4 0 0 0
accepted p (r ∷ rs) = value (record { params = p; first = r; others = rs })

-- the first picture as its headers show it, and all of them as the model sees them; at a variable rate 12 does not ask the ratio
unfoldable pub modelled : Bool → ℕ → VbvParams → SeenPicture → List CodedPicture → Answer Accepted
modelled variable places p x cs =
    refuse 12 (not (params_fit_at variable p))
    (refuse 15 (ltb places (length cs))
    (and_then (run variable p 0 0 (first_arrived variable p x.pos_bits x.vbv_delay) cs) (accepted p)))

-- 6.3.9: every delay is 0xFFFF
unfoldable pub all_variable : List CodedPicture → Bool
all_variable [] = true
all_variable (c ∷ cs) = eqb c.vbv_delay 0xFFFF && all_variable cs

-- after the front: 5 for a first delay of 0xFFFF; at a variable rate 25 for any other delay
unfoldable pub with_pictures : Bool → ℕ → VbvParams → SeenPicture → List CodedPicture → Answer Accepted
with_pictures false places p x cs = refuse 5 (eqb x.vbv_delay 0xFFFF) (modelled false places p x cs)
with_pictures true places p x cs = refuse 25 (not (all_variable cs)) (modelled true places p x cs)

-- by a cadence before the first picture
unfoldable pub verdict_by : VbvStandard → Bool → VbvCadence → List ℕ → ℕ → Answer Accepted
verdict_by standard variable k s places =
    and_then (front standard s) (λ f.
    with_pictures variable places f.params f.first (timed k (f.first ∷ f.others)))

-- which the first sequence header opens
unfoldable pub verdict : VbvMode → List ℕ → ℕ → Answer Accepted
verdict m s places =
    refuse 12 (not (mode_fits m))
    (verdict_by m.standard m.variable (cadence_of m.film s) s places)

-- the report, and the records
abbrev pub report_of : Accepted → VbvStreamReport
report_of a = record {
  bit_rate = a.params.bit_rate;
  buffer_size_bits = a.params.buffer_size_bits;
  pictures = length (a.first ∷ a.others);
  min_occupancy_after_bits = least_after a.first a.others;
  max_occupancy_before_bits = greatest_before (a.first ∷ a.others);
}

abbrev pub reported : Answer Accepted → Answer VbvStreamReport
reported v = and_then v (λ a. value (report_of a))

abbrev pub records : Answer Accepted → List VbvPictureRecord
records (value a) = a.first ∷ a.others
records (refused n k c e) = []
