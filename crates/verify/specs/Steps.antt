-- The check as the code goes: a picture at a time, with the model and what the report needs of the removals so far; and the records of a stream one by one.
-- The promises of private functions; proofs/Verdict.antt and Recording.antt say that they come to specs/Check.antt. Assumes nothing.
use Rattle.std.specs.Prelude.{ℕ, ◌+◌, ◌-◌, min, max, Bool, true, false, not, ◌&&◌, ◌||◌, List, [], ◌∷◌, eqb, leb, length, Option, Some, None, Result, Ok, Err}
use Rattle.bits.specs.Bits.{pick}
use Rattle.bits.specs.Refusals.{Answer, value, refused, refuse, violate, and_then, or_else}
use Rattle.bits.specs.declared.VbvRefusal.{VbvRefusal}
use Rattle.headers.specs.declared.Error.TheVariants as h
use Rattle.vbv.specs.Model.{periods, new_model, start_model, delay_for_picture, remove_picture, occupancy_before_removal}
use Rattle.vbv.specs.Steps.{model_error_of}
use Rattle.vbv.specs.declared.VbvParams.{VbvParams}
use Rattle.vbv.specs.declared.VbvCbrModel.{VbvCbrModel}
use Rattle.vbv.specs.declared.VbvViolation.{VbvViolation}
use Rattle.vbv.specs.declared.VbvViolation.TheVariants.{Overflow, Underflow, DelayMismatch}
use Rattle.vbv.specs.declared.VbvRemovalError.{VbvRemovalError}
use Rattle.vbv.specs.declared.VbvRemovalError.TheVariants as rm
use Rattle.vbr.specs.Variable.{new_variable, start_variable, remove_variable, occupancy_variable}
use Rattle.pictures.specs.Front.{opening}
use Rattle.pictures.specs.Seen.{Sight, nothing, one, next_seen, seen_pictures}
use Rattle.pictures.specs.Cadence.{cadence_of}
use Rattle.pictures.specs.declared.SeenPicture.{SeenPicture}
use Rattle.cadence.specs.Cadence.{interval, after}
use Rattle.verify.specs.Coded.{coded_of, timed}
use Rattle.verify.specs.Run.{apart, occupancy_after}
use Rattle.verify.specs.declared.CodedPicture.{CodedPicture}
use Rattle.verify.specs.declared.VbvMode.{VbvMode}
use Rattle.verify.specs.declared.VbvPictureRecord.{VbvPictureRecord}
use Rattle.verify.specs.declared.VbvStreamReport.{VbvStreamReport}
use Rattle.verify.specs.declared.VbvVerifyError.{VbvVerifyError}
use Rattle.verify.specs.declared.VbvVerifyError.TheVariants.{Parse, Model, NoSequenceHeader, NoPictures, VariableRate, ConstantRate, RecordPlaces, Violation}
use Rattle.verify.specs.declared.Progress.{Progress}
use Rattle.verify.specs.declared.Progress.TheVariants.{Fresh, Unmodelled, Running, Stopped}
use Rattle.verify.specs.declared.Walked.{Walked}
use Rattle.verify.specs.declared.recorder.VbvBeginning.{VbvBeginning}
use Rattle.verify.specs.declared.recorder.VbvRecorder.{VbvRecorder}

-- ---- a refusal by what it tells; proofs/Cases.antt says that no two tell the same

unfoldable pub error_of : VbvRefusal → VbvVerifyError
error_of r =
    pick (eqb r.number 1) (Parse h.ShortHeader)
    (pick (eqb r.number 2) (Parse h.InvalidBitstream)
    (pick (eqb r.number 3) NoSequenceHeader
    (pick (eqb r.number 4) NoPictures
    (pick (eqb r.number 5) VariableRate
    (pick (eqb r.number 9) (Violation (Overflow r.picture r.coded r.expected))
    (pick (eqb r.number 10) (Violation (Underflow r.picture r.coded r.expected))
    (pick (eqb r.number 11) (Violation (DelayMismatch r.picture r.coded r.expected))
    (pick (eqb r.number 15) RecordPlaces
    (pick (eqb r.number 16) (Parse h.FieldToWrite)
    (pick (eqb r.number 19) (Parse h.ShortOutput)
    (pick (eqb r.number 25) ConstantRate
    (Model (model_error_of r.number)))))))))))))

unfoldable pub result_of : {X : Type 0} → Answer X → Result X VbvVerifyError
result_of (value x) = Ok x
result_of (refused n k c e) = Err (error_of (record { number = n; picture = k; coded = c; expected = e }))

-- ---- a removal, by what the model of a constant (false) or a variable rate answers

-- the model at the first removal; at a variable rate it finds the buffer full
unfoldable pub first_model : Bool → VbvParams → CodedPicture → Answer VbvCbrModel
first_model false p c = refuse 5 (eqb c.vbv_delay 0xFFFF) (and_then (new_model p) (λ m. start_model m c.vbv_delay c.pos_bits))
first_model true p c = and_then (new_variable p) (λ m. start_variable m)

-- at a variable rate no time is expected
unfoldable pub expected_at : Bool → VbvCbrModel → CodedPicture → Answer ℕ
expected_at false m c = and_then (delay_for_picture m c.pos_bits) (λ e. violate 11 m.removed c.vbv_delay e (apart c.vbv_delay e) (value e))
expected_at true m c = value 0xFFFF

unfoldable pub occupancy_at : Bool → VbvCbrModel → Answer ℕ
occupancy_at false m = occupancy_before_removal m
occupancy_at true m = occupancy_variable m

unfoldable pub removed_at : Bool → VbvCbrModel → CodedPicture → Answer VbvCbrModel
removed_at false m c = remove_picture m c.end_bits c.interval
removed_at true m c = remove_variable m c.end_bits c.interval

-- a violation with its delays
unfoldable pub delays_told : ℕ → ℕ → VbvViolation → VbvViolation
delays_told coded expected (Overflow n c x) = Overflow n coded expected
delays_told coded expected (Underflow n c x) = Underflow n coded expected
delays_told coded expected (DelayMismatch n c x) = DelayMismatch n coded expected

-- why a removal is refused, among the refusals of the check
unfoldable pub removal_error : ℕ → ℕ → VbvRemovalError → VbvVerifyError
removal_error coded expected (rm.Model e) = Model e
removal_error coded expected (rm.Violation v) = Violation (delays_told coded expected v)

-- and by what it tells
unfoldable pub with_delays : {X : Type 0} → ℕ → ℕ → Answer X → Answer X
with_delays coded expected (value x) = value x
with_delays coded expected (refused n k c e) = pick (eqb n 9 || (eqb n 10 || eqb n 11)) (refused n k coded expected) (refused n k c e)

-- the record, and the model after the removal
unfoldable pub removed : Bool → VbvCbrModel → CodedPicture → Answer (VbvPictureRecord × VbvCbrModel)
removed v m c =
    and_then (expected_at v m c) (λ expected.
    and_then (occupancy_at v m) (λ before.
    and_then (with_delays c.vbv_delay expected (removed_at v m c)) (λ next.
    value (
      record {
        vbv_delay = c.vbv_delay;
        expected_delay = expected;
        data_bits = c.end_bits - m.prev_end_bits;
        occupancy_before_bits = before;
        periods = periods c.interval;
      },
      next,
    ))))

-- ---- the progress

unfoldable pub progressed : ℕ → ℕ → Result (VbvPictureRecord × VbvCbrModel) VbvVerifyError → Progress
progressed least greatest (Ok x) = Running x.1 x.0 (min least (occupancy_after x.0)) (max greatest x.0.occupancy_before_bits)
progressed least greatest (Err e) = Stopped e

-- the first removal; no occupancy is above B
unfoldable pub begun : Bool → VbvParams → CodedPicture → Result VbvCbrModel VbvVerifyError → Progress
begun v p c (Ok m) = progressed p.buffer_size_bits 0 (result_of (removed v m c))
begun v p c (Err e) = Unmodelled e

unfoldable pub gone_on_from : Bool → VbvParams → Progress → CodedPicture → Progress
gone_on_from v p Fresh c = begun v p c (result_of (first_model v p c))
gone_on_from v p (Unmodelled e) c = Unmodelled e
gone_on_from v p (Running m r least greatest) c = progressed least greatest (result_of (removed v m c))
gone_on_from v p (Stopped e) c = Stopped e

-- what a removal makes of what stands before it: the least and the greatest so far and the model, or a progress that stays
unfoldable pub gone_on : Bool → CodedPicture → Result (ℕ × ℕ × VbvCbrModel) Progress → Progress
gone_on v c (Ok x) = progressed x.0 x.1 (result_of (removed v x.2 c))
gone_on v c (Err st) = st

-- at a variable rate another delay than 0xFFFF makes 25 of any progress: it comes before 12 and every 10
unfoldable pub advanced : Bool → VbvParams → Progress → CodedPicture → Progress
advanced v p st c = pick (v && not (eqb c.vbv_delay 0xFFFF)) (Unmodelled ConstantRate) (gone_on_from v p st c)

-- over all pictures
unfoldable pub advanced_all : Bool → VbvParams → Progress → List CodedPicture → Progress
advanced_all v p st [] = st
advanced_all v p st (c ∷ cs) = advanced_all v p (advanced v p st c) cs

-- ---- the walk

-- what the first headers declare: 14, 3, sequence header, extension, 6
unfoldable pub beginning : VbvMode → List ℕ → Answer VbvBeginning
beginning m s = and_then (opening m.standard s) (λ p. value (record { params = p; cadence = cadence_of m.film s }))

-- before the first picture
abbrev pub recorder_of : VbvMode → VbvBeginning → VbvRecorder
recorder_of m b = record { mode = m; params = b.params; at = 0; cadence = b.cadence; progress = Fresh }

-- after one more picture
unfoldable pub went_on : VbvRecorder → SeenPicture → ℕ → VbvRecorder
went_on w x next = record {
  mode = w.mode;
  params = w.params;
  at = next;
  cadence = after w.cadence x.facts;
  progress = advanced w.mode.variable w.params w.progress (coded_of (interval w.cadence x.facts) x);
}

-- after what is seen
unfoldable pub took : VbvRecorder → Sight → VbvRecorder
took w nothing = w
took w (one x next) = went_on w x next

-- whether a picture is seen
unfoldable pub is_one : Sight → Bool
is_one nothing = false
is_one (one x next) = true

-- after the next picture; where there is none, or on a refusal, as it was
unfoldable pub stepped : List ℕ → VbvRecorder → VbvRecorder
stepped s w = or_else w (and_then (next_seen w.mode.standard s w.at) (λ g. value (took w g)))

-- whether there is one
unfoldable pub steps : List ℕ → VbvRecorder → Answer Bool
steps s w = and_then (next_seen w.mode.standard s w.at) (λ g. value (is_one g))

-- n pictures, and those still to come
unfoldable pub walked_over : VbvRecorder → ℕ → List SeenPicture → Walked
walked_over w n xs =
    record { params = w.params; pictures = n + length xs; progress = advanced_all w.mode.variable w.params w.progress (timed w.cadence xs) }

-- every picture header in stream order
abbrev pub walked_from : VbvRecorder → List ℕ → Answer Walked
walked_from w s = and_then (seen_pictures w.mode.standard s) (λ xs. value (walked_over w 0 xs))

-- of a whole stream: its first headers, and these
unfoldable pub walked : VbvMode → List ℕ → Answer Walked
walked m s = and_then (beginning m s) (λ b. walked_from (recorder_of m b) s)

-- ---- the answer

-- what is answered if there are places for n records
unfoldable pub if_placed : ℕ → ℕ → Result VbvStreamReport VbvVerifyError → Result VbvStreamReport VbvVerifyError
if_placed n places answer = pick (leb n places) answer (Err RecordPlaces)

unfoldable pub judgement : VbvParams → ℕ → ℕ → Progress → Result VbvStreamReport VbvVerifyError
judgement p places n Fresh = Err NoPictures
judgement p places n (Unmodelled e) = Err e
judgement p places n (Running m r least greatest) =
    if_placed n places
    (Ok record {
      bit_rate = p.bit_rate;
      buffer_size_bits = p.buffer_size_bits;
      pictures = n;
      min_occupancy_after_bits = least;
      max_occupancy_before_bits = greatest;
    })
judgement p places n (Stopped e) = if_placed n places (Err e)

-- the answer, and what the first headers declare
unfoldable pub checked : VbvMode → List ℕ → Answer VbvStreamReport → Answer (VbvStreamReport × VbvBeginning)
checked m s a = and_then a (λ r. and_then (beginning m s) (λ b. value (r, b)))

-- ---- the records one by one

unfoldable pub last_of : Progress → Option VbvPictureRecord
last_of Fresh = None
last_of (Unmodelled e) = None
last_of (Running m r least greatest) = Some r
last_of (Stopped e) = None

-- after the picture that is seen, and its record
unfoldable pub recorded_by : VbvRecorder → Sight → VbvRecorder × Option VbvPictureRecord
recorded_by w nothing = (w, None)
recorded_by w (one x next) = (went_on w x next, last_of (went_on w x next).progress)

unfoldable pub next_record : List ℕ → VbvRecorder → VbvRecorder × Option VbvPictureRecord
next_record s w = or_else (w, None) (and_then (next_seen w.mode.standard s w.at) (λ g. value (recorded_by w g)))
