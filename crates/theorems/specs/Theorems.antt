-- Every theorem that is owed, in one record. The promises of the public functions stand beside their code in src/; these say what the definitions in them come to.
-- Assumes nothing.
use Rattle.headers.specs.RoundTrips.{WrittenReads, ReadWrites, ExtensionWrittenReads, ExtensionReadWrites, PlainWrittenReads, SequenceHeaderStays, ExtensionStays, SequenceHeaderCut, ExtensionCut, SequenceStays}
use Rattle.headers.specs.Numbers.{HeaderNumbers}
use Rattle.picture_header.specs.Stability.{PictureHeaderStays, CodingStays, PictureHeaderCut, CodingCut, PictureStays}
use Rattle.picture_header.specs.Numbers.{PictureNumbers}
use Rattle.writers.specs.RoundTrips.{GroupWrittenReads, TimeCodeWrites}
use Rattle.vbv.specs.Fractions.{FractionsOwed as InFractions}
use Rattle.vbv.specs.Numbers.{ModelNumbers, ModelStays}
use Rattle.vbv.specs.Rates.{RatesOwed}
use Rattle.vbv.specs.Arrival.{ArrivalOwed}
use Rattle.vbr.specs.Numbers.{VariableNumbers, VariableStays}
use Rattle.vbr.specs.Figures.{VariableFigures}
use Rattle.scan.specs.Scanned.{OwedOfScans}
use Rattle.scan.specs.Order.{WalkGivesPictures, PicturesInOrder}
use Rattle.verify.specs.Accepted.{AcceptedExactly, NothingCut}
use Rattle.verify.specs.Due.{CheckDue}
use Rattle.verify.specs.Numbers.{CheckNumbers}
use Rattle.pictures.specs.Order.{StepsGivePictures, SeenRising}
use Rattle.pictures.specs.Due.{SequenceDeclares, SequenceOpens, PictureShows, FrontIsDue}
use Rattle.pictures.specs.Numbers.{FrontNumbers}
use Rattle.cadence.specs.Table.{Periods, Leaves, Worked}
use Rattle.cadence.specs.History.{ByHistory}
use Rattle.cadence.specs.Plain.{OutsideFilm, WithoutFlag}
use Rattle.verify.specs.Periods.{PeriodsTold}
use Rattle.verify.specs.Plain.{PlainMode}
use Rattle.verify.specs.Variable.{VariableRate}
use Rattle.verify.specs.Rates.{ValueReports}
use Rattle.verify.specs.Sizes.{RecordsSmall}
use Rattle.layers.specs.Headers.{HeadersDeclare}
use Rattle.layers.specs.Layer.{LayerTells}
use Rattle.rate_control.specs.Demand.{Demand3}
use Rattle.rate_control.specs.Plain.{PlainWriter}
use Rattle.layout.specs.Mode.{ModesNumbered}
use Rattle.rate_control.specs.Numbers.{WriterNumbers}
use Rattle.rate_control.specs.Figures.{WriterFigures, TargetFigures, ValueTargets, Rules, Steering}
use Rattle.hipokuta.specs.Calls.{OwedFromC, ConfigRead, OwedFromConfig, OwedOfRefusals}
use Rattle.hipokuta.specs.Check.{OwedOfReports, OwedOfModes}
use Rattle.hipokuta.specs.Numbers.{EntryNumbers}

pub record Theorems : Type 0 where
  -- ---- headers
  -- A written sequence header parses to the fields given, whatever stands after it.
  pub sequence_written_reads : WrittenReads
  -- A parsed sequence header with constrained flag 0 writes back to its own bytes.
  pub sequence_read_writes : ReadWrites
  -- A written sequence extension parses to the fields given.
  pub extension_written_reads : ExtensionWrittenReads
  -- What `write_sequence_extension` writes is read back.
  pub plain_written_reads : PlainWrittenReads
  -- A parsed sequence extension writes back to its own bytes.
  pub extension_read_writes : ExtensionReadWrites
  -- A written group header reads as the values given, and the time code of a display index is never refused by its writer.
  pub group_written_reads : GroupWrittenReads
  pub time_code_writes : TimeCodeWrites
  -- What is answered to a header stays the same when bytes follow, but where they ended in it (1); and what is too short with more after it is too short without.
  pub sequence_header_stays : SequenceHeaderStays
  pub extension_stays : ExtensionStays
  pub picture_header_stays : PictureHeaderStays
  pub coding_stays : CodingStays
  pub sequence_header_cut : SequenceHeaderCut
  pub extension_cut : ExtensionCut
  pub picture_header_cut : PictureHeaderCut
  pub coding_cut : CodingCut
  -- A header with the extension after it that parses, parses the same when bytes follow.
  pub sequence_stays : SequenceStays
  pub picture_stays : PictureStays
  -- Headers are refused with 1 and 2, writing with 16 and 19.
  pub header_numbers : HeaderNumbers
  pub picture_numbers : PictureNumbers
  -- ---- the model
  -- What is counted in parts of a bit is what Annex C has in fractions: bits delivered, what a period brings, overflow and underflow; the occupancy is rounded down, the
  -- expected delay to the nearest tick, halves up; the least end is the least that does not overflow, the greatest the last that is already delivered.
  pub in_fractions : InFractions
  -- The model refuses with 12, 13, 14, 7 and 8 by number alone, and with 9 and 10 by number and picture; a frame rate with 12 and 6, the patch with 20.
  pub model_numbers : ModelNumbers
  -- The lookup of a frame rate is answered as it is due, with figures; and only its value counts: with the same R, B and value all that Annex C tells is the same, whatever units it is counted in.
  pub rates : RatesOwed
  -- A model that `new`, starts and removals left is in its ranges.
  pub model_stays : ModelStays
  -- At a variable rate (request 06) the buffer is full at the first removal, gains R times the period after each, and stays at B once full; no delay tells a time, and 12 does not ask the ratio.
  pub arrives : ArrivalOwed
  -- The variable model refuses with 12, 13 and 14 by number alone, and with 10 by number and picture; what `new` and calls left is in its ranges.
  pub variable_numbers : VariableNumbers
  pub variable_stays : VariableStays
  -- ---- the start codes of a stream
  -- The scan by places goes on as request 03 says and finds the stream's codes; over n bytes all above 01 it looks at n / 3 places at most.
  pub scans : OwedOfScans
  -- ---- the pictures of a stream
  -- A walk from picture to picture finds the pictures of the stream, in order, and no others.
  pub walk_gives_pictures : WalkGivesPictures
  -- They lie one after another, within the stream.
  pub pictures_in_order : PicturesInOrder
  -- Step by step their headers show the same as all at once, up to the first that is refused.
  pub steps_give_pictures : StepsGivePictures
  -- As the headers show them they lie one after another within 2^48 bits, each with a delay of 16 bits.
  pub seen_rising : SeenRising
  -- A sequence header declares R, B and the frame rate of its fields, of MPEG-2 with the extensions n and d.
  pub sequence_declares : SequenceDeclares
  -- It opens the cadence of its flags (request 05), of a stream the first; and a picture's headers show its type, structure and flags, field by field.
  pub sequence_opens : SequenceOpens
  pub picture_shows : PictureShows
  -- What every report asks first is answered as it is due: 14, 3, 1 or 2, 6, every picture header, 4, or what the headers show.
  pub front_is_due : FrontIsDue
  pub front_numbers : FrontNumbers
  -- ---- how long a picture lasts (request 05)
  -- Film mode row by row, and what each picture leaves; worked lists; by the pictures before, with no state.
  pub film_periods : Periods
  pub film_leaves : Leaves
  pub film_worked : Worked
  pub film_by_history : ByHistory
  -- Outside film a field lasts 1 and a frame 2; and so it is in film mode where no picture has the flag.
  pub outside_film : OutsideFilm
  pub without_flag : WithoutFlag
  -- ---- the check
  -- A stream is accepted, with these records, exactly when it passes the tests before the run and at every removal the buffer holds at most B bits, all bits of the picture among them, and at a
  -- constant rate the start code has come and the coded delay is within one tick of the expected, which is at most 65,534.
  pub accepted_exactly : AcceptedExactly
  -- The verdict is the one that is due: accepted, or refused by the first test that fails, with that picture's number, coded and expected delay.
  pub check_due : CheckDue
  -- In the records of an accepted stream no difference is cut off at 0.
  pub nothing_cut : NothingCut
  -- A refusal is one of the papers' numbers, at a variable rate of 7 to 11 only 10; 9 to 11 alone carry picture, coded and expected.
  pub check_numbers : CheckNumbers
  -- A record tells the field periods up to the next removal: outside film 1 for a field picture, 2 for a frame, so 2 throughout MPEG-1; in film mode what the pictures before tell.
  pub periods_told : PeriodsTold
  -- In a record the delays have 16 bits, the data bits are at most 2^48, the occupancy is at most the largest buffer and the periods are 1 to 6.
  pub records_small : RecordsSmall
  -- Of a frame rate only the value counts (request 02): streams that show the same pictures, R, B and value, in film mode also the same progressive_sequence and low_delay, get the same report, records or refusal.
  pub value_reports : ValueReports
  -- Plain mode is as before (request 05); and where no picture has repeat_first_field film is plain.
  pub plain_mode : PlainMode
  -- At a variable rate every coded and expected delay is 65,535, in records and in 10, and every accepted stream sees a full buffer (request 06).
  pub variable_rate : VariableRate
  -- ---- the writer
  -- The first headers declare a writer's parameters exactly when they show its R, its B and a frame rate of its value, by whatever code, n and d.
  pub headers_declare : HeadersDeclare
  -- A layer that fits tells what its offer says; only a film writer takes repeat_first_field 1, just where all else fits, and otherwise both take the same.
  pub layer_tells : LayerTells
  -- A plain writer is as before: a picture lasts as its offer says, and no cadence is kept.
  pub plain_writer : PlainWriter
  -- Demand 3, of a film writer with the film check and of a plain one with the plain check, of a variable writer with the variable check: of every creation, and of every list of offers and withdrawals on a writer that was created.
  pub demand_3 : Demand3
  -- A writer's calls are refused with paper 01's numbers, whatever its state; an offer's 9 names its picture; a variable writer never says 7, 9 or 22.
  pub writer_numbers : WriterNumbers
  -- Demand 3 of lists of calls from C on the bytes of a state.
  pub from_c : OwedFromC
  -- A creation by a configuration's bytes is the creation with the fields whose words they are; and lists of calls on what it left.
  pub config_read : ConfigRead
  pub from_config : OwedFromConfig
  -- From C a refusal leaves state and output part as they were, but that 21 closes the pending picture.
  pub refusals : OwedOfRefusals
  -- The modes and their numbers; 1, 2, 6, 10 and 14 in the check, and no other.
  pub modes_numbered : ModesNumbered
  pub modes : OwedOfModes
  -- The report alone is that of the check with a record place for each picture, and its count says how many that are.
  pub reports : OwedOfReports
  -- What an entry returns is 0 for an answer that is no refusal, or one of paper 01's numbers for that entry.
  pub entry_numbers : EntryNumbers
  -- ---- figures
  -- The figures of paper 01 that are marked P.
  pub writer_figures : WriterFigures
  -- The figures of a variable rate (request 06).
  pub variable_figures : VariableFigures
  -- The target of each kind; targets at 50/2; and where a picture's bits are no whole number.
  pub target_figures : TargetFigures
  -- Of a frame rate only the value counts (request 02): the same targets and first delay.
  pub value_targets : ValueTargets
  -- The first delay for every rate and buffer; further steps of a retry.
  pub rules : Rules
  -- The edges of the rule by which a quantiser goes up, stays or goes down.
  pub steering : Steering
