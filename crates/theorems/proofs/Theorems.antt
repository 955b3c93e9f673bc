-- The theorems hold: each by its law.
-- Assumes nothing.
use Rattle.headers.proofs.SequenceRoundTrip.{sequence_read_back, sequence_write_back}
use Rattle.headers.proofs.SequenceHeader.{sequence_header-append, sequence_header-short_cut}
use Rattle.headers.proofs.SequenceExtension.{extension_read_back, plain_read_back, extension_write_back, extension_append, extension_short_cut}
use Rattle.headers.proofs.Sequence.{sequence-append}
use Rattle.headers.proofs.Numbering.{header_numbers}
use Rattle.picture_header.proofs.PictureHeader.{picture_header-append, picture_header-short}
use Rattle.picture_header.proofs.CodingExtension.{coding_append, coding_short_cut}
use Rattle.picture_header.proofs.Picture.{picture-append}
use Rattle.picture_header.proofs.Numbering.{picture_numbers}
use Rattle.writers.proofs.GopHeader.{group_read_back, time_code-written}
use Rattle.vbv.proofs.Fractions.{fractions}
use Rattle.vbv.proofs.Numbering.{model_numbers, model_stays}
use Rattle.vbv.proofs.Rates.{rates}
use Rattle.vbv.proofs.Arrival.{arrival_owed}
use Rattle.vbr.proofs.Numbers.{variable_numbers, variable_stays}
use Rattle.vbr.proofs.Figures.{variable_figures}
use Rattle.scan.proofs.Scans.{scans_owed}
use Rattle.scan.proofs.Pictures.{walk_gives, in_order}
use Rattle.verify.proofs.Accepted.{accepted_exactly, nothing_cut}
use Rattle.verify.proofs.Due.{check_due}
use Rattle.verify.proofs.Numbering.{check_numbers}
use Rattle.pictures.proofs.Order.{steps_give, seen_rising}
use Rattle.pictures.proofs.Showing.{sequence_declares, picture_shows}
use Rattle.pictures.proofs.Cadences.{sequence_opens}
use Rattle.cadence.proofs.Table.{periods_table, leaves_table, worked}
use Rattle.cadence.proofs.History.{by_history}
use Rattle.cadence.proofs.Plain.{outside_film, without_flag}
use Rattle.pictures.proofs.Due.{front_due}
use Rattle.pictures.proofs.Numbering.{front_numbers}
use Rattle.verify.proofs.Bounds.{records_small}
use Rattle.verify.proofs.Periods.{periods_told}
use Rattle.verify.proofs.Rates.{value_reports}
use Rattle.verify.proofs.AsBefore.{plain_mode}
use Rattle.verify.proofs.Variable.{variable_rate}
use Rattle.layers.proofs.Declaring.{headers_declare}
use Rattle.layers.proofs.Telling.{layer_tells}
use Rattle.rate_control.proofs.Demand.{owed}
use Rattle.rate_control.proofs.Lasting.{plain_writer}
use Rattle.layout.proofs.Modes.{modes_numbered}
use Rattle.rate_control.proofs.Refusing.{writer_numbers}
use Rattle.rate_control.proofs.Figures.{writer_figures, target_figures, value_targets, rules, steering}
use Rattle.hipokuta.proofs.FromC.{from_c, config_read, from_config}
use Rattle.hipokuta.proofs.Refusals.{refusals}
use Rattle.hipokuta.proofs.Places.{reports, modes}
use Rattle.hipokuta.proofs.Numbers.{numbers}
use Rattle.theorems.specs.Theorems.{Theorems}

pub theorems : Theorems
theorems = record {
  sequence_written_reads = sequence_read_back;
  sequence_read_writes = sequence_write_back;
  extension_written_reads = extension_read_back;
  plain_written_reads = plain_read_back;
  extension_read_writes = extension_write_back;
  group_written_reads = group_read_back;
  time_code_writes = time_code-written;
  sequence_header_stays = sequence_header-append;
  extension_stays = extension_append;
  picture_header_stays = picture_header-append;
  coding_stays = coding_append;
  sequence_header_cut = sequence_header-short_cut;
  extension_cut = extension_short_cut;
  picture_header_cut = picture_header-short;
  coding_cut = coding_short_cut;
  sequence_stays = sequence-append;
  picture_stays = picture-append;
  header_numbers = header_numbers;
  picture_numbers = picture_numbers;
  in_fractions = fractions;
  model_numbers = model_numbers;
  rates = rates;
  model_stays = model_stays;
  arrives = arrival_owed;
  variable_numbers = variable_numbers;
  variable_stays = variable_stays;
  scans = scans_owed;
  walk_gives_pictures = walk_gives;
  pictures_in_order = in_order;
  steps_give_pictures = steps_give;
  seen_rising = seen_rising;
  sequence_declares = sequence_declares;
  sequence_opens = sequence_opens;
  picture_shows = picture_shows;
  front_is_due = front_due;
  front_numbers = front_numbers;
  film_periods = periods_table;
  film_leaves = leaves_table;
  film_worked = worked;
  film_by_history = by_history;
  outside_film = outside_film;
  without_flag = without_flag;
  accepted_exactly = accepted_exactly;
  check_due = check_due;
  nothing_cut = nothing_cut;
  check_numbers = check_numbers;
  periods_told = periods_told;
  records_small = records_small;
  value_reports = value_reports;
  plain_mode = plain_mode;
  variable_rate = variable_rate;
  headers_declare = headers_declare;
  layer_tells = layer_tells;
  plain_writer = plain_writer;
  demand_3 = owed;
  writer_numbers = writer_numbers;
  from_c = from_c;
  config_read = config_read;
  from_config = from_config;
  refusals = refusals;
  modes_numbered = modes_numbered;
  modes = modes;
  reports = reports;
  entry_numbers = numbers;
  writer_figures = writer_figures;
  variable_figures = variable_figures;
  target_figures = target_figures;
  value_targets = value_targets;
  rules = rules;
  steering = steering;
}
