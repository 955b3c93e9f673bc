use borrow.Author.Rules.{rules}
use Rattle.layout.proofs.Reading.{few_bits, way_short, way_wide, way_unfit, way_held}
use Rattle.layout.proofs.state.read_state.Goals as goal
use Rattle.layout.proofs.state.read_state.Goals.{then-place-lt-STATE_BYTES-via-then-place-lt-STATE_BYTES, then-place-lt-STATE_BYTES-via-else-place-lt-STATE_BYTES+then-not-narrow}

pub returns-then-place-lt-STATE_BYTES : goal.returns-then-place-lt-STATE_BYTES
returns-then-place-lt-STATE_BYTES c =
    elim c.then-place-lt-STATE_BYTES.branch [
      | then-place-lt-STATE_BYTES-via-then-place-lt-STATE_BYTES w ↦ search (rules, way_short)
      | then-place-lt-STATE_BYTES-via-else-place-lt-STATE_BYTES+then-not-narrow w ↦ search (rules, way_wide)
    ]

pub writer_at-writer-requires : goal.writer_at-writer-requires
writer_at-writer-requires c = search (rules, few_bits)

pub returns-then-fits : goal.returns-then-fits
returns-then-fits c = search (rules, way_held)

pub returns-else-fits : goal.returns-else-fits
returns-else-fits c = search (rules, way_unfit)
