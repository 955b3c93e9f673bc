use native.Mathlib.Omega.{arith}
use Rattle.layout.specs.Config.{config_in}
use Rattle.layout.specs.Steps.{narrowed}
use Rattle.layout.proofs.Narrowing.{small}
use Rattle.layout.proofs.config.config_at.Goals as goal

pub overflow_cast-result : goal.overflow_cast-result
overflow_cast-result c = omega (arith, c.or_outside.ensures, small 262143 0 c.word_at-2.result 4294967296 (omega arith) (omega arith))

pub overflow_cast-result-2 : goal.overflow_cast-result-2
overflow_cast-result-2 c = omega (arith, c.or_outside-2.ensures, small 1023 0 c.word_at-3.result 65536 (omega arith) (omega arith))

pub overflow_cast-result-3 : goal.overflow_cast-result-3
overflow_cast-result-3 c = omega (arith, c.or_outside-3.ensures, small 8 0 c.word_at-4.result 256 (omega arith) (omega arith))

pub overflow_cast-result-4 : goal.overflow_cast-result-4
overflow_cast-result-4 c = omega (arith, c.or_outside-4.ensures, small 3 4 c.word_at-5.result 256 (omega arith) (omega arith))

pub overflow_cast-result-5 : goal.overflow_cast-result-5
overflow_cast-result-5 c = omega (arith, c.or_outside-5.ensures, small 31 32 c.word_at-6.result 256 (omega arith) (omega arith))

pub overflow_cast-result-6 : goal.overflow_cast-result-6
overflow_cast-result-6 c = omega (arith, c.or_outside-6.ensures, small 31 0 c.word_at-7.result 256 (omega arith) (omega arith))

pub overflow_cast-result-7 : goal.overflow_cast-result-7
overflow_cast-result-7 c = omega (arith, c.or_outside-7.ensures, small 15 16 c.word_at-8.result 256 (omega arith) (omega arith))

pub overflow_cast-result-8 : goal.overflow_cast-result-8
overflow_cast-result-8 c = omega (arith, c.or_outside-8.ensures, small 255 0 c.word_at-9.result 256 (omega arith) (omega arith))

pub returns : goal.returns
unfolding narrowed config_in
returns c =
    rw (
      c.mode_for.ensures,
      c.word_at.ensures,
      c.or_outside.ensures,
      c.word_at-2.ensures,
      c.or_outside-2.ensures,
      c.word_at-3.ensures,
      c.or_outside-3.ensures,
      c.word_at-4.ensures,
      c.or_outside-4.ensures,
      c.word_at-5.ensures,
      c.or_outside-5.ensures,
      c.word_at-6.ensures,
      c.or_outside-6.ensures,
      c.word_at-7.ensures,
      c.or_outside-7.ensures,
      c.word_at-8.ensures,
      c.or_outside-8.ensures,
      c.word_at-9.ensures,
    )
