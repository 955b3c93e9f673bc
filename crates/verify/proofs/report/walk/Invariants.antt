use Rattle.std.proofs.Common.{◌-◌, length}
use Rattle.verify.specs.Steps.{recorder_of}
use Rattle.verify.proofs.Walking.{Walking}
use Rattle.verify.proofs.report.walk.Given as goal

abbrev pub invariant-loop-pictures : goal.invariant-loop-pictures
invariant-loop-pictures l = Walking l.fn.mode l.stream (recorder_of l.fn.mode l.fn.beginning) l.recorder l.pictures

abbrev pub decreases-loop-pictures : goal.decreases-loop-pictures
decreases-loop-pictures l = length l.stream - l.recorder.at
