-- The promises of private functions. Assumes nothing.
use Rattle.std.specs.Prelude.{ℕ, ◌≤◌, ◌<◌, ◌≡◌, true}
use Rattle.vbv.specs.Annex.{unit}
use Rattle.vbv.specs.Model.{farthest}
use Rattle.vbv.specs.declared.VbvCbrModel.{VbvCbrModel}
use Rattle.vbr.specs.Variable.{variable_fits}

-- a model that fits and was started
pub record Ready (m : VbvCbrModel) : Type 0 where
  pub fits : variable_fits m ≡ true
  pub is_started : m.started ≡ true

-- the sums fit in 64 bits, and the rest is less than a bit
pub record Cappable (m : VbvCbrModel) (end : ℕ) : Type 0 where
  pub rest_low : m.rest < unit m.params
  pub size_high : m.params.buffer_size_bits ≤ 4294950912
  pub end_far : end ≤ farthest
  pub count : m.removed < farthest
