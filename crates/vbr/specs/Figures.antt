-- Figures of the variable model (paper 02, request 06): R = 1,000,000, B = 327,680, 25/1. One joint statement about the definitions. Assumes nothing.
use Rattle.std.specs.Prelude.{◌≡◌, ℕ}
use Rattle.bits.specs.Refusals.{Answer, value, refused, and_then, number}
use Rattle.vbv.specs.Figures.{at25}
use Rattle.vbv.specs.Model.{new_model}
use Rattle.vbv.specs.declared.RemovalInterval.{RemovalInterval}
use Rattle.vbv.specs.declared.RemovalInterval.TheVariants.{Frame, Field}
use Rattle.vbv.specs.declared.VbvCbrModel.{VbvCbrModel}
use Rattle.vbr.specs.Variable.{new_variable, start_variable, remove_variable, occupancy_variable}

abbrev pub filled : Answer VbvCbrModel
filled = and_then (new_variable (at25 1000000 327680)) (λ m. start_variable m)

abbrev pub and_take : ℕ → RemovalInterval → Answer VbvCbrModel → Answer VbvCbrModel
and_take end i a = and_then a (λ m. remove_variable m end i)

abbrev pub and_held : Answer VbvCbrModel → Answer ℕ
and_held a = and_then a (λ m. occupancy_variable m)

-- pictures of 80,344, 976, 976 and 976 bits: two frames and two fields
pub record VariableFigures : Type 0 where
  pub full_at_first : and_held filled ≡ value 327680
  pub gains_a_frame : and_held (and_take 80344 Frame filled) ≡ value 287336
  pub gains_another : and_held (and_take 81320 Frame (and_take 80344 Frame filled)) ≡ value 326360
  pub stays_at_B : and_held (and_take 82296 Field (and_take 81320 Frame (and_take 80344 Frame filled))) ≡ value 327680
  pub fourth : number (and_take 83272 Field (and_take 82296 Field (and_take 81320 Frame (and_take 80344 Frame filled)))) ≡ 0
  -- a first picture of exactly B bits passes and leaves 0; by the next removal a frame brings 40,000. A byte more is 10 of picture 0
  pub all_of_B : and_held (and_take 327680 Frame filled) ≡ value 40000
  pub a_byte_more : and_take 327688 Frame filled ≡ refused 10 0 0 0
  -- the ratio is not asked: a full buffer's delay would be 65,829
  pub any_ratio : number (new_variable (at25 22400 16384)) ≡ 0
  pub constant_ratio : number (new_model (at25 22400 16384)) ≡ 12
  pub no_buffer : number (new_variable (at25 22400 0)) ≡ 12
