-- What a writer keeps for each kind, and the writer after an offer, as the code goes.
-- Assumes nothing.
use Rattle.std.specs.Prelude.{None, Ok}
use mathlib.Core.Path.{◌≡◌}
use mathlib.Core.Bool.{Bool}
use Prim.Native.Nat.{ℕ, ◌+◌, ◌*◌, ◌≤◌}
use lib.ListN.{get_or, set}
use Rattle.layers.specs.declared.PictureKind.{PictureKind}
use Rattle.cadence.specs.declared.VbvCadence.{VbvCadence}
use Rattle.rate_control.specs.Writer.{index, of, asked, steered}
use Rattle.rate_control.specs.Steps.{placed_by}
use Rattle.rate_control.specs.declared.CbrWriter.{CbrWriter}
use Rattle.rate_control.specs.declared.CbrGiven.TheVariants.{Placed}
use Rattle.rate_control.specs.declared.CbrOffered.{CbrOffered}
use Rattle.rate_control.specs.declared.Placement.{Placement}

-- placed
pub placed_told : (w : CbrWriter) (k : PictureKind) (layer : ℕ) (last : Bool) (p : Placement) (c : VbvCadence) (q i s : ℕ)
    → q ≡ asked w k → i ≡ index k → s ≡ steered q (get_or w.target_bits i 0) (8 * layer)
    → ◌≡◌ {A = CbrOffered}
    (record {
      answer = Ok (Placed q p.vbv_delay p.bytes p.stuffing_bytes);
      writer =
          record {
            model = p.model;
            target_bits = w.target_bits;
            q = set w.q i s;
            pending = None;
            stuffing_bytes = w.stuffing_bytes + p.stuffing_bytes;
            finished = last;
            cadence = c;
            variable = w.variable;
          };
    })
    (placed_by w k layer last p c)
unfolding placed_by of
placed_told w k layer last p c q i s e f g = rw (g, f, e)

pub target-of : (w : CbrWriter) (k : PictureKind) (i n : ℕ) → i ≡ index k → of k w.target_bits ≤ n → get_or w.target_bits i 0 ≤ n
unfolding of
target-of w k i n e h = rw e h
