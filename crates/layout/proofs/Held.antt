-- What a place was read as.
-- Assumes nothing.
use mathlib.Core.Path.{◌≡◌, refl, ◌∙◌}
use mathlib.Core.Bool.{Bool, true, false}
use mathlib.Core.List.{List}
use Prim.Native.Nat.{ℕ}
use Rattle.std.specs.Prelude.{Option, Some, None}
use Rattle.bits.specs.Bits.{pick}
use Rattle.rate_control.specs.declared.CbrWriter.{CbrWriter}
use Rattle.layout.specs.State.{state_fits, writer_at, state_at}

module _ (s : List ℕ) (x : Option CbrWriter) (e : x ≡ state_at s) where
  fitting : state_fits s ≡ true → x ≡ Some (writer_at s)
  unfolding state_at pick
  fitting f = e ∙ rw f

  unfitting : state_fits s ≡ false → x ≡ None
  unfolding state_at pick
  unfitting f = e ∙ rw f

  pub holds : {w : CbrWriter} → x ≡ Some w → (state_fits s ≡ true) × (w ≡ writer_at s)
  holds {w} h = go (state_fits s) refl
    where
      go : (t : Bool) → state_fits s ≡ t → (state_fits s ≡ true) × (w ≡ writer_at s)
      go true f = let g = fitting f in (f, cc)
      go false f = let g = unfitting f in absurd (cc)

  pub holds_none : x ≡ None → state_fits s ≡ false
  holds_none h = go (state_fits s) refl
    where
      go : (t : Bool) → state_fits s ≡ t → state_fits s ≡ false
      go true f = let g = fitting f in absurd (cc)
      go false f = f
