-- Lists of calls in parts, for those who hold a writer between calls.
-- Assumes nothing.
use mathlib.Core.Path.{◌≡◌, refl, ap}
use mathlib.Core.List.{List, [], ◌∷◌, ◌++◌}
use Rattle.bits.specs.Refusals.{or_else, number}
use Rattle.rate_control.specs.Offer.{Offer, offer, left, out_after, withdraw}
use Rattle.rate_control.specs.Calls.{Call, offering, withdrawing, Step, offered, withdrawn, step_of, left_by_call, steps_of, final}
use Rattle.rate_control.specs.declared.CbrWriter.{CbrWriter}

pub steps_none : (w : CbrWriter) → steps_of w [] ≡ []
unfolding steps_of
steps_none w = refl

pub steps_one : (w : CbrWriter) (c : Call) → steps_of w (c ∷ []) ≡ step_of w c ∷ []
unfolding steps_of
steps_one w c = refl

pub steps_append : (w : CbrWriter) (l m : List Call) → steps_of w (l ++ m) ≡ steps_of w l ++ steps_of (final w l) m
unfolding steps_of final
steps_append w [] m = refl
steps_append w (c ∷ l) m = ap (λ (r : List Step). step_of w c ∷ r) (steps_append (left_by_call w c) l m)

pub final-none : (w : CbrWriter) → final w [] ≡ w
unfolding final
final-none w = refl

pub final-one : (w : CbrWriter) (c : Call) → final w (c ∷ []) ≡ left_by_call w c
unfolding final
final-one w c = refl

pub final-append : (w : CbrWriter) (l m : List Call) → final w (l ++ m) ≡ final (final w l) m
unfolding final
final-append w [] m = refl
final-append w (c ∷ l) m = final-append (left_by_call w c) l m

pub left_by-offer : (w : CbrWriter) (o : Offer) → left_by_call w (offering o) ≡ left w o
unfolding left_by_call
left_by-offer w o = refl

pub left_by_withdrawal : (w : CbrWriter) → left_by_call w withdrawing ≡ or_else w (withdraw w)
unfolding left_by_call
left_by_withdrawal w = refl

pub step-offer : (w : CbrWriter) (o : Offer) → step_of w (offering o) ≡ offered o (offer w o) (out_after w o)
unfolding step_of
step-offer w o = refl

pub step_withdrawal : (w : CbrWriter) → step_of w withdrawing ≡ withdrawn (number (withdraw w))
unfolding step_of
step_withdrawal w = refl
