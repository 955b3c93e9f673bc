-- At a variable rate no time is told, in records or in 10, and every accepted stream sees a full buffer.
-- Assumes nothing.
use mathlib.Core.Path.{◌≡◌, refl, sym, ap, ◌∙◌}
use mathlib.Core.Bool.{Bool, true, false, true≢false}
use mathlib.Core.List.{List, [], ◌∷◌}
use Prim.Native.Nat.{ℕ, suc, ◌≤◌}
use native.Mathlib.Omega.{arith}
use lib.Dec.{eqb}
use borrow.Author.Tests.{eqb-true, not-false}
use Rattle.bits.specs.Numbers.{one_of, Numbered, a_value, by_number, by_picture, by_all}
use Rattle.bits.specs.Refusals.{Answer, value, refused, and_then, number}
use Rattle.bits.proofs.Flags.{both_true, pick_elim}
use Rattle.bits.proofs.Following.{refused-value}
use Rattle.vbv.specs.Annex.{full, occupancy, arrived}
use Rattle.vbv.specs.Model.{params_in_range, periods}
use Rattle.vbv.specs.declared.VbvParams.{VbvParams}
use Rattle.vbv.proofs.Arrival.{full_is, first_full_lem}
use Rattle.vbv.proofs.Laws.{units_over, units_beyond, occupancy-most_in, occupancy-least_in}
use Rattle.cadence.specs.Cadence.{after}
use Rattle.cadence.specs.declared.VbvCadence.{VbvCadence}
use Rattle.pictures.specs.Cadence.{cadence_of}
use Rattle.pictures.specs.declared.VbvStandard.TheVariants.{Mpeg2}
use Rattle.pictures.specs.declared.SeenPicture.{SeenPicture}
use Rattle.pictures.proofs.Numbering.{front_numbers}
use Rattle.verify.specs.Mode.{mpeg2}
use Rattle.verify.specs.Coded.{timed}
use Rattle.verify.specs.Run.{record_of, taken_out, removal, run, greatest_before}
use Rattle.verify.specs.Check.{Accepted, accepted, modelled, all_variable, with_pictures, verdict_by, verdict, report_of}
use Rattle.verify.specs.Accepted as ac
use Rattle.verify.specs.Accepted.{Conforms, Along, DelaysFit}
use Rattle.verify.specs.Variable.{AllUntimed, none, more, VariableRate}
use Rattle.verify.specs.declared.CodedPicture.{CodedPicture}
use Rattle.verify.specs.declared.VbvPictureRecord.{VbvPictureRecord}
use Rattle.verify.proofs.Accepted.{passed}

-- ---- the records

record_untimed : {p : VbvParams} {previous d : ℕ} {c : CodedPicture} {r : VbvPictureRecord} → Conforms true p previous d c r
    → (r.vbv_delay ≡ c.vbv_delay) × (r.expected_delay ≡ 65535) × (r.occupancy_before_bits ≡ occupancy p previous d)
unfolding record_of
record_untimed w = let e = w.record_is in (rw e, rw e, rw e)

all_untimed : {p : VbvParams} {previous d : ℕ} (k : VbvCadence) (xs : List SeenPicture) {rs : List VbvPictureRecord} → DelaysFit true xs
    → Along true p (Conforms true p) previous d (timed k xs) rs → AllUntimed rs
unfolding timed
all_untimed k [] h ac.none = none
all_untimed {p} k (x ∷ xs) h (ac.more {d = d} {c = c} w t) =
    let a = record_untimed w in more (a.0 ∙ h.0) a.1 (all_untimed {p = p} {previous = c.end_bits} {d = arrived true p c.end_bits d (periods c.interval)} (after k x.facts) xs h.1 t)

-- ---- 10

-- a 10, if any, tells no time
abbrev Untold : {X : Type 0} → Answer X → Type 0
Untold a = (n c e : ℕ) → a ≡ refused 10 n c e → (c ≡ 65535) × (e ≡ 65535)

untold_value : {X : Type 0} {x : X} → Untold (value x)
untold_value n c e h = absurd (refused-value (sym h))

untold_other : {X : Type 0} {m k i j : ℕ} → (m ≡ 10 → ⊥) → Untold {X = X} (refused m k i j)
untold_other z n c e h = absurd (z (ap number h))

untold_then : {X Y : Type 0} (a : Answer X) (next : X → Answer Y) → Untold a → ((x : X) → Untold (next x)) → Untold (and_then a next)
untold_then (value x) next h f = f x
untold_then (refused m k i j) next h f = λ n c e z. h n c e cc

-- no 10 among its numbers
untold_numbers : {X : Type 0} {alone pictured all : List ℕ} {a : Answer X} → one_of alone 10 ≡ false → one_of pictured 10 ≡ false → one_of all 10 ≡ false
    → Numbered alone pictured all a → Untold a
untold_numbers f g h a_value = untold_value
untold_numbers f g h (by_number z) = untold_other (λ e. true≢false (sym z ∙ rw e f))
untold_numbers f g h (by_picture z) = untold_other (λ e. true≢false (sym z ∙ rw e g))
untold_numbers f g h (by_all z) = untold_other (λ e. true≢false (sym z ∙ rw e h))

taken_untold : (p : VbvParams) (n previous d : ℕ) (c : CodedPicture) → c.vbv_delay ≡ 0xFFFF → Untold (removal true p n previous d c)
unfolding removal taken_out
taken_untold p n previous d c h = pick_elim Untold _ (λ e m i j z. let a : c.vbv_delay ≡ i = cc in (sym a ∙ h, cc)) λ e. untold_value

run_untold : (p : VbvParams) (n previous d : ℕ) (cs : List CodedPicture) → all_variable cs ≡ true → Untold (run true p n previous d cs)
unfolding run all_variable
run_untold p n previous d [] h = untold_value
run_untold p n previous d (c ∷ cs) h =
    let a = both_true (eqb c.vbv_delay 0xFFFF) (all_variable cs) h in
    untold_then _ _ (taken_untold p n previous d c (eqb-true _ _ a.0)) λ r.
    untold_then _ _ (run_untold p (suc n) c.end_bits _ cs a.1) λ rs.
    untold_value

accepted_untold : (p : VbvParams) (rs : List VbvPictureRecord) → Untold (accepted p rs)
accepted_untold p [] = untold_other (λ z. omega arith)
accepted_untold p (r ∷ rs) = untold_value

pictures_untold : (places : ℕ) (p : VbvParams) (x : SeenPicture) (cs : List CodedPicture) → Untold (with_pictures true places p x cs)
unfolding with_pictures modelled
pictures_untold places p x cs =
    pick_elim Untold _ (λ e. untold_other (λ z. omega arith)) λ h.
    pick_elim Untold _ (λ e. untold_other (λ z. omega arith)) λ e.
    pick_elim Untold _ (λ e. untold_other (λ z. omega arith)) λ e.
    untold_then _ (accepted p) (run_untold p 0 0 _ cs (not-false _ h)) (accepted_untold p)

verdict_untold : (film : Bool) (s : List ℕ) (places : ℕ) → Untold (verdict (mpeg2 film true) s places)
unfolding verdict verdict_by
verdict_untold film s places =
    pick_elim Untold _ (λ e. untold_other (λ z. omega arith)) λ e.
    untold_then _ _ (untold_numbers refl refl refl (front_numbers.front_has Mpeg2 s)) λ f.
    pictures_untold places f.params f.first (timed (cadence_of film s) (f.first ∷ f.others))

-- ---- a full buffer

module _ (p : VbvParams) (f : params_in_range p ≡ true) where
  first-occupancy : occupancy p 0 (full p 0) ≡ p.buffer_size_bits
  first-occupancy =
      omega (arith, occupancy-most_in p f 0 (full p 0) (first_full_lem p), occupancy-least_in p f 0 p.buffer_size_bits (full p 0) (units_beyond p p.buffer_size_bits (full p 0) (omega (arith, full_is p 0))))

  none_more : {previous d : ℕ} {cs : List CodedPicture} {rs : List VbvPictureRecord} → Along true p (Conforms true p) previous d cs rs → greatest_before rs ≤ p.buffer_size_bits
  unfolding greatest_before
  none_more ac.none = omega arith
  none_more (ac.more {previous = previous} {d = d} w t) =
      omega (arith, (record_untimed w).2, occupancy-most_in p f previous d (units_over p previous d w.no_overflow), none_more t)

  greatest-full : {c : CodedPicture} {cs : List CodedPicture} {rs : List VbvPictureRecord} → Along true p (Conforms true p) 0 (full p 0) (c ∷ cs) rs → greatest_before rs ≡ p.buffer_size_bits
  unfolding greatest_before
  greatest-full (ac.more w t) = omega (arith, (record_untimed w).2, first-occupancy, none_more t)

seen_full : (film : Bool) (s : List ℕ) (places : ℕ) (a : Accepted) → verdict (mpeg2 film true) s places ≡ value a
    → (report_of a).max_occupancy_before_bits ≡ a.params.buffer_size_bits
unfolding timed
seen_full film s places a h = let w = passed (mpeg2 film true) s places h in greatest-full a.params w.params_fit w.removals

pub variable_rate : VariableRate
variable_rate = record {
  untimed = λ film s places a h. let w = passed (mpeg2 film true) s places h in all_untimed (cadence_of film s) (w.first ∷ w.others) w.delays_fit w.removals;
  starved = λ film s places n c e h. verdict_untold film s places n c e h;
  seen_full = seen_full;
}
