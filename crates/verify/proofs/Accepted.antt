-- The check accepts exactly the streams that pass, and no difference in their records is cut off.
-- Assumes nothing.
use mathlib.Core.Path.{◌≡◌, refl, sym, ◌∙◌}
use mathlib.Core.Bool.{Bool, true, false}
use mathlib.Core.List.{List, [], ◌∷◌}
use Prim.Native.Nat.{ℕ, suc, ◌*◌, ◌≤◌}
use native.Mathlib.Omega.{arith}
use native.Mathlib.Nat.{mul-le-mul_right}
use lib.ListN.{length}
use borrow.Author.Tests.{ltb-false, le-ltb}
use Rattle.bits.specs.Bits.{pick}
use Rattle.bits.specs.Refusals.{Answer, value, refused, and_then}
use Rattle.vbv.specs.Annex.{unit, first_arrived, arrived}
use Rattle.vbv.specs.Model.{params_in_range, params_fit_at, periods}
use Rattle.vbv.specs.declared.VbvParams.{VbvParams}
use Rattle.bits.proofs.Flags.{was_no, was_held}
use Rattle.bits.proofs.Following.{refused-value, same_value, then_value}
use Rattle.vbv.proofs.Laws.{units_beyond, occupancy-least_in}
use Rattle.vbv.proofs.Fitting.{fit_in_at}
use Rattle.pictures.specs.Front.{Front, front}
use Rattle.pictures.specs.Cadence.{cadence_of}
use Rattle.cadence.specs.declared.VbvCadence.{VbvCadence}
use Rattle.pictures.specs.Due as fr
use Rattle.pictures.specs.Due.{Read, FrontDue}
use Rattle.pictures.specs.Order.{Placed}
use Rattle.pictures.specs.declared.VbvStandard.{VbvStandard}
use Rattle.pictures.specs.declared.SeenPicture.{SeenPicture}
use Rattle.pictures.proofs.Due.{front_due, front_read}
use Rattle.pictures.proofs.Order.{seen_rising}
use Rattle.verify.specs.declared.CodedPicture.{CodedPicture}
use Rattle.verify.specs.declared.VbvPictureRecord.{VbvPictureRecord}
use Rattle.verify.specs.Mode.{mode_fits}
use Rattle.verify.specs.Coded.{timed}
use Rattle.verify.specs.declared.VbvMode.{VbvMode}
use Rattle.verify.specs.Run.{record_of, removal, run}
use Rattle.verify.specs.Check.{Accepted, accepted, modelled, with_pictures, verdict_by, verdict}
use Rattle.verify.specs.Accepted.{Conforms, Along, none, more, DelaysFit, Passes, AcceptedExactly, Uncut, NothingCut}
use Rattle.verify.proofs.Rising.{Rising, last, next, timed_rising, timed-length}
use Rattle.verify.proofs.Delays.{pictures_are, fit_delays, delays_fit}
use Rattle.verify.proofs.Conforming.{Bounded, first_bounded, next_bounded, conforms, conforming}
use Rattle.verify.proofs.Modes.{mode_exists, existing, verdict_in, verdict-none}

-- ---- a run, both ways

pub run_along : (v : Bool) (p : VbvParams) (n previous d : ℕ) (cs : List CodedPicture) (rs : List VbvPictureRecord) → Bounded v p previous d → run v p n previous d cs ≡ value rs
    → Along v p (Conforms v p) previous d cs rs
unfolding run
run_along v p n previous d [] rs b h = let e : [] ≡ rs = cc in rw (← e) none
run_along v p n previous d (c ∷ cs) rs b h =
    let (r, f, g) = then_value (removal v p n previous d c) h in
    let (us, k, l) = then_value (run v p (suc n) c.end_bits (arrived v p c.end_bits d (periods c.interval)) cs) g in
    let ih = run_along v p (suc n) c.end_bits _ cs us (next_bounded v p c.end_bits d (periods c.interval)) k in
    rw (← same_value l) (more (conforms v p n previous d c r b f) ih)

pub along_run : {v : Bool} {p : VbvParams} {previous d : ℕ} {cs : List CodedPicture} {rs : List VbvPictureRecord} (n : ℕ) → Along v p (Conforms v p) previous d cs rs
    → run v p n previous d cs ≡ value rs
unfolding run
along_run n none = refl
along_run n (more h t) = rw (conforming n h, along_run (suc n) t)

-- ---- a stream that passes, by a cadence before its first picture

pub record PassesBy (standard : VbvStandard) (variable : Bool) (k : VbvCadence) (s : List ℕ) (places : ℕ) (p : VbvParams) (rs : List VbvPictureRecord) : Type 0 where
  pub first : SeenPicture
  pub others : List SeenPicture
  pub is_read : Read standard s p first others
  pub delays_fit : DelaysFit variable (first ∷ others)
  pub params_fit : params_fit_at variable p ≡ true
  pub places_suffice : length (first ∷ others) ≤ places
  pub removals : Along variable p (Conforms variable p) 0 (first_arrived variable p first.pos_bits first.vbv_delay) (timed k (first ∷ others)) rs

module _ {standard : VbvStandard} {v : Bool} {k : VbvCadence} {s : List ℕ} {places : ℕ} {p : VbvParams} {r : VbvPictureRecord} {rs : List VbvPictureRecord}
    (a : PassesBy standard v k s places p (r ∷ rs)) where
  pub judged_is : with_pictures v places p a.first (timed k (a.first ∷ a.others)) ≡ value (record { params = p; first = r; others = rs })
  unfolding modelled pick
  judged_is =
      let l : length (timed k (a.first ∷ a.others)) ≤ places = omega (arith, timed-length k (a.first ∷ a.others), a.places_suffice) in
      rw (
        pictures_are v places p a.first (timed k (a.first ∷ a.others)),
        fit_delays k a.first a.others v a.delays_fit,
        a.params_fit,
        le-ltb places (length (timed k (a.first ∷ a.others))) l,
        along_run 0 a.removals,
      )

  passing_by : verdict_by standard v k s places ≡ value (record { params = p; first = r; others = rs })
  unfolding verdict_by
  passing_by = rw (front_read a.is_read) judged_is

-- ---- and back

was_ran : {p : VbvParams} {v : Accepted} (o : Answer (List VbvPictureRecord)) → and_then o (accepted p) ≡ value v
    → (p ≡ v.params) × (o ≡ value (v.first ∷ v.others))
was_ran (refused n k x y) h = absurd (refused-value h)
was_ran (value []) h = absurd (refused-value h)
was_ran {p} {v} (value (r ∷ rs)) h = let e : record { params = p; first = r; others = rs } ≡ v = cc in (rw (← e), rw (← e))

module _ (standard : VbvStandard) (variable : Bool) (k : VbvCadence) (s : List ℕ) (places : ℕ) {v : Accepted} where
  by_pictures : {q : VbvParams} {x : SeenPicture} {xs : List SeenPicture} → Read standard s q x xs
      → with_pictures variable places q x (timed k (x ∷ xs)) ≡ value v → PassesBy standard variable k s places v.params (v.first ∷ v.others)
  unfolding modelled
  by_pictures {q} {x} {xs} g h =
      let a = was_no _ _ _ refused-value (sym (pictures_are variable places q x (timed k (x ∷ xs))) ∙ h) in
      let b = was_held (params_fit_at variable q) _ _ refused-value a.1 in
      let e = was_no _ _ _ refused-value b.1 in
      let f = was_ran (run variable q 0 0 (first_arrived variable q x.pos_bits x.vbv_delay) (timed k (x ∷ xs))) e.1 in
      rw (← f.0)
      record {
        first = x;
        others = xs;
        is_read = g;
        delays_fit = delays_fit k x xs variable a.0;
        params_fit = b.0;
        places_suffice = omega (arith, timed-length k (x ∷ xs), ltb-false places (length (timed k (x ∷ xs))) e.0);
        removals = run_along variable q 0 0 _ (timed k (x ∷ xs)) (v.first ∷ v.others) (first_bounded variable q x.pos_bits x.vbv_delay) f.1;
      }

  by_front : (a : Answer Front) → FrontDue standard s a
      → and_then a (λ f. with_pictures variable places f.params f.first (timed k (f.first ∷ f.others))) ≡ value v
      → PassesBy standard variable k s places v.params (v.first ∷ v.others)
  by_front (refused n i c j) d h = absurd (refused-value h)
  by_front (value f) (fr.all_read g) h = by_pictures g h

  pub passed_by : verdict_by standard variable k s places ≡ value v → PassesBy standard variable k s places v.params (v.first ∷ v.others)
  unfolding verdict_by
  passed_by h = by_front (front standard s) (front_due standard s) h

-- ---- in a mode

pub in_mode : {m : VbvMode} {s : List ℕ} {places : ℕ} {p : VbvParams} {rs : List VbvPictureRecord} → Passes m s places p rs → PassesBy m.standard m.variable (cadence_of m.film s) s places p rs
in_mode a = record {
  first = a.first;
  others = a.others;
  is_read = a.is_read.is_read;
  delays_fit = a.delays_fit;
  params_fit = a.params_fit;
  places_suffice = a.places_suffice;
  removals = a.removals;
}

of_mode : {m : VbvMode} {s : List ℕ} {places : ℕ} {p : VbvParams} {rs : List VbvPictureRecord} → mode_fits m ≡ true → PassesBy m.standard m.variable (cadence_of m.film s) s places p rs
    → Passes m s places p rs
of_mode h a = record {
  first = a.first;
  others = a.others;
  is_read = record { mode_exists = mode_exists _ h; is_read = a.is_read };
  delays_fit = a.delays_fit;
  params_fit = a.params_fit;
  places_suffice = a.places_suffice;
  removals = a.removals;
}

module _ (m : VbvMode) (s : List ℕ) (places : ℕ) where
  pub passed : {v : Accepted} → verdict m s places ≡ value v → Passes m s places v.params (v.first ∷ v.others)
  passed {v} h = go (mode_fits m) refl
    where
      go : (b : Bool) → mode_fits m ≡ b → Passes m s places v.params (v.first ∷ v.others)
      go true e = of_mode e (passed_by m.standard m.variable (cadence_of m.film s) s places (sym (verdict_in m s places e) ∙ h))
      go false e = absurd (refused-value (sym (verdict-none m s places e) ∙ h))

  passing : {p : VbvParams} {r : VbvPictureRecord} {rs : List VbvPictureRecord} → Passes m s places p (r ∷ rs)
      → verdict m s places ≡ value (record { params = p; first = r; others = rs })
  passing a = verdict_in m s places (existing m a.is_read.mode_exists) ∙ passing_by (in_mode a)

pub accepted_exactly : AcceptedExactly
accepted_exactly m s places a = (passed m s places, passing m s places)

-- ---- where the pictures of such a stream lie

pub rising_by : {standard : VbvStandard} {v : Bool} {k : VbvCadence} {s : List ℕ} {places : ℕ} {p : VbvParams} {rs : List VbvPictureRecord} (a : PassesBy standard v k s places p rs)
    → Rising 0 (timed k (a.first ∷ a.others))
rising_by {standard} {v} {k} {s} a = timed_rising k (seen_rising standard s (a.first ∷ a.others) a.is_read.short a.is_read.pictures_are)

pub are_rising : {m : VbvMode} {s : List ℕ} {places : ℕ} {p : VbvParams} {rs : List VbvPictureRecord} (a : Passes m s places p rs)
    → Rising 0 (timed (cadence_of m.film s) (a.first ∷ a.others))
are_rising {m} {s} a = timed_rising (cadence_of m.film s) (seen_rising m.standard s (a.first ∷ a.others) a.is_read.is_read.short a.is_read.is_read.pictures_are)

-- ---- no difference is cut off

module _ {v : Bool} {p : VbvParams} (f : params_in_range p ≡ true) where
  removal_uncut : {previous d : ℕ} {c : CodedPicture} {r : VbvPictureRecord} → Placed previous c.pos_bits c.end_bits c.vbv_delay → Conforms v p previous d c r → Uncut p previous d c r
  unfolding record_of
  removal_uncut {previous} {d} {c} q w =
      let e = w.no_underflow in
      let l : previous * unit p ≤ c.end_bits * unit p = mul-le-mul_right (unit p) (omega (arith, q.begins, q.ends)) in
      record {
        for_data = omega (arith, q.begins, q.ends);
        for_before = omega arith;
        for_after = rw w.record_is (occupancy-least_in p f previous c.end_bits d (units_beyond p c.end_bits d w.no_underflow));
      }

  along_uncut : {previous d : ℕ} {cs : List CodedPicture} {rs : List VbvPictureRecord} → Rising previous cs → Along v p (Conforms v p) previous d cs rs
      → Along v p (Uncut p) previous d cs rs
  along_uncut last none = none
  along_uncut (next q t) (more w u) = more (removal_uncut q w) (along_uncut t u)

pub nothing_cut : NothingCut
nothing_cut m s places p rs a = along_uncut (fit_in_at m.variable p a.params_fit) (are_rising a) a.removals
