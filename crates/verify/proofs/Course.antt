-- The model's course over coded pictures is the run of Annex C, at a constant and at a variable rate.
-- Assumes nothing.
use mathlib.Core.Path.{◌≡◌, refl, sym, subst, ◌∙◌}
use mathlib.Core.Bool.{Bool, true, false, true≢false}
use mathlib.Core.List.{List, [], ◌∷◌}
use Prim.Native.Nat.{ℕ, suc, ◌≤◌}
use native.Mathlib.Omega.{arith}
use native.Mathlib.Numerals.{add-one}
use Rattle.std.specs.Prelude.{Ok}
use Rattle.bits.specs.Refusals.{Answer, value, refused, and_then}
use Rattle.vbv.specs.Annex.{arrived}
use Rattle.vbv.specs.Model.{params_in_range, delivered, periods}
use Rattle.vbv.specs.Steps.{EndFits}
use Rattle.vbv.specs.declared.VbvParams.{VbvParams}
use Rattle.vbv.specs.declared.VbvCbrModel.{VbvCbrModel}
use Rattle.vbv.proofs.Fitting.{fit_in_at}
use Rattle.vbv.proofs.Laws.{occupancy-most_in, over_units, units_over, units_beyond}
use Rattle.vbv.proofs.After.{model-after}
use Rattle.vbr.specs.Variable.{model_fits_at}
use Rattle.vbr.proofs.Laws.{no_overflow}
use Rattle.vbr.proofs.Either.{fits-params-at, after-fits_at}
use Rattle.verify.specs.declared.CodedPicture.{CodedPicture}
use Rattle.verify.specs.declared.VbvPictureRecord.{VbvPictureRecord}
use Rattle.verify.specs.Answers.{verified_answer}
use Rattle.verify.specs.Accepted.{Conforms}
use Rattle.verify.specs.Run.{record_of, removal, run}
use Rattle.pictures.specs.Order.{Placed}
use Rattle.verify.proofs.Rising.{Rising, last, next}
use Rattle.verify.proofs.Conforming.{Bounded, conforms}
use Rattle.verify.proofs.Removal.{removing, model_after, with_model, removal_is, RefusedBy, refused_by, recorded_by_lem}

-- a started model of such a rate
pub record Ready (v : Bool) (p : VbvParams) (m : VbvCbrModel) : Type 0 where
  pub fits : model_fits_at v m ≡ true
  pub on : m.started ≡ true
  pub kept : m.params ≡ p
  pub few : m.removed ≤ m.prev_end_bits

-- at a variable rate no more has come than fills the buffer
bounded : (v : Bool) {p : VbvParams} {m : VbvCbrModel} → Ready v p m → Bounded v p m.prev_end_bits (delivered m)
bounded true {m = m} y h = rw (← y.kept) (over_units m.params m.prev_end_bits (delivered m) (no_overflow m y.fits y.on))
bounded false y h = absurd (true≢false (sym h))

module _ {v : Bool} {p : VbvParams} {m : VbvCbrModel} (y : Ready v p m) (c : CodedPicture) (q : Placed m.prev_end_bits c.pos_bits c.end_bits c.vbv_delay) where
  end_fits : EndFits m c.end_bits
  end_fits =
      record { end_far = q.end_near; end_low = omega (arith, q.begins, q.ends); count = omega (arith, q.begins, q.ends, q.end_near, y.few) }

  by_annex : verified_answer (removing v m c) ≡ with_model v m c (removal v p m.removed m.prev_end_bits (delivered m) c)
  by_annex = rw (← y.kept) (removal_is v m c y.fits y.on (omega (arith, q.ends, q.end_near)) end_fits)

  module _ {r : VbvPictureRecord} (h : removal v p m.removed m.prev_end_bits (delivered m) c ≡ value r) where
    in_model : Conforms v p m.prev_end_bits (delivered m) c r
    in_model = conforms v p m.removed m.prev_end_bits (delivered m) c r (bounded v y) h

    -- the model after a removal
    step : Ready v p (model_after v m c)
    step =
        let o = units_over p m.prev_end_bits (delivered m) in_model.no_overflow in
        let u = units_beyond p c.end_bits (delivered m) in_model.no_underflow in
        let w = model-after m c.end_bits (arrived v m.params c.end_bits (delivered m) (periods c.interval)) in
        record {
          fits = after-fits_at v m (delivered m) y.fits (rw (← y.kept) at o) c.end_bits c.interval end_fits (rw (← y.kept) at u);
          on = w.is_started;
          kept = w.params_kept ∙ y.kept;
          few = rw (w.count_is, w.end_is) (omega (arith, q.begins, q.ends, y.few));
        }

    within : r.occupancy_before_bits ≤ p.buffer_size_bits
    unfolding record_of
    within =
        let f : params_in_range p ≡ true = rw y.kept at (fit_in_at v m.params (fits-params-at v m y.fits)) in
        rw in_model.record_is (occupancy-most_in p f m.prev_end_bits (delivered m) (units_over p _ _ in_model.no_overflow))

-- the course: each removal's record and the model after it, up to the end or a refusal
pub data Course (v : Bool) (p : VbvParams) : VbvCbrModel → List CodedPicture → Answer (List VbvPictureRecord) → Type 0 where
  ended : {m : VbvCbrModel} → Course v p m [] (value [])
  ceased : {m : VbvCbrModel} {c : CodedPicture} {cs : List CodedPicture} {n k x y : ℕ} → RefusedBy (removing v m c) n k x y → Course v p m (c ∷ cs) (refused n k x y)
  went : {m k : VbvCbrModel} {c : CodedPicture} {cs : List CodedPicture} {r : VbvPictureRecord} {rs : List VbvPictureRecord}
      → removing v m c ≡ Ok (r, k) → r.occupancy_before_bits ≤ p.buffer_size_bits → Course v p k cs (value rs) → Course v p m (c ∷ cs) (value (r ∷ rs))
  halted : {m k : VbvCbrModel} {c : CodedPicture} {cs : List CodedPicture} {r : VbvPictureRecord} {n i x y : ℕ}
      → removing v m c ≡ Ok (r, k) → Course v p k cs (refused n i x y) → Course v p m (c ∷ cs) (refused n i x y)

goes : {v : Bool} {p : VbvParams} {m k : VbvCbrModel} {c : CodedPicture} {cs : List CodedPicture} {r : VbvPictureRecord} (o : Answer (List VbvPictureRecord))
    → removing v m c ≡ Ok (r, k) → r.occupancy_before_bits ≤ p.buffer_size_bits → Course v p k cs o
    → Course v p m (c ∷ cs) (and_then o (λ rs. value (r ∷ rs)))
goes (refused n i x y) h b t = halted h t
goes (value rs) h b t = went h b t

pub course : {v : Bool} {p : VbvParams} {m : VbvCbrModel} {previous : ℕ} {cs : List CodedPicture} → Ready v p m → m.prev_end_bits ≡ previous → Rising previous cs
    → Course v p m cs (run v p m.removed m.prev_end_bits (delivered m) cs)
unfolding run
course y x last = ended
course {v} {p} {m} y x (next {previous} {c} {cs} q t) =
    go (λ k z w. course z w t) (rw x q) (removal v p m.removed m.prev_end_bits (delivered m) c) refl
  where
    d : ℕ
    d = arrived v p c.end_bits (delivered m) (periods c.interval)

    k : VbvCbrModel
    k = model_after v m c

    go : ((k : VbvCbrModel) → Ready v p k → k.prev_end_bits ≡ c.end_bits → Course v p k cs (run v p k.removed k.prev_end_bits (delivered k) cs))
        → Placed m.prev_end_bits c.pos_bits c.end_bits c.vbv_delay → (o : Answer VbvPictureRecord) → removal v p m.removed m.prev_end_bits (delivered m) c ≡ o
        → Course v p m (c ∷ cs) (and_then o (λ r. and_then (run v p (suc m.removed) c.end_bits d cs) (λ rs. value (r ∷ rs))))
    go ih q (refused n i u z) h = ceased {n = n} {k = i} {x = u} {y = z} (refused_by (removing v m c) (by_annex y c q ∙ rw h))
    go ih q (value r) h =
        let w = model-after m c.end_bits (arrived v m.params c.end_bits (delivered m) (periods c.interval)) in
        let a : delivered k ≡ d = w.delivered_is ∙ rw y.kept in
        let e : run v p k.removed k.prev_end_bits (delivered k) cs ≡ run v p (suc m.removed) c.end_bits d cs = rw (a, w.count_is, w.end_is, add-one m.removed) in
        goes (run v p (suc m.removed) c.end_bits d cs)
        (recorded_by_lem (removing v m c) (by_annex y c q ∙ rw h))
        (within y c q h)
        (subst (λ (o : Answer (List VbvPictureRecord)). Course v p k cs o) e (ih k (step y c q h) w.end_is))
