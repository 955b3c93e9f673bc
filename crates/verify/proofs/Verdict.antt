-- The walk's judgement is the verdict, and the last records on the way are the verdict's.
-- Assumes nothing.
use mathlib.Core.Path.{◌≡◌, refl, sym, ap, subst, ◌∙◌}
use mathlib.Core.Bool.{Bool, true, false, not, ◌&&◌, true≢false}
use Prim.Native.Nat.{ℕ, suc, ◌+◌, ◌*◌, ◌≤◌, min, max}
use mathlib.Core.List.{List, [], ◌∷◌}
use native.Mathlib.Omega.{arith}
use lib.Dec.{eqb, ltb}
use lib.ListN.{length}
use borrow.Author.Tests.{lt-leb, le-leb, ltb-true, ltb-false, not-true, not-false}
use Rattle.bits.specs.Bits.{pick}
use Rattle.bits.specs.Refusals.{Answer, value, refused, refuse, and_then}
use Rattle.std.specs.Prelude.{Some, Result, Ok, Err}
use Rattle.bits.proofs.Flags.{and_left, and_right}
use Rattle.vbv.specs.Annex.{first_delivered, full, first_arrived}
use Rattle.vbv.specs.Model.{params_fit_at, delivered, at_delivered, farthest}
use Rattle.vbv.specs.declared.VbvParams.{VbvParams}
use Rattle.vbv.specs.declared.VbvCbrModel.{VbvCbrModel}
use Rattle.vbv.specs.declared.VbvError.TheVariants.{Params as ParamsError}
use Rattle.vbv.proofs.Laws.{model-made, started, model-starts}
use Rattle.vbv.proofs.Numbers.{model_error_back}
use Rattle.vbv.proofs.Told.{makes, unmade}
use Rattle.vbr.proofs.Laws.{variable_makes, variable_unmade, variable-made, variable-starts, variable_started}
use Rattle.verify.specs.declared.VbvPictureRecord.{VbvPictureRecord}
use Rattle.verify.specs.declared.VbvVerifyError.{VbvVerifyError}
use Rattle.verify.specs.declared.VbvVerifyError.TheVariants.{Model, VariableRate, ConstantRate, RecordPlaces}
use Rattle.verify.specs.declared.VbvStreamReport.{VbvStreamReport}
use Rattle.verify.specs.declared.CodedPicture.{CodedPicture}
use Rattle.verify.specs.declared.Walked.{Walked}
use Rattle.verify.specs.declared.VbvMode.{VbvMode}
use Rattle.verify.specs.Coded.{coded_of, timed}
use Rattle.vbv.specs.declared.RemovalInterval.{RemovalInterval}
use Rattle.cadence.specs.Cadence.{interval, after}
use Rattle.pictures.specs.Front.{opening, with_first}
use Rattle.pictures.specs.Seen.{seen_pictures}
use Rattle.pictures.specs.Cadence.{cadence_of}
use Rattle.pictures.specs.declared.SeenPicture.{SeenPicture}
use Rattle.pictures.proofs.Due.{opening-opened, front_is, first-none, first_some}
use Rattle.verify.specs.declared.Progress.{Progress}
use Rattle.verify.specs.declared.Progress.TheVariants.{Fresh, Unmodelled, Running, Stopped}
use Rattle.verify.specs.Run.{run, occupancy_after, least_after, greatest_before}
use Rattle.verify.specs.Mode.{mode_fits}
use Rattle.verify.proofs.Modes.{verdict_in}
use Rattle.verify.specs.Check.{verdict, Accepted, accepted, all_variable, modelled, with_pictures, verdict_by, report_of, reported}
use Rattle.verify.specs.Answers.{refusal, refusal_of, verified_answer}
use Rattle.verify.specs.Steps.{error_of, result_of, first_model, progressed, begun, gone_on_from, advanced, advanced_all, beginning, recorder_of, walked_over, walked_from, walked, if_placed, judgement, last_of}
use Rattle.pictures.specs.Order.{Placed}
use Rattle.pictures.proofs.Order.{seen_rising}
use Rattle.verify.proofs.Rising.{Rising, next, timed_rising, timed-first, timed-length}
use Rattle.verify.proofs.Delays.{other_rate, pictures_are}
use Rattle.verify.proofs.Removal.{removing}
use Rattle.verify.proofs.Course.{Ready, Course, ended, ceased, went, halted, course}

-- each picture is recorded
pub data Recorded (v : Bool) (p : VbvParams) : Progress → List CodedPicture → List VbvPictureRecord → Type 0 where
  none : {st : Progress} → Recorded v p st [] []
  more : {st : Progress} {c : CodedPicture} {cs : List CodedPicture} {r : VbvPictureRecord} {rs : List VbvPictureRecord} → last_of (advanced v p st c) ≡ Some r
      → Recorded v p (advanced v p st c) cs rs → Recorded v p st (c ∷ cs) (r ∷ rs)

pub recorded-length : {v : Bool} {p : VbvParams} {st : Progress} {cs : List CodedPicture} {rs : List VbvPictureRecord} → Recorded v p st cs rs → length rs ≡ length cs
recorded-length none = refl
recorded-length (more e t) = ap suc (recorded-length t)

-- ---- a step

-- at a variable rate every delay is 0xFFFF
data Flows : Bool → List CodedPicture → Type 0 where
  constant : {cs : List CodedPicture} → Flows false cs
  no_more : Flows true []
  one_more : {c : CodedPicture} {cs : List CodedPicture} → eqb c.vbv_delay 0xFFFF ≡ true → Flows true cs → Flows true (c ∷ cs)

flows_others : {v : Bool} {c : CodedPicture} {cs : List CodedPicture} → Flows v (c ∷ cs) → Flows v cs
flows_others constant = constant
flows_others (one_more e f) = f

flows_first : {c : CodedPicture} {cs : List CodedPicture} → Flows true (c ∷ cs) → eqb c.vbv_delay 0xFFFF ≡ true
flows_first (one_more e f) = e

all_flow : (cs : List CodedPicture) → all_variable cs ≡ true → Flows true cs
unfolding all_variable
all_flow [] h = no_more
all_flow (c ∷ cs) h = one_more (and_left (eqb c.vbv_delay 0xFFFF) (all_variable cs) h) (all_flow cs (and_right (eqb c.vbv_delay 0xFFFF) (all_variable cs) h))

module _ (p : VbvParams) where
  on_stopped : {v : Bool} {c : CodedPicture} {cs : List CodedPicture} → Flows v (c ∷ cs) → (e : VbvVerifyError) → advanced v p (Stopped e) c ≡ Stopped e
  unfolding advanced gone_on_from pick
  on_stopped constant e = refl
  on_stopped (one_more h f) e = rw h

  on_unmodelled : {v : Bool} {c : CodedPicture} {cs : List CodedPicture} → Flows v (c ∷ cs) → (e : VbvVerifyError) → advanced v p (Unmodelled e) c ≡ Unmodelled e
  unfolding advanced gone_on_from pick
  on_unmodelled constant e = refl
  on_unmodelled (one_more h f) e = rw h

  on_running : {v : Bool} {c : CodedPicture} {cs : List CodedPicture} → Flows v (c ∷ cs) → (m : VbvCbrModel) (r : VbvPictureRecord) (l g : ℕ) → advanced v p (Running m r l g) c ≡ progressed l g (removing v m c)
  unfolding advanced gone_on_from pick
  on_running constant m r l g = refl
  on_running (one_more h f) m r l g = rw h

-- ---- states that no picture changes

stays-stopped : {v : Bool} (p : VbvParams) (e : VbvVerifyError) (cs : List CodedPicture) → Flows v cs → advanced_all v p (Stopped e) cs ≡ Stopped e
unfolding advanced_all
stays-stopped p e [] f = refl
stays-stopped p e (c ∷ cs) f = rw (on_stopped p f e) (stays-stopped p e cs (flows_others f))

stays_unmodelled : {v : Bool} (p : VbvParams) (e : VbvVerifyError) (cs : List CodedPicture) → Flows v cs → advanced_all v p (Unmodelled e) cs ≡ Unmodelled e
unfolding advanced_all
stays_unmodelled p e [] f = refl
stays_unmodelled p e (c ∷ cs) f = rw (on_unmodelled p f e) (stays_unmodelled p e cs (flows_others f))

-- 25 over any pictures; and another delay among them makes it, whatever came before
both-same : {A : Type 0} (b : Bool) (a : A) → pick b a a ≡ a
unfolding pick
both-same true a = refl
both-same false a = refl

stays_25 : (p : VbvParams) (cs : List CodedPicture) → advanced_all true p (Unmodelled ConstantRate) cs ≡ Unmodelled ConstantRate
unfolding advanced_all advanced gone_on_from
stays_25 p [] = refl
stays_25 p (c ∷ cs) = rw (both-same (not (eqb c.vbv_delay 0xFFFF)) (Unmodelled ConstantRate)) (stays_25 p cs)

comes_25 : (p : VbvParams) (st : Progress) (cs : List CodedPicture) → all_variable cs ≡ false → advanced_all true p st cs ≡ Unmodelled ConstantRate
unfolding advanced_all advanced all_variable pick
comes_25 p st [] h = absurd (true≢false h)
comes_25 p st (c ∷ cs) h = go (λ st h. comes_25 p st cs h) (eqb c.vbv_delay 0xFFFF) h
  where
    go : ((st : Progress) → all_variable cs ≡ false → advanced_all true p st cs ≡ Unmodelled ConstantRate) → (b : Bool) → b && all_variable cs ≡ false
        → advanced_all true p (pick (not b) (Unmodelled ConstantRate) (gone_on_from true p st c)) cs ≡ Unmodelled ConstantRate
    go ih true h = ih (gone_on_from true p st c) h
    go ih false h = stays_25 p cs

-- ---- least and greatest so far, and of the records still to come

unfoldable least_of : ℕ → List VbvPictureRecord → ℕ
least_of l [] = l
least_of l (r ∷ rs) = least_of (min l (occupancy_after r)) rs

unfoldable greatest_of : ℕ → List VbvPictureRecord → ℕ
greatest_of g [] = g
greatest_of g (r ∷ rs) = greatest_of (max g r.occupancy_before_bits) rs

unfoldable report : VbvParams → ℕ → ℕ → ℕ → ℕ → Result VbvStreamReport VbvVerifyError
report p places n least greatest =
    if_placed n places
    (Ok record {
      bit_rate = p.bit_rate;
      buffer_size_bits = p.buffer_size_bits;
      pictures = n;
      min_occupancy_after_bits = least;
      max_occupancy_before_bits = greatest;
    })

least_is : (l : ℕ) (r : VbvPictureRecord) (rs : List VbvPictureRecord) → least_of l (r ∷ rs) ≡ min l (least_after r rs)
unfolding least_of least_after
least_is l r [] = refl
least_is l r (q ∷ rs) = least_is (min l (occupancy_after r)) q rs ∙ omega arith

greatest_is : (g : ℕ) (rs : List VbvPictureRecord) → greatest_of g rs ≡ max g (greatest_before rs)
unfolding greatest_of greatest_before
greatest_is g [] = omega arith
greatest_is g (r ∷ rs) = greatest_is (max g r.occupancy_before_bits) rs ∙ omega arith

least-most : (r : VbvPictureRecord) (rs : List VbvPictureRecord) → least_after r rs ≤ r.occupancy_before_bits
unfolding least_after occupancy_after
least-most r [] = omega arith
least-most r (q ∷ rs) = omega arith

-- ---- from a running model on

record StoppedBy (st : Progress) (n k c e : ℕ) : Type 0 where
  error : VbvVerifyError
  is_stopped : st ≡ Stopped error
  told : refusal_of error ≡ record { number = n; picture = k; coded = c; expected = e }

module _ {v : Bool} {p : VbvParams} where
  stopped_course : {m : VbvCbrModel} {cs : List CodedPicture} {n k x y : ℕ} → Course v p m cs (refused n k x y) → Flows v cs
      → (r : VbvPictureRecord) (l g : ℕ) → StoppedBy (advanced_all v p (Running m r l g) cs) n k x y
  unfolding advanced_all progressed
  stopped_course (ceased {m} {c} {cs} h) f r l g =
      record { error = h.error; is_stopped = rw (on_running p f m r l g, h.is_refused) (stays-stopped p h.error cs (flows_others f)); told = h.told }
  stopped_course (halted {m} h t) f r l g = rw (on_running p f m r l g, h) (stopped_course t (flows_others f) _ _ _)

  ran_course : {m : VbvCbrModel} {cs : List CodedPicture} {rs : List VbvPictureRecord} → Course v p m cs (value rs) → Flows v cs → (places n : ℕ)
      → (r : VbvPictureRecord) (l g : ℕ) → judgement p places n (advanced_all v p (Running m r l g) cs) ≡ report p places n (least_of l rs) (greatest_of g rs)
  unfolding advanced_all progressed judgement report least_of greatest_of
  ran_course ended f places n r l g = refl
  ran_course (went {m} h b t) f places n r l g = rw (on_running p f m r l g, h) (ran_course t (flows_others f) places n _ _ _)

  ran_recorded : {m : VbvCbrModel} {cs : List CodedPicture} {rs : List VbvPictureRecord} → Course v p m cs (value rs) → Flows v cs → (r : VbvPictureRecord) (l g : ℕ)
      → Recorded v p (Running m r l g) cs rs
  unfolding progressed last_of
  ran_recorded ended f r l g = none
  ran_recorded (went {m} {k} {c = c} {r = q} h b t) f r l g =
      let e : advanced v p (Running m r l g) c ≡ Running k q (min l (occupancy_after q)) (max g q.occupancy_before_bits) = rw (on_running p f m r l g, h) in
      more (rw e) (rw e (ran_recorded t (flows_others f) q _ _))

  ran_length : {m : VbvCbrModel} {cs : List CodedPicture} {rs : List VbvPictureRecord} → Course v p m cs (value rs) → length rs ≡ length cs
  ran_length ended = refl
  ran_length (went h b t) = ap suc (ran_length t)

  ran_least : {m : VbvCbrModel} {cs : List CodedPicture} {r : VbvPictureRecord} {rs : List VbvPictureRecord} → Course v p m cs (value (r ∷ rs))
      → least_of p.buffer_size_bits (r ∷ rs) ≡ least_after r rs
  ran_least {m} {cs} {r} {rs} (went h b t) = least_is p.buffer_size_bits r rs ∙ omega (arith, least-most r rs)

-- ---- the first picture starts the model

record Begun (v : Bool) (p : VbvParams) (c : CodedPicture) : Type 0 where
  model : VbvCbrModel
  ready : Ready v p model
  at_zero : model.prev_end_bits ≡ 0
  none_removed : model.removed ≡ 0
  delivers : delivered model ≡ first_arrived v p c.pos_bits c.vbv_delay
  goes : advanced v p Fresh c ≡ progressed p.buffer_size_bits 0 (removing v model c)

-- 5, or 25
abbrev rate_error : Bool → VbvVerifyError
rate_error false = VariableRate
rate_error true = ConstantRate

module _ (p : VbvParams) (j : RemovalInterval) (pic : SeenPicture) (cs : List CodedPicture) where
  abbrev c : CodedPicture
  c = coded_of j pic

  -- which is not refused so
  flows : (v : Bool) → other_rate v pic (c ∷ cs) ≡ false → Flows v (c ∷ cs)
  flows true o = all_flow (c ∷ cs) (not-false (all_variable (c ∷ cs)) o)
  flows false o = constant

  first_flows : other_rate true pic (c ∷ cs) ≡ false → eqb pic.vbv_delay 0xFFFF ≡ true
  first_flows o = flows_first (flows true o)

  begins : (v : Bool) → other_rate v pic (c ∷ cs) ≡ false → params_fit_at v p ≡ true → Placed 0 pic.pos_bits pic.end_bits pic.vbv_delay → Begun v p c
  unfolding advanced gone_on_from begun first_model result_of pick
  begins true o f q =
      let m : VbvCbrModel = record { params = p; whole = 0; rest = 0; prev_end_bits = 0; removed = 0; started = false } in
      let a = variable-made p m (variable_makes p f) in
      let b = variable_started m _ (variable-starts m a.fits a.unstarted) in
      record {
        model = at_delivered m (full p 0);
        ready = record { fits = b.fits; on = b.is_started; kept = b.params_kept; few = omega (arith, b.count_kept, b.end_kept) };
        at_zero = b.end_kept;
        none_removed = b.count_kept;
        delivers = b.delivered_is;
        goes = rw (first_flows o, variable_makes p f, variable-starts m a.fits a.unstarted);
      }
  begins false o f q =
      let m : VbvCbrModel = record { params = p; whole = 0; rest = 0; prev_end_bits = 0; removed = 0; started = false } in
      let a = model-made p m (makes p f) in
      let e = model-starts m pic.vbv_delay pic.pos_bits a.fits a.unstarted (omega (arith, q.ends, q.end_near)) in
      let b = started m pic.vbv_delay pic.pos_bits _ e in
      record {
        model = at_delivered m (first_delivered p pic.pos_bits pic.vbv_delay);
        ready = record { fits = b.fits q.delay_small; on = b.is_started; kept = b.params_kept; few = omega (arith, b.count_kept, b.end_kept) };
        at_zero = b.end_kept;
        none_removed = b.count_kept;
        delivers = b.delivered_is;
        goes = rw (o, makes p f, e);
      }

  -- or there is no model
  other_rate_lem : (v : Bool) → other_rate v pic (c ∷ cs) ≡ true → advanced_all v p Fresh (c ∷ cs) ≡ Unmodelled (rate_error v)
  unfolding advanced_all advanced gone_on_from begun first_model result_of error_of pick
  other_rate_lem true o = comes_25 p Fresh (c ∷ cs) (not-true (all_variable (c ∷ cs)) o)
  other_rate_lem false o = rw o (stays_unmodelled p VariableRate cs constant)

  unfit : (v : Bool) → other_rate v pic (c ∷ cs) ≡ false → params_fit_at v p ≡ false → advanced_all v p Fresh (c ∷ cs) ≡ Unmodelled (Model ParamsError)
  unfolding advanced_all advanced gone_on_from begun first_model result_of error_of pick
  unfit true o f = rw (first_flows o, variable_unmade p f) (rw (model_error_back ParamsError) (stays_unmodelled p (Model ParamsError) cs (flows_others (flows true o))))
  unfit false o f = rw (o, unmade p f) (rw (model_error_back ParamsError) (stays_unmodelled p (Model ParamsError) cs constant))

-- ---- a list of coded pictures

pub record Judged (v : Bool) (p : VbvParams) (places : ℕ) (j : RemovalInterval) (pic : SeenPicture) (cs : List CodedPicture) : Type 0 where
  pub answer : verified_answer (judgement p places (length (coded_of j pic ∷ cs)) (advanced_all v p Fresh (coded_of j pic ∷ cs))) ≡ reported (with_pictures v places p pic (coded_of j pic ∷ cs))
  pub recorded : (r : VbvPictureRecord) (rs : List VbvPictureRecord) → with_pictures v places p pic (coded_of j pic ∷ cs) ≡ value (record { params = p; first = r; others = rs })
      → Recorded v p Fresh (coded_of j pic ∷ cs) (r ∷ rs)

refusing : {v : Bool} {p : VbvParams} {places : ℕ} {j : RemovalInterval} {pic : SeenPicture} {cs : List CodedPicture} (e : VbvVerifyError)
    → judgement p places (length (coded_of j pic ∷ cs)) (advanced_all v p Fresh (coded_of j pic ∷ cs)) ≡ Err e → with_pictures v places p pic (coded_of j pic ∷ cs) ≡ refusal e → Judged v p places j pic cs
refusing {v} {p} {places} {j} {pic} {cs} e a b =
    record {
      answer = rw (a, b);
      recorded = λ r rs h. let y : ◌≡◌ {A = Answer Accepted} (refusal e) (value (record { params = p; first = r; others = rs })) = rw b at h in let z : ◌≡◌ {A = ℕ} 0 1 = cc in absurd (omega arith);
    }

same-records : {a b : Accepted} → ◌≡◌ {A = Answer Accepted} (value a) (value b) → a.first ∷ a.others ≡ b.first ∷ b.others
same-records {a} {b} h = let e : a ≡ b = cc in rw e

reporting : {v : Bool} {p : VbvParams} {places : ℕ} {j : RemovalInterval} {pic : SeenPicture} {cs : List CodedPicture} (r : VbvPictureRecord) (rs : List VbvPictureRecord)
    → judgement p places (length (coded_of j pic ∷ cs)) (advanced_all v p Fresh (coded_of j pic ∷ cs)) ≡ Ok (report_of (record { params = p; first = r; others = rs }))
    → with_pictures v places p pic (coded_of j pic ∷ cs) ≡ value (record { params = p; first = r; others = rs })
    → Recorded v p Fresh (coded_of j pic ∷ cs) (r ∷ rs) → Judged v p places j pic cs
reporting {v} {p} r rs a b k =
    record {
      answer = rw (a, b);
      recorded = λ q qs h. let y : ◌≡◌ {A = Answer Accepted} (value (record { params = p; first = r; others = rs })) (value (record { params = p; first = q; others = qs })) = rw b at h in rw (← same-records y) k;
    }

-- no model
unmodelled : (p : VbvParams) (places n : ℕ) {st : Progress} {e : VbvVerifyError} → st ≡ Unmodelled e → judgement p places n st ≡ Err e
unfolding judgement
unmodelled p places n h = rw h

-- a model: the walk goes on as if it ran already, whatever was recorded
abbrev any_record : VbvPictureRecord
any_record = record { vbv_delay = 0; expected_delay = 0; data_bits = 0; occupancy_before_bits = 0; periods = 0 }

module _ {v : Bool} {p : VbvParams} {c : CodedPicture} (b : Begun v p c) (cs : List CodedPicture) (f : Flows v (c ∷ cs)) where
  as_first : advanced v p Fresh c ≡ advanced v p (Running b.model any_record p.buffer_size_bits 0) c
  as_first = rw (b.goes, on_running p f b.model any_record p.buffer_size_bits 0)

  as_running : advanced_all v p Fresh (c ∷ cs) ≡ advanced_all v p (Running b.model any_record p.buffer_size_bits 0) (c ∷ cs)
  unfolding advanced_all
  as_running = rw as_first

  as_recorded : {rs : List VbvPictureRecord} → Recorded v p (Running b.model any_record p.buffer_size_bits 0) (c ∷ cs) rs → Recorded v p Fresh (c ∷ cs) rs
  as_recorded (more e t) = more (rw as_first e) (rw as_first t)

first_course : {v : Bool} {p : VbvParams} {c : CodedPicture} {cs : List CodedPicture} (b : Begun v p c) → Rising 0 (c ∷ cs)
    → Course v p b.model (c ∷ cs) (run v p 0 0 (first_arrived v p c.pos_bits c.vbv_delay) (c ∷ cs))
first_course {v} {p} {c} {cs} b t =
    let e : run v p b.model.removed b.model.prev_end_bits (delivered b.model) (c ∷ cs)
    ≡ run v p 0 0 (first_arrived v p c.pos_bits c.vbv_delay) (c ∷ cs) = cc in
    subst (λ (o : Answer (List VbvPictureRecord)). Course v p b.model (c ∷ cs) o) e (course b.ready b.at_zero t)

-- a refusal by its number and values
as_told : {X : Type 0} {n k x y : ℕ} (e : VbvVerifyError) → refusal_of e ≡ record { number = n; picture = k; coded = x; expected = y }
    → ◌≡◌ {A = Answer X} (refused n k x y) (refusal e)
as_told e h = rw h

runs : {v : Bool} (p : VbvParams) (places : ℕ) (j : RemovalInterval) (pic : SeenPicture) (cs : List CodedPicture) (b : Begun v p (coded_of j pic)) → Flows v (coded_of j pic ∷ cs) → (o : Answer (List VbvPictureRecord))
    → with_pictures v places p pic (coded_of j pic ∷ cs) ≡ refuse 15 (ltb places (length (coded_of j pic ∷ cs))) (and_then o (accepted p))
    → Course v p b.model (coded_of j pic ∷ cs) o → (t : Bool) → ltb places (length (coded_of j pic ∷ cs)) ≡ t → Judged v p places j pic cs
unfolding judgement if_placed report pick
runs p places j pic cs b f (refused n i x y) w k false l =
    let u = stopped_course k f any_record p.buffer_size_bits 0 in
    refusing u.error (rw (as_running b cs f, u.is_stopped, le-leb (length (coded_of j pic ∷ cs)) places (ltb-false places (length (coded_of j pic ∷ cs)) l))) (w ∙ rw l (as_told u.error u.told))
runs p places j pic cs b f (refused n i x y) w k true l =
    let u = stopped_course k f any_record p.buffer_size_bits 0 in
    refusing RecordPlaces (rw (as_running b cs f, u.is_stopped, lt-leb (length (coded_of j pic ∷ cs)) places (ltb-true places (length (coded_of j pic ∷ cs)) l))) (w ∙ rw l)
runs p places j pic cs b f (value rs) w k true l =
    refusing RecordPlaces
    (rw (as_running b cs f, ran_course k f places (length (coded_of j pic ∷ cs)) any_record p.buffer_size_bits 0, lt-leb (length (coded_of j pic ∷ cs)) places (ltb-true places (length (coded_of j pic ∷ cs)) l)))
    (w ∙ rw l)
runs p places j pic cs b f (value []) w k false l = absurd (omega (arith, ran_length k))
runs p places j pic cs b f (value (r ∷ rs)) w k false l =
    let g : greatest_of 0 (r ∷ rs) ≡ greatest_before (r ∷ rs) = greatest_is 0 (r ∷ rs) ∙ omega arith in
    let m = ltb-false places (length (coded_of j pic ∷ cs)) l in
    reporting r rs
    (rw (as_running b cs f, ran_course k f places (length (coded_of j pic ∷ cs)) any_record p.buffer_size_bits 0, le-leb (length (coded_of j pic ∷ cs)) places m, ran_least k, g, ← ran_length k))
    (w ∙ rw l)
    (as_recorded b cs f (ran_recorded k f any_record p.buffer_size_bits 0))

-- the verdict in each case
module _ (p : VbvParams) (places : ℕ) (j : RemovalInterval) (pic : SeenPicture) (cs : List CodedPicture) where
  verdict_other : (v : Bool) → other_rate v pic (coded_of j pic ∷ cs) ≡ true → with_pictures v places p pic (coded_of j pic ∷ cs) ≡ refusal (rate_error v)
  unfolding pick
  verdict_other true o = pictures_are true places p pic (coded_of j pic ∷ cs) ∙ rw o
  verdict_other false o = pictures_are false places p pic (coded_of j pic ∷ cs) ∙ rw o

  verdict-modelled : (v : Bool) → other_rate v pic (coded_of j pic ∷ cs) ≡ false → with_pictures v places p pic (coded_of j pic ∷ cs) ≡ modelled v places p pic (coded_of j pic ∷ cs)
  unfolding pick
  verdict-modelled v o = pictures_are v places p pic (coded_of j pic ∷ cs) ∙ rw o

  modelled-unfit : (v : Bool) → params_fit_at v p ≡ false → modelled v places p pic (coded_of j pic ∷ cs) ≡ refused 12 0 0 0
  unfolding modelled pick
  modelled-unfit v f = rw f

  modelled-run : (v : Bool) → params_fit_at v p ≡ true
      → modelled v places p pic (coded_of j pic ∷ cs)
      ≡ refuse 15 (ltb places (length (coded_of j pic ∷ cs))) (and_then (run v p 0 0 (first_arrived v p pic.pos_bits pic.vbv_delay) (coded_of j pic ∷ cs)) (accepted p))
  unfolding modelled pick
  modelled-run v f = rw f

pub judges : (v : Bool) (p : VbvParams) (places : ℕ) (j : RemovalInterval) (pic : SeenPicture) (cs : List CodedPicture) → Rising 0 (coded_of j pic ∷ cs) → Judged v p places j pic cs
judges v p places j pic cs (next q t) = by_rate_lem (other_rate v pic (coded_of j pic ∷ cs)) refl
  where
    by_params : other_rate v pic (coded_of j pic ∷ cs) ≡ false → (b : Bool) → params_fit_at v p ≡ b → Judged v p places j pic cs
    by_params o false f =
        refusing (Model ParamsError) (unmodelled p places _ (unfit p j pic cs v o f)) (verdict-modelled p places j pic cs v o ∙ modelled-unfit p places j pic cs v f)
    by_params o true f =
        let b = begins p j pic cs v o f q in
        runs p places j pic cs b (flows p j pic cs v o) _ (verdict-modelled p places j pic cs v o ∙ modelled-run p places j pic cs v f)
        (first_course b (next q t))
        (ltb places (length (coded_of j pic ∷ cs)))
        refl

    by_rate_lem : (b : Bool) → other_rate v pic (coded_of j pic ∷ cs) ≡ b → Judged v p places j pic cs
    by_rate_lem true o = refusing (rate_error v) (unmodelled p places _ (other_rate_lem p j pic cs v o)) (verdict_other p places j pic cs v o)
    by_rate_lem false o = by_params o (params_fit_at v p) refl

-- ---- a stream

module _ (m : VbvMode) (s : List ℕ) (places : ℕ) where
  -- by what a walk answers
  abbrev judged_by : Answer Walked → Answer VbvStreamReport
  judged_by a = and_then a (λ w. verified_answer (judgement w.params places w.pictures w.progress))

  by_pictures : (p : VbvParams) (a : Answer (List SeenPicture)) → 8 * length s ≤ farthest → seen_pictures m.standard s ≡ a
      → judged_by (and_then a (λ xs. value (walked_over (recorder_of m (record { params = p; cadence = cadence_of m.film s })) 0 xs)))
      ≡ reported (and_then (and_then a (λ xs. with_first p xs)) (λ f. with_pictures m.variable places f.params f.first (timed (cadence_of m.film s) (f.first ∷ f.others))))
  unfolding walked_over judgement advanced_all timed
  by_pictures p (refused n i x y) h e = refl
  by_pictures p (value []) h e = rw (first-none p)
  by_pictures p (value (x ∷ xs)) h e =
      let k = cadence_of m.film s in
      let l : 0 + length (x ∷ xs) ≡ length (coded_of (interval k x.facts) x ∷ timed (after k x.facts) xs) = omega (arith, timed-length (after k x.facts) xs) in
      let t = timed_rising k (seen_rising m.standard s (x ∷ xs) h e) in
      rw (first_some p x xs, l) (judges m.variable p places (interval k x.facts) x (timed (after k x.facts) xs) (rw (timed-first k x xs) at t)).answer

  pub judgement_is : judged_by (walked m s) ≡ reported (verdict_by m.standard m.variable (cadence_of m.film s) s places)
  unfolding walked beginning verdict_by
  judgement_is = rw (front_is m.standard s) (go (opening m.standard s) refl)
    where
      go : (o : Answer VbvParams) → opening m.standard s ≡ o
          → judged_by (and_then (and_then o (λ p. value (record { params = p; cadence = cadence_of m.film s }))) (λ b. walked_from (recorder_of m b) s))
          ≡ reported (and_then (and_then o (λ p. and_then (seen_pictures m.standard s) (λ xs. with_first p xs)))
          (λ f. with_pictures m.variable places f.params f.first (timed (cadence_of m.film s) (f.first ∷ f.others))))
      go (refused n i x y) h = refl
      go (value p) h = by_pictures p (seen_pictures m.standard s) (opening-opened m.standard s h) refl

  -- of a mode that there is
  module _ (f : mode_fits m ≡ true) where
    as_verdict : reported (verdict_by m.standard m.variable (cadence_of m.film s) s places) ≡ reported (verdict m s places)
    as_verdict = ap reported (sym (verdict_in m s places f))

    pub verdict_read : {w : Walked} → value w ≡ walked m s → verified_answer (judgement w.params places w.pictures w.progress) ≡ reported (verdict m s places)
    verdict_read h = rw (← h) at judgement_is ∙ as_verdict

    pub verdict_unread : {n k c e : ℕ} → refused n k c e ≡ walked m s → refused n k c e ≡ reported (verdict m s places)
    verdict_unread h = rw (← h) at judgement_is ∙ as_verdict
