-- Demand 3: what holds of every list of calls on a writer that was created.
-- Assumes nothing.
use mathlib.Core.Path.{◌≡◌, subst, subst₂, ap, ◌∙◌}
use mathlib.Core.Bool.{Bool, false}
use mathlib.Core.List.{List}
use native.Mathlib.Omega.{arith}
use Rattle.vbv.specs.declared.VbvParams.{VbvParams}
use Rattle.cadence.proofs.Keeping.{opened-film}
use Rattle.pictures.specs.declared.VbvStandard.TheVariants.{Mpeg2}
use Rattle.verify.specs.declared.VbvMode.{VbvMode}
use Rattle.rate_control.specs.Calls.{Call, steps_of}
use Rattle.rate_control.specs.Sent.{sent, PassesCheck}
use Rattle.rate_control.specs.Demand.{AllBytes, OwedOfCalls, Demand3}
use Rattle.rate_control.specs.declared.CbrWriter.{CbrWriter}
use Rattle.rate_control.proofs.Creation.{Fresh, config_ranges, creation-found, created_fresh}
use Rattle.rate_control.proofs.Removing.{EachDone, fresh_done, each}
use Rattle.rate_control.proofs.Totals.{stuffing-total, laid-low}
use Rattle.rate_control.proofs.Sending.{Sending, sending}
use Rattle.rate_control.proofs.Accepted.{passes}
use Rattle.rate_control.proofs.Knowing.{state, created_known}
use Rattle.rate_control.proofs.Creating.{creation_due, creation_only}
use Rattle.rate_control.proofs.Answers.{all-answered, patient, unsaid}

-- the check, of a writer that has placed nothing yet
fresh_passes : (m : VbvMode) (w : CbrWriter) (calls : List Call) → m.standard ≡ Mpeg2 → w.variable ≡ m.variable
    → EachDone m.variable m.film w.model.params (sent 0 (steps_of w calls)) → Fresh w → AllBytes calls
    → PassesCheck m w.model.params (sent 0 (steps_of w calls))
fresh_passes m w calls q v d f b =
    let s = subst (λ (z : Bool). Sending w.model.params z 0 (sent 0 (steps_of w calls))) f.unplaced (sending 0 w calls f.inv b) in
    passes m w.model.params (sent 0 (steps_of w calls)) q (rw (← v) f.params_fit) (laid-low 0 w calls f.inv) d s

pub demand : OwedOfCalls
demand c f w calls e h b =
    let g = created_fresh c w h in
    let k = created_known c f w e h in
    let p : w.model.params ≡ _ = ap (λ (v : CbrWriter). v.model.params) k in
    let xs = sent 0 (steps_of w calls) in
    let z : w.cadence.film ≡ c.mode.film = ap (λ (v : CbrWriter). v.cadence.film) k ∙ opened-film c.mode.film false false in
    let v : w.variable ≡ c.mode.variable = ap (λ (v : CbrWriter). v.variable) k in
    let d = subst₂ (λ (v film : Bool). EachDone v film w.model.params xs) v z (fresh_done g calls) in
    let s = subst (λ (q : VbvParams). EachDone c.mode.variable c.mode.film q xs) p d in
    let m = (config_ranges c (creation-found c w h).ranges).mode_written in
    record {
      answers = all-answered _ _ w _ calls k g.inv;
      state = state _ _ w _ calls k g.inv;
      receiver = each c.mode (λ i d previous x r. r.in_buffer) xs s;
      check = subst (λ (q : VbvParams). PassesCheck c.mode q (sent 0 (steps_of w calls))) p (fresh_passes c.mode w calls m v d g b);
      pictures = each c.mode (λ i d previous x r. r.as_placed) xs s;
      stuffing = each c.mode (λ i d previous x r. r.least) xs s;
      total = omega (arith, stuffing-total 0 w calls g.inv, g.unstuffed);
      retries = patient _ _ w _ calls k g.inv;
      never = λ e. unsaid w calls (v ∙ e);
    }

pub owed : Demand3
owed = record { creation = creation_due; no_other = creation_only; calls = demand }
