-- The check's answer is the one that is due.
-- Assumes nothing.
use mathlib.Core.Path.{◌≡◌, refl}
use mathlib.Core.Bool.{Bool, true, false, ◌||◌, true≢false}
use mathlib.Core.List.{List, [], ◌∷◌}
use Prim.Native.Nat.{ℕ, suc, ◌+◌, ◌*◌, ◌≤◌}
use native.Mathlib.Omega.{arith}
use lib.Dec.{ltb}
use lib.ListN.{length}
use borrow.Author.Tests.{ltb-true, ltb-false, eqb-true, not-true, not-false}
use Rattle.bits.specs.Refusals.{Answer, value, refused, and_then}
use Rattle.bits.proofs.Flags.{or_other, pick_elim}
use Rattle.vbv.specs.Annex.{unit, first_arrived, arrived}
use Rattle.vbv.specs.Model.{periods}
use Rattle.vbv.specs.declared.VbvParams.{VbvParams}
use Rattle.vbv.proofs.Laws.{over_units, over-full, beyond_units, beyond-there}
use Rattle.pictures.specs.Front.{Front, front}
use Rattle.pictures.specs.Due as fr
use Rattle.pictures.specs.Due.{FrontDue}
use Rattle.pictures.specs.Cadence.{cadence_of}
use Rattle.pictures.specs.declared.VbvStandard.TheVariants.{Mpeg1}
use Rattle.pictures.specs.declared.SeenPicture.{SeenPicture}
use Rattle.pictures.proofs.Due.{front_due}
use Rattle.verify.specs.Accepted.{AsCoded, ReadIn, timed_in}
use Rattle.verify.specs.Run.{apart, taken_out, removal, run}
use Rattle.verify.specs.Check.{Accepted, accepted, modelled, with_pictures, verdict_by, verdict}
use Rattle.verify.specs.Due as due
use Rattle.verify.specs.Due.{expected_at, RemovalDue, RunDue, Modelled, VerdictDue, CheckDue}
use Rattle.verify.specs.declared.VbvMode.{VbvMode}
use Rattle.verify.specs.declared.CodedPicture.{CodedPicture}
use Rattle.verify.proofs.Modes.{unfit_mode, mode_exists}
use Rattle.verify.proofs.Conforming.{Bounded, first_bounded, next_bounded, near}
use Rattle.verify.proofs.Delays.{rate_number, other_rate, pictures_are, delays_fit, other_delay}
use Rattle.verify.proofs.Rising.{timed-first, timed-length}
use Rattle.verify.specs.declared.VbvPictureRecord.{VbvPictureRecord}

-- ---- a removal

module _ (p : VbvParams) (n previous d : ℕ) (c : CodedPicture) where
  abbrev R : Bool → Answer VbvPictureRecord → Type 0
  R v a = RemovalDue p n previous d c v a

  apart_due : c.pos_bits * unit p ≤ d → expected_at p d c ≤ 65534 → (b : Bool) → ltb (c.vbv_delay + 1) (expected_at p d c) ≡ b
      → (b || ltb (expected_at p d c + 1) c.vbv_delay) ≡ true → R false (refused 11 n c.vbv_delay (expected_at p d c))
  apart_due a b true e h = due.coded_short a b (ltb-true _ _ e)
  apart_due a b false e h = due.coded_long a b (ltb-true _ _ h)

  variable_due : d ≤ (previous + p.buffer_size_bits) * unit p → R true (taken_out true p n previous d c)
  unfolding taken_out
  variable_due b =
      pick_elim (R true) _ (λ e. due.variable_underflow b (beyond-there p _ _ e)) λ h.
      due.recorded (record { as_coded = λ z. absurd (true≢false z); no_overflow = b; no_underflow = beyond_units p _ _ h; record_is = refl })

  constant_due : AsCoded p d c → d ≤ (previous + p.buffer_size_bits) * unit p → R false (taken_out false p n previous d c)
  unfolding taken_out
  constant_due a b =
      pick_elim (R false) _ (λ e. due.underflow a b (beyond-there p _ _ e)) λ h.
      due.recorded (record { as_coded = λ _. a; no_overflow = b; no_underflow = beyond_units p _ _ h; record_is = refl })

  removal_due : (v : Bool) → Bounded v p previous d → R v (removal v p n previous d c)
  unfolding removal apart
  removal_due true b = variable_due (b refl)
  removal_due false b =
      pick_elim (R false) _ (λ e. due.early (beyond-there p _ _ e)) λ h7.
      pick_elim (R false) _ (λ e. due.unsayable (beyond_units p _ _ h7) (ltb-true _ _ e)) λ h8.
      pick_elim (R false) _ (λ e. apart_due (beyond_units p _ _ h7) (ltb-false _ _ h8) _ refl e) λ h11.
      let l = near c.vbv_delay (expected_at p d c) h11 in
      let g : AsCoded p d c = record { begun = beyond_units p _ _ h7; sayable = ltb-false _ _ h8; coded_most = l.0; expected_most = l.1 } in
      pick_elim (R false) _ (λ e. due.overflow g (over-full p _ _ e)) λ h9.
      constant_due g (over_units p _ _ h9)

-- ---- the run

run_step : {v : Bool} {p : VbvParams} {n previous d : ℕ} {c : CodedPicture} {cs : List CodedPicture} (a : Answer VbvPictureRecord) → RemovalDue p n previous d c v a
    → (b : Answer (List VbvPictureRecord)) → RunDue v p (suc n) c.end_bits (arrived v p c.end_bits d (periods c.interval)) cs b
    → RunDue v p n previous d (c ∷ cs) (and_then a (λ r. and_then b (λ rs. value (r ∷ rs))))
run_step (refused m k i j) g b h = due.stopped g
run_step (value r) g (refused m k i j) h = due.stopped_later g h
run_step (value r) g (value rs) h = due.went_on g h

run_due : (v : Bool) (p : VbvParams) (n previous d : ℕ) → Bounded v p previous d → (cs : List CodedPicture) → RunDue v p n previous d cs (run v p n previous d cs)
unfolding run
run_due v p n previous d b [] = due.ended
run_due v p n previous d b (c ∷ cs) =
    run_step _ (removal_due p n previous d c v b) _ (run_due v p (suc n) c.end_bits _ (next_bounded v p c.end_bits d (periods c.interval)) cs)

-- ---- the verdict

module _ (m : VbvMode) (s : List ℕ) (places : ℕ) where
  abbrev J : Answer Accepted → Type 0
  J a = VerdictDue m s places a

  ran : {p : VbvParams} {x : SeenPicture} {xs : List SeenPicture} → Modelled m s places p x xs → (a : Answer (List VbvPictureRecord))
      → RunDue m.variable p 0 0 (first_arrived m.variable p x.pos_bits x.vbv_delay) (timed_in m s (x ∷ xs)) a → J (and_then a (accepted p))
  ran {p} {x} {xs} g (refused n k i j) h = due.stopped {p = p} {x = x} {xs = xs} {n = n} {k = k} {i = i} {j = j} g h
  ran {p} {x} {xs} g (value (r ∷ rs)) h = due.accepted {p = p} {x = x} {xs = xs} {r = r} {rs = rs} g h
  ran {x = x} {xs} g (value []) h = absurd (none (rw (timed-first (cadence_of m.film s) x xs) at h))
    where
      none : {v : Bool} {p : VbvParams} {n previous d : ℕ} {c : CodedPicture} {cs : List CodedPicture} → RunDue v p n previous d (c ∷ cs) (value []) → ⊥
      none = elim [ ]

  -- 5 or 25
  other_rate_lem : {p : VbvParams} {x : SeenPicture} {xs : List SeenPicture} → ReadIn m s p x xs → (v : Bool) → m.variable ≡ v → other_rate v x (timed_in m s (x ∷ xs)) ≡ true
      → J (refused (rate_number v) 0 0 0)
  other_rate_lem {x = x} {xs} g true e h = due.constant_rate e g (other_delay (cadence_of m.film s) (x ∷ xs) (not-true _ h))
  other_rate_lem g false e h = due.variable_rate e g (eqb-true _ _ h)

  with_pictures_lem : {p : VbvParams} {x : SeenPicture} {xs : List SeenPicture} → ReadIn m s p x xs → J (with_pictures m.variable places p x (timed_in m s (x ∷ xs)))
  unfolding modelled
  with_pictures_lem {p} {x} {xs} g =
      let l = timed-length (cadence_of m.film s) (x ∷ xs) in
      rw (pictures_are m.variable places p x (timed_in m s (x ∷ xs)))
      (pick_elim J _ (λ z. other_rate_lem g m.variable refl z) λ z.
      let f = delays_fit (cadence_of m.film s) x xs m.variable z in
      pick_elim J _ (λ z. due.unfit g f (not-true _ z)) λ h12.
      pick_elim J _ (λ z. due.few_places g f (not-false _ h12) (omega (arith, ltb-true places (length (timed_in m s (x ∷ xs))) z))) λ h15.
      ran (record { is_read = g; delays_fit = f; params_fit = not-false _ h12; places_suffice = omega (arith, ltb-false places (length (timed_in m s (x ∷ xs))) h15) }) _
      (run_due m.variable p 0 0 _ (first_bounded m.variable p x.pos_bits x.vbv_delay) (timed_in m s (x ∷ xs))))

  by_front : (m.standard ≡ Mpeg1 → (m.film ≡ false) × (m.variable ≡ false)) → (a : Answer Front) → FrontDue m.standard s a
      → J (and_then a (λ f. with_pictures m.variable places f.params f.first (timed_in m s (f.first ∷ f.others))))
  by_front e (refused n k i j) d = due.by_front e d
  by_front e (value f) (fr.all_read g) = with_pictures_lem (record { mode_exists = e; is_read = g })

  -- a mode of MPEG-1 that there is not
  no_mode : m.standard ≡ Mpeg1 → m.film || m.variable ≡ true → (b : Bool) → m.film ≡ b → J (refused 12 0 0 0)
  no_mode e h true f = due.no_film e f
  no_mode e h false f = due.no_variable e (or_other m.film m.variable h f)

  verdict_due : J (verdict m s places)
  unfolding verdict verdict_by
  verdict_due =
      pick_elim J _ (λ z. let u = unfit_mode m (not-true _ z) in no_mode u.0 u.1 m.film refl) λ h.
      by_front (mode_exists m (not-false _ h)) (front m.standard s) (front_due m.standard s)

pub check_due : CheckDue
check_due m s places = verdict_due m s places
