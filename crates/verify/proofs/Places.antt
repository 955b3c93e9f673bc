-- Record places: given one for each picture, or more, the verdict is the same; given fewer, it is the same or 15.
-- Assumes nothing.
use mathlib.Core.Path.{◌≡◌, refl, sym, ap, ◌∙◌}
use mathlib.Core.Bool.{Bool, not}
use mathlib.Core.List.{List, ◌∷◌}
use Prim.Native.Nat.{ℕ, suc, ◌≤◌}
use native.Mathlib.Omega.{arith}
use lib.ListN.{length}
use borrow.Author.Tests.{le-ltb}
use Rattle.bits.specs.Bits.{pick}
use Rattle.bits.specs.Refusals.{Answer, value, refused, refuse, and_then, number}
use Rattle.bits.proofs.Flags.{pick_elim, pick-alike}
use Rattle.vbv.specs.Annex.{first_arrived}
use Rattle.vbv.specs.Model.{params_fit_at}
use Rattle.vbv.specs.declared.VbvParams.{VbvParams}
use Rattle.scan.specs.Pictures.{pictures}
use Rattle.pictures.specs.Front.{Front, front}
use Rattle.pictures.specs.Due as fr
use Rattle.pictures.specs.Due.{FrontDue}
use Rattle.pictures.specs.Cadence.{cadence_of}
use Rattle.pictures.specs.declared.VbvStandard.{VbvStandard}
use Rattle.cadence.specs.declared.VbvCadence.{VbvCadence}
use Rattle.pictures.specs.declared.SeenPicture.{SeenPicture}
use Rattle.pictures.proofs.Due.{front_due}
use Rattle.pictures.proofs.Order.{seen_length}
use Rattle.verify.specs.declared.VbvMode.{VbvMode}
use Rattle.verify.specs.declared.CodedPicture.{CodedPicture}
use Rattle.verify.specs.declared.VbvPictureRecord.{VbvPictureRecord}
use Rattle.verify.specs.Coded.{timed}
use Rattle.verify.specs.Run.{run}
use Rattle.verify.specs.Check.{Accepted, accepted, modelled, with_pictures, verdict_by, verdict}
use Rattle.verify.specs.Accepted.{Along, none, more}
use Rattle.verify.proofs.Rising.{timed-length}
use Rattle.verify.proofs.Delays.{rate_number, other_rate, pictures_are}
use Rattle.verify.proofs.Accepted.{passed}

-- ---- after the front

-- where no places are asked
abbrev pub unplaced : Bool → VbvParams → SeenPicture → List CodedPicture → Answer Accepted
unplaced v p x cs =
    refuse (rate_number v) (other_rate v x cs)
    (refuse 12 (not (params_fit_at v p))
    (and_then (run v p 0 0 (first_arrived v p x.pos_bits x.vbv_delay) cs) (accepted p)))

placed : (v : Bool) (places : ℕ) (p : VbvParams) (x : SeenPicture) (cs : List CodedPicture) → length cs ≤ places → with_pictures v places p x cs ≡ unplaced v p x cs
unfolding modelled pick
placed v places p x cs l = rw (pictures_are v places p x cs, le-ltb places (length cs) l)

-- what holds of that answer and of 15 holds given any places
pub placed-or_15 : (P : Answer Accepted → Type 0) (v : Bool) (places : ℕ) (p : VbvParams) (x : SeenPicture) (cs : List CodedPicture) → P (refused 15 0 0 0) → P (unplaced v p x cs)
    → P (with_pictures v places p x cs)
unfolding modelled
placed-or_15 P v places p x cs few =
    rw (pictures_are v places p x cs)
    (pick-alike (λ a b. P b → P a) _ (λ h. h) λ e.
    pick-alike (λ a b. P b → P a) _ (λ h. h) λ e.
    pick_elim (λ a. P (and_then (run v p 0 0 (first_arrived v p x.pos_bits x.vbv_delay) cs) (accepted p)) → P a) _ (λ e h. few) (λ e h. h))

-- ---- a stream

module _ (standard : VbvStandard) (v : Bool) (k : VbvCadence) (s : List ℕ) where
  -- by what the front answers
  abbrev asked : ℕ → Answer Front → Answer Accepted
  asked places a = and_then a (λ f. with_pictures v places f.params f.first (timed k (f.first ∷ f.others)))

  abbrev pub unasked : Answer Front → Answer Accepted
  unasked a = and_then a (λ f. unplaced v f.params f.first (timed k (f.first ∷ f.others)))

  all_placed : (places : ℕ) → length (pictures s) ≤ places → (a : Answer Front) → FrontDue standard s a → asked places a ≡ unasked a
  all_placed places l (refused n c i j) d = refl
  all_placed places l (value f) (fr.all_read {p} {x} {xs} r) =
      placed v places p x (timed k (x ∷ xs)) (omega (arith, timed-length k (x ∷ xs), seen_length standard s (x ∷ xs) r.pictures_are))

  pub none-asked : (places : ℕ) → length (pictures s) ≤ places → verdict_by standard v k s places ≡ unasked (front standard s)
  unfolding verdict_by
  none-asked places l = all_placed places l (front standard s) (front_due standard s)

  not_15 : (places : ℕ) (a : Answer Front) → (number (asked places a) ≡ 15 → ⊥) → asked places a ≡ unasked a
  not_15 places (refused n c i j) h = refl
  not_15 places (value f) h =
      placed-or_15 (λ a. (number a ≡ 15 → ⊥) → a ≡ unasked (value f)) v places f.params f.first (timed k (f.first ∷ f.others)) (λ n. absurd (n refl)) (λ n. refl) h

  enough_by : (places : ℕ) → length (pictures s) ≤ places → verdict_by standard v k s places ≡ verdict_by standard v k s (length (pictures s))
  enough_by places l = none-asked places l ∙ sym (none-asked (length (pictures s)) (omega arith))

  other_by : (places : ℕ) → (number (verdict_by standard v k s places) ≡ 15 → ⊥) → verdict_by standard v k s places ≡ verdict_by standard v k s (length (pictures s))
  unfolding verdict_by
  other_by places h = not_15 places (front standard s) h ∙ sym (none-asked (length (pictures s)) (omega arith))

along_length : {v : Bool} {p : VbvParams} {Each : ℕ → ℕ → CodedPicture → VbvPictureRecord → Type 0} {previous d : ℕ} {cs : List CodedPicture} {rs : List VbvPictureRecord}
    → Along v p Each previous d cs rs → length rs ≡ length cs
along_length none = refl
along_length (more h t) = ap suc (along_length t)

-- ---- in a mode

module _ (m : VbvMode) (s : List ℕ) where
  pub enough-places : (places : ℕ) → length (pictures s) ≤ places → verdict m s places ≡ verdict m s (length (pictures s))
  unfolding verdict
  enough-places places l = rw (enough_by m.standard m.variable (cadence_of m.film s) s places l)

  pub other_than_15 : (places : ℕ) → (number (verdict m s places) ≡ 15 → ⊥) → verdict m s places ≡ verdict m s (length (pictures s))
  unfolding verdict
  other_than_15 places =
      pick-alike (λ a b. (number a ≡ 15 → ⊥) → a ≡ b) _ (λ h. refl) λ e.
      other_by m.standard m.variable (cadence_of m.film s) s places

  -- a stream that is accepted has a record for each picture, and a place for each record
  pub all_recorded : (places : ℕ) {a : Accepted} → verdict m s places ≡ value a
      → (length (a.first ∷ a.others) ≡ length (pictures s)) × (length (pictures s) ≤ places)
  all_recorded places h =
      let w = passed m s places h in
      let l = seen_length m.standard s (w.first ∷ w.others) w.is_read.is_read.pictures_are in
      (along_length w.removals ∙ timed-length (cadence_of m.film s) (w.first ∷ w.others) ∙ l, omega (arith, l, w.places_suffice))
