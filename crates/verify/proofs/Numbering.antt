-- The numbers of the check's refusals, down its chain of tests.
-- Assumes nothing.
use mathlib.Core.Path.{◌≡◌, refl}
use mathlib.Core.Bool.{Bool, true, false}
use mathlib.Core.List.{List, [], ◌∷◌}
use Prim.Native.Nat.{ℕ, suc, ◌≤◌}
use lib.ListN.{length}
use Rattle.bits.specs.Refusals.{Answer, refused, and_then}
use Rattle.bits.proofs.Flags.{pick_elim}
use Rattle.vbv.specs.Annex.{arrived}
use Rattle.vbv.specs.Model.{periods}
use Rattle.bits.specs.Numbers.{one_of, Numbered, a_value, by_number, by_all}
use Rattle.vbv.specs.declared.VbvParams.{VbvParams}
use Rattle.bits.proofs.Numbering.{and_then_lem, wider}
use Rattle.scan.specs.Pictures.{pictures}
use Rattle.pictures.specs.Front.{Front, front}
use Rattle.pictures.specs.Cadence.{cadence_of}
use Rattle.pictures.specs.declared.VbvStandard.{VbvStandard}
use Rattle.pictures.specs.declared.SeenPicture.{SeenPicture}
use Rattle.pictures.proofs.Numbering.{front_numbers}
use Rattle.verify.specs.Coded.{timed}
use Rattle.verify.specs.Run.{taken_out, removal, run}
use Rattle.verify.specs.Check.{Accepted, accepted, verdict_by, verdict}
use Rattle.verify.specs.Numbers.{NumberedAt, CheckNumbers}
use Rattle.verify.specs.declared.VbvMode.{VbvMode}
use Rattle.verify.specs.declared.CodedPicture.{CodedPicture}
use Rattle.verify.specs.declared.VbvPictureRecord.{VbvPictureRecord}
use Rattle.verify.proofs.Delays.{rate_number}
use Rattle.verify.proofs.Places.{unplaced, placed-or_15, none-asked}

-- by number alone, without 15, and with all that is told
abbrev alone : Bool → List ℕ
alone true = 12 ∷ 14 ∷ 3 ∷ 1 ∷ 2 ∷ 6 ∷ 4 ∷ 25 ∷ []
alone false = 12 ∷ 14 ∷ 3 ∷ 1 ∷ 2 ∷ 6 ∷ 4 ∷ 5 ∷ 7 ∷ 8 ∷ []

abbrev full : Bool → List ℕ
full true = 10 ∷ []
full false = 11 ∷ 9 ∷ 10 ∷ []

abbrev Of : {X : Type 0} → Bool → Answer X → Type 0
Of v a = Numbered (alone v) [] (full v) a

-- ---- the run

taken_numbered : (v : Bool) (p : VbvParams) (n previous d : ℕ) (c : CodedPicture) → Of v (taken_out v p n previous d c)
unfolding taken_out
taken_numbered true p n previous d c = pick_elim (Of true) _ (λ e. by_all refl) λ e. a_value
taken_numbered false p n previous d c = pick_elim (Of false) _ (λ e. by_all refl) λ e. a_value

removal_numbered : (v : Bool) (p : VbvParams) (n previous d : ℕ) (c : CodedPicture) → Of v (removal v p n previous d c)
unfolding removal
removal_numbered true p n previous d c = taken_numbered true p n previous d c
removal_numbered false p n previous d c =
    pick_elim (Of false) _ (λ e. by_number refl) λ e.
    pick_elim (Of false) _ (λ e. by_number refl) λ e.
    pick_elim (Of false) _ (λ e. by_all refl) λ e.
    pick_elim (Of false) _ (λ e. by_all refl) λ e.
    taken_numbered false p n previous d c

run_numbered : (v : Bool) (p : VbvParams) (n previous d : ℕ) (cs : List CodedPicture) → Of v (run v p n previous d cs)
unfolding run
run_numbered v p n previous d [] = a_value
run_numbered v p n previous d (c ∷ cs) =
    and_then_lem _ (removal_numbered v p n previous d c) λ r.
    and_then_lem _ (run_numbered v p (suc n) c.end_bits (arrived v p c.end_bits d (periods c.interval)) cs) λ rs.
    a_value

-- ---- the check

-- of either rate: 12, 4, and its own number
has_12 : (v : Bool) → one_of (alone v) 12 ≡ true
has_12 true = refl
has_12 false = refl

has_4 : (v : Bool) → one_of (alone v) 4 ≡ true
has_4 true = refl
has_4 false = refl

has_own : (v : Bool) → one_of (alone v) (rate_number v) ≡ true
has_own true = refl
has_own false = refl

accepted_numbered : (v : Bool) (p : VbvParams) (rs : List VbvPictureRecord) → Of v (accepted p rs)
accepted_numbered v p [] = by_number (has_4 v)
accepted_numbered v p (r ∷ rs) = a_value

unplaced_numbered : (v : Bool) (p : VbvParams) (x : SeenPicture) (cs : List CodedPicture) → Of v (unplaced v p x cs)
unplaced_numbered v p x cs =
    pick_elim (Of v) _ (λ e. by_number (has_own v)) λ e.
    pick_elim (Of v) _ (λ e. by_number (has_12 v)) λ e.
    and_then_lem (accepted p) (run_numbered v p 0 0 _ cs) (accepted_numbered v p)

front_numbered : (v : Bool) (standard : VbvStandard) (s : List ℕ) → Of v (front standard s)
front_numbered true standard s = wider refl refl refl (front_numbers.front_has standard s)
front_numbered false standard s = wider refl refl refl (front_numbers.front_has standard s)

-- with 15
at-rate : (v : Bool) {a : Answer Accepted} → Of v a → NumberedAt v a
at-rate true h = wider refl refl refl h
at-rate false h = wider refl refl refl h

few_places : (v : Bool) → NumberedAt v (refused 15 0 0 0)
few_places true = by_number refl
few_places false = by_number refl

front-first : (v : Bool) {a : Answer Front} (next : Front → Answer Accepted) → Of v a → ((f : Front) → NumberedAt v (next f)) → NumberedAt v (and_then a next)
front-first true next h f = and_then_lem next (wider refl refl refl h) f
front-first false next h f = and_then_lem next (wider refl refl refl h) f

pub check_numbers : CheckNumbers
unfolding verdict verdict_by
check_numbers m s places =
    let v = m.variable in
    pick_elim (NumberedAt v) _ (λ e. at-rate v (by_number (has_12 v))) λ e.
    front-first v _ (front_numbered v m.standard s) λ f.
    let cs = timed (cadence_of m.film s) (f.first ∷ f.others) in
    placed-or_15 (NumberedAt v) v places f.params f.first cs (few_places v) (at-rate v (unplaced_numbered v f.params f.first cs))

-- ---- at either rate

either_rate : (v : Bool) {a : Answer Accepted} → NumberedAt v a → Numbered (12 ∷ 14 ∷ 3 ∷ 1 ∷ 2 ∷ 6 ∷ 4 ∷ 5 ∷ 25 ∷ 15 ∷ 7 ∷ 8 ∷ []) [] (11 ∷ 9 ∷ 10 ∷ []) a
either_rate true h = wider refl refl refl h
either_rate false h = wider refl refl refl h

pub all_numbers : (m : VbvMode) (s : List ℕ) (places : ℕ) → Numbered (12 ∷ 14 ∷ 3 ∷ 1 ∷ 2 ∷ 6 ∷ 4 ∷ 5 ∷ 25 ∷ 15 ∷ 7 ∷ 8 ∷ []) [] (11 ∷ 9 ∷ 10 ∷ []) (verdict m s places)
all_numbers m s places = either_rate m.variable (check_numbers m s places)

but_15 : (v : Bool) {a : Answer Accepted} → Of v a → Numbered (12 ∷ 14 ∷ 3 ∷ 1 ∷ 2 ∷ 6 ∷ 4 ∷ 5 ∷ 25 ∷ 7 ∷ 8 ∷ []) [] (11 ∷ 9 ∷ 10 ∷ []) a
but_15 true h = wider refl refl refl h
but_15 false h = wider refl refl refl h

-- no 15 where each picture has a place
pub enough_numbers : (m : VbvMode) (s : List ℕ) (places : ℕ) → length (pictures s) ≤ places
    → Numbered (12 ∷ 14 ∷ 3 ∷ 1 ∷ 2 ∷ 6 ∷ 4 ∷ 5 ∷ 25 ∷ 7 ∷ 8 ∷ []) [] (11 ∷ 9 ∷ 10 ∷ []) (verdict m s places)
unfolding verdict
enough_numbers m s places l =
    let v = m.variable in
    but_15 v
    (pick_elim (Of v) _ (λ e. by_number (has_12 v)) λ e.
    rw (none-asked m.standard v (cadence_of m.film s) s places l)
    (and_then_lem _ (front_numbered v m.standard s) λ f.
    unplaced_numbered v f.params f.first (timed (cadence_of m.film s) (f.first ∷ f.others))))
