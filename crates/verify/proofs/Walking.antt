-- The walk from picture to picture: what is still to come makes of the walk what the whole stream makes of it at the first byte.
-- Assumes nothing.
use mathlib.Core.Path.{◌≡◌, refl, sym, ap, ◌∙◌}
use Prim.Native.Nat.{ℕ, suc, ◌+◌, ◌*◌, ◌≤◌, ◌<◌}
use mathlib.Core.List.{List, [], ◌∷◌}
use native.Mathlib.Omega.{arith}
use lib.ListN.{length}
use Rattle.vbv.specs.Model.{farthest}
use Rattle.std.specs.Prelude.{Bool, true, false, None}
use Rattle.bits.specs.Refusals.{Answer, value, refused, and_then, or_else}
use Rattle.vbv.specs.declared.VbvParams.{VbvParams}
use Rattle.pictures.specs.Seen.{Sight, seen_pictures, next_seen, nothing, one}
use Rattle.pictures.specs.Front.{opening}
use Rattle.pictures.specs.Cadence.{cadence_of}
use Rattle.pictures.specs.Answers.{unread}
use Rattle.pictures.specs.declared.Unread.{Unread}
use Rattle.pictures.specs.declared.Unread.TheVariants as un
use Rattle.pictures.specs.declared.SeenPicture.{SeenPicture}
use Rattle.pictures.proofs.Seeing.{seen_from, before, seen_from_first, seen_end, seen_refused, seen_one}
use Rattle.pictures.proofs.Due.{opening-opened}
use Rattle.bits.proofs.Following.{refused-value, same_value, then_value}
use Rattle.verify.specs.Answers.{unread_error, refusal}
use Rattle.verify.specs.Coded.{timed}
use Rattle.verify.specs.Steps.{advanced_all, beginning, recorder_of, went_on, took, is_one, stepped, steps, walked_over, walked_from, walked, last_of, recorded_by, next_record}
use Rattle.verify.specs.declared.VbvMode.{VbvMode}
use Rattle.verify.specs.declared.Walked.{Walked}
use Rattle.verify.specs.declared.recorder.VbvBeginning.{VbvBeginning}
use Rattle.verify.specs.declared.recorder.VbvRecorder.{VbvRecorder}

-- the front's refusals tell the same among those of the check
pub same_refusal : {X : Type 0} (e : Unread) → ◌≡◌ {A = Answer X} (refusal (unread_error e)) (unread e)
unfolding unread_error
same_refusal (un.Parse e) = refl
same_refusal (un.Model e) = refl
same_refusal un.NoSequenceHeader = refl
same_refusal un.NoPictures = refl

-- ---- what is still to come

abbrev pub over : VbvRecorder → ℕ → Answer (List SeenPicture) → Answer Walked
over w n a = and_then a (λ xs. value (walked_over w n xs))

over-none : (w : VbvRecorder) (n : ℕ) → over w n (value []) ≡ value (record { params = w.params; pictures = n; progress = w.progress })
unfolding walked_over advanced_all timed
over-none w n = let e : n + 0 ≡ n = omega arith in rw e

over-more : (w : VbvRecorder) (n next : ℕ) (x : SeenPicture) (xs : List SeenPicture) → walked_over w n (x ∷ xs) ≡ walked_over (went_on w x next) (n + 1) xs
unfolding walked_over went_on advanced_all timed
over-more w n next x xs = let e : n + suc (length xs) ≡ n + 1 + length xs = omega arith in rw e

over-before : (w : VbvRecorder) (n next : ℕ) (x : SeenPicture) (a : Answer (List SeenPicture)) → over w n (before x a) ≡ over (went_on w x next) (n + 1) a
over-before w n next x (value xs) = rw (over-more w n next x xs)
over-before w n next x (refused m i c e) = refl

-- ---- a step

-- what it answers, and the walk after it
pub data Took (s : List ℕ) (w : VbvRecorder) : Answer Bool → VbvRecorder → Type 0 where
  one_more : {x : SeenPicture} {next : ℕ} → next_seen w.mode.standard s w.at ≡ value (one x next) → Took s w (value true) (went_on w x next)
  no_more : next_seen w.mode.standard s w.at ≡ value nothing → Took s w (value false) w
  not_read : {n k c e : ℕ} → next_seen w.mode.standard s w.at ≡ refused n k c e → Took s w (refused n k c e) w

pub step-took : (s : List ℕ) (w : VbvRecorder) → Took s w (steps s w) (stepped s w)
unfolding steps stepped took is_one
step-took s w = go (next_seen w.mode.standard s w.at) refl
  where
    go : (a : Answer Sight) → next_seen w.mode.standard s w.at ≡ a → Took s w (and_then a (λ g. value (is_one g))) (or_else w (and_then a (λ g. value (took w g))))
    go (value (one x next)) e = one_more e
    go (value nothing) e = no_more e
    go (refused n k c d) e = not_read e

module _ (s : List ℕ) (w : VbvRecorder) {new : VbvRecorder} (g : new ≡ stepped s w) where
  took-so : {a : Answer Bool} → a ≡ steps s w → Took s w a new
  took-so e = rw (e, g) (step-took s w)

  pub record-taken : value true ≡ steps s w → (new, last_of new.progress) ≡ next_record s w
  unfolding next_record recorded_by
  record-taken e = go (took-so e)
    where
      go : {v : VbvRecorder} → Took s w (value true) v → (v, last_of v.progress) ≡ next_record s w
      go (one_more h) = rw h refl

  pub none-taken : value false ≡ steps s w → (new, None) ≡ next_record s w
  unfolding next_record recorded_by
  none-taken e = go (took-so e)
    where
      go : {v : VbvRecorder} → Took s w (value false) v → (v, None) ≡ next_record s w
      go (no_more h) = rw h refl

  pub none-read : {n k c d : ℕ} → refused n k c d ≡ steps s w → (new, None) ≡ next_record s w
  unfolding next_record
  none-read {n} {k} {c} {d} e = go (took-so e)
    where
      go : {v : VbvRecorder} → Took s w (refused n k c d) v → (v, None) ≡ next_record s w
      go (not_read h) = rw h refl

-- ---- the loop

-- at w after n pictures, and at w₀ before the first
pub record Walking (m : VbvMode) (s : List ℕ) (w₀ w : VbvRecorder) (n : ℕ) : Type 0 where
  pub in_mode : w.mode ≡ m
  pub few : n ≤ w.at
  pub inside : w.at ≤ length s
  pub answer : over w n (seen_from m.standard s w.at) ≡ over w₀ 0 (seen_pictures m.standard s)

pub walking-none : (m : VbvMode) (s : List ℕ) {w : VbvRecorder} → w.mode ≡ m → w.at ≡ 0 → Walking m s w w 0
walking-none m s {w} i e = record { in_mode = i; few = omega arith; inside = omega (arith, e); answer = rw (e, seen_from_first m.standard s) }

module _ {m : VbvMode} {s : List ℕ} (short : 8 * length s ≤ farthest) {w₀ w : VbvRecorder} {n : ℕ} (h : Walking m s w₀ w n) {new : VbvRecorder} (g : new ≡ stepped s w) where
  pub walking-done : value false ≡ steps s w → value (record { params = new.params; pictures = n; progress = new.progress }) ≡ over w₀ 0 (seen_pictures m.standard s)
  walking-done e = go (took-so s w g e)
    where
      go : {v : VbvRecorder} → Took s w (value false) v → value (record { params = v.params; pictures = n; progress = v.progress }) ≡ over w₀ 0 (seen_pictures m.standard s)
      go (no_more q) = sym (over-none w n) ∙ rw (seen_end m.standard s short w.at (rw h.in_mode at q)) at h.answer

  pub walking-refused : {k p c d : ℕ} → refused k p c d ≡ steps s w → refused k p c d ≡ over w₀ 0 (seen_pictures m.standard s)
  walking-refused {k} {p} {c} {d} e = go (took-so s w g e)
    where
      go : {v : VbvRecorder} → Took s w (refused k p c d) v → refused k p c d ≡ over w₀ 0 (seen_pictures m.standard s)
      go (not_read q) = rw (seen_refused m.standard s short w.at (rw h.in_mode at q)) at h.answer

  pub walking-more : value true ≡ steps s w → Walking m s w₀ new (n + 1) × (w.at < new.at)
  unfolding went_on
  walking-more e = go (took-so s w g e)
    where
      go : {v : VbvRecorder} → Took s w (value true) v → Walking m s w₀ v (n + 1) × (w.at < v.at)
      go (one_more {x} {next} q) =
          let o = seen_one m.standard s short w.at (rw h.in_mode at q) in (
            record {
              in_mode = h.in_mode;
              few = omega (arith, o.0, h.few);
              inside = o.1;
              answer = sym (over-before w n next x (seen_from m.standard s next)) ∙ rw o.2 at h.answer;
            },
            o.0,
          )

-- ---- what the first headers declare

-- of a stream that declares p
abbrev pub beginning_of : VbvMode → List ℕ → VbvParams → VbvBeginning
beginning_of m s p = record { params = p; cadence = cadence_of m.film s }

pub beginning_is : (m : VbvMode) (s : List ℕ) {p : VbvParams} → opening m.standard s ≡ value p → beginning m s ≡ value (beginning_of m s p)
unfolding beginning
beginning_is m s e = rw e refl

pub beginning_short : (m : VbvMode) (s : List ℕ) {b : VbvBeginning} → value b ≡ beginning m s → 8 * length s ≤ farthest
unfolding beginning
beginning_short m s {b} h = go (opening m.standard s) refl h
  where
    go : (a : Answer VbvParams) → opening m.standard s ≡ a → value b ≡ and_then a (λ p. value (beginning_of m s p)) → 8 * length s ≤ farthest
    go (value p) e h = opening-opened m.standard s e
    go (refused n k c x) e h = absurd (refused-value (sym h))

pub walked_begun : (m : VbvMode) (s : List ℕ) {b : VbvBeginning} → value b ≡ beginning m s → walked_from (recorder_of m b) s ≡ walked m s
unfolding walked
walked_begun m s h = rw (← h) refl

pub walked_unbegun : (m : VbvMode) (s : List ℕ) {n k c e : ℕ} → refused n k c e ≡ beginning m s → refused n k c e ≡ walked m s
unfolding walked
walked_unbegun m s h = rw (← h) refl

-- ---- the walk at the first byte

-- before the first picture of a stream that declares p
abbrev pub first_recorder : VbvMode → List ℕ → VbvParams → VbvRecorder
first_recorder m s p = recorder_of m (beginning_of m s p)

-- the whole walk: what the opening declares, and every picture
pub walked_is : (m : VbvMode) (s : List ℕ)
    → walked m s ≡ and_then (opening m.standard s) (λ p. and_then (seen_pictures m.standard s) (λ xs. value (walked_over (first_recorder m s p) 0 xs)))
unfolding walked beginning
walked_is m s = go (opening m.standard s)
  where
    go : (a : Answer VbvParams)
        → and_then (and_then a (λ p. value (beginning_of m s p))) (λ b. walked_from (recorder_of m b) s)
        ≡ and_then a (λ p. and_then (seen_pictures m.standard s) (λ xs. value (walked_over (first_recorder m s p) 0 xs)))
    go (value p) = refl
    go (refused n k c e) = refl

-- what is so of the recorder w that the opening gives, and where it gives none
pub opened : (m : VbvMode) (s : List ℕ) {w : VbvRecorder} → value w ≡ and_then (opening m.standard s) (λ p. value (first_recorder m s p)) → (opening m.standard s ≡ value w.params) × (w ≡ first_recorder m s w.params)
opened m s h = let (p, e, f) = then_value (opening m.standard s) (sym h) in rw (← same_value f) (e, refl)

module _ (m : VbvMode) (s : List ℕ) {w : VbvRecorder} (h : value w ≡ and_then (opening m.standard s) (λ p. value (first_recorder m s p))) where
  pub opened_short : 8 * length s ≤ farthest
  opened_short = opening-opened m.standard s (opened m s h).0

  pub opened-walking : Walking m s w w 0
  opened-walking = let o = (opened m s h).1 in walking-none m s (ap (λ (x : VbvRecorder). x.mode) o) (ap (λ (x : VbvRecorder). x.at) o)

pub walked_opened : (m : VbvMode) (s : List ℕ) {w : VbvRecorder} → value w ≡ and_then (opening m.standard s) (λ p. value (first_recorder m s p)) → over w 0 (seen_pictures m.standard s) ≡ walked m s
walked_opened m s {w} h = let o = opened m s h in rw (walked_is m s, o.0, ← o.1)

pub walked_unopened : (m : VbvMode) (s : List ℕ) {n k c e : ℕ} → refused n k c e ≡ and_then (opening m.standard s) (λ p. value (first_recorder m s p)) → refused n k c e ≡ walked m s
walked_unopened m s {n} {k} {c} {e} h = rw (walked_is m s) (go (opening m.standard s) h)
  where
    go : (a : Answer VbvParams) → refused n k c e ≡ and_then a (λ p. value (first_recorder m s p))
        → refused n k c e ≡ and_then a (λ p. and_then (seen_pictures m.standard s) (λ xs. value (walked_over (first_recorder m s p) 0 xs)))
    go (value p) h = absurd (refused-value h)
    go (refused i j x y) h = ap (λ (z : Answer VbvRecorder). and_then {Y = Walked} z (λ _. refused n k c e)) h
