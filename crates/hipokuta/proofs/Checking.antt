-- What the check leaves in its places, and the ways through it.
-- Assumes nothing.
use mathlib.Core.Path.{◌≡◌, refl, subst, ◌∙◌}
use Prim.Native.Nat.{ℕ, ◌/◌}
use mathlib.Core.Bool.{Bool, true, false, not, ◌||◌}
use mathlib.Core.List.{List}
use lib.Dec.{ltb}
use lib.ListN.{length}
use Rattle.bits.specs.Bits.{pick}
use Rattle.bits.specs.Answers.{over}
use Rattle.bits.specs.Refusals.{Answer, value, refused, refuse, number}
use Rattle.bits.proofs.Over.{over_none}
use Rattle.bits.specs.Refusals.{plain}
use Rattle.verify.specs.Check.{Accepted, reported, verdict, records}
use Rattle.verify.proofs.Storing.{no_records}
use Rattle.verify.specs.Layout.{record_size, records_bytes}
use Rattle.verify.specs.declared.VbvMode.{VbvMode}
use Rattle.layout.specs.Mode.{is_mode, mode_for}
use Rattle.std.specs.Prelude.{Result, Ok, Err}
use Rattle.verify.specs.declared.VbvStreamReport.{VbvStreamReport}
use Rattle.bits.specs.declared.VbvRefusal.{VbvRefusal}
use Rattle.words.specs.Words.{words_bytes, laid}
use Rattle.layout.specs.Answers.{report_size, refusal_size, refusal_words}
use Rattle.hipokuta.specs.Steps.{asked}
use Rattle.hipokuta.specs.Check.{checked, report_after, records_after, refusal_after}

-- what was asked, and the check's own answer behind it
unfoldable pub said : {X : Type 0} → Result VbvMode VbvRefusal → (VbvMode → Answer X) → Answer X
said (Ok m) k = k m
said (Err r) k = refused r.number r.picture r.coded r.expected

pub is_said : {X : Type 0} (mode : ℕ) (p f : List ℕ) (k : VbvMode → Answer X)
    → refuse 19 (ltb (length f) refusal_size || ltb (length p) report_size) (refuse 12 (not (is_mode mode)) (k (mode_for mode))) ≡ said (asked mode p f) k
unfolding asked pick said
is_said mode p f k = go (ltb (length f) refusal_size || ltb (length p) report_size) (is_mode mode)
  where
    go : (a b : Bool) → refuse 19 a (refuse 12 (not b) (k (mode_for mode))) ≡ said (pick a (Err (plain 19)) (pick b (Ok (mode_for mode)) (Err (plain 12)))) k
    go true b = refl
    go false true = refl
    go false false = refl

-- what an answer without records leaves of the places for report and refusal
abbrev pub Reported : List ℕ → List ℕ → Answer VbvStreamReport → ℕ → List ℕ → List ℕ → Type 0
Reported p f a n p' f' = (n ≡ number a) × ((p' ≡ report_after a p) × (f' ≡ refusal_after a f))

pub reported-refused : (p f : List ℕ) (r : VbvRefusal) {n : ℕ} {f' : List ℕ} → n ≡ r.number → f' ≡ laid (words_bytes (refusal_words r)) f
    → Reported p f (refused r.number r.picture r.coded r.expected) n p f'
unfolding report_after refusal_after
reported-refused p f r m w = (m, (refl, w))

-- ---- the four promises, of what was lent (report, records, refusal) and what is handed back

module _ (s : List ℕ) (mode : ℕ) (p q f : List ℕ) where
  abbrev Leaves : Answer Accepted → ℕ → List ℕ → List ℕ → List ℕ → Type 0
  Leaves c n p' q' f' = (n ≡ number c) × ((p' ≡ report_after (reported c) p) × ((q' ≡ records_after c q) × (f' ≡ refusal_after c f)))

  -- the check's answer with its records
  leaves_verdict : (v : Answer Accepted) {n : ℕ} {p' q' f' : List ℕ} → q' ≡ over (records_bytes (records v)) q → Reported p f (reported v) n p' f' → Leaves v n p' q' f'
  unfolding report_after records_after refusal_after
  leaves_verdict (value a) w t = (t.0, (t.1.0, (w, t.1.1)))
  leaves_verdict (refused i k c x) w t = (t.0, (t.1.0, (w ∙ rw no_records (over_none q), t.1.1)))

  module _ {x : Result VbvMode VbvRefusal} (e : x ≡ asked mode p f) where
    pub not_asked : (r : VbvRefusal) {n : ℕ} {f' : List ℕ} → x ≡ Err r → n ≡ r.number → f' ≡ laid (words_bytes (refusal_words r)) f → Leaves (checked s mode p q f) n p q f'
    unfolding checked said report_after records_after refusal_after
    not_asked r i m w = rw (is_said mode p f (λ v. verdict v s (length q / record_size)), ← e, i) (m, (refl, (refl, w)))

    pub in_mode : {m : VbvMode} {a : Answer VbvStreamReport} {n : ℕ} {p' q' f' : List ℕ} → x ≡ Ok m → Reported p f a n p' f'
        → a ≡ reported (verdict m s (length q / record_size)) → q' ≡ over (records_bytes (records (verdict m s (length q / record_size)))) q
        → Leaves (checked s mode p q f) n p' q' f'
    unfolding checked said
    in_mode {m = m} {n = n} {p' = p'} {f' = f'} i t b w =
        rw (is_said mode p f (λ v. verdict v s (length q / record_size)), ← e, i)
        (leaves_verdict (verdict m s (length q / record_size)) w (subst (λ y. Reported p f y n p' f') b t))
