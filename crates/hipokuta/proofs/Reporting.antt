-- The ways through the report alone, of what was lent (report, refusal) and what is handed back.
-- Assumes nothing.
use mathlib.Core.Path.{◌≡◌, ap, subst, ◌∙◌}
use Prim.Native.Nat.{ℕ}
use mathlib.Core.List.{List}
use lib.ListN.{length}
use Rattle.bits.specs.Refusals.{Answer}
use Rattle.scan.specs.Pictures.{pictures}
use Rattle.scan.proofs.Pictures.{pictures-few}
use Rattle.verify.specs.Check.{reported, verdict}
use Rattle.verify.proofs.Places.{enough-places}
use Rattle.verify.specs.declared.VbvMode.{VbvMode}
use Rattle.verify.specs.declared.VbvStreamReport.{VbvStreamReport}
use Rattle.bits.specs.declared.VbvRefusal.{VbvRefusal}
use Rattle.words.specs.Words.{words_bytes, laid}
use Rattle.layout.specs.Answers.{refusal_words}
use Rattle.std.specs.Prelude.{Result, Ok, Err}
use Rattle.hipokuta.specs.Steps.{asked}
use Rattle.hipokuta.specs.Check.{report_alone}
use Rattle.hipokuta.proofs.Checking.{said, is_said, Reported, reported-refused}

module _ (s : List ℕ) (mode : ℕ) (p f : List ℕ) where
  -- as many places as bytes are places for all pictures
  by_bytes : (v : VbvMode) → reported (verdict v s (length s)) ≡ reported (verdict v s (length (pictures s)))
  by_bytes v = ap reported (enough-places v s (length s) (pictures-few s))

  module _ {x : Result VbvMode VbvRefusal} (e : x ≡ asked mode p f) where
    pub not_asked : (r : VbvRefusal) {n : ℕ} {f' : List ℕ} → x ≡ Err r → n ≡ r.number → f' ≡ laid (words_bytes (refusal_words r)) f → Reported p f (report_alone s mode p f) n p f'
    unfolding report_alone said
    not_asked r i m w = rw (is_said mode p f (λ v. reported (verdict v s (length (pictures s)))), ← e, i) (reported-refused p f r m w)

    pub in_mode : {m : VbvMode} {a : Answer VbvStreamReport} {n : ℕ} {p' f' : List ℕ} → x ≡ Ok m → Reported p f a n p' f' → a ≡ reported (verdict m s (length s))
        → Reported p f (report_alone s mode p f) n p' f'
    unfolding report_alone said
    in_mode {m = m} {n = n} {p' = p'} {f' = f'} i t b =
        rw (is_said mode p f (λ v. reported (verdict v s (length (pictures s)))), ← e, i)
        (subst (λ y. Reported p f y n p' f') (b ∙ by_bytes m) t)
