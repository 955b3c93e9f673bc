use mathlib.Core.Path.{◌≡◌, refl}
use Prim.Native.Nat.{ℕ}
use mathlib.Core.List.{[], ◌∷◌, ◌++◌}
use lib.ListN.{get_or}
use Rattle.std.specs.Prelude.{Option, Some, None}
use Rattle.scan.specs.declared.StartCode.{StartCode}
use Rattle.searches.specs.FoundWords.{found_words, scanned_words}
use Rattle.searches.proofs.scan_code_words.Goals as goal

-- three words and one
and_one : (f : Option StartCode) (n : ℕ)
    → get_or (found_words f) 0 0 ∷ get_or (found_words f) 1 0 ∷ get_or (found_words f) 2 0 ∷ n ∷ [] ≡ found_words f ++ (n ∷ [])
unfolding found_words
and_one (Some c) n = refl
and_one None n = refl

pub returns : goal.returns
unfolding scanned_words
returns c =
    let r = c.scan_code-scanned.result in
    rw (← c.scan_code-scanned.ensures, ← and_one r.found r.looked, ← c.words_of.ensures) c.put_words.ensures
