-- A walk from code to code counts the codes.
-- Assumes nothing.
use mathlib.Core.Path.{◌≡◌, sym, ap, ◌∙◌}
use Prim.Native.Nat.{ℕ, ◌+◌, ◌≤◌}
use native.Mathlib.Omega.{arith}
use mathlib.Core.List.{List}
use lib.ListN.{length}
use Rattle.std.specs.Prelude.{Option, Some, None}
use Rattle.scan.specs.declared.StartCode.{StartCode}
use Rattle.scan.specs.Codes.{codes, codes_at, next_code}
use Rattle.scan.proofs.Search.{codes_from-zero}
use Rattle.scan.proofs.Walk.{code_seen, unseen}

-- n codes were found, and the next search begins at i
pub record Counting (s : List ℕ) (i n : ℕ) : Type 0 where
  pub count : n + length (codes_at s i) ≡ length (codes s)
  pub few : n ≤ i

pub begun : (s : List ℕ) → Counting s 0 0
begun s = record { count = omega (arith, ap length (codes_from-zero s)); few = omega arith }

module _ {s : List ℕ} {i n : ℕ} {f : Option StartCode} (v : Counting s i n) (e : f ≡ next_code s i) where
  pub one_more : {c : StartCode} → f ≡ Some c → Counting s (c.offset + 4) (n + 1)
  one_more q =
      let m = code_seen s i _ (sym e ∙ q) in
      record { count = omega (arith, v.count, ap length m.list); few = omega (arith, v.few, m.from) }

  pub all_found : f ≡ None → n ≡ length (codes s)
  all_found q =
      let l : length (codes_at s i) ≡ 0 = ap length (unseen s i (sym e ∙ q)) in
      omega (arith, v.count, l)
