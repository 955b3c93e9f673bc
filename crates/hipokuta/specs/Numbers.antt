-- The numbers of the entries' refusals (paper 01, 'Who can cause a refusal'), each in the order of its tests: by number alone, and those that carry more.
-- Assumes nothing.
use Rattle.std.specs.Prelude.{ℕ, List, [], ◌∷◌}
use Rattle.bits.specs.Numbers.{Numbered}
use Rattle.vbv.specs.Patch.{patch_picture}
use Rattle.rate_control.specs.declared.CbrConfig.{CbrConfig}
use Rattle.hipokuta.specs.Check.{checked, report_alone}
use Rattle.hipokuta.specs.Send.{create_in, create_with, COffer, offer_in, withdraw_in}

pub record EntryNumbers : Type 0 where
  pub vbv_check : (s : List ℕ) (mode : ℕ) (report recs refusal : List ℕ)
      → Numbered (19 ∷ 12 ∷ 14 ∷ 3 ∷ 1 ∷ 2 ∷ 6 ∷ 4 ∷ 5 ∷ 25 ∷ 15 ∷ 7 ∷ 8 ∷ []) [] (11 ∷ 9 ∷ 10 ∷ []) (checked s mode report recs refusal)
  -- no 15: the places are as many as the pictures
  pub vbv_report : (s : List ℕ) (mode : ℕ) (report refusal : List ℕ)
      → Numbered (19 ∷ 12 ∷ 14 ∷ 3 ∷ 1 ∷ 2 ∷ 6 ∷ 4 ∷ 5 ∷ 25 ∷ 7 ∷ 8 ∷ []) [] (11 ∷ 9 ∷ 10 ∷ []) (report_alone s mode report refusal)
  pub vbv_patch_delay : (picture : List ℕ) → Numbered (20 ∷ []) [] [] (patch_picture picture)
  pub cbr_create : (c : CbrConfig) (place : List ℕ) → Numbered (19 ∷ 12 ∷ 6 ∷ []) [] [] (create_in c place)
  pub cbr_create_config : (config place : List ℕ) → Numbered (12 ∷ 19 ∷ 6 ∷ []) [] [] (create_with config place)
  pub cbr_offer : (s : List ℕ) (o : COffer) → Numbered (12 ∷ 19 ∷ 17 ∷ 18 ∷ 20 ∷ 14 ∷ 7 ∷ 21 ∷ 22 ∷ []) (9 ∷ []) [] (offer_in s o)
  pub cbr_withdraw : (s : List ℕ) → Numbered (12 ∷ []) [] [] (withdraw_in s)
