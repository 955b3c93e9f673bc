-- Which refusals a writer's calls have, whatever its state (paper 01, 'A placed picture'), in the order of the tests; an offer's 9 names its picture.
-- Assumes nothing.
use Rattle.std.specs.Prelude.{◌≡◌, true, [], ◌∷◌}
use Rattle.bits.specs.Numbers.{Numbered}
use Rattle.rate_control.specs.Create.{create}
use Rattle.rate_control.specs.Offer.{Offer, offer, withdraw}
use Rattle.rate_control.specs.declared.CbrConfig.{CbrConfig}
use Rattle.rate_control.specs.declared.CbrWriter.{CbrWriter}

-- what is owed
pub record WriterNumbers : Type 0 where
  pub creation : (c : CbrConfig) → Numbered (12 ∷ 6 ∷ []) [] [] (create c)
  pub offers : (w : CbrWriter) (o : Offer) → Numbered (12 ∷ 17 ∷ 18 ∷ 20 ∷ 14 ∷ 7 ∷ 21 ∷ 22 ∷ 19 ∷ []) (9 ∷ []) [] (offer w o)
  -- a variable writer: 'never 7, 9 or 22' (paper 02, request 06)
  pub variable_offers : (w : CbrWriter) (o : Offer) → w.variable ≡ true → Numbered (12 ∷ 17 ∷ 18 ∷ 20 ∷ 14 ∷ 21 ∷ 19 ∷ []) [] [] (offer w o)
  pub withdrawals : (w : CbrWriter) → Numbered (12 ∷ []) [] [] (withdraw w)
