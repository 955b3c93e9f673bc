use Rattle.rate_control.proofs.Creation.{targets_fit}
use Rattle.rate_control.proofs.CbrConfig.with_rate.Goals as goal

pub fresh-requires : goal.fresh-requires
fresh-requires c = targets_fit _ _ _ _ _ _ c.params_of-params.ensures c.new_model.ensures c.in_ok-model.was c.requires
