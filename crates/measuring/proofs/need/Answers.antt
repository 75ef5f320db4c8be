use Rattle.promises.proofs.NeedPromised.{need_keeps}
use Rattle.measuring.proofs.need.Goals as goal

pub returns : goal.returns
returns c = need_keeps _ _ _ _ _ _ c.report_needs.ensures
