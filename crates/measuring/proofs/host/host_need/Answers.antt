use Rattle.promises.proofs.NeedPromised.{host_need_keeps}
use Rattle.measuring.proofs.host.host_need.Goals as goal

pub returns : goal.returns
returns c = host_need_keeps _ _ _ _ _ _ c.need-answer.ensures _ _ _ _ _ c.need_number.ensures.value c.need_number.ensures.body_after c.need_number.ensures.written_after
