use Rattle.promises.specs.WritePromised.{host_write_keeps}
use Rattle.saving.proofs.host.host_write.Goals as goal

pub returns : goal.returns
returns c = host_write_keeps _ _ _ _ c.write-answer.ensures _ _ _ c.write_number.ensures.0 c.write_number.ensures.1
