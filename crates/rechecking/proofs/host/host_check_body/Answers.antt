use Rattle.promises.specs.RecordingPromised.{host_recheck_keeps}
use Rattle.rechecking.proofs.host.host_check_body.Goals as goal

pub returns : goal.returns
returns c = host_recheck_keeps _ _ _ _ _ c.check_body-answer.ensures _ _ _ c.check_number.ensures.0 c.check_number.ensures.1
