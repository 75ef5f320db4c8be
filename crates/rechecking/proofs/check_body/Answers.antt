use Rattle.promises.specs.RecordingPromised.{recheck_keeps}
use Rattle.rechecking.proofs.check_body.Goals as goal

pub returns : goal.returns
returns c = recheck_keeps _ _ _ _ _ c.check_body.ensures
