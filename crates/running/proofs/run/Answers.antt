use Rattle.promises.proofs.Promised.{run_keeps}
use Rattle.running.proofs.run.Goals as goal

pub returns : goal.returns
returns c = run_keeps _ _ _ _ _ _ _ _ _ _ c.run.ensures
