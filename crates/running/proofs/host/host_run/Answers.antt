use mathlib.Core.Path.{ap}
use Rattle.rules.specs.Results.{run_answer}
use Rattle.promises.proofs.Promised.{host_run_keeps, host_run_finished}
use Rattle.running.proofs.host.host_run.Goals as goal

pub returns-in_default : goal.returns-in_default
returns-in_default c = host_run_keeps _ _ _ _ _ _ _ _ _ _ c.run-answer.ensures _ _ _ _ _ c.stop.ensures.0 c.stop.ensures.1 c.stop.ensures.2

pub returns : goal.returns
returns c = host_run_finished _ _ _ _ _ _ _ _ _ _ c.run-answer.ensures _ (ap run_answer c.in-Ok.is) _ _
