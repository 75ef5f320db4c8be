-- The proof of `runs::ended`.
use Rattle.runs.proofs.Final.{stopped, exception_some}
use mathlib.Core.Path.{refl}
use Rattle.runs.proofs.ended.Goals as goal

pub returns-in-None : goal.returns-in-None
returns-in-None c = rw c.in-None.is refl

pub returns-in-Some : goal.returns-in-Some
returns-in-Some c = rw c.in-Some.is (stopped _ _ (exception_some c.in-Some.e))
