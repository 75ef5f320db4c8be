-- The proof of `checking::check`.
use Rattle.promises.proofs.Promised.{check_keeps}
use Rattle.checking.proofs.check.Goals as goal

pub returns : goal.returns
returns c = check_keeps _ _ _ _ c.check.ensures.check_is
