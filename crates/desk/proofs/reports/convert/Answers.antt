-- The proof of `desk::reports::convert`.
use Rattle.desk.proofs.Compiling.{up_is, down_is}
use Rattle.desk.proofs.reports.convert.Goals as goal

pub returns-then-up : goal.returns-then-up
returns-then-up c = up_is _ _ _ _ _ c.if-up.true c.to_edition_4.ensures.same

pub returns : goal.returns
returns c = down_is _ _ _ _ _ c.if-up.false c.to_edition_3.ensures.same
