-- The proof of `formula::readers::completed`.
use Rattle.formula.proofs.ReaderLaws.{none_waited, one_waited}
use Rattle.formula.proofs.readers.completed.Goals as goal

pub returns-then-op-eq0 : goal.returns-then-op-eq0
returns-then-op-eq0 c = none_waited c.args.code.now c.args.c c.args.op c.if-op-eq0.true

pub returns : goal.returns
returns c = one_waited c.args.code.now _ c.args.c c.operated.result c.args.op c.if-op-eq0.false c.operated.ensures
