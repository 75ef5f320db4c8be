-- `doubles::compare` meets its contract. Assumes nothing.
use Rattle.rules.specs.Words.{order_of}
use Rattle.doubles.proofs.compare.Goals as goal

pub returns-then-x-y : goal.returns-then-x-y
unfolding order_of
returns-then-x-y c = rw c.if-x-y.true

pub returns-then-x-y-2 : goal.returns-then-x-y-2
unfolding order_of
returns-then-x-y-2 c = rw (c.if-x-y.false, c.if-x-y-2.true)

pub returns : goal.returns
unfolding order_of
returns c = rw (c.if-x-y.false, c.if-x-y-2.false)
