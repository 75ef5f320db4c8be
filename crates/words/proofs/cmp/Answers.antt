-- The proof of `words::cmp`.
use Rattle.std.proofs.Common.{lt-ltb, le-ltb, eq-eqb, ne_eqb}
use Rattle.rules.specs.Words.{cmp_of, order_of}
use Rattle.words.proofs.cmp.Goals as goal

pub returns-then-y-x : goal.returns-then-y-x
unfolding cmp_of order_of
returns-then-y-x g c = rw (← c.wide-x.ensures.0, ← c.wide-y.ensures.0, lt-ltb _ _ c.if-y-x.true)

pub returns-then-x-y : goal.returns-then-x-y
unfolding cmp_of order_of
returns-then-x-y g c = rw (← c.wide-x.ensures.0, ← c.wide-y.ensures.0, le-ltb _ _ c.if-y-x.false, eq-eqb _ _ c.if-x-y.true)

pub returns : goal.returns
unfolding cmp_of order_of
returns g c = rw (← c.wide-x.ensures.0, ← c.wide-y.ensures.0, le-ltb _ _ c.if-y-x.false, ne_eqb _ _ c.if-x-y.false)
