use native.Mathlib.Omega.{arith}
use Rattle.climb.proofs.waits.best.Goals as goal

pub loop-i-init : goal.loop-i-init
loop-i-init c = (c.requires.4, omega (arith, c.requires.0, c.requires.1))

pub key-requires : goal.key-requires
key-requires c = (c.loop-i.invariant.1, c.requires.3 c.loop-i.found c.loop-i.invariant.0, c.requires.2.1)

pub returns-then-key-before : goal.returns-then-key-before
returns-then-key-before c = (c.loop-i.invariant.0, c.loop-i.invariant.1)

pub better-found-requires : goal.better-found-requires
better-found-requires c = (c.loop-i.invariant.1, omega (arith, c.requires.1), c.requires.2, c.requires.3, c.loop-i.invariant.0)

pub loop-i-preserved : goal.loop-i-preserved
loop-i-preserved c = (c.better-found.ensures.0, c.better-found.ensures.1)

pub returns : goal.returns
returns c = (c.loop-i.invariant.0, c.loop-i.invariant.1)
