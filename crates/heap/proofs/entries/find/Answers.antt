use Rattle.heap.proofs.Search.{falls_up, falls_down}
use Rattle.heap.proofs.Search.{none_given, bracket_start, bracket_up, bracket_down, bracket_met}
use Rattle.heap.specs.Blocks.{entry_at}
use mathlib.Core.Path.{sym, ◌∙◌}
use native.Mathlib.Omega.{arith}
use Rattle.heap.proofs.entries.find.Goals as goal

pub returns-then-next-s : goal.returns-then-next-s
returns-then-next-s c = none_given c.requires.1 c.args.s c.if-next-s.true

pub loop-lo-init : goal.loop-lo-init
loop-lo-init c = bracket_start c.requires.1 c.args.s _ _ c.if-next-s.false c.saturating_sub-lo.ensures c.min-hi.ensures

pub overflow_add-mid : goal.overflow_add-mid
overflow_add-mid c = omega (arith, c.loop-lo.invariant.high)

pub overflow_mul-mid : goal.overflow_mul-mid
overflow_mul-mid c = omega (arith, c.loop-lo.invariant.high)

pub load64-x-requires : goal.load64-x-requires
load64-x-requires c = omega (arith, c.loop-lo.invariant.high)

pub returns-then-x-s : goal.returns-then-x-s
unfolding entry_at
returns-then-x-s c = (omega (arith, c.loop-lo.invariant.high), sym c.load64-x.ensures.0 ∙ c.if-x-s.true)

pub loop-lo-smaller-then-x-s-2 : goal.loop-lo-smaller-then-x-s-2
loop-lo-smaller-then-x-s-2 c = falls_up c.loop-lo.lo c.loop-lo.hi c.loop-lo-test.true

pub loop-lo-preserved-then-x-s-2 : goal.loop-lo-preserved-then-x-s-2
unfolding entry_at
loop-lo-preserved-then-x-s-2 c = bracket_up c.requires.1 _ c.loop-lo.invariant (omega arith) (omega arith)

pub loop-lo-smaller : goal.loop-lo-smaller
loop-lo-smaller c = falls_down c.loop-lo.lo c.loop-lo.hi c.loop-lo-test.true

pub loop-lo-preserved : goal.loop-lo-preserved
unfolding entry_at
loop-lo-preserved c = bracket_down c.requires.1 _ c.loop-lo.invariant (omega arith) (omega arith)

pub returns : goal.returns
returns c = bracket_met c.loop-lo.invariant c.loop-lo-test.false
