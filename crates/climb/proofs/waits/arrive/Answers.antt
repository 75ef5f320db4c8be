use native.Mathlib.Omega.{arith}
use Rattle.climb.proofs.Nodes.{arrived_first, arrived_again, arrive_stays, arrive_raises}
use Rattle.climb.proofs.waits.arrive.Goals as goal

pub returns-then-mark-eq0 : goal.returns-then-mark-eq0
returns-then-mark-eq0 c = arrived_first c.args.k c.args.ground_level c.args.marks.now c.args.grounds.now c.requires.0 c.requires.2 _ _ c.if-mark-eq0.true c.wait.ensures.0 c.wait.ensures.1

pub returns-then-ground_level-from : goal.returns-then-ground_level-from
returns-then-ground_level-from c = arrive_stays c.args.k c.args.ground_level c.args.marks.now c.args.grounds.now c.requires.0 c.requires.2 (omega (arith, c.if-mark-eq0.false)) (omega (arith, c.if-ground_level-from.true, c.from.ensures))

pub returns-then-mark-eq1 : goal.returns-then-mark-eq1
returns-then-mark-eq1 c = arrive_raises c.args.k c.args.ground_level c.args.marks.now c.args.grounds.now c.requires.0 c.requires.2 c.if-mark-eq1.true (omega (arith, c.if-ground_level-from.false, c.from.ensures))

pub returns : goal.returns
returns c = arrived_again c.args.k c.args.ground_level c.args.marks.now c.args.grounds.now c.requires.0 c.requires.2 _ _ (omega (arith, c.if-ground_level-from.false, c.from.ensures)) c.wait-2.ensures.0 c.wait-2.ensures.1
