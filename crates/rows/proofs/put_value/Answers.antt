use native.Mathlib.Omega.{arith}
use Rattle.rows.proofs.Cleared.{value_put, value_none}
use Rattle.rows.proofs.put_value.Goals as goal

pub returns-then-height-gt0 : goal.returns-then-height-gt0
returns-then-height-gt0 c = value_put c.args.out.now c.args.i c.args.p.now c.args.height _ _ c.if-height-gt0.true c.load64-v.ensures.0 c.store64.ensures

pub returns-else-height-gt0 : goal.returns-else-height-gt0
returns-else-height-gt0 c = value_none c.args.out.now c.args.i c.args.p.now c.args.height (omega arith)
