use Rattle.climb.proofs.Laws.{few_results}
use native.Mathlib.Omega.{arith}
use Rattle.climb.proofs.Laws.{call_is}
use Rattle.climb.proofs.walk.call.Goals as goal

pub overflow_sub-under : goal.overflow_sub-under
overflow_sub-under c = omega (arith, (c.slots-g.ensures c.requires.4.1 c.requires.4.2).0, c.requires.4.3)

pub overflow_add-result-2 : goal.overflow_add-result-2
overflow_add-result-2 c = omega (arith, few_results c.requires.4.1.result, (c.slots-g.ensures c.requires.4.1 c.requires.4.2).1, c.requires.2)

pub returns : goal.returns
returns c = call_is c.args.file.now c.args.k c.args.s c.args.row.now _ _ _ c.slots-g.ensures c.note.ensures
