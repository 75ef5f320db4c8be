use Rattle.beside.proofs.Laws.{some_end}
use Rattle.beside.proofs.Laws.{some_more, some_none}
use native.Mathlib.Omega.{arith}
use Rattle.beside.proofs.high_byte.Goals as goal

pub loop-i-init : goal.loop-i-init
loop-i-init c = some_none _

pub loop-i-preserved : goal.loop-i-preserved
loop-i-preserved c = some_more _ _ _ c.loop-i.invariant

pub returns : goal.returns
returns c = some_end _ _ _ _ c.loop-i.invariant (omega arith)
