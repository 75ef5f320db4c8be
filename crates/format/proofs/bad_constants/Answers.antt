-- The proof of `format::bad_constants`.
use native.Mathlib.Omega.{arith}
use mathlib.Core.Path.{refl}
use Rattle.format.proofs.Gathered.{some_none, some_more, some_end}
use Rattle.rules.specs.Tables.{bad_constants}
use Rattle.format.proofs.bad_constants.Goals as goal

pub loop-i-init : goal.loop-i-init
loop-i-init c = some_none _

pub loop-i-preserved : goal.loop-i-preserved
loop-i-preserved c = some_more _ _ _ _ c.loop-i.invariant c.bad_constant-b.ensures

pub returns : goal.returns
unfolding bad_constants
returns c = some_end _ _ _ _ _ c.loop-i.invariant (omega arith) (omega arith) refl
