-- The proof of `format::bad_fields`.
use native.Mathlib.Omega.{arith}
use mathlib.Core.Path.{refl}
use Rattle.format.proofs.Gathered.{some_none, some_more, some_end}
use Rattle.format.proofs.bad_fields.Goals as goal

pub loop-j-init : goal.loop-j-init
loop-j-init c = some_none _

pub loop-j-preserved : goal.loop-j-preserved
loop-j-preserved c = some_more _ _ _ _ c.loop-j.invariant c.bad_field-b.ensures

pub returns : goal.returns
returns c = some_end _ _ 8 _ _ c.loop-j.invariant (omega arith) (omega arith) refl
