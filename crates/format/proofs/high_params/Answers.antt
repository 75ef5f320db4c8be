-- The proof of `format::high_params`.
use native.Mathlib.Omega.{arith}
use mathlib.Core.Path.{refl}
use Rattle.format.proofs.Gathered.{some_none, some_more, some_end}
use Rattle.format.specs.Layout.{high_params}
use Rattle.format.proofs.high_params.Goals as goal

pub loop-i-init : goal.loop-i-init
loop-i-init c = some_none _

pub loop-i-preserved : goal.loop-i-preserved
loop-i-preserved c = some_more _ _ _ _ c.loop-i.invariant c.high_param-b.ensures

pub returns : goal.returns
unfolding high_params
returns c = some_end _ _ _ _ _ c.loop-i.invariant (omega arith) (omega arith) refl
