-- The proof of `control::calls::bind_arguments`.
use native.Mathlib.Omega.{arith}
use mathlib.Core.Path.{ap, ◌∙◌}
use Rattle.control.proofs.Frames.{arguments_none, arguments_more}
use Rattle.control.specs.Control.{arguments_in}
use Rattle.control.proofs.calls.bind_arguments.Goals as goal

pub loop-j-init : goal.loop-j-init
loop-j-init c = arguments_none _ _ _

pub loop-j-preserved : goal.loop-j-preserved
loop-j-preserved c = arguments_more _ _ _ _ _ c.loop-j.invariant

pub returns : goal.returns
returns c = c.loop-j.invariant ∙ ap (arguments_in _ _ _) (omega arith)
