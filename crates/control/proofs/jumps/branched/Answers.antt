-- The proof of `control::jumps::branched`.
use mathlib.Core.Path.{ap}
use Rattle.state.specs.declared.Progress.TheVariants.{Goes}
use Rattle.control.proofs.jumps.branched.Goals as goal

pub returns-then-taken : goal.returns-then-taken
returns-then-taken c = rw c.if-taken.true (ap Goes c.moved.ensures)

pub returns : goal.returns
returns c = rw c.if-taken.false (ap Goes c.moved-2.ensures)
