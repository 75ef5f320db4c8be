use mathlib.Core.Path.{refl}
use Rattle.machine.specs.Ends.{end_at_stop}
use borrow.Author.Tests.{eq-eqb, ne_eqb}
use Rattle.machine.proofs.at_end.Goals as goal

pub returns-then-f-r : goal.returns-then-f-r
unfolding end_at_stop
returns-then-f-r c = rw (eq-eqb _ _ c.if-f-r.true) refl

pub returns-else-f-r : goal.returns-else-f-r
unfolding end_at_stop
returns-else-f-r c = rw (ne_eqb _ _ c.if-f-r.false) refl
