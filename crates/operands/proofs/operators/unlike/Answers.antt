-- `operands::operators::unlike` meets its contract. Assumes nothing.
use mathlib.Core.Path.{refl}
use Rattle.operands.proofs.OperandLaws.{unlike_is}
use Rattle.operands.proofs.operators.unlike.Goals as goal

pub returns-then-a : goal.returns-then-a
returns-then-a c = λ o ne. unlike_is o _ _ _ ne (rw c.if-a.true refl)

pub returns-then-b : goal.returns-then-b
returns-then-b c =
    λ o ne. unlike_is o _ _ _ ne
    (rw (c.if-a.false, c.if-b.true) refl)

pub returns : goal.returns
returns c =
    λ o ne. unlike_is o _ _ _ ne
    (rw (c.if-a.false, c.if-b.false) refl)
