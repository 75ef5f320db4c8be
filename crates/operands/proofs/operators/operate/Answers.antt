-- `operands::operators::operate` meets its contract. Assumes nothing.
use native.Mathlib.Omega.{arith}
use Rattle.operands.proofs.OperandLaws.{alike, refused, two_like}
use Rattle.operands.proofs.operators.operate.Goals as goal

pub overflow_sub-r : goal.overflow_sub-r
overflow_sub-r g c =
    omega (arith, (alike c.in-Ok.is c.pair.ensures).has)

pub replaced_like-requires : goal.replaced_like-requires
replaced_like-requires g c =
    let b = alike c.in-Ok.is c.pair.ensures in
    (c.requires.inside, omega (arith, b.has, c.requires.payloads))

pub returns-in-Ok : goal.returns-in-Ok
returns-in-Ok g c =
    two_like c.requires g.O.Arithmetic.operator c.compute.result (alike c.in-Ok.is c.pair.ensures)
    c.compute.ensures c.replaced_like.ensures

pub returns-in-Err : goal.returns-in-Err
returns-in-Err g c = refused c.in-Err.is c.pair.ensures g.O.Arithmetic.operator
