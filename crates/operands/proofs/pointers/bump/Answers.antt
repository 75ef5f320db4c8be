-- `operands::pointers::bump` meets its contract. Assumes nothing.
use native.Mathlib.Omega.{arith}
use Rattle.operands.proofs.PointerLaws.{points, nowhere, bump_put}
use Rattle.operands.proofs.pointers.bump.Goals as goal

pub put_back-requires : goal.put_back-requires
put_back-requires g c =
    let b = points c.in-Ok.is c.find.ensures in
    (c.requires.inside, omega (arith, b.has), omega (arith, b.below, c.requires.payloads))

pub returns-in-Ok : goal.returns-in-Ok
returns-in-Ok g c =
    bump_put _ c.requires c.apply.result (points c.in-Ok.is c.find.ensures)
    c.apply.ensures c.put_back.ensures

pub returns-in-Err : goal.returns-in-Err
returns-in-Err g c = nowhere c.in-Err.is c.find.ensures _
