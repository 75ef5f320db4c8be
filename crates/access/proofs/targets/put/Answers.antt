-- The proof of `access::targets::put`.
use mathlib.Core.Path.{refl}
use native.Mathlib.Omega.{arith}
use Rattle.access.proofs.Leading.{stack_reached, heap_reached}
use Rattle.access.proofs.targets.put.Goals as goal

pub overflow_mul-i : goal.overflow_mul-i
overflow_mul-i c =
    omega (arith, stack_reached c.args.p.now c.args.cells.now c.in-OnStack.is c.requires)

pub store64-requires : goal.store64-requires
store64-requires c =
    stack_reached _ c.args.cells.now c.in-OnStack.is c.requires

pub put_cell-requires : goal.put_cell-requires
put_cell-requires c =
    heap_reached c.args.p.now _ c.in-InHeap.is c.requires

pub returns-in-OnStack : goal.returns-in-OnStack
returns-in-OnStack c =
    rw c.in-OnStack.is (c.store64.ensures, refl)

pub returns-in-InHeap : goal.returns-in-InHeap
returns-in-InHeap c =
    rw c.in-InHeap.is (refl, c.put_cell.ensures)
