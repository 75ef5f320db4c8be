-- The proof of `access::pointers::tload`.
use Rattle.access.proofs.Through.{tload_stops, tload_is}
use Rattle.access.proofs.Leading.{top_at, top_nowhere, top_reach}
use native.Mathlib.Omega.{arith}
use Rattle.access.proofs.pointers.tload.Goals as goal

pub overflow_sub-r : goal.overflow_sub-r
overflow_sub-r c =
    let l = top_reach _ _ _ _ _ _ _ _ _ _ c.top_number.ensures _ _ c.in-Ok.is c.requires.heap_ready (omega (arith, c.requires.ready_on.0.1.high, c.requires.ready_on.0.1.payloads)) in omega (arith, l.0)

pub put_slot-requires : goal.put_slot-requires
put_slot-requires c =
    let l = top_reach _ _ _ _ _ _ _ _ _ _ c.top_number.ensures _ _ c.in-Ok.is c.requires.heap_ready (omega (arith, c.requires.ready_on.0.1.high, c.requires.ready_on.0.1.payloads)) in (omega (arith, l.0, c.requires.ready_on.0.1.high, c.requires.ready_on.0.1.payloads), omega (arith, l.0, c.requires.ready_on.0.1.high, c.requires.ready_on.0.1.types))

pub overflow_add-r : goal.overflow_add-r
overflow_add-r c =
    omega (arith, c.requires.ready_on.0.1.near, c.requires.ready_on.1)

pub returns-in-Ok : goal.returns-in-Ok
returns-in-Ok c =
    λ m sh f k. rw c.moved.ensures (tload_is m _ _ _ _ f _ _ _ _ _ k c.requires.heap_ready _ _ _ _ (top_at _ _ _ _ _ _ _ _ _ _ c.top_number.ensures m sh _ _ c.in-Ok.is) c.put_slot.ensures.0 c.put_slot.ensures.1 (let z = rw c.in-Ok.is at c.top_number.type_inv in omega (arith, z)))

pub returns-in-Err : goal.returns-in-Err
returns-in-Err c =
    λ m sh f k. tload_stops m _ _ _ _ f _ _ _ _ _ k c.requires.heap_ready _ (top_nowhere _ _ _ _ _ _ _ _ _ _ c.top_number.ensures m sh _ c.in-Err.is)
