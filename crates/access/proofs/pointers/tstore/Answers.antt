-- The proof of `access::pointers::tstore`.
use Rattle.access.proofs.Through.{tstore_21, tstore_stops, tstore_22, tstore_is}
use Rattle.access.proofs.Leading.{names_at, names_nowhere, names_reach}
use Rattle.state.proofs.Families.{kind_at}
use native.Mathlib.Omega.{arith}
use Rattle.access.proofs.pointers.tstore.Goals as goal

pub returns-then-h-r : goal.returns-then-h-r
returns-then-h-r c =
    λ m sh f k. tstore_21 m _ _ _ _ f _ _ _ _ _ k c.requires.heap_ready c.if-h-r.true

pub number_of-requires : goal.number_of-requires
number_of-requires c =
    record { heap_ready = (c.requires.heap_ready, omega (arith, c.requires.ready_on.0.1.high, c.requires.ready_on.0.1.small), kind_at _ _ _ _ c.requires.ready_on.2 (omega (arith, c.if-h-r.false)) c.slot_at-w.ensures); n_in_bounds = (omega (arith, c.requires.ready_on.0.1.high, c.requires.ready_on.0.1.payloads), omega (arith, c.requires.ready_on.0.1.high, c.requires.ready_on.0.1.types)) }

pub returns-then-v-old : goal.returns-then-v-old
returns-then-v-old c =
    λ m sh f k. tstore_22 m _ _ _ _ f _ _ _ _ _ k c.requires.heap_ready c.if-h-r.false _ _ c.slot_at-w.ensures c.slot_at-v.ensures _ _ (names_at _ _ _ _ _ _ _ _ _ _ c.number_of.ensures m sh _ _ c.in-Ok.is) c.if-v-old.true

pub put-requires : goal.put-requires
put-requires c =
    names_reach _ _ _ _ _ _ _ _ _ _ c.number_of.ensures _ _ c.in-Ok.is c.requires.heap_ready (omega (arith, c.requires.ready_on.0.1.high, c.requires.ready_on.0.1.payloads))

pub overflow_add-r-in-Ok : goal.overflow_add-r-in-Ok
overflow_add-r-in-Ok c =
    omega (arith, c.requires.ready_on.0.1.near, c.requires.ready_on.1)

pub returns-else-v-old : goal.returns-else-v-old
returns-else-v-old c =
    λ m sh f k. rw c.moved.ensures (tstore_is m _ _ _ _ f _ _ _ _ _ k c.requires.heap_ready c.if-h-r.false _ _ c.slot_at-w.ensures c.slot_at-v.ensures _ _ (names_at _ _ _ _ _ _ _ _ _ _ c.number_of.ensures m sh _ _ c.in-Ok.is) _ _ c.if-v-old.false (omega (arith, c.slot_at-v.type_inv)) c.put.ensures)

pub returns-in-Err : goal.returns-in-Err
returns-in-Err c =
    λ m sh f k. tstore_stops m _ _ _ _ f _ _ _ _ _ k c.requires.heap_ready c.if-h-r.false _ _ c.slot_at-w.ensures c.slot_at-v.ensures _ (names_nowhere _ _ _ _ _ _ _ _ _ _ c.number_of.ensures m sh _ c.in-Err.is)
