-- The proof of `access::pointers::bump`.
use Rattle.access.proofs.Through.{bump_stops, bump_is}
use Rattle.access.proofs.Leading.{top_at, top_nowhere, top_reach, top_kind}
use native.Mathlib.Omega.{arith}
use Rattle.access.proofs.pointers.bump.Goals as goal

pub put_back-requires : goal.put_back-requires
put_back-requires g c =
    let l = top_reach _ _ _ _ _ _ _ _ _ _ c.top_number.ensures _ _ c.in-Ok.is c.requires.heap_ready (omega (arith, c.requires.ready_on.0.1.high, c.requires.ready_on.0.1.payloads)) in (c.requires.ready_on.1, omega (arith, l.0), l.1)

pub returns-in-Ok : goal.returns-in-Ok
returns-in-Ok g c =
    λ m sh f k. bump_is m _ _ _ _ f _ _ _ _ _ k c.requires.heap_ready _ _ _ (top_at _ _ _ _ _ _ _ _ _ _ c.top_number.ensures m sh _ _ c.in-Ok.is) c.apply-x.result _ _ _ (c.apply-x.ensures _ (top_kind _ _ _ _ _ _ _ _ _ _ c.top_number.ensures _ _ c.in-Ok.is c.requires.ready_on.2) c.value_of.ensures) c.put_back.ensures

pub returns-in-Err : goal.returns-in-Err
returns-in-Err g c =
    λ m sh f k. bump_stops m _ _ _ _ f _ _ _ _ _ k c.requires.heap_ready _ _ (top_nowhere _ _ _ _ _ _ _ _ _ _ c.top_number.ensures m sh _ c.in-Err.is)
