use native.Mathlib.Omega.{arith}
use Rattle.nodes.proofs.Copies.{compare_none, compare_more, same_bytes, other_bytes}
use Rattle.nodes.proofs.room.is_same.Goals as goal

pub loop-i-init : goal.loop-i-init
loop-i-init c = (omega arith, compare_none _ _ _)

pub loop-i-preserved : goal.loop-i-preserved
loop-i-preserved c = (omega arith, compare_more _ _ _ _ _ c.loop-i.invariant.1)

pub returns : goal.returns
returns c = record { room_value = (λ e. same_bytes _ _ _ _ (omega arith) (omega arith) (omega arith) (rw e at c.loop-i.invariant.1)); fact = (λ e. other_bytes _ _ _ _ c.loop-i.invariant.0 (rw e at c.loop-i.invariant.1)) }
