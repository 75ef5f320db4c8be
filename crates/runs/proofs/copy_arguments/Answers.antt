-- The proof of `runs::copy_arguments`.
use native.Mathlib.Omega.{arith}
use mathlib.Core.Path.{◌≡◌}
use Rattle.runs.proofs.Arguments.{copied_none, copied_more}
use Rattle.runs.proofs.copy_arguments.Goals as goal

pub loop-i-init : goal.loop-i-init
loop-i-init c = copied_none _ _ _ _

pub slot_at-v-requires : goal.slot_at-v-requires
slot_at-v-requires c = (omega arith, omega arith)

pub put_slot-requires : goal.put_slot-requires
put_slot-requires c =
    (omega (arith, c.loop-i.invariant.same_payloads), omega (arith, c.loop-i.invariant.same_types))

pub loop-i-preserved : goal.loop-i-preserved
loop-i-preserved c =
    (copied_more _ _ _ _ _ _ _ _ _ c.loop-i.invariant (omega arith) (omega arith) _ c.slot_at-v.ensures (omega (arith, c.slot_at-v.type_inv)) c.put_slot.ensures.0 c.put_slot.ensures.1)

pub shape_of-p : goal.shape_of-p
shape_of-p c = c.loop-i.invariant.same_payloads

pub shape_of-t : goal.shape_of-t
shape_of-t c = c.loop-i.invariant.same_types

pub returns : goal.returns
returns c =
    let e : c.loop-i.i ≡ c.args.n = omega arith in rw e at c.loop-i.invariant
