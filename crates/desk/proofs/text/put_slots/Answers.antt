-- The proof of `desk::text::put_slots`.
use Prim.Native.Nat.{◌-◌}
use mathlib.Core.Path.{refl, ◌∙◌}
use native.Mathlib.Omega.{arith}
use Rattle.desk.proofs.Texts.{slots_0, slots_more, slots_all}
use Rattle.desk.proofs.text.put_slots.Goals as goal

pub loop-i-init : goal.loop-i-init
loop-i-init c = (omega arith, refl, slots_0 _ _ _ _)

pub put_line2-e-requires : goal.put_line2-e-requires
put_line2-e-requires c = omega (arith, c.requires.2, c.loop-i.invariant.0, c.loop-i.invariant.1, c.loop-i.invariant.2.within)

pub loop-i-preserved : goal.loop-i-preserved
loop-i-preserved c = (omega arith, c.put_line2-e.auto.out ∙ c.loop-i.invariant.1, slots_more _ _ _ _ _ _ _ _ _ _ c.slot_at-v.ensures c.loop-i.invariant.2 c.put_line2-e.ensures)

pub returns : goal.returns
returns c = slots_all _ _ _ _ _ _ _ _ c.loop-i.invariant.0 c.loop-i-test.false c.loop-i.invariant.2
