use Rattle.desk.proofs.Needing.{functions_0, functions_more, functions_all}
use native.Mathlib.Omega.{arith}
use mathlib.Core.Path.{refl, ◌∙◌}
use Prim.Native.Nat.{◌-◌}
use Rattle.desk.proofs.needs.put_functions.Goals as goal

pub loop-k-init : goal.loop-k-init
loop-k-init c = (omega arith, refl, functions_0 _ _ _)

pub put_line3-e-requires : goal.put_line3-e-requires
put_line3-e-requires c = omega (arith, c.requires.2, c.loop-k.invariant.0, c.loop-k.invariant.1, c.loop-k.invariant.2.within)

pub loop-k-preserved : goal.loop-k-preserved
loop-k-preserved c = (omega arith, c.put_line3-e.auto.out ∙ c.loop-k.invariant.1, functions_more _ _ _ _ _ _ _ _ _ _ c.load32-need.ensures.0 c.load32-frames.ensures.0 c.loop-k.invariant.2 c.put_line3-e.ensures)

pub returns : goal.returns
returns c = functions_all _ _ _ _ _ _ _ c.loop-k.invariant.0 c.loop-k-test.false c.loop-k.invariant.2
