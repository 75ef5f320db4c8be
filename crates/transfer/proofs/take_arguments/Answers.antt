-- The proof of `transfer::take_arguments`.
use Prim.Native.Nat.{◌-◌}
use native.Mathlib.Omega.{arith}
use mathlib.Core.Path.{sym, ◌∙◌}
use Rattle.transfer.proofs.Arguments.{left_all, left_none, left_empty, left_other, left_same}
use Rattle.transfer.proofs.take_arguments.Goals as goal

pub loop-j-init : goal.loop-j-init
loop-j-init c = (omega arith, left_all _ _ _ _ c.requires.holds)

pub bounds-st-2 : goal.bounds-st-2
bounds-st-2 c = omega (arith, c.loop-j.invariant.1.holds.long)

pub from-m-requires : goal.from-m-requires
from-m-requires c = tt

pub shape_of-st-then-m-eq0 : goal.shape_of-st-then-m-eq0
shape_of-st-then-m-eq0 c = omega (arith, c.loop-j.invariant.1.holds.long, c.requires.holds.long)

pub returns-then-m-eq0 : goal.returns-then-m-eq0
returns-then-m-eq0 c = left_empty _ _ _ _ c.loop-j.j _ c.loop-j.invariant.1 (c.loop-j.j - 1) (omega arith) _ c.from-m.ensures c.if-m-eq0.true

pub param-wanted-requires : goal.param-wanted-requires
param-wanted-requires c = record { packed = c.requires.packed.0; k_lt_functions = (c.requires.packed.1, omega (arith, c.requires.packed.2, c.loop-j.invariant.0)) }

pub overflow_add-m : goal.overflow_add-m
overflow_add-m c = omega (arith, c.from-m.ensures, c.loop-j.invariant.1.holds.few_operands)

pub bounds-st-m : goal.bounds-st-m
bounds-st-m c = omega (arith, c.from-m.ensures, c.loop-j.invariant.1.holds.few_operands, c.loop-j.invariant.1.holds.long)

pub shape_of-st-then-st-m : goal.shape_of-st-then-st-m
shape_of-st-then-st-m c = omega (arith, c.loop-j.invariant.1.holds.long, c.requires.holds.long)

pub returns-then-st-m : goal.returns-then-st-m
returns-then-st-m c = left_other _ _ _ _ c.loop-j.j _ c.loop-j.invariant.1 (c.loop-j.j - 1) (omega arith) _ c.from-m.ensures c.if-m-eq0.false (c.requires.by_index (c.loop-j.j - 1) (omega (arith, c.loop-j.invariant.0)))
    (λ q. c.if-st-m.true (q ∙ sym c.param-wanted.ensures.0))

pub pop-requires : goal.pop-requires
pop-requires c = (c.loop-j.invariant.1.holds, omega (arith, c.from-m.ensures, c.if-m-eq0.false))

pub loop-j-preserved : goal.loop-j-preserved
loop-j-preserved c = (
  omega (arith, c.loop-j.invariant.0),
  left_same _ _ _ _ c.loop-j.j _ c.loop-j.invariant.1 (c.loop-j.j - 1) (omega arith) _ c.from-m.ensures c.if-m-eq0.false (c.requires.by_index (c.loop-j.j - 1) (omega (arith, c.loop-j.invariant.0)))
      (c.if-st-m.false ∙ c.param-wanted.ensures.0) _ c.pop.ensures,
)

pub shape_of-st : goal.shape_of-st
shape_of-st c = omega (arith, c.loop-j.invariant.1.holds.long, c.requires.holds.long)

pub returns : goal.returns
returns c = left_none _ _ _ _ c.loop-j.j _ c.loop-j.invariant.1 (omega arith)
