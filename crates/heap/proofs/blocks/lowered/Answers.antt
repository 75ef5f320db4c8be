use mathlib.Core.Logic.{inl, inr}
use mathlib.Core.Path.{refl}
use Rattle.heap.proofs.blocks.lowered.Goals as goal

pub returns-then-end-top : goal.returns-then-end-top
returns-then-end-top c = inr (refl, c.if-end-top.true)

pub returns : goal.returns
returns c = inl refl
