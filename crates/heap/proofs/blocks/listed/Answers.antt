-- The proof of `heap::blocks::listed`.
use Rattle.heap.proofs.blocks.listed.Goals as goal

pub returns-then-managed : goal.returns-then-managed
returns-then-managed c = simp c.if-managed.true
