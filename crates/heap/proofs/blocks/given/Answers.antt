use Rattle.heap.specs.Blocks.{entry_at}
use Prim.Native.Nat.{◌/◌}
use Rattle.heap.proofs.Search.{found_at}
use Rattle.heap.proofs.Made.{given_offset, given_none, given_managed, given_is}
use native.Mathlib.Omega.{arith}
use Rattle.heap.proofs.blocks.given.Goals as goal

pub returns-then-a-ne0 : goal.returns-then-a-ne0
returns-then-a-ne0 c = given_offset _ _ _ _ _ (c.requires) _ c.if-a-ne0.true

pub returns-in_err-i : goal.returns-in_err-i
returns-in_err-i c = rw c.from_residual.ensures (given_none _ _ _ _ _ c.requires _ (c.in_err-i.ensures))

pub entry_at-e-requires : goal.entry_at-e-requires
entry_at-e-requires c = let f = found_at (entry_at c.args.t.now) c.args.k.count (c.args.a / 65536) _ c.find.ensures _ c.in_ok-i.was in let s = c.requires in omega (arith, f.0, s.room_table, s.few)

pub returns-then-e-ge64 : goal.returns-then-e-ge64
returns-then-e-ge64 c = let f = found_at (entry_at c.args.t.now) c.args.k.count (c.args.a / 65536) _ c.find.ensures _ c.in_ok-i.was in
    given_managed _ _ _ _ _ (c.requires) _ _ _ f.0 f.1 c.entry_at-e.ensures c.if-e-ge64.true

pub returns : goal.returns
returns c = let f = found_at (entry_at c.args.t.now) c.args.k.count (c.args.a / 65536) _ c.find.ensures _ c.in_ok-i.was in
    (f.0, f.1, given_is _ _ _ _ _ (c.requires) _ _ _ c.if-a-ne0.false f.0 f.1 c.entry_at-e.ensures c.if-e-ge64.false)
