-- The proof of `access::blocks::flea`.
use Rattle.access.proofs.BlockLaws.{flea_21, flea_slot, flea_cell, flea_stops, flea_38, flea_is, address_fits}
use Rattle.state.proofs.Families.{kind_at}
use Prim.Native.Nat.{◌-◌}
use native.Mathlib.Omega.{arith}
use mathlib.Core.Path.{ap, ◌∙◌}
use Rattle.std.specs.Prelude.{Ok}
use Rattle.access.proofs.blocks.flea.Goals as goal

pub returns-then-h-r : goal.returns-then-h-r
returns-then-h-r c =
    λ m sh f k. flea_21 m _ _ f _ _ k _ _ _ _ _ c.requires.heap_ready _ c.if-h-r.true

pub target_of-requires : goal.target_of-requires
target_of-requires c =
    (c.requires.heap_ready, omega (arith, c.requires.ready_on.0.1.high, c.requires.ready_on.0.1.small), kind_at _ _ _ _ c.requires.ready_on.3 (omega (arith, c.if-h-r.false)) c.slot_at-w.ensures)

pub returns-then-f-n : goal.returns-then-f-n
returns-then-f-n c =
    λ m sh f k. rw (← c.operand-n.ensures) (flea_38 m _ _ f _ _ k _ _ _ _ _ c.requires.heap_ready _ c.if-h-r.false _ c.slot_at-w.ensures c.target_of.result (c.target_of.ensures m sh _ _) _ (c.in-Ok-Whole.is ∙ ap Ok c.in-Ok-Whole.field-0-is) c.if-f-n.true)

pub overflow_mul-h : goal.overflow_mul-h
overflow_mul-h c =
    omega (arith, c.requires.ready_on.0.1.high, c.requires.ready_on.0.1.small)

pub overflow_add-w : goal.overflow_add-w
overflow_add-w c =
    omega (arith, address_fits c.args.size c.args.d.now c.args.g.now c.args.cells.now c.args.table.now (c.args.r.height - 1) c.slot_at-w.result c.target_of.result _ _ c.target_of.ensures (c.in-Ok-Whole.is ∙ ap Ok c.in-Ok-Whole.field-0-is) (omega (arith, c.slot_at-w.type_inv)) c.if-f-n.false)

pub overflow_add-w-in-Ok-Whole : goal.overflow_add-w-in-Ok-Whole
overflow_add-w-in-Ok-Whole c =
    omega (arith, address_fits c.args.size c.args.d.now c.args.g.now c.args.cells.now c.args.table.now (c.args.r.height - 1) c.slot_at-w.result c.target_of.result _ _ c.target_of.ensures (c.in-Ok-Whole.is ∙ ap Ok c.in-Ok-Whole.field-0-is) (omega (arith, c.slot_at-w.type_inv)) c.if-f-n.false)

pub store64-requires : goal.store64-requires
store64-requires c =
    omega (arith, c.if-h-r.false, c.requires.ready_on.0.1.high, c.requires.ready_on.0.1.payloads)

pub overflow_add-r-in-Ok-Whole : goal.overflow_add-r-in-Ok-Whole
overflow_add-r-in-Ok-Whole c =
    omega (arith, c.requires.ready_on.0.1.near, c.requires.ready_on.1)

pub returns-in-Ok-Slot : goal.returns-in-Ok-Slot
returns-in-Ok-Slot c =
    λ m sh f k. flea_slot m _ _ f _ _ k _ _ _ _ _ c.requires.heap_ready _ c.if-h-r.false _ c.slot_at-w.ensures c.target_of.result (c.target_of.ensures m sh _ _) _ (c.in-Ok-Slot.is ∙ ap Ok c.in-Ok-Slot.field-0-is)

pub returns-in-Ok-Cell : goal.returns-in-Ok-Cell
returns-in-Ok-Cell c =
    λ m sh f k. flea_cell m _ _ f _ _ k _ _ _ _ _ c.requires.heap_ready _ c.if-h-r.false _ c.slot_at-w.ensures c.target_of.result (c.target_of.ensures m sh _ _) _ _ (c.in-Ok-Cell.is ∙ ap Ok c.in-Ok-Cell.field-0-is)

pub returns-else-f-n : goal.returns-else-f-n
returns-else-f-n c =
    λ m sh f k. rw (c.moved.ensures, ← c.operand-n.ensures) (flea_is m _ _ f _ _ k _ _ _ _ _ c.requires.heap_ready _ c.if-h-r.false _ c.slot_at-w.ensures c.target_of.result (c.target_of.ensures m sh _ _) _ (c.in-Ok-Whole.is ∙ ap Ok c.in-Ok-Whole.field-0-is) _ c.if-f-n.false c.store64.ensures (address_fits c.args.size c.args.d.now c.args.g.now c.args.cells.now c.args.table.now (c.args.r.height - 1) c.slot_at-w.result c.target_of.result _ _ c.target_of.ensures (c.in-Ok-Whole.is ∙ ap Ok c.in-Ok-Whole.field-0-is) (omega (arith, c.slot_at-w.type_inv)) c.if-f-n.false))

pub returns-in-Err : goal.returns-in-Err
returns-in-Err c =
    λ m sh f k. flea_stops m _ _ f _ _ k _ _ _ _ _ c.requires.heap_ready _ c.if-h-r.false _ c.slot_at-w.ensures c.target_of.result (c.target_of.ensures m sh _ _) _ c.in-Err.is
