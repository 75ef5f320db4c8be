-- The proof of `access::targets::number_of`.
use native.Mathlib.Omega.{arith}
use Rattle.access.proofs.Leading.{slot_low, cell_reached, named_slot, named_whole, named_cell, named_none}
use Rattle.std.proofs.lemmas.Result.{err_from_is_err_and}
use Rattle.access.proofs.targets.number_of.Goals as goal

pub slot_at-v-requires : goal.slot_at-v-requires
slot_at-v-requires c =
    let l = slot_low c.args.size c.args.d.now c.args.g.now c.args.cells.now c.args.table.now c.requires.heap_ready.0 c.args.n c.args.w c.in_ok-aim.aim _ c.in_ok-aim.ensures c.in-Slot.is in (omega (arith, l, c.requires.n_in_bounds.0), omega (arith, l, c.requires.n_in_bounds.1))

pub cell_at-payload-requires : goal.cell_at-payload-requires
cell_at-payload-requires c =
    cell_reached c.args.size c.args.d.now c.args.g.now c.args.cells.now c.args.table.now c.requires.heap_ready.0 c.args.n c.args.w c.in_ok-aim.aim _ _ c.in_ok-aim.ensures c.in-Cell.is

pub returns-in-Slot : goal.returns-in-Slot
returns-in-Slot c =
    λ m sh. named_slot m c.args.size c.args.d.now c.args.g.now c.args.p.now c.args.t.now c.args.cells.now c.args.table.now c.args.n c.args.w c.in_ok-aim.aim (c.in_ok-aim.ensures m sh c.args.p.now c.args.t.now) _ _ c.in-Slot.is c.slot_at-v.ensures

pub returns-in-Whole : goal.returns-in-Whole
returns-in-Whole c =
    λ m sh. named_whole m c.args.size c.args.d.now c.args.g.now c.args.p.now c.args.t.now c.args.cells.now c.args.table.now c.args.n c.args.w c.in_ok-aim.aim (c.in_ok-aim.ensures m sh c.args.p.now c.args.t.now) _ c.in-Whole.is

pub returns-in-Cell : goal.returns-in-Cell
returns-in-Cell c =
    λ m sh. named_cell m c.args.size c.args.d.now c.args.g.now c.args.p.now c.args.t.now c.args.cells.now c.args.table.now c.args.n c.args.w c.in_ok-aim.aim (c.in_ok-aim.ensures m sh c.args.p.now c.args.t.now) _ _ _ c.in-Cell.is c.cell_at-payload.ensures.0

pub returns-in_err-aim : goal.returns-in_err-aim
returns-in_err-aim c = λ m sh.
    let e = err_from_is_err_and c.from_residual.result c.from_residual.ensures.1 in
    rw (e.1, e.2) (named_none m c.args.size c.args.d.now c.args.g.now c.args.p.now c.args.t.now c.args.cells.now c.args.table.now c.args.n c.args.w _ (c.in_err-aim.ensures m sh c.args.p.now c.args.t.now))
