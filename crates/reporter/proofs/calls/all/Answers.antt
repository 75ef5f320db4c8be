use native.Mathlib.Omega.{arith}
use mathlib.Core.Path.{refl, sym, ◌∙◌}
use Rattle.rules.specs.Tables.{body_of}
use Rattle.reporter.proofs.Filling.{row_ready, row_room, row_fresh, row_low, row_long, filled_next, next_row}
use Rattle.reporter.proofs.calls.all.Goals as goal

pub loop-i-init : goal.loop-i-init
loop-i-init c = (refl, omega arith, c.requires.filled, refl)

pub row-most-requires : goal.row-most-requires
row-most-requires c = record { ready = (row_ready c.args.file.now c.args.c c.args.table.now c.args.room.now c.requires.asks.0 c.loop-i.owner c.loop-i.i c.loop-i.invariant.0 c.loop-i.invariant.1, c.requires.asks.1); i_bound = row_room c.args.file.now c.args.c c.args.table.now c.args.room.now c.requires.asks.0 c.loop-i.owner c.loop-i.i c.loop-i.invariant.0 c.loop-i.invariant.1 _ _ _ _ c.loop-i.invariant.2; shown = (c.requires.asks.0.shown, row_fresh c.args.file.now c.args.c c.args.table.now c.args.room.now c.requires.asks.0 c.loop-i.owner c.loop-i.i c.loop-i.invariant.0 c.loop-i.invariant.1 _ _ _ _ c.loop-i.invariant.2) }

pub overflow_cast-own : goal.overflow_cast-own
overflow_cast-own c = omega (arith, row_low c.args.file.now c.args.c c.args.table.now c.args.room.now c.requires.asks.0 c.loop-i.owner c.loop-i.i c.loop-i.invariant.0 c.loop-i.invariant.1 _ _ _ _ c.loop-i.invariant.2 _ _ _ _ c.row-most.ensures)

pub offset_bounds-own-i : goal.offset_bounds-own-i
offset_bounds-own-i c = omega (arith, (row_room c.args.file.now c.args.c c.args.table.now c.args.room.now c.requires.asks.0 c.loop-i.owner c.loop-i.i c.loop-i.invariant.0 c.loop-i.invariant.1 _ _ _ _ c.loop-i.invariant.2).0)

pub bounds-own-i : goal.bounds-own-i
bounds-own-i c = omega (arith, (row_room c.args.file.now c.args.c c.args.table.now c.args.room.now c.requires.asks.0 c.loop-i.owner c.loop-i.i c.loop-i.invariant.0 c.loop-i.invariant.1 _ _ _ _ c.loop-i.invariant.2).0, c.loop-i.invariant.2.owns)

pub shape_of-own-then-i-n : goal.shape_of-own-then-i-n
shape_of-own-then-i-n c = (filled_next c.args.file.now c.args.c c.args.table.now c.args.room.now c.requires.asks.0 c.loop-i.owner c.loop-i.i c.loop-i.invariant.0 c.loop-i.invariant.1 _ _ _ _ c.loop-i.invariant.2 _ _ _ _ c.row-most.ensures).owns ∙ sym c.requires.filled.owns

pub shape_of-offsets-then-i-n : goal.shape_of-offsets-then-i-n
shape_of-offsets-then-i-n c = row_long c.args.file.now (body_of c.loop-i.owner) c.loop-i.i _ _ _ _ _ _ (row_room c.args.file.now c.args.c c.args.table.now c.args.room.now c.requires.asks.0 c.loop-i.owner c.loop-i.i c.loop-i.invariant.0 c.loop-i.invariant.1 _ _ _ _ c.loop-i.invariant.2).1 c.row-most.ensures ∙ c.loop-i.invariant.3

pub shape_of-marks-then-i-n : goal.shape_of-marks-then-i-n
shape_of-marks-then-i-n c = (filled_next c.args.file.now c.args.c c.args.table.now c.args.room.now c.requires.asks.0 c.loop-i.owner c.loop-i.i c.loop-i.invariant.0 c.loop-i.invariant.1 _ _ _ _ c.loop-i.invariant.2 _ _ _ _ c.row-most.ensures).marked ∙ sym c.requires.filled.marked

pub shape_of-grounds-then-i-n : goal.shape_of-grounds-then-i-n
shape_of-grounds-then-i-n c = (filled_next c.args.file.now c.args.c c.args.table.now c.args.room.now c.requires.asks.0 c.loop-i.owner c.loop-i.i c.loop-i.invariant.0 c.loop-i.invariant.1 _ _ _ _ c.loop-i.invariant.2 _ _ _ _ c.row-most.ensures).grounded ∙ sym c.requires.filled.grounded

pub returns-then-i-n : goal.returns-then-i-n
returns-then-i-n c = λ b h. (filled_next c.args.file.now c.args.c c.args.table.now c.args.room.now c.requires.asks.0 c.loop-i.owner c.loop-i.i c.loop-i.invariant.0 c.loop-i.invariant.1 _ _ _ _ c.loop-i.invariant.2 _ _ _ _ c.row-most.ensures).rows b (omega (arith, h, c.if-i-n.true))

pub overflow_add-i : goal.overflow_add-i
overflow_add-i c = omega (arith, (row_room c.args.file.now c.args.c c.args.table.now c.args.room.now c.requires.asks.0 c.loop-i.owner c.loop-i.i c.loop-i.invariant.0 c.loop-i.invariant.1 _ _ _ _ c.loop-i.invariant.2).0)

pub loop-i-smaller : goal.loop-i-smaller
loop-i-smaller c = omega (arith, c.if-i-n.false, c.loop-i.invariant.1)

pub loop-i-preserved : goal.loop-i-preserved
loop-i-preserved c = (next_row c.args.file.now c.args.c c.args.table.now c.args.room.now c.requires.asks.0 c.loop-i.i (omega (arith, c.if-i-n.false, c.loop-i.invariant.1)), omega (arith, c.if-i-n.false, c.loop-i.invariant.1), filled_next c.args.file.now c.args.c c.args.table.now c.args.room.now c.requires.asks.0 c.loop-i.owner c.loop-i.i c.loop-i.invariant.0 c.loop-i.invariant.1 _ _ _ _ c.loop-i.invariant.2 _ _ _ _ c.row-most.ensures, row_long c.args.file.now (body_of c.loop-i.owner) c.loop-i.i _ _ _ _ _ _ (row_room c.args.file.now c.args.c c.args.table.now c.args.room.now c.requires.asks.0 c.loop-i.owner c.loop-i.i c.loop-i.invariant.0 c.loop-i.invariant.1 _ _ _ _ c.loop-i.invariant.2).1 c.row-most.ensures ∙ c.loop-i.invariant.3)
