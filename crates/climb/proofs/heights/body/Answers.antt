use mathlib.Core.Path.{sym, ◌∙◌, subst}
use Prim.Native.Nat.{ℕ}
use Rattle.rules.specs.Tables.{body_of}
use Rattle.tracks.specs.Steps.{low_ground}
use Rattle.tracks.specs.Summing.{Starts, start_stands, start_climbs, start_node, node_climbs, node_done, walked_done}
use Rattle.climb.proofs.Starting.{start_in}
use Rattle.climb.proofs.heights.body.Goals as goal

pub met-requires : goal.met-requires
met-requires c = start_in c.args.file.now c.args.c c.args.table.now c.args.owner c.requires.ready.0 _ _ (subst (λ (p : ℕ). Starts c.args.file.now (body_of c.args.owner) p c.parameters-n.result) (sym c.start-start.ensures) c.parameters-n.ensures)

pub node_at-requires : goal.node_at-requires
node_at-requires c = start_in c.args.file.now c.args.c c.args.table.now c.args.owner c.requires.ready.0 _ _ (subst (λ (p : ℕ). Starts c.args.file.now (body_of c.args.owner) p c.parameters-n.result) (sym c.start-start.ensures) c.parameters-n.ensures)

pub overflow_sub-node_at : goal.overflow_sub-node_at
overflow_sub-node_at c = (start_node c.args.file.now c.args.c c.args.table.now c.args.owner c.requires.ready.0 _ _ (subst (λ (p : ℕ). Starts c.args.file.now (body_of c.args.owner) p c.parameters-n.result) (sym c.start-start.ensures) c.parameters-n.ensures) c.args.marks.now c.args.grounds.now c.args.row.now c.requires.shown.1 _ c.node_at.ensures (c.met.ensures c.if-met.true).0 (λ z. (c.met.ensures c.if-met.true).1 (z ∙ sym c.end-end.ensures))).0

pub arrive-requires : goal.arrive-requires
arrive-requires c = ((start_node c.args.file.now c.args.c c.args.table.now c.args.owner c.requires.ready.0 _ _ (subst (λ (p : ℕ). Starts c.args.file.now (body_of c.args.owner) p c.parameters-n.result) (sym c.start-start.ensures) c.parameters-n.ensures) c.args.marks.now c.args.grounds.now c.args.row.now c.requires.shown.1 _ c.node_at.ensures (c.met.ensures c.if-met.true).0 (λ z. (c.met.ensures c.if-met.true).1 (z ∙ sym c.end-end.ensures))).1, (low_ground c.args.file.now c.args.c c.args.table.now c.args.owner c.requires.ready.0 _ _ _ _ (start_stands c.args.file.now c.args.c c.args.table.now c.args.owner c.requires.ready.0 _ _ (subst (λ (p : ℕ). Starts c.args.file.now (body_of c.args.owner) p c.parameters-n.result) (sym c.start-start.ensures) c.parameters-n.ensures))).0, (c.requires.shown.1.marked, c.requires.shown.1.grounded))

pub drain-requires : goal.drain-requires
drain-requires c = record { ready = (c.requires.ready.0, c.requires.ready.1); climbing = node_climbs c.args.file.now c.args.c c.args.table.now c.args.owner c.requires.ready.0 _ _ (subst (λ (p : ℕ). Starts c.args.file.now (body_of c.args.owner) p c.parameters-n.result) (sym c.start-start.ensures) c.parameters-n.ensures) c.args.marks.now c.args.grounds.now c.args.row.now c.requires.shown.1 _ c.node_at.ensures (c.met.ensures c.if-met.true).0 (λ z. (c.met.ensures c.if-met.true).1 (z ∙ sym c.end-end.ensures)) _ _ c.arrive.ensures; shown = c.requires.shown.0 }

pub returns-then-met : goal.returns-then-met
returns-then-met c = node_done c.args.file.now c.args.c c.args.table.now c.args.owner c.requires.ready.0 _ _ (subst (λ (p : ℕ). Starts c.args.file.now (body_of c.args.owner) p c.parameters-n.result) (sym c.start-start.ensures) c.parameters-n.ensures) c.args.marks.now c.args.grounds.now c.args.row.now c.requires.shown.1 _ c.node_at.ensures (c.met.ensures c.if-met.true).0 (λ z. (c.met.ensures c.if-met.true).1 (z ∙ sym c.end-end.ensures)) _ _ c.arrive.ensures _ _ _ _ c.drain.ensures.drained c.drain.ensures.quiet

pub walk-most-requires : goal.walk-most-requires
walk-most-requires c = record { ready = (c.requires.ready.0, c.requires.ready.1); climbing = start_climbs c.args.file.now c.args.c c.args.table.now c.args.owner c.requires.ready.0 _ _ (subst (λ (p : ℕ). Starts c.args.file.now (body_of c.args.owner) p c.parameters-n.result) (sym c.start-start.ensures) c.parameters-n.ensures) _ _ _ c.requires.shown.1; standing = start_stands c.args.file.now c.args.c c.args.table.now c.args.owner c.requires.ready.0 _ _ (subst (λ (p : ℕ). Starts c.args.file.now (body_of c.args.owner) p c.parameters-n.result) (sym c.start-start.ensures) c.parameters-n.ensures) }

pub drain-requires-2 : goal.drain-requires-2
drain-requires-2 c = record { ready = (c.requires.ready.0, c.requires.ready.1); climbing = c.walk-most.ensures.climbing; shown = c.requires.shown.0 }

pub returns : goal.returns
returns c = walked_done c.args.file.now c.args.c c.args.table.now c.args.owner c.requires.ready.0 _ _ (subst (λ (p : ℕ). Starts c.args.file.now (body_of c.args.owner) p c.parameters-n.result) (sym c.start-start.ensures) c.parameters-n.ensures) c.args.marks.now c.args.grounds.now c.args.row.now c.requires.shown.1 _ _ _ _ c.walk-most.ensures _ _ _ _ c.drain-2.ensures.drained c.drain-2.ensures.quiet
