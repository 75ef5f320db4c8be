-- The proof of `access::targets::top_number`.
use Rattle.access.proofs.Leading.{top_short, top_names}
use Rattle.state.proofs.Families.{kind_at}
use native.Mathlib.Omega.{arith}
use Rattle.access.proofs.targets.top_number.Goals as goal

pub returns-then-h-r : goal.returns-then-h-r
returns-then-h-r c =
    λ m sh. top_short m c.args.size c.args.d.now c.args.g.now c.args.p.now c.args.t.now c.args.cells.now c.args.table.now c.args.r.floor c.args.r.height c.if-h-r.true

pub number_of-requires : goal.number_of-requires
number_of-requires c =
    record { heap_ready = (c.requires.heap_ready.0, omega (arith, c.requires.heap_ready.1), kind_at _ _ _ _ c.requires.heap_ready.2 (omega (arith, c.if-h-r.false)) c.slot_at-w.ensures); n_in_bounds = (omega (arith, c.requires.height_in_bounds.0), omega (arith, c.requires.height_in_bounds.1)) }

pub returns : goal.returns
returns c =
    λ m sh. top_names m c.args.size c.args.d.now c.args.g.now c.args.p.now c.args.t.now c.args.cells.now c.args.table.now c.args.r.floor c.args.r.height c.slot_at-w.result c.number_of.result c.if-h-r.false c.slot_at-w.ensures (c.number_of.ensures m sh)
