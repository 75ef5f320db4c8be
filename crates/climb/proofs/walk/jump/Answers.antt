use Rattle.climb.proofs.Laws.{node_value}
use native.Mathlib.Omega.{arith}
use mathlib.Core.Path.{◌∙◌}
use Rattle.soundness.specs.Tests.{none_some}
use Rattle.climb.proofs.Laws.{label_node, found_label, jump_is}
use Rattle.climb.proofs.walk.jump.Goals as goal

pub returns-in_default : goal.returns-in_default
returns-in_default c = λ b p e. none_some (c.in_default.ensures ∙ e)

pub node_at-v-requires : goal.node_at-v-requires
node_at-v-requires c = let is = c.in-Some.ensures in let n = label_node c.args.file.now c.args.c c.requires.packed.0 c.requires.packed.1 c.args.table.now c.requires.packed.2 c.args.k c.requires.ground_bound.2.0 c.requires.ground_bound.2.1 c.requires.ground_bound.2.2 in let z = found_label c.args.file.now c.args.c c.requires.packed.0 c.requires.packed.1 c.args.table.now c.requires.packed.2 c.args.k c.in-Some.l is c.requires.ground_bound.2.0 c.requires.ground_bound.2.1 c.requires.ground_bound.2.2 in omega (arith, n.0, z)

pub overflow_sub-v : goal.overflow_sub-v
overflow_sub-v c = let is = c.in-Some.ensures in (node_value c.args.file.now c.args.c c.requires.packed.0 c.requires.packed.1 c.args.table.now c.requires.packed.2 c.args.k c.in-Some.l is _ c.node_at-v.ensures c.requires.ground_bound.2).0

pub arrive-requires : goal.arrive-requires
arrive-requires c = let is = c.in-Some.ensures in ((node_value c.args.file.now c.args.c c.requires.packed.0 c.requires.packed.1 c.args.table.now c.requires.packed.2 c.args.k c.in-Some.l is _ c.node_at-v.ensures c.requires.ground_bound.2).1, c.requires.ground_bound.0, c.requires.ground_bound.1)

pub returns : goal.returns
returns c = let is = c.in-Some.ensures in jump_is c.args.file.now c.args.c c.requires.packed.0 c.requires.packed.1 c.args.table.now c.requires.packed.2 c.args.k c.in-Some.l is _ c.args.ground_level c.node_at-v.ensures _ _ _ _ c.arrive.ensures
