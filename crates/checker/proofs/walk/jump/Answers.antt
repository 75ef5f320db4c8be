use Rattle.checker.proofs.Arrivals.{label_node, place_in_table}
use native.Mathlib.Omega.{arith}
use Rattle.checker.proofs.walk.jump.Goals as goal

pub node_at-v-requires : goal.node_at-v-requires
node_at-v-requires c = place_in_table _ _ c.requires.working.readable c.requires.working.tabled _ c.requires.working.has _ c.requires.standing.stands.place

pub arrive-requires : goal.arrive-requires
arrive-requires c = let n = label_node _ _ c.requires.working.readable c.requires.working.tabled _ c.requires.working.has _ c.requires.labelled in record { working = c.requires.working; standing = c.requires.standing; q_bound = (n.0, c.node_at-v.ensures, omega (arith, c.node_at-v.ensures, n.1)) }
