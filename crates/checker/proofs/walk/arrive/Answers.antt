use Rattle.checker.proofs.Arrivals.{node_fits, node_arrived, node_done}
use Rattle.checker.proofs.walk.arrive.Goals as goal

pub merge-requires : goal.merge-requires
merge-requires c = let n = node_fits _ _ _ _ _ _ c.requires.working _ _ c.requires.q_bound.1 c.requires.q_bound.2 _ c.requires.standing c.requires.q_bound.0 in record { k_in_bounds = (n.0, n.1, c.requires.standing.holds.long); whole = (c.requires.working.fits.whole, n.2) }

pub returns : goal.returns
returns c = record { left = node_arrived _ _ _ _ _ _ c.requires.working _ _ c.requires.q_bound.1 c.requires.q_bound.2 _ c.requires.standing c.requires.q_bound.0 _ _ _ c.merge.ensures; marks_unchanged = node_done _ _ _ _ _ _ c.requires.working _ _ c.requires.q_bound.1 c.requires.q_bound.2 _ c.requires.standing c.requires.q_bound.0 _ _ _ c.merge.ensures }
