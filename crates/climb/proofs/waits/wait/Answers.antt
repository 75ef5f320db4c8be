use Rattle.climb.proofs.Nodes.{wait_long}
use Rattle.climb.proofs.waits.wait.Goals as goal

pub shape_of-grounds : goal.shape_of-grounds
shape_of-grounds c = wait_long c.args.k c.args.ground_level c.args.grounds.now _ c.spread.ensures
