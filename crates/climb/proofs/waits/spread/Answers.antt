use Rattle.climb.proofs.Nodes.{spread_is}
use Rattle.climb.proofs.waits.spread.Goals as goal

pub returns : goal.returns
returns c = spread_is c.args.k c.args.grounds.now _ _ _ _ c.from.ensures c.from-2.ensures c.min-low.ensures c.max-high.ensures
