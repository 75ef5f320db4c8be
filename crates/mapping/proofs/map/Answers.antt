use Rattle.promises.proofs.MapPromised.{map_keeps}
use Rattle.mapping.proofs.map.Goals as goal

pub returns : goal.returns
returns c = map_keeps _ _ _ _ _ _ _ _ _ _ _ _ _ c.map.ensures
