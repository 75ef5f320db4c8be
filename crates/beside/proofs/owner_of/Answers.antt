use Rattle.beside.proofs.Laws.{later_body}
use Rattle.beside.proofs.owner_of.Goals as goal

pub returns : goal.returns
returns c = later_body _ c.if-i-eq0.false (c.requires)
