-- The proof of `records::pop`.
use Rattle.records.proofs.Edits.{popped}
use Rattle.records.proofs.pop.Goals as goal

pub returns : goal.returns
returns c =
    popped _ _ c.requires.0 c.requires.1 c.from-n.ensures
