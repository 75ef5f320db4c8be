-- The proof of `records::push`.
use Rattle.records.proofs.Edits.{pushed}
use Rattle.records.proofs.push.Goals as goal

pub returns : goal.returns
returns c =
    pushed _ _ _ c.requires.0 c.requires.1 c.requires.2 c.from-n.ensures
