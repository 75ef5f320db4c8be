-- The proof of `records::retype`.
use Rattle.records.proofs.Edits.{retyped}
use Rattle.records.proofs.retype.Goals as goal

pub returns : goal.returns
returns c =
    retyped _ _ _ c.requires.0 c.requires.1 c.requires.2 c.from-n.ensures
