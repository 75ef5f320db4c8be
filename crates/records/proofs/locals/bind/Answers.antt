-- The proof of `records::locals::bind`.
use Rattle.records.proofs.Edits.{binds}
use Rattle.records.proofs.locals.bind.Goals as goal

pub returns : goal.returns
returns c =
    let empty = c.empty in
    binds _ _ _ _ empty.ensures c.requires.1 c.requires.2 c.from-l.ensures
