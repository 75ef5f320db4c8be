-- The proof of `records::locals::empty`.
use Rattle.records.proofs.Edits.{empty_ends}
use Rattle.records.proofs.locals.empty.Goals as goal

pub returns : goal.returns
returns c =
    empty_ends _ _ _ c.requires c.loop-i.invariant c.loop-i-test.false
