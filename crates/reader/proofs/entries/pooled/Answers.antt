-- The proof of `reader::entries::pooled`.
use borrow.Author.Tests.{lt-ltb, le-ltb}
use Rattle.rules.specs.Tables.{constant_of}
use Rattle.reader.proofs.entries.pooled.Goals as goal

pub returns-then-n-k : goal.returns-then-n-k
returns-then-n-k c = simp (le-ltb _ _ c.if-n-k.true)

pub returns : goal.returns
unfolding constant_of
returns c = simp (lt-ltb _ _ c.if-n-k.false, ← c.load64-payload.ensures.0)
