-- The proof of `words::signs_differ`.
use Rattle.words.proofs.Laws.{differ}
use Rattle.words.proofs.signs_differ.Goals as goal

pub returns : goal.returns
returns g c = (rw (c.negative.ensures.0, c.negative-2.ensures.0) (differ _ _), c.negative.ensures.1)
