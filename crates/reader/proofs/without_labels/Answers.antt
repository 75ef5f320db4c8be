-- The proof of `reader::without_labels`.
use Rattle.reader.proofs.Bodies.{blank}
use Rattle.rules.specs.Tables.{first_of}
use Rattle.reader.proofs.without_labels.Goals as goal

pub bad_code-bad-requires : goal.bad_code-bad-requires
bad_code-bad-requires c = record { filled = c.requires; blank = blank 1 }

pub returns-then-bad : goal.returns-then-bad
unfolding first_of
returns-then-bad c = simp (← c.bad_code-bad.ensures.value, c.if-bad.true)

pub returns : goal.returns
unfolding first_of
returns c = simp (← c.bad_code-bad.ensures.value, c.if-bad.false)
