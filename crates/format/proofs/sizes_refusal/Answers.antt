-- The proof of `format::sizes_refusal`.
use borrow.Author.Tests.{eq-eqb, ne_eqb}
use Rattle.rules.specs.Tables.{first_of}
use Rattle.format.proofs.sizes_refusal.Goals as goal

pub returns-then-total-file : goal.returns-then-total-file
unfolding first_of
returns-then-total-file c = simp (← c.word-total.ensures.0, ne_eqb _ _ c.if-total-file.true)

pub returns-then-over : goal.returns-then-over
unfolding first_of
returns-then-over c = simp (← c.over_limit-over.ensures, c.if-over.true, ← c.word-total.ensures.0, eq-eqb _ _ c.if-total-file.false)

pub returns-then-loose : goal.returns-then-loose
unfolding first_of
returns-then-loose c = simp (
  ← c.not_packed-loose.ensures,
  c.if-loose.true,
  ← c.over_limit-over.ensures,
  c.if-over.false,
  ← c.word-total.ensures.0,
  eq-eqb _ _ c.if-total-file.false,
)

pub returns : goal.returns
unfolding first_of
returns c = simp (
  ← c.not_packed-loose.ensures,
  c.if-loose.false,
  ← c.over_limit-over.ensures,
  c.if-over.false,
  ← c.word-total.ensures.0,
  eq-eqb _ _ c.if-total-file.false,
)
