-- The proof of `runs::takes`.
use Rattle.runs.proofs.Arguments.{suits_not, suits_int, suits_long, suits_last}
use Rattle.runs.proofs.takes.Goals as goal

pub returns-then-v-b : goal.returns-then-v-b
returns-then-v-b c = suits_not _ _ c.if-v-b.true

pub returns-then-b-eq3 : goal.returns-then-b-eq3
returns-then-b-eq3 c = suits_int _ _ c.if-v-b.false c.if-b-eq3.true

pub returns-then-b-eq4 : goal.returns-then-b-eq4
returns-then-b-eq4 c = suits_long _ _ c.if-v-b.false c.if-b-eq4.true

pub returns : goal.returns
returns c = suits_last _ _ c.if-v-b.false c.if-b-eq3.false c.if-b-eq4.false
