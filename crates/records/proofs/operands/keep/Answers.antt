-- The proof of `records::operands::keep`.
use Rattle.rules.specs.Operations.{class1}
use Rattle.records.proofs.OperandLaws.{greatest_takes, one_empty, one_refused, one_keeps}
use Rattle.records.proofs.operands.keep.Goals as goal

pub returns-then-h-lt1 : goal.returns-then-h-lt1
returns-then-h-lt1 c = λ o e k. one_empty _ _ (c.requires) c.from-h.ensures o _ c.if-h-lt1.true

pub returns-then-most-st : goal.returns-then-most-st
returns-then-most-st c = λ o e k. one_refused _ _ (c.requires) c.from-h.ensures o _ c.if-h-lt1.false _ e c.if-most-st.true

pub returns : goal.returns
returns c = λ o e k. one_keeps _ _ (c.requires) c.from-h.ensures o _ c.if-h-lt1.false (greatest_takes (class1 o) _ _ e c.if-most-st.false) k
