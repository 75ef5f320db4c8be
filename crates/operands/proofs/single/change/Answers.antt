-- `operands::single::change` meets its contract. Assumes nothing.
use mathlib.Core.Path.{ap, ◌∙◌}
use Rattle.values.specs.Values.{value_of}
use Rattle.state.proofs.Families.{one_21}
use Rattle.operands.proofs.OperandLaws.{one_like}
use Rattle.operands.proofs.single.change.Goals as goal

pub returns-then-h-r : goal.returns-then-h-r
returns-then-h-r g c = λ m cap f k. one_21 cap _ _ _ f k m g.C.Change.unary c.if-h-r.true

pub returns : goal.returns
returns g c =
    one_like c.requires c.if-h-r.false g.met.C.Change.keeps c.apply.result
    (c.value_of-a.ensures ∙ ap value_of c.slot_at.ensures) c.apply.ensures
    c.replaced_like.ensures
