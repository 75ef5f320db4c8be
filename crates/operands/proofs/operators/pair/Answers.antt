-- `operands::operators::pair` meets its contract. Assumes nothing.
use mathlib.Core.Path.{ap, ◌∙◌}
use Rattle.rules.specs.declared.Binary.TheVariants.{Arith}
use Rattle.values.specs.Values.{value_of}
use Rattle.state.proofs.Families.{two_21}
use Rattle.operands.proofs.OperandLaws.{two_raises}
use Rattle.operands.proofs.operators.pair.Goals as goal

pub returns-then-h-r : goal.returns-then-h-r
returns-then-h-r c = λ o m cap f k. two_21 cap _ _ _ f k m (Arith o) c.if-h-r.true

pub returns-then-s-u : goal.returns-then-s-u
returns-then-s-u c =
    λ o. two_raises c.requires c.if-h-r.false (Arith o) _
    (rw (← c.slot_at-s.ensures, ← c.slot_at-u.ensures) (c.unlike.ensures o c.if-s-u.true))

pub returns : goal.returns
returns c =
    record {
      has = c.if-h-r.false;
      deep = c.value_of-a.ensures ∙ ap value_of c.slot_at-s.ensures;
      top = c.value_of-b.ensures
          ∙ ap value_of c.slot_at-u.ensures;
    }
