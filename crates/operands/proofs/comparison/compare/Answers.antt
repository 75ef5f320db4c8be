-- `operands::comparison::compare` meets its contract. Assumes nothing.
use mathlib.Core.Path.{refl, ap, ◌∙◌}
use borrow.Author.Tests.{ne_eqb}
use Rattle.rules.specs.declared.Exception.TheVariants.{StackDifferentType}
use Rattle.rules.specs.declared.Binary.TheVariants.{Cmp}
use Rattle.values.specs.Values.{value_of}
use Rattle.state.proofs.Families.{two_21}
use Rattle.operands.proofs.OperandLaws.{two_raises, two_put, two_gives}
use Rattle.operands.proofs.comparison.compare.Goals as goal

pub returns-then-h-r : goal.returns-then-h-r
returns-then-h-r g c = λ m cap f k. two_21 cap _ _ _ f k m (Cmp _) c.if-h-r.true

pub returns-then-s-u : goal.returns-then-s-u
returns-then-s-u g c =
    two_raises c.requires c.if-h-r.false (Cmp _) StackDifferentType
    (rw (← c.slot_at-s.ensures, ← c.slot_at-u.ensures, ne_eqb _ _ c.if-s-u.true) refl)

pub returns : goal.returns
returns g c =
    two_put c.requires c.if-h-r.false (Cmp _) c.compare-x.result
    (two_gives c.requires (Cmp _) c.compare-x.result
    (record {
      has = c.if-h-r.false;
      deep = c.value_of-a.ensures ∙ ap value_of
          c.slot_at-s.ensures;
      top = c.value_of-b.ensures ∙ ap value_of c.slot_at-u.ensures;
    })
    c.compare-x.ensures) c.replaced.ensures.0 c.replaced.ensures.1
