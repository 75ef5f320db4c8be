use Rattle.beside.proofs.Laws.{search_first, search_found, search_on, search_done}
use Rattle.rules.specs.AnswerTypes.{Untyped}
use Rattle.rules.specs.Recording.{answer_from}
use mathlib.Core.Path.{◌∙◌, ap, sym}
use native.Mathlib.Omega.{arith}
use Rattle.beside.proofs.first_zero.Goals as goal

pub loop-i-init : goal.loop-i-init
loop-i-init c = search_first _ _ c.requires.0

pub overflow_cast-result : goal.overflow_cast-result
overflow_cast-result c = omega (arith, c.owner_of.ensures.2)

pub returns-then-beside-i-eq0 : goal.returns-then-beside-i-eq0
returns-then-beside-i-eq0 c = ap Untyped c.owner_of.ensures.0 ∙ sym (ap answer_from (c.loop-i.invariant ∙ search_found _ _ _ (omega arith) c.if-beside-i-eq0.true))

pub loop-i-preserved : goal.loop-i-preserved
loop-i-preserved c = c.loop-i.invariant ∙ search_on _ _ _ (omega arith) c.if-beside-i-eq0.false

pub returns : goal.returns
returns c = sym (ap answer_from (c.loop-i.invariant ∙ search_done _ _ _ (omega arith) (omega arith)))
