-- The proof of `format::bad_structures`.
use native.Mathlib.Omega.{arith}
use mathlib.Core.Path.{refl, sym, ◌∙◌}
use Rattle.format.proofs.Gathered.{some_none, some_more, some_end, some_hit}
use Rattle.rules.specs.Tables.{bad_structure, bad_structures}
use Rattle.format.proofs.bad_structures.Goals as goal

pub loop-i-init : goal.loop-i-init
loop-i-init c = some_none _

pub returns-then-bad : goal.returns-then-bad
unfolding bad_structures
returns-then-bad c = let at-loop = c.loop-i in
    sym (some_hit (bad_structure _) _ at-loop.i (omega arith) (sym c.bad_structure-bad.ensures ∙ c.if-bad.true))

pub loop-i-preserved : goal.loop-i-preserved
loop-i-preserved c = some_more _ _ _ _ c.loop-i.invariant (sym c.if-bad.false ∙ c.bad_structure-bad.ensures)

pub returns : goal.returns
unfolding bad_structures
returns c = some_end _ _ _ _ _ c.loop-i.invariant (omega arith) (omega arith) refl
