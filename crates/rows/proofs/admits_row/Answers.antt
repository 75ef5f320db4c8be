use Rattle.rows.proofs.Types.{low_other, low_next, low_not, low_end}
use native.Mathlib.Omega.{arith}
use mathlib.Core.Path.{refl, sym, ◌∙◌}
use Rattle.rows.proofs.admits_row.Goals as goal

pub loop-j-init : goal.loop-j-init
loop-j-init c = refl

pub returns-then-v-ge4294967296 : goal.returns-then-v-ge4294967296
returns-then-v-ge4294967296 c = sym (c.loop-j.invariant ∙ low_not _ _ c.loop-j.j (omega arith) c.if-kinds-j-eq3.true _ c.load64-v.ensures.0 c.if-v-ge4294967296.true)

pub loop-j-preserved-else-v-ge4294967296 : goal.loop-j-preserved-else-v-ge4294967296
loop-j-preserved-else-v-ge4294967296 c = c.loop-j.invariant ∙ low_next _ _ c.loop-j.j (omega arith) c.if-kinds-j-eq3.true _ c.load64-v.ensures.0 c.if-v-ge4294967296.false

pub loop-j-preserved : goal.loop-j-preserved
loop-j-preserved c = c.loop-j.invariant ∙ low_other _ _ c.loop-j.j (omega arith) c.if-kinds-j-eq3.false

pub returns : goal.returns
returns c = sym (c.loop-j.invariant ∙ low_end _ _ c.loop-j.j (omega arith))
