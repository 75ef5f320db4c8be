-- The proof of `words::modulo`.
use Rattle.std.proofs.Common.{sym, ◌∙◌, mod-eq_of_lt, lt_of_le_of_lt}
use native.Mathlib.Nat.{mod-le}
use Rattle.words.proofs.Laws.{mod_by_zero}
use Rattle.words.proofs.modulo.Goals as goal

pub returns-then-d-eq0 : goal.returns-then-d-eq0
returns-then-d-eq0 g c = sym (mod_by_zero _ _ (sym c.wide-d.ensures.0 ∙ c.if-d-eq0.true))

pub returns-else-d-eq0 : goal.returns-else-d-eq0
returns-else-d-eq0 g c =
    c.cut.ensures ∙ rw (c.wide.ensures.0, c.wide-d.ensures.0) (mod-eq_of_lt (lt_of_le_of_lt (mod-le _ _) c.wide.ensures.1))
