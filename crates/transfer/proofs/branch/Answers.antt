-- The proof of `transfer::branch`.
use native.Mathlib.Omega.{arith}
use mathlib.Core.Path.{sym}
use Rattle.transfer.proofs.Labels.{branch_nowhere, branch_empty, branch_other, branch_forks}
use Rattle.transfer.proofs.branch.Goals as goal

pub returns-in_default : goal.returns-in_default
returns-in_default c = λ o. branch_nowhere _ _ _ _ _ c.requires.holds o (sym c.in_default.ensures)

pub returns-then-n-eq0 : goal.returns-then-n-eq0
returns-then-n-eq0 c = λ o. branch_empty _ _ _ _ _ c.requires.holds o _ (sym c.in-Some.ensures) _ c.from-n.ensures c.if-n-eq0.true

pub returns-then-st-n-ne3 : goal.returns-then-st-n-ne3
returns-then-st-n-ne3 c = λ o. branch_other _ _ _ _ _ c.requires.holds o _ (sym c.in-Some.ensures) _ c.from-n.ensures c.if-n-eq0.false c.if-st-n-ne3.true

pub pop-requires : goal.pop-requires
pop-requires c = (c.requires.holds, omega (arith, c.from-n.ensures, c.if-n-eq0.false))

pub returns : goal.returns
returns c = λ o. branch_forks _ _ _ _ _ c.requires.holds o _ (sym c.in-Some.ensures) _ c.from-n.ensures c.if-n-eq0.false c.if-st-n-ne3.false _ c.pop.ensures
