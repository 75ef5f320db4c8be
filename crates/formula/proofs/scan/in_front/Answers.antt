-- The proof of `formula::scan::in_front`.
use Rattle.formula.proofs.ScanLaws.{front_name, front_open, front_on, front_none}
use mathlib.Core.Path.{sym, ◌∙◌}
use native.Mathlib.Omega.{arith}
use Rattle.formula.proofs.scan.in_front.Goals as goal

pub returns-then-is_name : goal.returns-then-is_name
returns-then-is_name c = front_name _ _ c.requires.0 c.requires.1 c.requires.2 (sym c.is_name.ensures ∙ c.if-is_name.true)

pub returns-then-c-eq40 : goal.returns-then-c-eq40
returns-then-c-eq40 c = front_open _ _ c.requires.0 c.requires.1 c.requires.2 c.if-c-eq40.true _ (omega (arith, c.max.ensures))

pub returns-then-c : goal.returns-then-c
returns-then-c c = front_on _ _ c.requires.0 c.requires.1 c.requires.2 (sym c.is_name.ensures ∙ c.if-is_name.false) c.if-c-eq40.false c.if-c.true

pub returns : goal.returns
returns c = front_none _ _ c.requires.0 c.requires.1 c.requires.2 (sym c.is_name.ensures ∙ c.if-is_name.false) c.if-c-eq40.false c.if-c.false
