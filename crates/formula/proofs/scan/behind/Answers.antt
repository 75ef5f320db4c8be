-- The proof of `formula::scan::behind`.
use Rattle.formula.proofs.ScanLaws.{behind_sign, behind_space, behind_none, behind_shut, behind_close}
use mathlib.Core.Path.{sym, ◌∙◌}
use Rattle.formula.proofs.scan.behind.Goals as goal

pub returns-then-is_sign : goal.returns-then-is_sign
returns-then-is_sign c = behind_sign _ _ c.requires.0 c.requires.1 c.requires.2 (sym c.is_sign.ensures ∙ c.if-is_sign.true)

pub returns-then-open-eq0 : goal.returns-then-open-eq0
returns-then-open-eq0 c = behind_shut _ _ c.requires.0 c.requires.1 c.requires.2 c.if-c-eq41.true c.if-open-eq0.true

pub returns-then-c-ne32 : goal.returns-then-c-ne32
returns-then-c-ne32 c = behind_none _ _ c.requires.0 c.requires.1 c.requires.2 (sym c.is_sign.ensures ∙ c.if-is_sign.false) c.if-c-eq41.false c.if-c-ne32.true

pub returns-else-open-eq0 : goal.returns-else-open-eq0
returns-else-open-eq0 c = behind_close _ _ c.requires.0 c.requires.1 c.requires.2 c.if-c-eq41.true c.if-open-eq0.false

pub returns-else-c-ne32 : goal.returns-else-c-ne32
returns-else-c-ne32 c = behind_space _ _ c.requires.0 c.requires.1 c.requires.2 c.if-c-ne32.false
