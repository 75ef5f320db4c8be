-- The proof of `formula::scan::on_digit`.
use Rattle.formula.proofs.ScanLaws.{digit_over, digit_kept}
use Rattle.grammar.specs.Steps.{digit_is}
use native.Mathlib.Omega.{arith}
use Rattle.formula.proofs.scan.on_digit.Goals as goal

pub overflow_sub-c : goal.overflow_sub-c
overflow_sub-c c = (digit_is _ c.requires.1).from

pub returns-then-value-gt4294967295 : goal.returns-then-value-gt4294967295
returns-then-value-gt4294967295 c = digit_over _ _ c.requires.0 c.requires.1 (omega (arith, c.from.ensures))

pub returns : goal.returns
returns c = rw c.from.ensures (digit_kept _ _ c.requires.0 c.requires.1 (omega (arith, c.from.ensures)))
