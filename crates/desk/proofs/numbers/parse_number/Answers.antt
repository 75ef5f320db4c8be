-- The proof of `desk::numbers::parse_number`.
use Prim.Native.Nat.{◌-◌}
use Rattle.desk.proofs.Numerals.{spelled_none, spelled_more, too_large, no_digit, no_bytes, all_spelled}
use mathlib.Core.Path.{sym}
use native.Mathlib.Omega.{arith}
use Rattle.std.proofs.Common.{rules}
use Rattle.desk.proofs.numbers.parse_number.Goals as goal

pub returns-then-is_empty : goal.returns-then-is_empty
returns-then-is_empty c = no_bytes _ (search rules)

pub loop-x-init : goal.loop-x-init
loop-x-init c = spelled_none _

pub returns-then-c-lt48 : goal.returns-then-c-lt48
returns-then-c-lt48 c = no_digit _ _ c.loop-x-test.true (λ d. omega (arith, d.from, c.from-c.ensures, c.if-c-lt48.true))

pub returns-then-c-gt57 : goal.returns-then-c-gt57
returns-then-c-gt57 c = no_digit _ _ c.loop-x-test.true (λ d. omega (arith, d.upto, c.from-c.ensures, c.if-c-gt57.true))

pub overflow_mul-n : goal.overflow_mul-n
overflow_mul-n c = omega (arith, c.loop-x.invariant.small)

pub overflow_add-n : goal.overflow_add-n
overflow_add-n c = omega (arith, c.loop-x.invariant.small, c.if-c-gt57.false)

pub returns-then-n-gt-HIGHEST : goal.returns-then-n-gt-HIGHEST
returns-then-n-gt-HIGHEST c = too_large _ _ _ _ c.loop-x-test.true (sym c.from-c.ensures) c.if-c-lt48.false c.if-c-gt57.false c.loop-x.invariant c.if-n-gt-HIGHEST.true

pub loop-x-preserved : goal.loop-x-preserved
loop-x-preserved c = spelled_more _ _ _ _ c.loop-x-test.true (sym c.from-c.ensures) c.if-c-lt48.false c.if-c-gt57.false c.loop-x.invariant c.if-n-gt-HIGHEST.false

pub overflow_cast-result : goal.overflow_cast-result
overflow_cast-result c = omega (arith, c.loop-x.invariant.small)

pub returns : goal.returns
returns c = all_spelled _ _ _ c.loop-x-test.false (λ z. search rules) c.loop-x.invariant
