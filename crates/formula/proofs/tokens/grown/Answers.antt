-- The proof of `formula::tokens::grown`.
use Rattle.formula.specs.Tokens.{Grown}
use Prim.Native.Nat.{ℕ, ◌+◌, ◌*◌}
use mathlib.Core.Path.{sym, subst}
use Rattle.formula.proofs.TokenLaws.{grown_same, grown_more, small_digit}
use native.Mathlib.Omega.{arith}
use Rattle.formula.proofs.tokens.grown.Goals as goal

pub returns-then-v-gt4294967295 : goal.returns-then-v-gt4294967295
returns-then-v-gt4294967295 c = grown_same c.args.v c.args.c c.if-v-gt4294967295.true c.requires.0

pub overflow_sub-c : goal.overflow_sub-c
overflow_sub-c c = omega (arith, small_digit c.args.c c.requires.1)

pub returns : goal.returns
returns c = subst (λ (k : ℕ). Grown c.args.v c.args.c (10 * c.args.v + k)) (sym c.from.ensures) (grown_more c.args.v c.args.c (omega arith) c.requires.1)
