-- The proof of `formula::emit::put_wide`.
use lib.ListN.{take, length-set}
use mathlib.Core.List.{List}
use Prim.Native.Nat.{ℕ, ◌+◌}
use mathlib.Core.Path.{ap, ◌∙◌}
use Rattle.formula.proofs.EmitLaws.{wide_put}
use native.Mathlib.Omega.{arith}
use Rattle.formula.proofs.emit.put_wide.Goals as goal

pub store32-requires : goal.store32-requires
store32-requires c = simp length-set (omega arith)

pub shape_of-code : goal.shape_of-code
shape_of-code c = c.store32.auto.s ∙ length-set c.args.code.now c.args.at c.args.op

pub returns : goal.returns
returns c = ap (λ (l : List ℕ). take (c.args.at + 5) l) c.store32.ensures ∙ wide_put c.args.code.now c.args.at c.args.op c.args.w (omega arith)
