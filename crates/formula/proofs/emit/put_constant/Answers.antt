-- The proof of `formula::emit::put_constant`.
use Rattle.formula.proofs.EmitLaws.{constant_put}
use Rattle.rules.specs.Bytes.{written}
use lib.ListN.{take}
use mathlib.Core.List.{List}
use Prim.Native.Nat.{ℕ, ◌+◌, ◌*◌}
use mathlib.Core.Path.{ap, ◌∙◌}
use native.Mathlib.Omega.{arith}
use Rattle.formula.proofs.emit.put_constant.Goals as goal

pub returns : goal.returns
returns c = ap (λ (l : List ℕ). take (12 * c.args.k + 12) l) (c.store64.ensures ∙ ap (λ (l : List ℕ). written 8 l (12 * c.args.k + 4) c.args.v) c.store32.ensures) ∙ constant_put c.args.pool.now (12 * c.args.k) c.args.v (omega arith)
