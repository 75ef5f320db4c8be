-- The proof of `reader::entries::constant`.
use Prim.Native.Nat.{ℕ, ◌-◌}
use native.Mathlib.Omega.{arith}
use mathlib.Core.Path.{ap, ◌∙◌}
use mathlib.Core.List.{List}
use lib.Dec.{ltb}
use lib.ListN.{length, drop, length-drop}
use lib.Seq.{take_all}
use Rattle.rules.specs.Bytes.{within}
use Rattle.rules.specs.Tables.{constant_of}
use Rattle.reader.proofs.Pool.{pool_constant}
use Rattle.reader.proofs.entries.constant.Goals as goal

pub returns : goal.returns
returns c = c.pooled.ensures
    ∙ ap (λ (l : List ℕ). within (ltb c.args.k c.args.c.constants) (constant_of l c.args.k)) (take_all (length c.args.file.now - c.args.c.pool) (drop c.args.c.pool c.args.file.now) (simp length-drop (omega arith)))
    ∙ pool_constant c.args.file.now c.args.c c.requires c.args.k
