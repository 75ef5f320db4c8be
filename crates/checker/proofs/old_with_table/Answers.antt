-- The proof of `checker::old_with_table`.
use native.Mathlib.Omega.{arith}
use Rattle.checker.proofs.Lent.{part_long, lent_first}
use Rattle.checker.proofs.old_with_table.Goals as goal

pub translate-requires : goal.translate-requires
translate-requires g c = omega (arith, part_long _ _ c.requires.packed.0 c.requires.file_value, c.requires.packed.3)

pub with_table-requires : goal.with_table-requires
with_table-requires g c = record { packed = (c.requires.packed.0, c.requires.packed.1, c.requires.packed.2, c.requires.packed.4); size = c.requires.sizes.1; keyed = lent_first _ _ c.requires.packed.0 c.requires.packed.1 c.requires.file_value _ c.translate.ensures }
