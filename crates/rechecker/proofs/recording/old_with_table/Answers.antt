-- The proof of `rechecker::recording::old_with_table`.
use Rattle.checker.proofs.Lent.{part_long, lent_first}
use native.Mathlib.Omega.{arith}
use Rattle.rechecker.proofs.recording.old_with_table.Goals as goal

pub translate-requires : goal.translate-requires
translate-requires g c = omega (arith, part_long _ _ c.requires.recordable.0.packed c.requires.file_value, c.requires.recordable.1)

pub with_table-requires : goal.with_table-requires
with_table-requires g c = record { recordable = (c.requires.recordable.0, c.requires.recordable.2); size = c.requires.sizes.1; keyed = lent_first _ _ c.requires.recordable.0.packed c.requires.recordable.0.readable c.requires.file_value _ c.translate.ensures }
