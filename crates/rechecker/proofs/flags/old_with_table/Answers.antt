-- The proof of `rechecker::flags::old_with_table`.
use Rattle.checker.proofs.Lent.{part_long, lent_first}
use native.Mathlib.Omega.{arith}
use Rattle.rechecker.proofs.flags.old_with_table.Goals as goal

pub slice_bounds-translate-count : goal.slice_bounds-translate-count
slice_bounds-translate-count g c = omega (arith, c.requires.lends.packed.whole)

pub slice_bounds-translate-start : goal.slice_bounds-translate-start
slice_bounds-translate-start g c = omega (arith, c.requires.lends.packed.whole)

pub slice_bounds-translate-end : goal.slice_bounds-translate-end
slice_bounds-translate-end g c = omega (arith, c.requires.lends.packed.whole)

pub translate-requires : goal.translate-requires
translate-requires g c = omega (arith, part_long _ _ c.requires.lends.packed c.requires.file_value, c.requires.sizes.0)

pub with_table-requires : goal.with_table-requires
with_table-requires g c = record { lends = c.requires.lends; size = (c.requires.sizes.2, c.requires.sizes.3); keyed = lent_first _ _ c.requires.lends.packed c.requires.lends.readable c.requires.file_value _ c.translate.ensures }
