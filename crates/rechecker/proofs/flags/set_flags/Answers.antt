use Rattle.checker.proofs.Lent.{lent_file}
use Rattle.transfer.proofs.Structures.{header_long}
use mathlib.Core.Path.{sym, ◌∙◌}
use native.Mathlib.Omega.{arith}
use Rattle.rechecker.proofs.flags.set_flags.Goals as goal

pub word-edition-requires : goal.word-edition-requires
word-edition-requires c = omega (arith, header_long _ c.requires.readable)

pub old_with_table-requires : goal.old_with_table-requires
old_with_table-requires c = record { lends = c.requires; sizes = (omega (arith, c.if-c-lt512.true), omega arith, c.if-c-lt512.true, omega arith); file_value = sym c.word-edition.ensures.0 ∙ c.if-edition-eq1.true }

pub old_with_table-requires-then-edition-eq1 : goal.old_with_table-requires-then-edition-eq1
old_with_table-requires-then-edition-eq1 c = let l = c.requires.packed.little_code in record { lends = c.requires; sizes = (l, omega arith, omega (arith, l), omega arith); file_value = sym c.word-edition.ensures.0 ∙ c.if-edition-eq1.true }

pub slice_bounds-code-count : goal.slice_bounds-code-count
slice_bounds-code-count c = omega (arith, c.requires.packed.whole)

pub slice_bounds-code-start : goal.slice_bounds-code-start
slice_bounds-code-start c = omega (arith, c.requires.packed.whole)

pub slice_bounds-code-end : goal.slice_bounds-code-end
slice_bounds-code-end c = omega (arith, c.requires.packed.whole)

pub with_table-requires : goal.with_table-requires
with_table-requires c = record { lends = c.requires; size = (c.if-c-lt512-2.true, omega arith); keyed = lent_file _ _ c.requires.packed c.requires.readable (λ e. c.if-edition-eq1.false (c.word-edition.ensures.0 ∙ e)) }

pub with_table-requires-then-c-lt4096 : goal.with_table-requires-then-c-lt4096
with_table-requires-then-c-lt4096 c = record { lends = c.requires; size = (c.if-c-lt4096.true, omega arith); keyed = lent_file _ _ c.requires.packed c.requires.readable (λ e. c.if-edition-eq1.false (c.word-edition.ensures.0 ∙ e)) }

pub with_table-requires-2 : goal.with_table-requires-2
with_table-requires-2 c = record { lends = c.requires; size = (omega (arith, c.requires.packed.little_code), omega arith); keyed = lent_file _ _ c.requires.packed c.requires.readable (λ e. c.if-edition-eq1.false (c.word-edition.ensures.0 ∙ e)) }
