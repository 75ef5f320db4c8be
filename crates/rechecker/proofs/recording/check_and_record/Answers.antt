-- The proof of `rechecker::recording::check_and_record`.
use Rattle.checker.proofs.Lent.{lent_file}
use Rattle.transfer.proofs.Structures.{header_long}
use mathlib.Core.Path.{sym, ◌∙◌}
use native.Mathlib.Omega.{arith}
use Rattle.rechecker.proofs.recording.check_and_record.Goals as goal

pub word-edition-requires : goal.word-edition-requires
word-edition-requires c = omega (arith, header_long _ c.requires.readable)

pub old_with_table-requires : goal.old_with_table-requires
old_with_table-requires c = record { recordable = (c.requires, omega (arith, c.if-c-lt512.true), c.if-c-lt512.true); sizes = omega arith; file_value = sym c.word-edition.ensures.0 ∙ c.if-edition-eq1.true }

pub old_with_table-requires-then-edition-eq1 : goal.old_with_table-requires-then-edition-eq1
old_with_table-requires-then-edition-eq1 c = let l = c.requires.packed.little_code in record { recordable = (c.requires, l, omega (arith, l)); sizes = omega arith; file_value = sym c.word-edition.ensures.0 ∙ c.if-edition-eq1.true }

pub with_table-requires : goal.with_table-requires
with_table-requires c = record { recordable = (c.requires, c.if-c-lt512-2.true); size = omega arith; keyed = lent_file _ _ c.requires.packed c.requires.readable (λ e. c.if-edition-eq1.false (c.word-edition.ensures.0 ∙ e)) }

pub with_table-requires-then-c-lt4096 : goal.with_table-requires-then-c-lt4096
with_table-requires-then-c-lt4096 c = record { recordable = (c.requires, c.if-c-lt4096.true); size = omega arith; keyed = lent_file _ _ c.requires.packed c.requires.readable (λ e. c.if-edition-eq1.false (c.word-edition.ensures.0 ∙ e)) }

pub with_table-requires-2 : goal.with_table-requires-2
with_table-requires-2 c = record { recordable = (c.requires, omega (arith, c.requires.packed.little_code)); size = omega arith; keyed = lent_file _ _ c.requires.packed c.requires.readable (λ e. c.if-edition-eq1.false (c.word-edition.ensures.0 ∙ e)) }
