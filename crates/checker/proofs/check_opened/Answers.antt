use native.Mathlib.Omega.{arith}
use mathlib.Core.Path.{sym, ◌∙◌}
use Rattle.transfer.proofs.Structures.{header_long}
use Rattle.checker.proofs.Lent.{lent_file}
use Rattle.checker.proofs.Verdicts.{short_check}
use Rattle.checker.proofs.check_opened.Goals as goal

pub returns-then-room-c : goal.returns-then-room-c
returns-then-room-c c = short_check _ c.requires.1 _ (omega (arith, c.if-room-c.true, c.requires.0.labels_is))

pub word-edition-requires : goal.word-edition-requires
word-edition-requires c = omega (arith, header_long _ c.requires.1)

pub old_with_table-requires : goal.old_with_table-requires
old_with_table-requires c = record { packed = (c.requires.0, c.requires.1, c.if-room-c.false, omega (arith, c.if-c-lt512.true), c.if-c-lt512.true); sizes = omega arith; file_value = sym c.word-edition.ensures.0 ∙ c.if-edition-eq1.true }

pub old_with_table-requires-then-edition-eq1 : goal.old_with_table-requires-then-edition-eq1
old_with_table-requires-then-edition-eq1 c = let l = c.requires.0.little_code in record { packed = (c.requires.0, c.requires.1, c.if-room-c.false, l, omega (arith, l)); sizes = omega arith; file_value = sym c.word-edition.ensures.0 ∙ c.if-edition-eq1.true }

pub slice_bounds-code-count : goal.slice_bounds-code-count
slice_bounds-code-count c = omega (arith, c.requires.0.whole)

pub slice_bounds-code-start : goal.slice_bounds-code-start
slice_bounds-code-start c = omega (arith, c.requires.0.whole)

pub slice_bounds-code-end : goal.slice_bounds-code-end
slice_bounds-code-end c = omega (arith, c.requires.0.whole)

pub with_table-requires : goal.with_table-requires
with_table-requires c = record { packed = (c.requires.0, c.requires.1, c.if-room-c.false, c.if-c-lt512-2.true); size = omega arith; keyed = lent_file _ _ c.requires.0 c.requires.1 (λ e. c.if-edition-eq1.false (c.word-edition.ensures.0 ∙ e)) }

pub with_table-requires-then-c-lt4096 : goal.with_table-requires-then-c-lt4096
with_table-requires-then-c-lt4096 c = record { packed = (c.requires.0, c.requires.1, c.if-room-c.false, c.if-c-lt4096.true); size = omega arith; keyed = lent_file _ _ c.requires.0 c.requires.1 (λ e. c.if-edition-eq1.false (c.word-edition.ensures.0 ∙ e)) }

pub with_table-requires-2 : goal.with_table-requires-2
with_table-requires-2 c = record { packed = (c.requires.0, c.requires.1, c.if-room-c.false, omega (arith, c.requires.0.little_code)); size = omega arith; keyed = lent_file _ _ c.requires.0 c.requires.1 (λ e. c.if-edition-eq1.false (c.word-edition.ensures.0 ∙ e)) }
