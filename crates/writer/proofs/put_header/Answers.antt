-- The proof of `writer::put_header`.
use native.Mathlib.Omega.{arith}
use borrow.Author.Rules.{rules}
use Rattle.writer.proofs.Laws.{fourth_size, six_pairs, header_plain, header_fourth, header_long}
use Rattle.writer.proofs.put_header.Goals as goal

pub put_pair-requires : goal.put_pair-requires
put_pair-requires c = let b = header_long c.args.edition in search rules

pub put_pair-requires-2 : goal.put_pair-requires-2
put_pair-requires-2 c = let b = header_long c.args.edition in search rules

pub put_pair-requires-3 : goal.put_pair-requires-3
put_pair-requires-3 c = let b = header_long c.args.edition in search rules

pub put_pair-requires-4 : goal.put_pair-requires-4
put_pair-requires-4 c = let b = header_long c.args.edition in search rules

pub put_pair-requires-5 : goal.put_pair-requires-5
put_pair-requires-5 c = let b = header_long c.args.edition in search rules

pub put_pair-requires-6 : goal.put_pair-requires-6
put_pair-requires-6 c = let b = header_long c.args.edition in search rules

pub put_pair-requires-then-edition-eq4 : goal.put_pair-requires-then-edition-eq4
put_pair-requires-then-edition-eq4 c = let z = fourth_size c.args.edition c.if-edition-eq4.true in
    (omega (arith, z, c.requires.0, c.out-1.given, c.out-2-1.given, c.out-3-1.given, c.out-4-1.given, c.out-5-1.given, c.out-6-1.given), omega arith, omega (arith, c.requires.2), omega (arith, c.requires.2, c.requires.0))

pub returns-then-edition-eq4 : goal.returns-then-edition-eq4
returns-then-edition-eq4 c = header_fourth c.args.out.now c.args.edition c.args.constants c.args.functions c.args.labels c.args.code c.args.structures c.args.entry _ c.function_count-function_count.ensures.0 c.if-edition-eq4.true c.requires.0 _ _
    (six_pairs _ _ _ _ _ _ _ _ _ _ _ _ _ _ _ _ _ _ _ c.put_pair.ensures c.put_pair-2.ensures c.put_pair-3.ensures c.put_pair-4.ensures c.put_pair-5.ensures c.put_pair-6.ensures) c.put_pair-then-edition-eq4.ensures

pub returns-else-edition-eq4 : goal.returns-else-edition-eq4
returns-else-edition-eq4 c = header_plain c.args.out.now c.args.edition c.args.constants c.args.functions c.args.labels c.args.code c.args.structures c.args.entry _ c.function_count-function_count.ensures.0 c.if-edition-eq4.false c.requires.0 _
    (six_pairs _ _ _ _ _ _ _ _ _ _ _ _ _ _ _ _ _ _ _ c.put_pair.ensures c.put_pair-2.ensures c.put_pair-3.ensures c.put_pair-4.ensures c.put_pair-5.ensures c.put_pair-6.ensures)
