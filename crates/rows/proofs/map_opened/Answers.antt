use Rattle.rows.proofs.Opening.{part_0, map_entry, map_12, map_13, map_17, map_none, map_rows_lem, mappable_is}
use Rattle.runs.proofs.Bodies.{names_none, names_function}
use borrow.Author.Tests.{not-true, not-false}
use mathlib.Core.Path.{refl, sym}
use native.Mathlib.Omega.{arith}
use Rattle.rows.proofs.map_opened.Goals as goal

pub returns-then-function-eq-ENTRY : goal.returns-then-function-eq-ENTRY
returns-then-function-eq-ENTRY c = (map_entry c.args.file.now c.args.function c.args.profile c.args.args.now c.args.out.now c.args.allowance c.args.p.now c.args.t.now c.args.cells.now c.args.table.now c.requires.1 c.if-function-eq-ENTRY.true)

pub returns-in_default : goal.returns-in_default
returns-in_default c = (map_12 c.args.file.now c.args.function c.args.profile c.args.args.now c.args.out.now c.args.allowance c.args.p.now c.args.t.now c.args.cells.now c.args.table.now c.requires.1 (names_none c.args.file.now c.args.c c.requires.0 c.args.function c.if-function-eq-ENTRY.false (sym (rw c.in_default.is at c.function-found.ensures))))

pub types_of-numbers-requires : goal.types_of-numbers-requires
types_of-numbers-requires c = let is = names_function c.args.file.now c.args.c c.requires.0 c.args.function c.if-function-eq-ENTRY.false c.requires.1 c.in-Some.g (rw c.in-Some.is at c.function-found.ensures) in (c.requires.0, omega (arith, is.there c.if-function-eq-ENTRY.false, c.requires.0.functions_is), is.few, refl)

pub same_rows-whole-requires : goal.same_rows-whole-requires
same_rows-whole-requires c = let is = names_function c.args.file.now c.args.c c.requires.0 c.args.function c.if-function-eq-ENTRY.false c.requires.1 c.in-Some.g (rw c.in-Some.is at c.function-found.ensures) in is.few

pub returns-then-not-numbers-whole : goal.returns-then-not-numbers-whole
returns-then-not-numbers-whole c = (map_13 c.args.file.now c.args.function c.args.profile c.args.args.now c.args.out.now c.args.allowance c.args.p.now c.args.t.now c.args.cells.now c.args.table.now c.requires.1 c.args.c c.requires.0 c.in-Some.g c.if-function-eq-ENTRY.false (rw c.in-Some.is at c.function-found.ensures) _ _ c.types_of-numbers.ensures.0 c.same_rows-whole.ensures (not-true _ c.if-not-numbers-whole.true-raw))

pub other_profile-other-requires : goal.other_profile-other-requires
other_profile-other-requires c = let is = names_function c.args.file.now c.args.c c.requires.0 c.args.function c.if-function-eq-ENTRY.false c.requires.1 c.in-Some.g (rw c.in-Some.is at c.function-found.ensures) in (c.requires.0, c.requires.1, is.there)

pub returns-then-other : goal.returns-then-other
returns-then-other c = (map_17 c.args.file.now c.args.function c.args.profile c.args.args.now c.args.out.now c.args.allowance c.args.p.now c.args.t.now c.args.cells.now c.args.table.now c.requires.1 c.args.c c.requires.0 c.in-Some.g c.if-function-eq-ENTRY.false (rw c.in-Some.is at c.function-found.ensures) _ _ c.types_of-numbers.ensures.0 c.same_rows-whole.ensures (not-false _ c.if-not-numbers-whole.false-raw) _ c.other_profile-other.ensures c.if-other.true)

pub returns-then-out-eq0 : goal.returns-then-out-eq0
returns-then-out-eq0 c = (map_none c.args.file.now c.args.function c.args.profile c.args.args.now c.args.out.now c.args.allowance c.args.p.now c.args.t.now c.args.cells.now c.args.table.now c.requires.1 c.args.c c.requires.0 c.in-Some.g c.if-function-eq-ENTRY.false (rw c.in-Some.is at c.function-found.ensures) _ _ c.types_of-numbers.ensures.0 c.same_rows-whole.ensures (not-false _ c.if-not-numbers-whole.false-raw) _ c.other_profile-other.ensures c.if-other.false c.if-out-eq0.true)

pub slice_bounds-start_rows-end : goal.slice_bounds-start_rows-end
slice_bounds-start_rows-end c = let is = names_function c.args.file.now c.args.c c.requires.0 c.args.function c.if-function-eq-ENTRY.false c.requires.1 c.in-Some.g (rw c.in-Some.is at c.function-found.ensures) in omega (arith, is.few, c.types_of-numbers.auto.kinds)

pub start_rows-requires : goal.start_rows-requires
start_rows-requires c = let is = names_function c.args.file.now c.args.c c.requires.0 c.args.function c.if-function-eq-ENTRY.false c.requires.1 c.in-Some.g (rw c.in-Some.is at c.function-found.ensures) in (c.requires.0, c.requires.1, mappable_is c.args.file.now c.args.function c.args.profile c.args.args.now c.args.out.now c.args.allowance c.args.p.now c.args.t.now c.args.cells.now c.args.table.now c.requires.1 c.args.c c.requires.0 c.in-Some.g c.if-function-eq-ENTRY.false (rw c.in-Some.is at c.function-found.ensures) _ _ c.types_of-numbers.ensures.0 c.same_rows-whole.ensures (not-false _ c.if-not-numbers-whole.false-raw) _ c.other_profile-other.ensures c.if-other.false (omega (arith, c.if-out-eq0.false)) c.types_of-numbers.new.kinds _ c.types_of-numbers.auto.kinds is.few c.types_of-numbers.ensures.1 (part_0 c.in-Some.g.params c.types_of-numbers.new.kinds))

pub returns : goal.returns
returns c = map_rows_lem c.args.file.now c.args.function c.args.profile c.args.args.now c.args.out.now c.args.allowance c.args.p.now c.args.t.now c.args.cells.now c.args.table.now c.requires.1 c.args.c c.requires.0 c.in-Some.g c.if-function-eq-ENTRY.false (rw c.in-Some.is at c.function-found.ensures) _ _ c.types_of-numbers.ensures.0 c.same_rows-whole.ensures (not-false _ c.if-not-numbers-whole.false-raw) _ c.other_profile-other.ensures c.if-other.false _ _ _ _ _ _ c.start_rows.ensures
