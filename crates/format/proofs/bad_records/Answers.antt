-- The proof of `format::bad_records`.
use native.Mathlib.Numerals.{add-one}
use native.Mathlib.Omega.{arith}
use Rattle.format.proofs.Editions.{limit_types}
use Rattle.format.proofs.Strides.{stride_under, record_from}
use mathlib.Core.Path.{◌≡◌, refl}
use Rattle.format.proofs.Gathered.{some_none, some_more}
use Rattle.rules.specs.Tables.{end_before}
use Rattle.format.specs.Layout.{bad_table}
use Rattle.format.proofs.bad_records.Goals as goal

pub loop-i-init : goal.loop-i-init
unfolding end_before
loop-i-init c = (omega arith, some_none _, refl, omega arith)

pub overflow_mul-at : goal.overflow_mul-at
overflow_mul-at c = let m = stride_under _ c.loop-i.i c.function_size-size.ensures.2 in omega arith

pub bad_record-b-requires : goal.bad_record-b-requires
bad_record-b-requires c = let inside = record_from c.args.edition _ c.loop-i.i _ _ c.function_size-size.ensures.0 c.requires.2 c.loop-i-test.true in (c.types_of-types.ensures.1, rw (c.types_of-types.ensures.0, limit_types c.args.edition) c.requires.0, inside)

pub overflow_add-at : goal.overflow_add-at
overflow_add-at c = let m = stride_under _ c.loop-i.i c.function_size-size.ensures.2 in omega arith

pub word-len-requires : goal.word-len-requires
word-len-requires c = let inside = record_from c.args.edition _ c.loop-i.i _ _ c.function_size-size.ensures.0 c.requires.2 c.loop-i-test.true in omega arith

pub loop-i-preserved : goal.loop-i-preserved
unfolding end_before
loop-i-preserved c = let at-loop = c.loop-i in
    (omega arith, some_more _ _ _ _ at-loop.invariant.1 (cc), rw add-one (cc), omega arith)

pub returns : goal.returns
unfolding bad_table
returns c = let h : c.loop-i.i ≡ c.args.n = omega arith in
    let n-is = c.requires.2 in cc
