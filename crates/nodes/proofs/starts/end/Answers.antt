use native.Mathlib.Omega.{arith}
use Rattle.reader.proofs.Records.{function_in_file, stride_small}
use Rattle.nodes.proofs.Bounds.{entry_end_lem, function_number, function_end}
use Rattle.nodes.proofs.starts.end.Goals as goal

pub returns-then-owner-eq4294967295 : goal.returns-then-owner-eq4294967295
returns-then-owner-eq4294967295 c = entry_end_lem _ _ c.requires.0 _ c.if-owner-eq4294967295.true

pub overflow_mul-at : goal.overflow_mul-at
overflow_mul-at c = let n = function_number _ _ c.requires.0 _ c.requires.1 c.if-owner-eq4294967295.false in let m = stride_small _ _ c.requires.0 _ n in omega (arith, n, m, c.requires.0.functions_is, c.requires.0.few_functions)

pub overflow_add-at : goal.overflow_add-at
overflow_add-at c = let n = function_number _ _ c.requires.0 _ c.requires.1 c.if-owner-eq4294967295.false in let r = function_in_file _ _ c.requires.0 _ n in omega (arith, r)

pub word-start-requires : goal.word-start-requires
word-start-requires c = let n = function_number _ _ c.requires.0 _ c.requires.1 c.if-owner-eq4294967295.false in let r = function_in_file _ _ c.requires.0 _ n in omega (arith, r)

pub overflow_add-at-2 : goal.overflow_add-at-2
overflow_add-at-2 c = let n = function_number _ _ c.requires.0 _ c.requires.1 c.if-owner-eq4294967295.false in let r = function_in_file _ _ c.requires.0 _ n in omega (arith, r)

pub word-length-requires : goal.word-length-requires
word-length-requires c = let n = function_number _ _ c.requires.0 _ c.requires.1 c.if-owner-eq4294967295.false in let r = function_in_file _ _ c.requires.0 _ n in omega (arith, r)

pub returns : goal.returns
returns c = function_end _ _ c.requires.0 _ c.requires.1 c.if-owner-eq4294967295.false _ _ c.word-start.ensures.0 c.word-length.ensures.0
