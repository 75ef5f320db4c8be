use Rattle.rules.specs.Tables.{function_count, module_of}
use Rattle.rules.specs.ModuleFile.{edition, functions_in}
use Rattle.reader.proofs.Records.{function_count_lem, function_in_file, stride_small, function_found_lem}
use borrow.Author.Tests.{lt-ltb, le-ltb}
use mathlib.Core.Path.{refl}
use native.Mathlib.Omega.{arith}
use Prim.Native.Nat.{◌<◌, ◌≤◌}
use Rattle.reader.proofs.entries.function.Goals as goal

pub returns-then-c-k : goal.returns-then-c-k
unfolding module_of
returns-then-c-k c = let n = function_count_lem c.args.file.now c.args.c (c.requires) in
    let h : function_count (edition c.args.file.now) (functions_in c.args.file.now) ≤ c.args.k = omega arith in simp (le-ltb _ _ h)

pub overflow_mul-at : goal.overflow_mul-at
overflow_mul-at c = let f = function_in_file c.args.file.now c.args.c (c.requires) c.args.k c.if-c-k.false in let m = stride_small c.args.file.now c.args.c (c.requires) c.args.k c.if-c-k.false in omega arith

pub overflow_add-at : goal.overflow_add-at
overflow_add-at c = let f = function_in_file c.args.file.now c.args.c (c.requires) c.args.k c.if-c-k.false in let m = stride_small c.args.file.now c.args.c (c.requires) c.args.k c.if-c-k.false in omega arith

pub word-start-requires : goal.word-start-requires
word-start-requires c = let f = function_in_file c.args.file.now c.args.c (c.requires) c.args.k c.if-c-k.false in let m = stride_small c.args.file.now c.args.c (c.requires) c.args.k c.if-c-k.false in omega arith

pub overflow_add-at-2 : goal.overflow_add-at-2
overflow_add-at-2 c = let f = function_in_file c.args.file.now c.args.c (c.requires) c.args.k c.if-c-k.false in let m = stride_small c.args.file.now c.args.c (c.requires) c.args.k c.if-c-k.false in omega arith

pub word-length-requires : goal.word-length-requires
word-length-requires c = let f = function_in_file c.args.file.now c.args.c (c.requires) c.args.k c.if-c-k.false in let m = stride_small c.args.file.now c.args.c (c.requires) c.args.k c.if-c-k.false in omega arith

pub overflow_add-result-2 : goal.overflow_add-result-2
overflow_add-result-2 c = let f = function_in_file c.args.file.now c.args.c (c.requires) c.args.k c.if-c-k.false in let m = stride_small c.args.file.now c.args.c (c.requires) c.args.k c.if-c-k.false in omega arith

pub bounds-file-at : goal.bounds-file-at
bounds-file-at c = let f = function_in_file c.args.file.now c.args.c (c.requires) c.args.k c.if-c-k.false in let m = stride_small c.args.file.now c.args.c (c.requires) c.args.k c.if-c-k.false in omega arith

pub bounds-file-at-2 : goal.bounds-file-at-2
bounds-file-at-2 c = let f = function_in_file c.args.file.now c.args.c (c.requires) c.args.k c.if-c-k.false in let m = stride_small c.args.file.now c.args.c (c.requires) c.args.k c.if-c-k.false in omega arith

pub returns : goal.returns
unfolding module_of
returns c = let n = function_count_lem c.args.file.now c.args.c (c.requires) in
    let h : c.args.k < function_count (edition c.args.file.now) (functions_in c.args.file.now) = omega arith in
    simp (lt-ltb _ _ h) (function_found_lem c.args.file.now c.args.c (c.requires) c.args.k _ _ _ _ c.if-c-k.false c.word-start.ensures.0 c.word-length.ensures.0 c.from.ensures refl)
