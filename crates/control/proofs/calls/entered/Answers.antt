use Rattle.rules.specs.Tables.{function_of}
use Rattle.reader.proofs.Records.{function_in_file, stride_small, function_first, function_word}
use native.Mathlib.Omega.{arith}
use Rattle.control.proofs.calls.entered.Goals as goal

pub overflow_mul-at : goal.overflow_mul-at
overflow_mul-at c = let f = function_in_file c.args.file.now c.args.c c.requires.0 c.args.k c.requires.1 in let m = stride_small c.args.file.now c.args.c c.requires.0 c.args.k c.requires.1 in omega arith

pub overflow_add-at : goal.overflow_add-at
overflow_add-at c = let f = function_in_file c.args.file.now c.args.c c.requires.0 c.args.k c.requires.1 in let m = stride_small c.args.file.now c.args.c c.requires.0 c.args.k c.requires.1 in omega arith

pub word-start-requires : goal.word-start-requires
word-start-requires c = let f = function_in_file c.args.file.now c.args.c c.requires.0 c.args.k c.requires.1 in let m = stride_small c.args.file.now c.args.c c.requires.0 c.args.k c.requires.1 in omega arith

pub overflow_add-at-2 : goal.overflow_add-at-2
overflow_add-at-2 c = let f = function_in_file c.args.file.now c.args.c c.requires.0 c.args.k c.requires.1 in let m = stride_small c.args.file.now c.args.c c.requires.0 c.args.k c.requires.1 in omega arith

pub word-requires : goal.word-requires
word-requires c = let f = function_in_file c.args.file.now c.args.c c.requires.0 c.args.k c.requires.1 in let m = stride_small c.args.file.now c.args.c c.requires.0 c.args.k c.requires.1 in omega arith

pub returns : goal.returns
unfolding function_of
returns c = let a = function_first c.args.file.now c.args.c c.requires.0 c.args.k c.requires.1 in
    let b = function_word c.args.file.now c.args.c c.requires.0 c.args.k 4 c.requires.1 (omega arith) in cc
