-- The proof of `format::not_packed`.
use native.Mathlib.Omega.{arith}
use Rattle.format.proofs.Strides.{stride_under}
use Rattle.rules.specs.Bytes.{word}
use Rattle.rules.specs.ModuleFile.{structures_at, not_packed}
use Rattle.format.proofs.Rows.{offset_fourth}
use Rattle.format.proofs.not_packed.Goals as goal

pub overflow_mul-l : goal.overflow_mul-l
overflow_mul-l c = let m = stride_under _ c.word-functions.result c.function_size-stride.ensures.2 in omega arith

pub overflow_add-l : goal.overflow_add-l
overflow_add-l c = let m = stride_under _ c.word-functions.result c.function_size-stride.ensures.2 in omega arith

pub overflow_mul-c : goal.overflow_mul-c
overflow_mul-c c = let m = stride_under _ c.word-functions.result c.function_size-stride.ensures.2 in omega arith

pub overflow_add-c : goal.overflow_add-c
overflow_add-c c = let m = stride_under _ c.word-functions.result c.function_size-stride.ensures.2 in omega arith

pub overflow_add-end : goal.overflow_add-end
overflow_add-end c = let m = stride_under _ c.word-functions.result c.function_size-stride.ensures.2 in omega arith

pub overflow_mul-result : goal.overflow_mul-result
overflow_mul-result c = let m = stride_under _ c.word-functions.result c.function_size-stride.ensures.2 in omega arith

pub overflow_add-result : goal.overflow_add-result
overflow_add-result c = let m = stride_under _ c.word-functions.result c.function_size-stride.ensures.2 in omega arith

pub returns : goal.returns
unfolding not_packed
returns c = let args = c.args in let s = args.file.now in
    let o = offset_fourth args.edition args.structures_at (word 4 s 52) (structures_at s) c.requires.offset_is in
    let e = c.requires.edition_is in let z = c.requires.structures_is in cc
