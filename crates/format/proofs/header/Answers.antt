-- The proof of `format::header`.
use native.Mathlib.Omega.{arith}
use Rattle.format.proofs.Strides.{stride_under}
use Rattle.format.proofs.header.Goals as goal

pub overflow_mul-targets : goal.overflow_mul-targets
overflow_mul-targets c = let m = stride_under _ c.word-functions.result c.requires.stride_value.1 in omega arith

pub overflow_add-targets : goal.overflow_add-targets
overflow_add-targets c = let m = stride_under _ c.word-functions.result c.requires.stride_value.1 in omega arith

pub overflow_add-result : goal.overflow_add-result
overflow_add-result c = let m = stride_under _ c.word-functions.result c.requires.stride_value.1 in omega arith

pub returns : goal.returns
returns c = cc
