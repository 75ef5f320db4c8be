-- The proof of `reader::labels::owned`.
use Rattle.reader.proofs.Bodies.{owns_function, owns_entry}
use Rattle.format.proofs.Strides.{stride_under, record_from}
use native.Mathlib.Omega.{arith}
use Rattle.reader.proofs.labels.owned.Goals as goal

pub overflow_mul-at : goal.overflow_mul-at
overflow_mul-at c = let f = record_from c.args.edition _ c.args.owner _ _ c.function_size-size.ensures.0 c.requires.1 c.if-owner-n.true in let m = stride_under _ c.args.owner c.function_size-size.ensures.2 in omega arith

pub word-start-requires : goal.word-start-requires
word-start-requires c = let f = record_from c.args.edition _ c.args.owner _ _ c.function_size-size.ensures.0 c.requires.1 c.if-owner-n.true in let m = stride_under _ c.args.owner c.function_size-size.ensures.2 in omega arith

pub overflow_add-at : goal.overflow_add-at
overflow_add-at c = let f = record_from c.args.edition _ c.args.owner _ _ c.function_size-size.ensures.0 c.requires.1 c.if-owner-n.true in let m = stride_under _ c.args.owner c.function_size-size.ensures.2 in omega arith

pub word-len-requires : goal.word-len-requires
word-len-requires c = let f = record_from c.args.edition _ c.args.owner _ _ c.function_size-size.ensures.0 c.requires.1 c.if-owner-n.true in let m = stride_under _ c.args.owner c.function_size-size.ensures.2 in omega arith

pub returns-then-owner-n : goal.returns-then-owner-n
returns-then-owner-n c = owns_function c.args.edition c.args.functions.now c.args.entry c.requires.0 _ c.args.owner c.args.place _ _ c.function_size-size.ensures.0 (omega (arith, c.if-owner-n.true)) c.word-start.ensures.0 c.word-len.ensures.0

pub returns : goal.returns
returns c = owns_entry c.args.edition c.args.functions.now c.args.entry c.args.owner c.args.place (omega (arith, c.if-owner-n.false))
