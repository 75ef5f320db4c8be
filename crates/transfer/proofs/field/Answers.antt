-- The proof of `transfer::field`.
use Rattle.transfer.proofs.Structures.{field_none, fourth_long, some_fourth, inside, few_fields, field_past, field_there}
use native.Mathlib.Omega.{arith}
use mathlib.Core.Path.{sym}
use Rattle.transfer.proofs.field.Goals as goal

pub returns-then-count-i : goal.returns-then-count-i
returns-then-count-i c = sym (field_none _ (c.requires) _ (omega (arith, c.declared-count.ensures, c.if-count-i.true)) _)

pub word-requires : goal.word-requires
word-requires c = omega (arith, fourth_long _ (c.requires) (some_fourth _ (c.requires) c.args.i (omega (arith, c.declared-count.ensures, c.if-count-i.false))))

pub overflow_mul-at : goal.overflow_mul-at
overflow_mul-at c = let l = inside _ (c.requires) c.args.i (omega (arith, c.declared-count.ensures, c.if-count-i.false)) _ c.word.ensures.0 in omega (arith, l)

pub overflow_add-at : goal.overflow_add-at
overflow_add-at c = let l = inside _ (c.requires) c.args.i (omega (arith, c.declared-count.ensures, c.if-count-i.false)) _ c.word.ensures.0 in omega (arith, l)

pub bounds-file-at : goal.bounds-file-at
bounds-file-at c = let l = inside _ (c.requires) c.args.i (omega (arith, c.declared-count.ensures, c.if-count-i.false)) _ c.word.ensures.0 in omega (arith, l)

pub returns-then-from-n : goal.returns-then-from-n
returns-then-from-n c = sym (field_past _ (c.requires) _ (omega (arith, c.declared-count.ensures, c.if-count-i.false)) _ c.word.ensures.0 _ (omega (arith, c.from.ensures, c.if-from-n.true)))

pub overflow_add-result : goal.overflow_add-result
overflow_add-result c = let l = inside _ (c.requires) c.args.i (omega (arith, c.declared-count.ensures, c.if-count-i.false)) _ c.word.ensures.0 in omega (arith, l)

pub overflow_add-result-2 : goal.overflow_add-result-2
overflow_add-result-2 c = let l = inside _ (c.requires) c.args.i (omega (arith, c.declared-count.ensures, c.if-count-i.false)) _ c.word.ensures.0 in let f = few_fields _ (c.requires) c.args.i (omega (arith, c.declared-count.ensures, c.if-count-i.false)) _ c.word.ensures.0 in omega (arith, l, f, c.from.ensures, c.if-from-n.false)

pub bounds-file-at-2 : goal.bounds-file-at-2
bounds-file-at-2 c = let l = inside _ (c.requires) c.args.i (omega (arith, c.declared-count.ensures, c.if-count-i.false)) _ c.word.ensures.0 in let f = few_fields _ (c.requires) c.args.i (omega (arith, c.declared-count.ensures, c.if-count-i.false)) _ c.word.ensures.0 in omega (arith, l, f, c.from.ensures, c.if-from-n.false)

pub returns : goal.returns
returns c = sym (field_there _ (c.requires) _ (omega (arith, c.declared-count.ensures, c.if-count-i.false)) _ c.word.ensures.0 _ (omega (arith, c.from.ensures, c.if-from-n.false)))
