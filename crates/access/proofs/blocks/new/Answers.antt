-- The proof of `access::blocks::new`.
use native.Mathlib.Omega.{arith}
use mathlib.Core.Path.{sym, ◌∙◌}
use Rattle.access.proofs.BlockLaws.{some_width, new_37, new_20, new_is}
use Rattle.access.proofs.Over.{given_at_lem}
use Rattle.rules.specs.Stack.{slots_of}
use Rattle.heap.specs.Blocks.{size_in}
use Rattle.access.proofs.blocks.new.Goals as goal

pub returns-then-width-eq0 : goal.returns-then-width-eq0
returns-then-width-eq0 c =
    λ m sh f k. rw (← c.operand-n.ensures) (new_37 m _ _ f _ _ k _ _ _ _ _ c.requires.heap_ready sh _ _ (sym c.size_of-width.ensures.0 ∙ c.if-width-eq0.true))

pub returns-then-cap-h : goal.returns-then-cap-h
returns-then-cap-h c =
    λ m sh f k. rw (← c.operand-n.ensures) (new_20 m _ _ f _ _ k _ _ _ _ _ c.requires.heap_ready sh _ _ (some_width _ _ _ c.size_of-width.ensures.0 c.if-width-eq0.false) c.if-cap-h.true)

pub new-grant-requires : goal.new-grant-requires
new-grant-requires c =
    record { sane = (rw c.shelf.ensures c.requires.heap_ready.sane, rw c.size_of-width.ensures.0 (some_width _ _ _ c.size_of-width.ensures.0 c.if-width-eq0.false), c.size_of-width.ensures.1, c.size_of-width.ensures.0); h_in_bounds = (omega (arith, c.requires.ready_on.0.1.high, c.requires.ready_on.0.1.payloads), omega (arith, c.requires.ready_on.0.1.high, c.requires.ready_on.0.1.types)) }

pub keep-requires : goal.keep-requires
keep-requires c =
    c.requires.heap_ready.four

pub put_slot-requires : goal.put_slot-requires
put_slot-requires c =
    (omega (arith, c.if-cap-h.false, c.requires.ready_on.0.1.payloads), omega (arith, c.if-cap-h.false, c.requires.ready_on.0.1.types))

pub overflow_add-r : goal.overflow_add-r
overflow_add-r c =
    omega (arith, c.requires.ready_on.0.1.near, c.requires.ready_on.1)

pub overflow_add-h : goal.overflow_add-h
overflow_add-h c =
    omega (arith, c.if-cap-h.false, c.requires.ready_on.0.1.small)

pub returns : goal.returns
returns c =
    λ m sh f k. rw (c.moved.ensures, ← c.operand-n.ensures) (new_is m _ _ f _ _ k _ _ _ _ _ c.requires.heap_ready sh _ _ (some_width _ _ _ c.size_of-width.ensures.0 c.if-width-eq0.false) c.new-grant.result c.kind_of.result c.kind_of.ensures _ _ _ _ _ c.if-cap-h.false (given_at_lem c.args.g.now c.args.managed c.size_of-width.result (size_in c.args.d.now c.operand-n.result) (slots_of c.args.p.now c.args.t.now c.args.r.height) c.shelf.ensures c.size_of-width.ensures.0 c.new-grant.ensures) c.keep.ensures.0 c.keep.ensures.1 c.put_slot.ensures.0 c.put_slot.ensures.1 (omega (arith, c.new-grant.type_inv)))
