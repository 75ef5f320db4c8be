-- The proof of `access::blocks::delete`.
use Rattle.access.proofs.BlockLaws.{given_live, delete_21, delete_31, delete_null, delete_33, delete_is}
use Rattle.std.specs.Prelude.{None}
use Rattle.heap.specs.Blocks.{entry_at, heap_of}
use mathlib.Core.Path.{◌≡◌}
use Rattle.access.proofs.blocks.delete.Goals as goal

pub returns-then-h-r : goal.returns-then-h-r
returns-then-h-r c =
    λ m f k. delete_21 m _ _ f _ _ k _ _ _ _ _ c.requires.heap_ready c.if-h-r.true

pub returns-then-w-ne7 : goal.returns-then-w-ne7
returns-then-w-ne7 c =
    λ m f k. delete_31 m _ _ f _ _ k _ _ _ _ _ c.requires.heap_ready c.if-h-r.false _ c.slot_at-w.ensures c.if-w-ne7.true

pub returns-then-w : goal.returns-then-w
returns-then-w c =
    λ m f k. rw c.moved-gone.ensures (delete_null m _ _ f _ _ k _ _ _ _ _ c.requires.heap_ready c.if-h-r.false _ c.slot_at-w.ensures c.if-w-ne7.false c.if-w.true)

pub given-requires : goal.given-requires
given-requires c =
    rw c.shelf-k.ensures c.requires.heap_ready.sane

pub returns-in_default : goal.returns-in_default
returns-in_default c =
    let z : ◌≡◌ c.given.result None = cc in
    λ m f k. delete_33 m _ _ f _ _ k _ _ _ _ _ c.requires.heap_ready c.if-h-r.false _ c.slot_at-w.ensures c.if-w-ne7.false c.if-w.false _ c.shelf-k.ensures c.given.result c.given.ensures z

pub remove-left-requires : goal.remove-left-requires
remove-left-requires c =
    (rw c.shelf-k.ensures c.requires.heap_ready.sane, given_live (heap_of c.args.size c.shelf-k.result c.args.d.now c.args.cells.now c.args.table.now) (entry_at c.args.table.now) _ _ _ c.given.result c.given.ensures c.in-Some.is)

pub keep-requires : goal.keep-requires
keep-requires c =
    c.requires.heap_ready.four

pub returns : goal.returns
returns c =
    λ m f k. rw c.moved-gone.ensures (delete_is m _ _ f _ _ k _ _ _ _ _ c.requires.heap_ready c.if-h-r.false _ c.slot_at-w.ensures c.if-w-ne7.false c.if-w.false _ c.shelf-k.ensures c.given.result c.given.ensures _ c.in-Some.is _ _ _ _ c.remove-left.ensures.0 c.keep.ensures.0 c.keep.ensures.1)
