-- The proof of `access::blocks::null`.
use Rattle.access.proofs.BlockLaws.{null_full, null_is}
use Rattle.access.proofs.blocks.null.Goals as goal

pub returns-then-cap-h : goal.returns-then-cap-h
returns-then-cap-h c = λ m f k. null_full m _ _ f _ _ k _ c.if-cap-h.true

pub returns : goal.returns
returns c =
    λ m f k. rw c.moved.ensures (null_is m _ _ f _ _ k _ c.kind_of.result c.kind_of.ensures _ _ c.if-cap-h.false c.put_slot.ensures.0 c.put_slot.ensures.1)
