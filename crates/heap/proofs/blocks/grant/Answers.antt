-- The proof of `heap::blocks::grant`.
use mathlib.Core.Path.{refl}
use Rattle.heap.proofs.Granted.{new_spent, new_block}
use Rattle.heap.proofs.blocks.grant.Goals as goal

pub returns-then-k-ge281474976710655 : goal.returns-then-k-ge281474976710655
returns-then-k-ge281474976710655 c = λ size d p s f w. rw c.null_grant.ensures (new_spent size _ d p _ s _ _ c.if-k-ge281474976710655.true)

pub returns : goal.returns
returns c =
    λ size d p s f w. rw c.give-shelf.ensures.1 (new_block size _ d p _ s _ _ _ refl c.if-k-ge281474976710655.false _ f _ refl w _ _ c.listed.ensures c.requires.1 c.give-shelf.ensures.0)
