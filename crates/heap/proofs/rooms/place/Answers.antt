use Prim.Native.Nat.{ℕ}
use Rattle.heap.proofs.Places.{fast_none, fast_some}
use lib.ListN.{length-replicate, get_or-replicate}
use Rattle.heap.proofs.rooms.place.Goals as goal

pub returns-then-size-top : goal.returns-then-size-top
returns-then-size-top c = λ p s. fast_none _ _ _ p _ _ s c.requires.1 c.if-k-top.true c.if-size-top.true

pub returns-then-k-top : goal.returns-then-k-top
returns-then-k-top c = λ p s. fast_some _ _ _ p _ _ s c.requires.1 c.if-k-top.true c.if-size-top.false

pub among-requires : goal.among-requires
among-requires c = record { by_index = c.requires; u_len = (length-replicate {A = ℕ} 4096 0, (λ x l. get_or-replicate {A = ℕ} 4096 x 0 0 l)) }
