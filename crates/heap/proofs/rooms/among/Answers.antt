use Rattle.heap.proofs.Places.{tops_below}
use Rattle.heap.proofs.Places.{slow_none, slow_some, gap_at}
use native.Mathlib.Omega.{arith}
use Rattle.heap.proofs.rooms.among.Goals as goal

pub mark-requires : goal.mark-requires
mark-requires c = let s = c.requires.by_index.0.1 in
    record { count_in_bounds = (omega (arith, s.few, s.room_table), (λ i l. omega (arith, s.laid.inside i l, s.laid.top_size, s.small))); u_len = c.requires.u_len }

pub returns-in_err-first : goal.returns-in_err-first
returns-in_err-first c = λ p s. rw c.from_residual.ensures (slow_none _ _ _ p _ _ s c.requires.by_index.1 _ c.mark.ensures (c.in_err-first.ensures))

pub overflow_add-end : goal.overflow_add-end
overflow_add-end c = let s = c.requires.by_index.0.1 in let g = gap_at _ _ _ _ _ _ s c.requires.by_index.1 _ _ _ c.gap.ensures c.in_ok-first.was in omega (arith, g.1, s.small)

pub fill-requires : goal.fill-requires
fill-requires c = let s = c.requires.by_index.0.1 in let g = gap_at _ _ _ _ _ _ s c.requires.by_index.1 _ _ _ c.gap.ensures c.in_ok-first.was in omega (arith, g.1, s.small, c.mark.ensures.room)

pub rise-low-requires : goal.rise-low-requires
rise-low-requires c = let s = c.requires.by_index.0.1 in let g = gap_at _ _ _ _ _ _ s c.requires.by_index.1 _ _ _ c.gap.ensures c.in_ok-first.was in
    let q = tops_below _ _ _ _ _ _ s c.requires.by_index.1 _ _ g.1 c.max-top.ensures in (q.0, omega (arith, q.1, c.fill.ensures.same_length, c.mark.ensures.room))

pub returns : goal.returns
returns c = λ p s. slow_some _ _ _ p _ _ s c.requires.by_index.1 _ c.mark.ensures _ _ _ _ (gap_at _ _ _ p _ _ s c.requires.by_index.1 _ _ _ c.gap.ensures c.in_ok-first.was) c.fill.ensures c.max-top.ensures c.rise-low.ensures
