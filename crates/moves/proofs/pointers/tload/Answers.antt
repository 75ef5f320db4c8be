-- The proof of `moves::pointers::tload`.
use native.Mathlib.Omega.{arith}
use mathlib.Core.Logic.{inl, inr}
use Rattle.state.proofs.Outcomes.{deferring}
use Rattle.state.proofs.Families.{kind_at, not_pointer, is_pointer_lem}
use Rattle.moves.proofs.PointerLaws.{tload_21, tload_31, tload_is}
use Rattle.moves.proofs.pointers.tload.Goals as goal

pub returns-then-h-r : goal.returns-then-h-r
returns-then-h-r c = λ m f k. inl (tload_21 _ _ _ _ f k m c.if-h-r.true)

pub returns-then-from-lt7 : goal.returns-then-from-lt7
returns-then-from-lt7 c =
    λ m f k. inl (tload_31 _ _ _ _ f k m c.if-h-r.false _ c.slot_at-from.ensures (not_pointer c.if-from-lt7.true))

pub returns-then-h-from : goal.returns-then-h-from
returns-then-h-from c = λ m f k. inr (deferring _ _)

pub returns : goal.returns
returns c =
    λ m f k. inl (rw c.moved.ensures (tload_is _ _ _ _ f k m c.if-h-r.false _ c.slot_at-from.ensures _ _ _
    (is_pointer_lem (kind_at _ _ _ _ c.requires.place_lt_stop.1 (omega (arith, c.if-h-r.false)) c.slot_at-from.ensures) c.if-from-lt7.false)
    (omega (arith, c.if-h-from.false)) c.slot_at-v.ensures c.put_slot.ensures.0 c.put_slot.ensures.1 (omega (arith, c.slot_at-v.type_inv))))
