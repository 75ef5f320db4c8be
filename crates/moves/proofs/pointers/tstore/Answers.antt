-- The proof of `moves::pointers::tstore`.
use native.Mathlib.Omega.{arith}
use mathlib.Core.Logic.{inl, inr}
use mathlib.Core.Path.{◌∙◌}
use Rattle.state.proofs.Outcomes.{deferring}
use Rattle.state.proofs.Families.{kind_at, not_pointer, is_pointer_lem, payloads_are}
use Rattle.moves.proofs.PointerLaws.{tstore_21, tstore_31, tstore_22, tstore_is}
use Rattle.moves.proofs.pointers.tstore.Goals as goal

pub returns-then-h-r : goal.returns-then-h-r
returns-then-h-r c = λ m f k. inl (tstore_21 _ _ _ _ f k m c.if-h-r.true)

pub returns-then-to-lt7 : goal.returns-then-to-lt7
returns-then-to-lt7 c =
    λ m f k. inl (tstore_31 _ _ _ _ f k m c.if-h-r.false _ c.slot_at-to.ensures (not_pointer c.if-to-lt7.true))

pub returns-then-h-to : goal.returns-then-h-to
returns-then-h-to c = λ m f k. inr (deferring _ _)

pub returns-then-v-old : goal.returns-then-v-old
returns-then-v-old c =
    λ m f k. inl (tstore_22 _ _ _ _ f k m c.if-h-r.false _ c.slot_at-to.ensures
    (is_pointer_lem (kind_at _ _ _ _ c.requires.place_lt_stop.1 (omega (arith, c.if-h-r.false)) c.slot_at-to.ensures) c.if-to-lt7.false)
    (omega (arith, c.if-h-to.false)) _ _ c.slot_at-v.ensures c.slot_at-old.ensures c.if-v-old.true)

pub overflow_mul-s : goal.overflow_mul-s
overflow_mul-s c =
    omega (arith, c.if-h-to.false, c.requires.ready_on.1.high, c.requires.ready_on.1.small)

pub store64-requires : goal.store64-requires
store64-requires c =
    omega (arith, c.if-h-to.false, c.requires.ready_on.1.high, c.requires.ready_on.1.payloads)

pub overflow_add-r-2 : goal.overflow_add-r-2
overflow_add-r-2 c =
    omega (arith, c.requires.ready_on.1.near, c.requires.place_lt_stop.0)

pub returns : goal.returns
returns c =
    λ m f k. inl (rw c.moved.ensures (tstore_is _ _ _ _ f k m c.if-h-r.false _ c.slot_at-to.ensures
    (is_pointer_lem (kind_at _ _ _ _ c.requires.place_lt_stop.1 (omega (arith, c.if-h-r.false)) c.slot_at-to.ensures) c.if-to-lt7.false)
    (omega (arith, c.if-h-to.false)) _ _ c.slot_at-v.ensures c.slot_at-old.ensures _ c.if-v-old.false
    (c.store64.ensures ∙ payloads_are _ _ c.slot_at-v.result) (omega (arith, c.slot_at-v.type_inv))))
