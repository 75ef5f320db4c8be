-- What `inc` and `dec` do, a law for each way out. Assumes nothing.
use Prim.Native.Nat.{ℕ, ◌+◌, ◌-◌, ◌≤◌, ◌<◌}
use native.Mathlib.Omega.{arith}
use mathlib.Core.Path.{◌≡◌, refl, sym, ap, ◌∙◌, subst}
use mathlib.Core.Bool.{Bool, false}
use Rattle.rules.specs.Instructions.{is_pointer}
use mathlib.Core.Logic.{inl, inr}
use Rattle.std.specs.Prelude.{Ok, Err}
use Rattle.std.specs.declared.result.Result as code
use mathlib.Core.List.{List, [], ◌∷◌}
use Rattle.rules.specs.Tables.{Module}
use Rattle.rules.specs.Heap.{Heap, empty_heap, Spot, on_stack}
use Rattle.rules.specs.Machine.{Memory, Frame, Next, stops, goto, keeping, becomes, bumping, exec_in, deref}
use Rattle.soundness.specs.Framed.{with_heap, onto}
use Rattle.rules.specs.Operations.{Result, yields, raises, apply1}
use Rattle.rules.specs.Stack.{slot_at, slots_of, put}
use Rattle.rules.specs.declared.Instruction.TheVariants.{Bump}
use Rattle.rules.specs.declared.Slot.{Slot}
use Rattle.rules.specs.declared.Unary.TheVariants.{Count}
use Rattle.soundness.specs.Tests.{decide, eqb_same}
use Rattle.values.specs.Values.{slot_of, result_of, Turns}
use Rattle.values.specs.declared.Value.{Value}
use Rattle.rules.specs.declared.Exception.{Exception}
use Rattle.rules.specs.declared.Exception.TheVariants as Exception
use Rattle.state.specs.State.{state_of, Ready, Does}
use Rattle.state.specs.declared.Registers.{Registers}
use Rattle.state.specs.declared.Progress.{Progress}
use Rattle.state.specs.declared.Progress.TheVariants.{Stops}
use Rattle.state.proofs.Stack.{take1_has, take1_short}
use Rattle.state.proofs.Outcomes.{stopping, stopping_over, deferring, over_every, putting}
use Rattle.state.proofs.Families.{kind_at, memory_over, named_31, named, types_same}
use Rattle.operands.specs.Operands.{Computable, ExecutesOrDefers, Puts, Points, Finds}
use Rattle.operands.proofs.OperandLaws.{Typed, one_typed}
use Rattle.values.specs.Changes.{counts}

-- x put to slot i of what is left
abbrev back_of : Memory → ℕ → List Slot → Frame → List Frame → Result → Next
back_of M i st f cs (yields []) = stops 0
back_of M i st f cs (yields (v ∷ vs)) = becomes M (put st i v) f cs
back_of M i st f cs (raises e) = stops e

back_onto : (g : Heap) (M : Memory) (i : ℕ) (st : List Slot) (f : Frame) (cs : List Frame) (x : Result)
    → back_of (keeping M g) i st f cs x ≡ onto g (back_of M i st f cs x)
back_onto g M i st f cs (yields []) = refl
back_onto g M i st f cs (yields (v ∷ vs)) = refl
back_onto g M i st f cs (raises e) = refl

-- the same number that edition 1 puts on top
counted_back : (M : Memory) (u : Bool) (i : ℕ) (v : Slot) (st : List Slot) (f : Frame) (cs : List Frame)
    → bumping M u (on_stack i) v st f cs ≡ back_of M i st f cs (apply1 (Count u) v)
counted_back M u i v st f cs = decide (is_pointer v.kind) (λ y. rw y refl) (λ y. rw (y, eqb_same v.kind) refl)

module _ (cap : ℕ) (r : Registers) (p t f : List ℕ) (k : Ready cap r p t f) (m : Module) (u : Bool) where
  -- what is left, and the frame after it
  abbrev left : List Slot
  left = slots_of p t (r.height - 1)

  abbrev after : Frame
  after = goto (r.place + 1) (state_of r p t f).top

  abbrev bumps : Memory → Spot → Slot → Next
  bumps M x v = bumping M u x v left after (state_of r p t f).callers

  bump_takes : r.floor + 1 ≤ r.height → (g : Heap)
      → exec_in m cap (Bump u) (with_heap g (state_of r p t f)) ≡ deref m (memory_over cap r p t f k m g) (slot_at p t (r.height - 1)) left (bumps (memory_over cap r p t f k m g))
  unfolding exec_in
  bump_takes has g = take1_has p t r.floor r.height _ has

  back_is : (i : ℕ) (x : code.Result Value Exception) (q : Progress) (p' : List ℕ) (y : Next) → r.floor + 1 ≤ r.height → i < r.height - 1 → Typed (slot_at p t i).kind x
      → Puts r i (r.height - 1) x q p p' → y ≡ back_of (state_of r p t f).memory i left after (state_of r p t f).callers (result_of x)
      → Does cap r q p t f p' t f y
  back_is i (Ok v) q p' y has below ty e is =
      rw e.0
      (putting cap r p t f k (slot_of v) i p' t e.1.0 (types_same p t i (slot_of v) (ty v refl)) e.1.1 (omega (arith, k.high)) (r.place + 1) (r.height - 1) y
      below (omega arith) (omega arith) is)
  back_is i (Err n) q p' y has below ty e is = rw (e.0, e.1) (stopping cap r p t f k n y is)

module _ {r : Registers} {p t : List ℕ} (u : Bool) where
  pub bump_21 : r.height < r.floor + 1 → ExecutesOrDefers (Bump u) r (Stops Exception.StackEmpty) p t p t
  unfolding exec_in
  bump_21 h m cap f k = inl (stopping_over cap r p t f k Exception.StackEmpty (exec_in m cap (Bump u)) (λ g. take1_short p t r.floor r.height _ h))

  pub bump_31 : r.floor + 1 ≤ r.height → is_pointer (slot_at p t (r.height - 1)).kind ≡ false → ExecutesOrDefers (Bump u) r (Stops Exception.PointerNotPointer) p t p t
  bump_31 has ne m cap f k =
      inl (named_31 cap r p t f k m (Bump u) (slot_at p t (r.height - 1)) (r.height - 1) (bumps cap r p t f k m u) (bump_takes cap r p t f k m u has) ne)

  pub bump_33 : ExecutesOrDefers (Bump u) r (Stops Exception.PointerUnknownAddress) p t p t
  bump_33 m cap f k = inr (deferring p t)

  pub bump_put : Computable r p t → {i : ℕ} {a : Value} (x : code.Result Value Exception) {q : Progress} {p' : List ℕ} → Points r p t i a → Turns (Count u) a x → Puts r i (r.height - 1) x q p p'
      → ExecutesOrDefers (Bump u) r q p t p' t
  bump_put c {i} x {q} {p'} at e put m cap f k =
      let v = slot_at p t i in
      let is : result_of x ≡ apply1 (Count u) v = e v (kind_at p t r.height i c.kinds (let b = at.below in omega arith) refl) at.held in
      let w = slot_at p t (r.height - 1) in
      let below : w.payload < r.height - 1 = subst (λ (n : ℕ). n < r.height - 1) at.slot at.below in
      let M : Memory = (state_of r p t f).memory in
      let cs : List Frame = (state_of r p t f).callers in
      let y : Next = back_of M i (left cap r p t f k m u) (after cap r p t f k m u) cs (result_of x) in
      let does : (g : Heap) → exec_in m cap (Bump u) (with_heap g (state_of r p t f)) ≡ onto g y =
      λ g. rw (← at.slot) at (named cap r p t f k m (Bump u) w (r.height - 1) (bumps cap r p t f k m u) (bump_takes cap r p t f k m u at.has) at.pointer below (omega arith) g)
      ∙ counted_back (keeping M g) u i v _ _ _ ∙ ap (back_of (keeping M g) i _ _ _) (sym is) ∙ back_onto g M i _ _ _ (result_of x) in
      inl (
        back_is cap r p t f k m u i x q p' _ at.has at.below (one_typed (counts u) v x is) put (does (empty_heap 0) ∙ sym (back_onto (empty_heap 0) M i _ _ _ (result_of x))),
        over_every (exec_in m cap (Bump u)) (state_of r p t f) y does,
      )

-- what `find` found
pub points : {r : Registers} {p t : List ℕ} {x : code.Result (ℕ × Value) Exception} {y : ℕ × Value} → x ≡ Ok y → Finds r p t x → Points r p t y.0 y.1
points {r} {p} {t} e h = subst (Finds r p t) e h

pub nowhere : {r : Registers} {p t : List ℕ} {x : code.Result (ℕ × Value) Exception} {n : Exception} → x ≡ Err n → Finds r p t x
    → (u : Bool) → ExecutesOrDefers (Bump u) r (Stops n) p t p t
nowhere {r} {p} {t} e h = subst (Finds r p t) e h
