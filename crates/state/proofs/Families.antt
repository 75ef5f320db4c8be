-- Laws that instructions of one family share: too few operands, the slot that a pointer names, a slot that keeps its type.
use Prim.Native.Nat.{ℕ, ◌+◌, ◌*◌, ◌/◌, ◌≤◌, ◌<◌}
use native.Mathlib.Omega.{arith}
use mathlib.Core.Path.{◌≡◌, refl, sym, ap, ◌∙◌}
use mathlib.Core.Bool.{true, false}
use mathlib.Core.Logic.{inl, inr}
use mathlib.Core.List.{List}
use lib.ListN.{set}
use lib.Seq.{set-get_or}
use borrow.Author.Tests.{eq-eqb, ne_eqb}
use Rattle.rules.specs.declared.Slot.{Slot}
use Rattle.rules.specs.declared.Exception.TheVariants as Exception
use Rattle.rules.specs.declared.Unary.{Unary}
use Rattle.rules.specs.declared.Binary.{Binary}
use Rattle.rules.specs.declared.Instruction.{Instruction}
use Rattle.rules.specs.declared.Instruction.TheVariants.{One, Two}
use Rattle.rules.specs.Bytes.{written}
use Rattle.rules.specs.Instructions.{is_pointer}
use Rattle.rules.specs.Tables.{Module}
use Rattle.rules.specs.Stack.{slot_at, slots_of}
use Rattle.rules.specs.Heap.{Heap, Spot, on_stack, null_address, target_of}
use Rattle.rules.specs.Machine.{Memory, Next, keeping, exec_in, deref}
use Rattle.soundness.specs.Framed.{with_heap}
use Rattle.state.specs.Slots.{payloads_with, types_with}
use Rattle.state.specs.State.{state_of, Ready, Does, DoesOver}
use Rattle.state.specs.declared.Registers.{Registers}
use Rattle.soundness.specs.Started.{all_at}
use Rattle.soundness.specs.Kinds.{Kind, OfKind, Kinded}
use Rattle.state.specs.declared.Progress.TheVariants.{Stops}
use Rattle.state.proofs.Stack.{at_slots, take1_short, take2_short}
use Rattle.state.proofs.Outcomes.{stopping, stopping_over}

-- ---- type numbers are 3, 4, 6, and of pointers 7 and 8

pub kind_at : (p t : List ℕ) (h i : ℕ) {w : Slot} → Kinded (slots_of p t h) → i < h → w ≡ slot_at p t i → Kind w.kind
kind_at p t h i {w} d l e = all_at OfKind (slots_of p t h) d i w (rw e (at_slots p t h i l))

pub not_pointer : {k : ℕ} → k < 7 → is_pointer k ≡ false
not_pointer {k} l = rw (ne_eqb k 7 (λ q. omega arith), ne_eqb k 8 (λ q. omega arith)) refl

pub is_pointer_lem : {k : ℕ} → Kind k → 7 ≤ k → is_pointer k ≡ true
is_pointer_lem (inl q) l = absurd (omega arith)
is_pointer_lem (inr (inl q)) l = absurd (omega arith)
is_pointer_lem (inr (inr (inl q))) l = absurd (omega arith)
is_pointer_lem (inr (inr (inr (inl q)))) l = ap is_pointer q
is_pointer_lem (inr (inr (inr (inr q)))) l = ap is_pointer q

module _ (cap : ℕ) (r : Registers) (p t f : List ℕ) (k : Ready cap r p t f) (m : Module) where
  abbrev pub memory_over : Heap → Memory
  memory_over g = keeping (state_of r p t f).memory g

  -- ---- too few operands

  pub one_21 : (o : Unary) → r.height < r.floor + 1 → Does cap r (Stops Exception.StackEmpty) p t f p t f (exec_in m cap (One o) (state_of r p t f))
  unfolding exec_in
  one_21 o h = stopping cap r p t f k Exception.StackEmpty _ (take1_short p t r.floor r.height _ h)

  pub two_21 : (o : Binary) → r.height < r.floor + 2 → Does cap r (Stops Exception.StackEmpty) p t f p t f (exec_in m cap (Two o) (state_of r p t f))
  unfolding exec_in
  two_21 o h = stopping cap r p t f k Exception.StackEmpty _ (take2_short p t r.floor r.height _ h)

  -- ---- an instruction i that does j with the slot that w names, h slots being left

  module _ (i : Instruction) (w : Slot) (h : ℕ) (j : Memory → Spot → Slot → Next)
      (e : (g : Heap) → exec_in m cap i (with_heap g (state_of r p t f)) ≡ deref m (memory_over g) w (slots_of p t h) (j (memory_over g))) where
    pub named_31 : is_pointer w.kind ≡ false → DoesOver cap r (Stops Exception.PointerNotPointer) p t f p t f (exec_in m cap i)
    named_31 ne = stopping_over cap r p t f k Exception.PointerNotPointer (exec_in m cap i) (λ g. e g ∙ rw ne refl)

    -- over every heap it is a slot
    pub named : is_pointer w.kind ≡ true → w.payload < h → h ≤ r.height
        → (g : Heap) → exec_in m cap i (with_heap g (state_of r p t f)) ≡ j (memory_over g) (on_stack w.payload) (slot_at p t w.payload)
    unfolding target_of
    named is below left g =
        let low : w.payload / 65536 ≡ 0 = omega (arith, k.small, k.high) in
        let given : w.payload ≡ null_address → ⊥ = λ q. omega (arith, k.small, k.high) in
        e g ∙ rw (is, ne_eqb w.payload null_address given, eq-eqb (w.payload / 65536) 0 low, at_slots p t h w.payload below) refl

-- ---- a slot that keeps its type: its type byte need not be written

pub types_same : (p t : List ℕ) (i : ℕ) (v : Slot) → v.kind ≡ (slot_at p t i).kind → t ≡ types_with t i v
unfolding types_with slot_at
types_same p t i v e = sym (ap (set t i) e ∙ set-get_or t i 0)

pub payloads_are : (p : List ℕ) (i : ℕ) (v : Slot) → written 8 p (i * 8) v.payload ≡ payloads_with p i v
unfolding payloads_with
payloads_are p i v = refl
