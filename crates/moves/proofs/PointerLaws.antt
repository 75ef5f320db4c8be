-- What `tload` and `tstore` do, a law for each way out.
use Prim.Native.Nat.{ℕ, suc, ◌+◌, ◌-◌, ◌^◌, ◌≤◌, ◌<◌}
use native.Mathlib.Omega.{arith}
use mathlib.Core.Bool.{true, false}
use mathlib.Core.Path.{◌≡◌, refl, ap, ◌∙◌}
use mathlib.Core.List.{List, [], ◌∷◌}
use borrow.Author.Tests.{le-leb, eq-eqb, ne_eqb}
use Rattle.rules.specs.declared.Exception.TheVariants as Exception
use Rattle.rules.specs.declared.Slot.{Slot}
use Rattle.rules.specs.declared.Instruction.TheVariants.{Tload, Tstore}
use Rattle.rules.specs.Instructions.{is_pointer}
use Rattle.rules.specs.Tables.{Module}
use Rattle.rules.specs.Stack.{slot_at, slots_of, put}
use Rattle.rules.specs.Heap.{Heap, empty_heap, Spot, on_stack}
use Rattle.rules.specs.Machine.{Memory, Frame, exec_in, Next, goto, pushing, writing, deref}
use Rattle.soundness.specs.Framed.{with_heap, onto}
use Rattle.state.specs.Slots.{payloads_with, types_with}
use Rattle.state.specs.State.{state_of, moved_to, Ready, DoesOver}
use Rattle.state.specs.declared.Registers.{Registers}
use Rattle.state.specs.declared.Progress.TheVariants.{Goes, Stops}
use Rattle.state.proofs.Stack.{length_slots, take1_short, take1_has, take2_short, take2_has}
use Rattle.state.proofs.Outcomes.{shifted, over_every, stopping_over, topping, putting}
use Rattle.state.proofs.Families.{memory_over, named_31, named, types_same}

module _ (cap : ℕ) (r : Registers) (p t f : List ℕ) (k : Ready cap r p t f) (m : Module) where
  abbrev after : Frame
  after = goto (r.place + 1) (state_of r p t f).top

  abbrev over : Heap → Memory
  over g = memory_over cap r p t f k m g

  -- ---- tload

  abbrev loads : Memory → Spot → Slot → Next
  loads M x v = pushing M cap (v ∷ []) (slots_of p t (r.height - 1)) after (state_of r p t f).callers

  pub tload_21 : r.height < r.floor + 1 → DoesOver cap r (Stops Exception.StackEmpty) p t f p t f (exec_in m cap Tload)
  unfolding exec_in
  tload_21 h = stopping_over cap r p t f k Exception.StackEmpty (exec_in m cap Tload) (λ g. take1_short p t r.floor r.height _ h)

  module _ (has : r.floor + 1 ≤ r.height) (w : Slot) (top : w ≡ slot_at p t (r.height - 1)) where
    tload_takes : (g : Heap) → exec_in m cap Tload (with_heap g (state_of r p t f)) ≡ deref m (over g) w (slots_of p t (r.height - 1)) (loads (over g))
    unfolding exec_in
    tload_takes g = take1_has p t r.floor r.height _ has ∙ rw (← top) refl

    pub tload_31 : is_pointer w.kind ≡ false → DoesOver cap r (Stops Exception.PointerNotPointer) p t f p t f (exec_in m cap Tload)
    tload_31 = named_31 cap r p t f k m Tload w (r.height - 1) loads tload_takes

    pub tload_is : (v : Slot) (p' t' : List ℕ) → is_pointer w.kind ≡ true → w.payload < r.height - 1 → v ≡ slot_at p t w.payload
        → p' ≡ payloads_with p (r.height - 1) v → t' ≡ types_with t (r.height - 1) v → v.payload < 2 ^ 64
        → DoesOver cap r (Goes (moved_to r (r.place + 1) r.height)) p t f p' t' f (exec_in m cap Tload)
    tload_is v p' t' is below held ep et fits =
        let up : r.height - 1 + 1 ≡ r.height = omega arith in
        let y : Next = shifted (state_of r p t f) (r.place + 1) (v ∷ slots_of p t (r.height - 1)) in
        let does : (g : Heap) → exec_in m cap Tload (with_heap g (state_of r p t f)) ≡ onto g y =
        λ g. named cap r p t f k m Tload w (r.height - 1) loads tload_takes is below (omega arith) g
        ∙ rw (← held, length_slots p t (r.height - 1), le-leb (suc (r.height - 1)) cap (omega (arith, k.high))) refl in (
          rw up at (topping cap r p t f k v (r.height - 1) p' t' ep et fits (omega (arith, k.high)) (r.place + 1) _ (omega arith) (does (empty_heap 0))),
          over_every (exec_in m cap Tload) (state_of r p t f) y does,
        )

  -- ---- tstore

  abbrev stores : Memory → Spot → Slot → Next
  stores M x old = writing M (slot_at p t (r.height - 1)) old x (slots_of p t (r.height - 2)) after (state_of r p t f).callers

  pub tstore_21 : r.height < r.floor + 2 → DoesOver cap r (Stops Exception.StackEmpty) p t f p t f (exec_in m cap Tstore)
  unfolding exec_in
  tstore_21 h = stopping_over cap r p t f k Exception.StackEmpty (exec_in m cap Tstore) (λ g. take2_short p t r.floor r.height _ h)

  module _ (has : r.floor + 2 ≤ r.height) (w : Slot) (deep : w ≡ slot_at p t (r.height - 2)) where
    tstore_takes : (g : Heap) → exec_in m cap Tstore (with_heap g (state_of r p t f)) ≡ deref m (over g) w (slots_of p t (r.height - 2)) (stores (over g))
    unfolding exec_in
    tstore_takes g = take2_has p t r.floor r.height _ has ∙ rw (← deep) refl

    pub tstore_31 : is_pointer w.kind ≡ false → DoesOver cap r (Stops Exception.PointerNotPointer) p t f p t f (exec_in m cap Tstore)
    tstore_31 = named_31 cap r p t f k m Tstore w (r.height - 2) stores tstore_takes

    module _ (is : is_pointer w.kind ≡ true) (below : w.payload < r.height - 2) (v old : Slot) (top : v ≡ slot_at p t (r.height - 1)) (held : old ≡ slot_at p t w.payload) where
      names : (g : Heap) → exec_in m cap Tstore (with_heap g (state_of r p t f)) ≡ stores (over g) (on_stack w.payload) (slot_at p t w.payload)
      names = named cap r p t f k m Tstore w (r.height - 2) stores tstore_takes is below (omega arith)

      pub tstore_22 : (v.kind ≡ old.kind → ⊥) → DoesOver cap r (Stops Exception.StackDifferentType) p t f p t f (exec_in m cap Tstore)
      tstore_22 ne =
          stopping_over cap r p t f k Exception.StackDifferentType (exec_in m cap Tstore) (λ g. names g ∙ rw (← held, ← top, ne_eqb v.kind old.kind ne) refl)

      pub tstore_is : (p' : List ℕ) → v.kind ≡ old.kind → p' ≡ payloads_with p w.payload v → v.payload < 2 ^ 64
          → DoesOver cap r (Goes (moved_to r (r.place + 1) (r.height - 2))) p t f p' t f (exec_in m cap Tstore)
      tstore_is p' eq ep fits =
          let y : Next = shifted (state_of r p t f) (r.place + 1) (put (slots_of p t (r.height - 2)) w.payload v) in
          let does : (g : Heap) → exec_in m cap Tstore (with_heap g (state_of r p t f)) ≡ onto g y =
          λ g. names g ∙ rw (← held, ← top, eq-eqb v.kind old.kind eq) refl in (
            putting cap r p t f k v w.payload p' t ep (types_same p t w.payload v (eq ∙ ap (λ (x : Slot). x.kind) held)) fits (omega (arith, k.high)) (r.place + 1) (r.height - 2) _ below (omega arith) (omega arith)
                (does (empty_heap 0)),
            over_every (exec_in m cap Tstore) (state_of r p t f) y does,
          )
