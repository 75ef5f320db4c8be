-- What `push`, `load`, `lea` and `store` do, a law for each way out.
use Prim.Native.Nat.{ℕ, ◌+◌, ◌*◌, ◌-◌, ◌^◌, ◌≤◌, ◌<◌}
use native.Mathlib.Omega.{arith}
use mathlib.Core.Path.{◌≡◌, refl, ap, ◌∙◌}
use mathlib.Core.Option.{none, some}
use mathlib.Core.List.{List}
use lib.ListN.{length, get_or, drop, length-drop}
use lib.Dec.{ltb}
use borrow.Author.Tests.{le-ltb, lt-ltb, eq-eqb, ne_eqb}
use Rattle.rules.specs.declared.Exception.TheVariants as Exception
use Rattle.rules.specs.declared.Slot.{Slot}
use Rattle.rules.specs.declared.Instruction.TheVariants.{Push, Load, Store, Lea}
use Rattle.rules.specs.Bytes.{within}
use Rattle.rules.specs.Tables.{Module, constant_of}
use Rattle.rules.specs.ModuleFile.{read}
use Rattle.rules.specs.Stack.{slot_at, pointer_to}
use Rattle.rules.specs.Machine.{exec_in}
use Rattle.format.specs.declared.Sections.{Sections}
use Rattle.format.specs.Layout.{Packed}
use Rattle.reader.proofs.Pool.{pool_constant}
use Rattle.state.specs.Slots.{payloads_with}
use Rattle.state.specs.State.{state_of, moved_to, bound_to, bound_in, Ready, Does}
use Rattle.state.specs.declared.Registers.{Registers}
use Rattle.state.specs.declared.Progress.{Progress}
use Rattle.state.specs.declared.Progress.TheVariants.{Goes, Stops}
use Rattle.state.proofs.Stack.{length_slots, slots_top, at_slots, at_slots_out, take1_short, take1_has}
use Rattle.state.proofs.Outcomes.{stopping, putting, binding}
use Rattle.state.proofs.Families.{types_same}
use Rattle.state.proofs.Locals.{length_locals, at_locals, at_locals_out}
use Rattle.moves.specs.Moves.{pushed_at, assigned_to}

-- the constants of a file in the lent pool
module _ (s : List ℕ) (c : Sections) (k : Packed s c) (pool : List ℕ) (is : pool ≡ drop c.pool s) where
  pub pool_long : 12 * c.constants ≤ length pool
  pool_long = let l : length (drop c.pool s) ≡ length s - c.pool = length-drop c.pool s in rw is (omega arith)

  pub pool_is : (i : ℕ) → within (ltb i c.constants) (constant_of pool i) ≡ (read s).constant i
  pool_is i = rw is (pool_constant s c k i)

module _ (cap : ℕ) (r : Registers) (p t f : List ℕ) (k : Ready cap r p t f) where
  -- how many locals the frame has
  abbrev count : ℕ
  count = get_or f (r.frame + 3) 0

  -- ---- the top moved to slot x

  module _ (x : ℕ) where
    pub assigned_21 : r.height < r.floor + 1 → Does cap r (Stops Exception.StackEmpty) p t f p t f (assigned_to x (state_of r p t f))
    unfolding assigned_to
    assigned_21 h = stopping cap r p t f k Exception.StackEmpty _ (take1_short p t r.floor r.height _ h)

    module _ (has : r.floor + 1 ≤ r.height) where
      pub assigned_26 : r.height - 1 ≤ x → Does cap r (Stops Exception.LocalVariableInvalidIndex) p t f p t f (assigned_to x (state_of r p t f))
      unfolding assigned_to
      assigned_26 h =
          stopping cap r p t f k Exception.LocalVariableInvalidIndex _ (take1_has p t r.floor r.height _ has ∙ rw (at_slots_out p t (r.height - 1) x h) refl)

      module _ (v old : Slot) (top : v ≡ slot_at p t (r.height - 1)) (below : x < r.height - 1) (is : old ≡ slot_at p t x) where
        pub assigned_22 : (v.kind ≡ old.kind → ⊥) → Does cap r (Stops Exception.StackDifferentType) p t f p t f (assigned_to x (state_of r p t f))
        unfolding assigned_to
        assigned_22 ne =
            stopping cap r p t f k Exception.StackDifferentType _
            (take1_has p t r.floor r.height _ has
            ∙ rw (at_slots p t (r.height - 1) x below, ← top, ← is, ne_eqb v.kind old.kind ne) refl)

        pub assigned_is : (p' : List ℕ) → v.kind ≡ old.kind → p' ≡ payloads_with p x v → v.payload < 2 ^ 64
            → Does cap r (Goes (moved_to r (r.place + 5) (r.height - 1))) p t f p' t f (assigned_to x (state_of r p t f))
        unfolding assigned_to
        assigned_is p' eq ep fits =
            putting cap r p t f k v x p' t ep (types_same p t x v (eq ∙ ap (λ (y : Slot). y.kind) is)) fits (omega (arith, k.high)) _ (r.height - 1) _ below (omega arith) (omega arith)
            (take1_has p t r.floor r.height _ has
            ∙ rw (at_slots p t (r.height - 1) x below, ← top, ← is, eq-eqb v.kind old.kind eq) refl)

  module _ (m : Module) (n : ℕ) where
    -- ---- push

    pub push_23 : m.constant n ≡ none → Does cap r (Stops Exception.ConstantPoolOutOfRange) p t f p t f (exec_in m cap (Push n) (state_of r p t f))
    unfolding exec_in
    push_23 e = stopping cap r p t f k Exception.ConstantPoolOutOfRange _ (rw e refl)

    pub push_is : (v : Slot) (a : Progress) (p' t' : List ℕ) → m.constant n ≡ some v
        → Does cap r a p t f p' t' f (pushed_at cap (r.place + 5) v (state_of r p t f)) → Does cap r a p t f p' t' f (exec_in m cap (Push n) (state_of r p t f))
    unfolding exec_in pushed_at
    push_is v a p' t' e d = rw e d

    -- ---- load, lea

    pub load_25 : count ≤ n → Does cap r (Stops Exception.LocalVariableOutOfRange) p t f p t f (exec_in m cap (Load n) (state_of r p t f))
    unfolding exec_in
    load_25 h = stopping cap r p t f k Exception.LocalVariableOutOfRange _ (rw (at_locals_out f r.frame count n h) refl)

    pub lea_25 : count ≤ n → Does cap r (Stops Exception.LocalVariableOutOfRange) p t f p t f (exec_in m cap (Lea n) (state_of r p t f))
    unfolding exec_in
    lea_25 h = stopping cap r p t f k Exception.LocalVariableOutOfRange _ (rw (at_locals_out f r.frame count n h) refl)

    module _ (there : n < count) where
      pub load_out : r.height ≤ get_or f (r.frame + 4 + n) 0 → Does cap r (Stops Exception.LocalVariableOutOfRange) p t f p t f (exec_in m cap (Load n) (state_of r p t f))
      unfolding exec_in
      load_out h =
          stopping cap r p t f k Exception.LocalVariableOutOfRange _
          (rw (at_locals f r.frame count n there, at_slots_out p t r.height (get_or f (r.frame + 4 + n) 0) h) refl)

      module _ (a : Progress) (p' t' : List ℕ) where
        pub load_is : (v : Slot) → get_or f (r.frame + 4 + n) 0 < r.height → v ≡ slot_at p t (get_or f (r.frame + 4 + n) 0)
            → Does cap r a p t f p' t' f (pushed_at cap (r.place + 5) v (state_of r p t f)) → Does cap r a p t f p' t' f (exec_in m cap (Load n) (state_of r p t f))
        unfolding exec_in pushed_at
        load_is v h is d =
            rw (at_locals f r.frame count n there, at_slots p t r.height (get_or f (r.frame + 4 + n) 0) h, ← is) d

        pub lea_is : Does cap r a p t f p' t' f (pushed_at cap (r.place + 5) (pointer_to (get_or f (r.frame + 4 + n) 0)) (state_of r p t f))
            → Does cap r a p t f p' t' f (exec_in m cap (Lea n) (state_of r p t f))
        unfolding exec_in pushed_at
        lea_is d = rw (at_locals f r.frame count n there) d

        -- ---- store to a local that is there

        pub store_is : Does cap r a p t f p' t' f (assigned_to (get_or f (r.frame + 4 + n) 0) (state_of r p t f))
            → Does cap r a p t f p' t' f (exec_in m cap (Store n) (state_of r p t f))
        unfolding exec_in assigned_to
        store_is d = rw (at_locals f r.frame count n there) d

    -- ---- store that binds

    pub store_26 : count ≤ n → (n ≡ count → ⊥) → Does cap r (Stops Exception.LocalVariableInvalidIndex) p t f p t f (exec_in m cap (Store n) (state_of r p t f))
    unfolding exec_in
    store_26 h ne =
        stopping cap r p t f k Exception.LocalVariableInvalidIndex _
        (rw (at_locals_out f r.frame count n h, length_locals f r.frame count, ne_eqb n count ne) refl)

    module _ (next : n ≡ count) where
      pub store_16 : 16 ≤ n → Does cap r (Stops Exception.LocalVariableInvalidIndex) p t f p t f (exec_in m cap (Store n) (state_of r p t f))
      unfolding exec_in
      store_16 g =
          stopping cap r p t f k Exception.LocalVariableInvalidIndex _
          (rw (at_locals_out f r.frame count n (omega arith), length_locals f r.frame count, eq-eqb n count next, le-ltb n 16 g) refl)

      module _ (few : n < 16) where
        pub store_21 : r.height < r.floor + 1 → Does cap r (Stops Exception.StackEmpty) p t f p t f (exec_in m cap (Store n) (state_of r p t f))
        unfolding exec_in
        store_21 l =
            stopping cap r p t f k Exception.StackEmpty _
            (rw (at_locals_out f r.frame count n (omega arith), length_locals f r.frame count, eq-eqb n count next, lt-ltb n 16 few)
            (take1_short p t r.floor r.height _ l))

        pub store_binds : r.floor + 1 ≤ r.height
            → Does cap r (Goes (bound_to r (r.place + 5))) p t f p t (bound_in f r.frame n (r.height - 1)) (exec_in m cap (Store n) (state_of r p t f))
        unfolding exec_in
        store_binds has =
            binding cap r p t f k n next few has (r.place + 5) _
            (rw (at_locals_out f r.frame count n (omega arith), length_locals f r.frame count, eq-eqb n count next, lt-ltb n 16 few)
            (take1_has p t r.floor r.height _ has ∙ rw (length_slots p t (r.height - 1), ← slots_top p t r.height (omega arith)) refl))
