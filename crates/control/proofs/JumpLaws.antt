-- What `jmp` and the conditional branches do, way by way: a law for each return.
use Prim.Native.Nat.{ℕ, ◌+◌, ◌-◌, ◌%◌, ◌≤◌, ◌<◌}
use native.Mathlib.Omega.{arith}
use mathlib.Core.Path.{◌≡◌, refl, sym, ap, ◌∙◌}
use mathlib.Core.Bool.{Bool, true, false, cond}
use mathlib.Core.Logic.{◌⊎◌, inl, inr}
use mathlib.Core.Option.{none, some}
use mathlib.Core.List.{List}
use lib.Dec.{eqb, leb}
use denote.Enum.Declared.{tag_of}
use types.Run.{OneOf}
use borrow.Author.Tests.{eq-eqb, ne_eqb, eqb-true, eqb-false}
use Rattle.rules.specs.declared.Exception.TheVariants as Exception
use Rattle.rules.specs.declared.Slot.{Slot}
use Rattle.rules.specs.declared.Condition.{Condition}
use Rattle.rules.specs.declared.Instruction.TheVariants.{Jmp, Branch}
use Rattle.rules.specs.Tables.{entry, fn, body_of, eq_body, Module}
use Rattle.rules.specs.Stack.{slot_at, slots_of}
use Rattle.rules.specs.Operations.{holds, low}
use Rattle.rules.specs.Doubles.{decode_of}
use Rattle.rules.specs.Machine.{exec_in, owned, becomes, goto}
use Rattle.state.specs.State.{body_in, callers_of, depth_of, top_of, state_of, moved_to, Ready, Does}
use Rattle.state.specs.declared.Registers.{Registers}
use Rattle.state.specs.declared.Progress.TheVariants.{Goes, Stops}
use Rattle.state.proofs.Stack.{take1_short, take1_has}
use Rattle.state.proofs.Outcomes.{stopping, dropping}
use Rattle.values.specs.declared.Value.TheVariants.{Int, Long, Double, Pointer}
use Rattle.values.specs.declared.Value.{Value}
use Rattle.values.specs.Values.{value_of, kind_of_value}
use Rattle.values.specs.contracts.Value.{the_type}
use Rattle.values.proofs.Cases.{int_value, but_int, apart}

-- ---- owners

-- of a label of a module that can be read
abbrev Owner : ℕ → Type 0
Owner o = (o ≡ 0xffffffff) ⊎ (o < 65535)

-- an owner by its lower half
owner_is : (o b : ℕ) → Owner o → eq_body (body_of o) (body_in b) ≡ eqb (o % 65536) b
owner_is o b (inl e) = rw e (go (eqb b 65535) refl)
  where
    go : (x : Bool) → eqb b 65535 ≡ x → eq_body entry (cond x entry (fn b)) ≡ eqb 65535 b
    go true y = sym (eq-eqb 65535 b (sym (eqb-true b 65535 y)))
    go false y = sym (ne_eqb 65535 b (λ q. eqb-false b 65535 y (sym q)))
owner_is o b (inr l) =
    let m : o % 65536 ≡ o = omega arith in
    rw (ne_eqb o 0xffffffff (λ e. omega arith), m) (go (eqb b 65535) refl)
  where
    go : (x : Bool) → eqb b 65535 ≡ x → eq_body (fn o) (cond x entry (fn b)) ≡ eqb o b
    go true y = let q : b ≡ 65535 = eqb-true b 65535 y in sym (ne_eqb o b (λ e. omega arith))
    go false y = refl

module _ (o b q : ℕ) (good : Owner o) where
  pub owner_same : o % 65536 ≡ b → some q ≡ owned (body_in b) (some (body_of o, q))
  owner_same e = rw (owner_is o b good, eq-eqb (o % 65536) b e) refl

  pub owner_other : (o % 65536 ≡ b → ⊥) → none ≡ owned (body_in b) (some (body_of o, q))
  owner_other ne = rw (owner_is o b good, ne_eqb (o % 65536) b ne) refl

module _ (cap : ℕ) (r : Registers) (p t f : List ℕ) (k : Ready cap r p t f) (m : Module) (l : ℕ) where
  -- ---- jmp

  pub jmp_27 : owned (top_of r f).body (m.label l) ≡ none → Does cap r (Stops Exception.LabelOutOfRange) p t f p t f (exec_in m cap (Jmp l) (state_of r p t f))
  unfolding exec_in
  jmp_27 e = stopping cap r p t f k Exception.LabelOutOfRange _ (rw e refl)

  pub jmp_goes : (q : ℕ) → owned (top_of r f).body (m.label l) ≡ some q
      → Does cap r (Goes (moved_to r q r.height)) p t f p t f (exec_in m cap (Jmp l) (state_of r p t f))
  unfolding exec_in
  jmp_goes q e = dropping cap r p t f k q r.height _ (omega arith) k.over (rw e refl)

  -- ---- a conditional branch

  module _ (o : Condition) where
    pub branch_27 : owned (top_of r f).body (m.label l) ≡ none → Does cap r (Stops Exception.LabelOutOfRange) p t f p t f (exec_in m cap (Branch o l) (state_of r p t f))
    unfolding exec_in
    branch_27 e = stopping cap r p t f k Exception.LabelOutOfRange _ (rw e refl)

    module _ (q : ℕ) (e : owned (top_of r f).body (m.label l) ≡ some q) where
      pub branch_21 : r.height < r.floor + 1 → Does cap r (Stops Exception.StackEmpty) p t f p t f (exec_in m cap (Branch o l) (state_of r p t f))
      unfolding exec_in
      branch_21 h = stopping cap r p t f k Exception.StackEmpty _ (rw e (take1_short p t r.floor r.height _ h))

      module _ (v : Slot) (one : r.floor + 1 ≤ r.height) (top : v ≡ slot_at p t (r.height - 1)) where
        pub branch_22 : (v.kind ≡ 3 → ⊥) → Does cap r (Stops Exception.StackDifferentType) p t f p t f (exec_in m cap (Branch o l) (state_of r p t f))
        unfolding exec_in
        branch_22 ne =
            stopping cap r p t f k Exception.StackDifferentType _ (rw e (take1_has p t r.floor r.height _ one ∙ rw (← top, ne_eqb v.kind 3 ne) refl))

        pub branch_goes : v.kind ≡ 3
            → Does cap r (Goes (moved_to r (cond (holds o (low v.payload)) q (r.place + 5)) (r.height - 1))) p t f p t f (exec_in m cap (Branch o l) (state_of r p t f))
        unfolding exec_in
        branch_goes is =
            dropping cap r p t f k (cond (holds o (low v.payload)) q (r.place + 5)) (r.height - 1) _ (omega arith) (omega arith)
            (rw e (take1_has p t r.floor r.height _ one ∙ rw (← top, eq-eqb v.kind 3 is) (chosen (holds o (low v.payload)))))
          where
            chosen : (b : Bool) → becomes (state_of r p t f).memory (slots_of p t (r.height - 1)) (cond b (goto q (top_of r f)) (goto (r.place + 5) (top_of r f))) (callers_of f (depth_of r))
                ≡ becomes (state_of r p t f).memory (slots_of p t (r.height - 1)) (goto (cond b q (r.place + 5)) (top_of r f)) (callers_of f (depth_of r))
            chosen true = refl
            chosen false = refl

-- ---- the value that a branch pops

-- an int's slot has type number 3
pub popped_int : (v : Slot) (n : ℕ) → value_of v ≡ Int n → (v.kind ≡ 3) × (n ≡ low v.payload)
unfolding value_of
popped_int v n e = go (eqb v.kind 3) refl e
  where
    other : (x y w : Bool) → cond x (Double (decode_of v.payload)) (cond y (Pointer w v.payload) (Long v.payload)) ≡ Int n
        → (v.kind ≡ 3) × (n ≡ low v.payload)
    other true y w e = let z : ◌≡◌ {A = ℕ} 0 1 = cc in absurd (omega arith)
    other false true w e = let z : ◌≡◌ {A = ℕ} 0 1 = cc in absurd (omega arith)
    other false false w e = let z : ◌≡◌ {A = ℕ} 0 1 = cc in absurd (omega arith)

    go : (x : Bool) → eqb v.kind 3 ≡ x
        → cond x (Int (low v.payload)) (cond (eqb v.kind 6) (Double (decode_of v.payload)) (cond (leb 7 v.kind) (Pointer (eqb v.kind 8) v.payload) (Long v.payload))) ≡ Int n
        → (v.kind ≡ 3) × (n ≡ low v.payload)
    go true y e = (eqb-true v.kind 3 y, cc)
    go false y e = other (eqb v.kind 6) (leb 7 v.kind) (eqb v.kind 8) e

-- where a `let` found no int
pub popped_other : (v : Slot) (x : Value) → x ≡ value_of v → OneOf but_int (tag_of the_type x) → v.kind ≡ 3 → ⊥
popped_other v x e t is = apart 3 but_int x tt t (sym (ap kind_of_value (e ∙ int_value v is)))
