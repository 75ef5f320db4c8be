-- What `pushed`, `pop`, `copy` and `swap` do, a law for each way out.
use Prim.Native.Nat.{ℕ, suc, ◌+◌, ◌-◌, ◌^◌, ◌≤◌, ◌<◌}
use native.Mathlib.Omega.{arith}
use mathlib.Core.Path.{◌≡◌, refl, sym, ap, ◌∙◌}
use mathlib.Core.List.{List, ◌∷◌}
use borrow.Author.Tests.{le-leb, lt-leb, eq-eqb, ne_eqb}
use Rattle.rules.specs.declared.Exception.TheVariants as Exception
use Rattle.rules.specs.declared.Slot.{Slot}
use Rattle.rules.specs.declared.Unary.TheVariants.{Pop, Copy}
use Rattle.rules.specs.declared.Binary.TheVariants.{Swap}
use Rattle.rules.specs.declared.Instruction.TheVariants.{One, Two}
use Rattle.rules.specs.Tables.{Module}
use Rattle.rules.specs.Stack.{slot_at, slots_of}
use Rattle.rules.specs.Machine.{exec_in}
use Rattle.state.specs.Slots.{payloads_with, types_with}
use Rattle.state.specs.State.{state_of, moved_to, Ready, Does}
use Rattle.state.specs.declared.Registers.{Registers}
use Rattle.state.specs.declared.Progress.{Progress}
use Rattle.state.specs.declared.Progress.TheVariants.{Goes, Stops}
use Rattle.state.proofs.Stack.{length_slots, slots_top, slots_push, take1_has, take2_has}
use Rattle.state.proofs.Outcomes.{shifted, stopping, dropping, topping}
use Rattle.state.proofs.Families.{types_same}
use Rattle.moves.specs.Moves.{pushed_at}

module _ (cap : ℕ) (r : Registers) (p t f : List ℕ) (k : Ready cap r p t f) where
  -- ---- a slot on top

  pub pushed_full : (q : ℕ) (v : Slot) → cap ≤ r.height → Does cap r (Stops Exception.StackOverflow) p t f p t f (pushed_at cap q v (state_of r p t f))
  unfolding pushed_at
  pushed_full q v h = stopping cap r p t f k Exception.StackOverflow _ (simp (length_slots, lt-leb (suc r.height) cap (omega arith)))

  pub pushed_top : (q : ℕ) (v : Slot) (p' t' : List ℕ) → p' ≡ payloads_with p r.height v → t' ≡ types_with t r.height v → v.payload < 2 ^ 64
      → r.height < cap → Does cap r (Goes (moved_to r q (r.height + 1))) p t f p' t' f (pushed_at cap q v (state_of r p t f))
  unfolding pushed_at
  pushed_top q v p' t' ep et fits h =
      topping cap r p t f k v r.height p' t' ep et fits h q _ (omega (arith, k.over))
      (simp (length_slots, le-leb (suc r.height) cap (omega arith)))

  -- ---- pop, copy, swap

  module _ (m : Module) where
    module _ (has : r.floor + 1 ≤ r.height) where
      pub pop_is : Does cap r (Goes (moved_to r (r.place + 1) (r.height - 1))) p t f p t f (exec_in m cap (One Pop) (state_of r p t f))
      unfolding exec_in
      pop_is =
          dropping cap r p t f k _ (r.height - 1) _ (omega arith) (omega arith)
          (take1_has p t r.floor r.height _ has
          ∙ rw (eq-eqb (slot_at p t (r.height - 1)).kind _ refl, length_slots p t (r.height - 1), le-leb (r.height - 1) cap (omega (arith, k.high))) refl)

      module _ (v : Slot) (top : v ≡ slot_at p t (r.height - 1)) (a : Progress) (p' t' : List ℕ) where
        pub copy_is : Does cap r a p t f p' t' f (pushed_at cap (r.place + 1) v (state_of r p t f))
            → Does cap r a p t f p' t' f (exec_in m cap (One Copy) (state_of r p t f))
        unfolding exec_in pushed_at
        copy_is d =
            rw (take1_has p t r.floor r.height _ has)
            (rw (← top, eq-eqb v.kind v.kind refl) (rw (slots_top p t r.height (omega arith), ← top) at d))

    module _ (a b : Slot) (has : r.floor + 2 ≤ r.height) (deep : a ≡ slot_at p t (r.height - 2)) (top : b ≡ slot_at p t (r.height - 1)) where
      pub swap_22 : (a.kind ≡ b.kind → ⊥) → Does cap r (Stops Exception.StackDifferentType) p t f p t f (exec_in m cap (Two Swap) (state_of r p t f))
      unfolding exec_in
      swap_22 ne = stopping cap r p t f k Exception.StackDifferentType _ (take2_has p t r.floor r.height _ has ∙ rw (← deep, ← top, ne_eqb a.kind b.kind ne) refl)

      -- the type bytes are alike
      pub swap_is : (p₁ p' : List ℕ) → a.kind ≡ b.kind → a.payload < 2 ^ 64 → b.payload < 2 ^ 64
          → p₁ ≡ payloads_with p (r.height - 2) b → p' ≡ payloads_with p₁ (r.height - 1) a
          → Does cap r (Goes (moved_to r (r.place + 1) r.height)) p t f p' t f (exec_in m cap (Two Swap) (state_of r p t f))
      unfolding exec_in
      swap_is p₁ p' eq fa fb ep ep' =
          let i = r.height - 2 in
          let q = r.place + 1 in
          let up : i + 1 ≡ r.height - 1 = omega arith in
          let up' : r.height - 1 + 1 ≡ r.height = omega arith in
          let et : t ≡ types_with t i b = types_same p t i b (sym eq ∙ ap (λ (v : Slot). v.kind) deep) in
          let et' : t ≡ types_with t (r.height - 1) a = types_same p t (r.height - 1) a (eq ∙ ap (λ (v : Slot). v.kind) top) in
          let first = topping cap r p t f k b i p₁ t ep et fb (omega (arith, k.high)) q _ (omega arith) refl in
          let held : slots_of p₁ t (r.height - 1) ≡ b ∷ slots_of p t i =
          ap (λ (l : List ℕ). slots_of p₁ l (r.height - 1)) et
          ∙ rw (ep, ← up) (slots_push p t i b (omega (arith, k.payloads, k.high)) (omega (arith, k.types, k.high)) fb) in
          let second =
          topping cap (moved_to r q (i + 1)) p₁ t f first.ready a (r.height - 1) p' t ep' et' fa (omega (arith, k.high)) q _ (omega (arith, k.over)) refl in
          record {
            result =
                rw up' at second.result
                ∙ sym (take2_has p t r.floor r.height _ has
                ∙ rw (← deep, ← top, eq-eqb a.kind b.kind eq, length_slots p t i, le-leb (suc (suc i)) cap (omega (arith, k.high)))
                (ap (λ (l : List Slot). shifted (state_of r p t f) q (a ∷ l)) (sym held)));
            unchanged = tt;
            ready = rw up' at second.ready;
            rest_payloads = second.rest_payloads ∙ first.rest_payloads;
            rest_types = second.rest_types ∙ first.rest_types;
            same_payloads = second.same_payloads ∙ first.same_payloads;
            same_types = second.same_types ∙ first.same_types;
          }
