-- The table of starts after a walk over the whole code, and what it says of a place.
use Prim.Native.Nat.{ℕ, ◌+◌, ◌<◌}
use native.Mathlib.Omega.{arith}
use mathlib.Core.Path.{◌≡◌, refl, sym, ◌∙◌}
use mathlib.Core.Logic.{⊎_elim}
use mathlib.Core.Bool.{Bool, true, false, true≢false}
use mathlib.Core.List.{List}
use mathlib.Core.Option.{some}
use lib.Dec.{eqb}
use lib.ListN.{length, get_or, get_or-eq_default}
use borrow.Author.Tests.{eqb-true, eqb-false, eq-eqb, ne_eqb}
use Rattle.rules.specs.declared.Instruction.{Instruction}
use Rattle.rules.specs.Instructions.{Opcode, absent, bare, wide, is_absent, instruction_of}
use Rattle.rules.specs.Bytes.{word}
use Rattle.rules.specs.Tables.{due, unknown_at, opcode_at, code_of}
use Rattle.format.proofs.Tests.{split}
use Rattle.format.proofs.Gathered.{some_hit}
use Rattle.reader.specs.Cut.{Cut, Begins, StartsExactly}
use Rattle.reader.proofs.Cuts.{mark_one, mark_tells}

known_found : (o : Opcode) (w : ℕ) → (is_absent o ≡ true → ⊥) → (i : Instruction) × (instruction_of o w ≡ some i)
known_found absent w h = absurd (h refl)
known_found (bare i) w h = (i, refl)
known_found (wide i) w h = (i w, refl)

module _ (e : ℕ) (s t : List ℕ) where
  module _ (cut : Cut e s (length s) t) where
    -- an unmarked place
    blank_here : (p : ℕ) → get_or t p 0 ≡ 0 → get_or t p 0 ≡ 1 → ⊥
    blank_here p z y = omega arith

    only_here : (p : ℕ) → get_or t p 0 ≡ 1 → p < length s → p < length t → due e s p ≡ 0
    only_here p y l h = eqb-true _ _ (sym (mark_tells e s p _ (cut.marked p l h)) ∙ eq-eqb _ _ y)

    unknown_here : (p : ℕ) → Begins e s p → is_absent (opcode_at e s p) ≡ true → ⊥
    unfolding unknown_at
    unknown_here p b a = true≢false (sym (some_hit (unknown_at e s) (length s) p b.0 (simp (eq-eqb _ _ b.1, a))) ∙ cut.known)

    -- after the whole walk
    pub starts_exactly : StartsExactly e s t
    unfolding code_of
    starts_exactly =
        record {
          only = λ p y.
              ⊎_elim (λ l. absurd (blank_here p (cut.clear p l) y))
              (λ l. ⊎_elim (λ h. absurd (blank_here p (get_or-eq_default t 0 h) y)) (λ h. (l, only_here p y l h)) (split (length t) p))
              (split (length s) p);
          each = λ p h b. cut.marked p b.0 h ∙ sym (mark_one e s p b.1);
          found = λ p b. known_found (opcode_at e s p) (word 4 s (p + 1)) (unknown_here p b);
        }

  -- whether a place is marked is whether an instruction begins there
  pub start_tells : StartsExactly e s t → (p : ℕ) → p < length s → p < length t → eqb (get_or t p 0) 1 ≡ eqb (due e s p) 0
  start_tells exact p l h = go (eqb (due e s p) 0) refl
    where
      go : (b : Bool) → eqb (due e s p) 0 ≡ b → eqb (get_or t p 0) 1 ≡ b
      go true y = eq-eqb _ _ (exact.each p h (l, eqb-true _ _ y))
      go false y = ne_eqb _ _ (λ z. eqb-false _ _ y (exact.only p z).1)
