-- Runs of opcodes that stand alone: how they are tested, marked, and cut into instructions.
use Prim.Native.Nat.{ℕ, zero, suc, ◌+◌, ◌≤◌}
use native.Mathlib.Nat.{add-zero}
use native.Mathlib.Numerals.{add-one}
use native.Mathlib.Omega.{arith}
use mathlib.Core.Path.{◌≡◌, refl, sym, ap, ◌∙◌, subst}
use mathlib.Core.Bool.{Bool, true, ◌&&◌, true≢false}
use mathlib.Core.List.{List}
use lib.ListN.{length, set, length-set}
use lib.Seq.{set_out}
use Rattle.rules.specs.Instructions.{Opcode, absent, bare, wide}
use Rattle.rules.specs.Tables.{opcode_at}
use Rattle.format.proofs.Tests.{and_left, and_right}
use Rattle.reader.specs.Cut.{size_in, Cut, is_bare, all_bare, marks}
use Rattle.reader.proofs.Cuts.{cut_step}

-- ---- tests

module _ (e : ℕ) (s : List ℕ) (at : ℕ) where
  pub bare_none : true ≡ all_bare e s at 0
  unfolding all_bare
  bare_none = refl

  pub bare_next : (i : ℕ) (good g : Bool) → good ≡ all_bare e s at i → g ≡ is_bare (opcode_at e s (at + i)) → (good && g) ≡ all_bare e s at (i + 1)
  unfolding all_bare
  bare_next i good g q h = rw (add-one, q, h)

-- ---- marks

pub length_marks : (t : List ℕ) (p n : ℕ) → length (marks t p n) ≡ length t
unfolding marks
length_marks t p zero = refl
length_marks t p (suc n) = length-set (marks t p n) (p + n) 1 ∙ length_marks t p n

pub marks_none : (t : List ℕ) (p : ℕ) → t ≡ marks t p 0
unfolding marks
marks_none t p = refl

pub marks_next : (t u : List ℕ) (p n : ℕ) → u ≡ marks t p n → set u (p + n) 1 ≡ marks t p (n + 1)
unfolding marks
marks_next t u p n e = rw (add-one, e)

-- places that the table has not
pub marks_out : (t : List ℕ) (p n : ℕ) → length t ≤ p → t ≡ marks t p n
unfolding marks
marks_out t p zero h = refl
marks_out t p (suc n) h = let e = marks_out t p n h in sym (ap (λ (u : List ℕ). set u (p + n) 1) (sym e) ∙ set_out t (p + n) 1 (omega arith))

-- ---- a run of opcodes that stand alone extends the cut

one_byte : (o : Opcode) → is_bare o ≡ true → 1 ≡ size_in o
one_byte absent h = absurd (true≢false (sym h))
one_byte (bare i) h = refl
one_byte (wide i) h = absurd (true≢false (sym h))

module _ (ed : ℕ) (s : List ℕ) (p : ℕ) (t : List ℕ) (cut : Cut ed s p t) where
  pub cut_run : (n : ℕ) → all_bare ed s p n ≡ true → Cut ed s (p + n) (marks t p n)
  unfolding marks all_bare
  cut_run zero a = rw add-zero cut
  cut_run (suc n) a =
      let u = cut_run n (and_left (all_bare ed s p n) _ a) in
      let e : 1 ≡ size_in (opcode_at ed s (p + n)) = one_byte (opcode_at ed s (p + n)) (and_right (all_bare ed s p n) _ a) in
      let z : p + n + 1 ≡ p + suc n = omega arith in
      subst (λ (x : ℕ). Cut ed s x (set (marks t p n) (p + n) 1)) z (cut_step ed s (p + n) 1 (marks t p n) u e (omega arith))
