-- The profile that a body is made for, as the file has it.
use Prim.Native.Nat.{ℕ, ◌+◌, ◌*◌, ◌≤◌, ◌<◌}
use native.Mathlib.Omega.{arith}
use mathlib.Core.Path.{◌≡◌, refl, sym, ap, ◌∙◌}
use mathlib.Core.Bool.{true, false, not, ◌&&◌, cond}
use mathlib.Core.List.{List}
use lib.Dec.{eqb, ltb}
use lib.ListN.{length}
use borrow.Author.Tests.{eq-eqb, ne_eqb}
use Rattle.rules.specs.Bytes.{word}
use Rattle.rules.specs.Tables.{function_size, function_count, function_at, profile_at, function_of, body_of, module_of}
use Rattle.rules.specs.ModuleFile.{edition, functions, functions_at, functions_in, read}
use Rattle.rules.specs.Answers.{made_for, other_profile}
use Rattle.soundness.specs.Tests.{decide, ltb_yes}
use Rattle.format.specs.declared.Sections.{Sections}
use Rattle.format.specs.Layout.{Packed}
use Rattle.reader.proofs.Records.{function_count_lem, word_cut}
use Rattle.runs.specs.Runs.{Named}

module _ (s : List ℕ) (c : Sections) (packed : Packed s c) (f : ℕ) (scan : ℕ) where
  -- by the size of the records
  plain : (c.stride ≡ 24 → ⊥) → eqb (edition s) 4 ≡ false
  plain other = decide (eqb (edition s) 4) (λ y. absurd (other (packed.stride_is ∙ rw y refl))) (λ y. y)

  fourth : c.stride ≡ 24 → eqb (edition s) 4 ≡ true
  fourth e =
      decide (eqb (edition s) 4) (λ y. y)
      (λ y. let q : function_size (edition s) ≡ 20 = rw y refl in let z : c.stride ≡ function_size (edition s) = packed.stride_is in absurd (omega arith))

  pub for_any_entry : f ≡ 0xffffffff → false ≡ other_profile (made_for (read s) (body_of f)) scan
  for_any_entry e = rw (eq-eqb f 0xffffffff e) refl

  module _ (named : Named s f) where
    pub for_any : (c.stride ≡ 24 → ⊥) → false ≡ other_profile (made_for (read s) (body_of f)) scan
    unfolding module_of function_of
    for_any other =
        decide (eqb f 0xffffffff) (λ y. rw y refl)
        (λ y. rw y (decide (ltb f (function_count (edition s) (functions_in s))) (λ z. rw (z, plain other) refl) (λ z. rw z refl)))

    module _ (e : c.stride ≡ 24) (other : f ≡ 0xffffffff → ⊥) where
      size : function_size (edition s) ≡ 24
      size = sym packed.stride_is ∙ e

      inside : 24 * f + 24 ≤ function_size (edition s) * functions s
      inside = let h : f < functions s = named other in rw size (omega arith)

      pub profile_in_file : c.records + 24 * f + 24 ≤ length s
      profile_in_file = omega (arith, inside, packed.records_is, packed.targets_is, packed.code_is, packed.whole)

      at : function_at (edition s) f ≡ 24 * f
      at = ap (λ n. n * f) size

      word_is : word 4 s (c.records + 24 * f + 20) ≡ word 4 (functions_in s) (function_at (edition s) f + 20)
      word_is =
          let q : functions_at s + (function_at (edition s) f + 20) ≡ c.records + 24 * f + 20 = omega (arith, at, packed.records_is) in
          sym (word_cut 4 s (functions_at s) (function_size (edition s) * functions s) (function_at (edition s) f + 20) (omega (arith, at, inside)) ∙ ap (word 4 s) q)

      made_is : made_for (read s) (body_of f) ≡ profile_at (edition s) (functions_in s) (function_at (edition s) f)
      unfolding module_of function_of
      made_is =
          let h : f < function_count (edition s) (functions_in s) = omega (arith, named other, function_count_lem s c packed, packed.functions_is) in
          rw (ne_eqb f 0xffffffff other, ltb_yes f (function_count (edition s) (functions_in s)) h) refl

      pub made_for_lem : (made : ℕ) → made ≡ word 4 s (c.records + 24 * f + 20) → (not (eqb made 0) && not (eqb made scan)) ≡ other_profile (made_for (read s) (body_of f)) scan
      made_for_lem made q =
          let w : ℕ = word 4 (functions_in s) (function_at (edition s) f + 20) in
          ap (λ n. other_profile n scan) (q ∙ word_is ∙ sym (made_is ∙ ap (λ b. cond b w 0) (fourth e)))
