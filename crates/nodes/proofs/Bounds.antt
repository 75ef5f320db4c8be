-- Where bodies start and end, and their function records in the file.
use Prim.Native.Nat.{ℕ, ◌+◌, ◌*◌, ◌<◌}
use mathlib.Core.Path.{◌≡◌, refl, ap, ◌∙◌, sym, subst}
use native.Mathlib.Omega.{arith}
use mathlib.Core.List.{List}
use Rattle.rules.specs.Bytes.{word}
use Rattle.rules.specs.Tables.{function_count, function_at, entry, fn, body_of, body_start, body_end}
use Rattle.rules.specs.ModuleFile.{edition, bodies_in, functions_in}
use Rattle.format.specs.declared.Sections.{Sections}
use Rattle.format.specs.Layout.{Packed}
use Rattle.soundness.specs.Tests.{eqb_other}
use Rattle.soundness.specs.Readable.{Has}
use Rattle.reader.proofs.Records.{function_count_lem, function_first, function_word}

pub is_entry : (owner : ℕ) → owner ≡ 0xffffffff → body_of owner ≡ entry
is_entry owner e = rw e refl

pub is_function : (owner : ℕ) → (owner ≡ 0xffffffff → ⊥) → body_of owner ≡ fn owner
is_function owner n = rw (eqb_other owner 0xffffffff n) refl

module _ (s : List ℕ) (c : Sections) (p : Packed s c) (owner : ℕ) where
  pub entry_end_lem : owner ≡ 0xffffffff → c.entry ≡ body_end (bodies_in s) (body_of owner)
  entry_end_lem e = p.entry_is ∙ ap (body_end (bodies_in s)) (sym (is_entry owner e))

  pub entry_start : owner ≡ 0xffffffff → 0 ≡ body_start (bodies_in s) (body_of owner)
  entry_start e = ap (body_start (bodies_in s)) (sym (is_entry owner e))

  module _ (has : Has (bodies_in s) (body_of owner)) (other : owner ≡ 0xffffffff → ⊥) where
    pub function_there : owner < function_count (edition s) (functions_in s)
    function_there = subst (Has (bodies_in s)) (is_function owner other) has

    pub function_number : owner < c.functions
    function_number = omega (arith, function_there, function_count_lem s c p)

    pub function_end : (a l : ℕ) → a ≡ word 4 s (c.records + c.stride * owner) → l ≡ word 4 s (c.records + c.stride * owner + 4) → a + l ≡ body_end (bodies_in s) (body_of owner)
    function_end a l u v =
        let fs : List ℕ = functions_in s in
        let at : c.stride * owner ≡ function_at (edition s) owner = ap (λ (n : ℕ). n * owner) p.stride_is in
        let x : a ≡ word 4 fs (function_at (edition s) owner) = u ∙ sym (function_first s c p owner function_number) ∙ ap (word 4 fs) at in
        let y : l ≡ word 4 fs (function_at (edition s) owner + 4) = v ∙ sym (function_word s c p owner 4 function_number (omega arith)) ∙ ap (λ (n : ℕ). word 4 fs (n + 4)) at in
        ap (λ (n : ℕ). n + l) x ∙ ap (λ (n : ℕ). word 4 fs (function_at (edition s) owner) + n) y ∙ ap (body_end (bodies_in s)) (sym (is_function owner other))

    pub function_start : (a : ℕ) → a ≡ word 4 s (c.records + c.stride * owner) → a ≡ body_start (bodies_in s) (body_of owner)
    function_start a u =
        u ∙ sym (function_first s c p owner function_number) ∙ ap (λ (n : ℕ). word 4 (functions_in s) (n * owner)) p.stride_is
        ∙ ap (body_start (bodies_in s)) (sym (is_function owner other))
