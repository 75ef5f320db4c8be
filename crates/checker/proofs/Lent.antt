-- The code in keys that a check is lent: that of editions 3 and 4 is the file's own, edition 1's is what `translate` leaves.
use Prim.Native.Nat.{ℕ, ◌-◌}
use native.Mathlib.Omega.{arith}
use mathlib.Core.Path.{◌≡◌, sym, ap, ◌∙◌, subst}
use mathlib.Core.Bool.{cond}
use mathlib.Core.List.{List}
use lib.ListN.{length, take, drop, length-drop}
use lib.Dec.{eqb}
use Rattle.rules.specs.Bytes.{word}
use Rattle.rules.specs.ModuleFile.{edition, code_in, refusal}
use Rattle.format.specs.declared.Sections.{Sections}
use Rattle.format.specs.Layout.{Packed}
use Rattle.soundness.specs.Translated.{InKeys}
use Rattle.keys.specs.Keys.{Keyed}
use Rattle.keys.proofs.Files.{code_part, file_keyed, first_keyed}

module _ (s : List ℕ) (c : Sections) (packed : Packed s c) where
  abbrev part : List ℕ
  part = take (length s - c.code) (drop c.code s)

  -- in edition 1 the code is the last section
  pub part_long : edition s ≡ 1 → length part ≡ c.extent
  part_long e =
      let z : c.structures ≡ 0 = packed.structures_is ∙ ap (λ (n : ℕ). cond (eqb n 4) (word 4 s 48) 0) e in
      ap length (code_part s c.code) ∙ length-drop c.code s ∙ (let w = packed.whole in omega arith)

  module _ (readable : refusal s ≡ 0) where
    pub lent_file : (edition s ≡ 1 → ⊥) → Keyed s part 0
    lent_file n =
        record {
          inside = omega arith;
          keys = subst (InKeys (edition s) (code_in s)) (sym (code_part s c.code)) (file_keyed s readable c.code packed.code_is n).keys;
        }

    pub lent_first : edition s ≡ 1 → (own : List ℕ) → InKeys 1 part own → Keyed s own 0
    lent_first e own k = first_keyed s readable c.code packed.code_is e own (subst (λ (code : List ℕ). InKeys 1 code own) (code_part s c.code) k)
