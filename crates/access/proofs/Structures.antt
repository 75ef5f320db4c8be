-- The structures of a readable file, as the heap asks for them.
use Prim.Native.Nat.{ℕ, ◌+◌, ◌*◌, ◌-◌, ◌≤◌, ◌<◌}
use native.Mathlib.Omega.{arith}
use mathlib.Core.Path.{◌≡◌, refl, sym, ap, ◌∙◌}
use mathlib.Core.Bool.{cond}
use mathlib.Core.Option.{Option, none, some}
use mathlib.Core.Logic.{inl, inr, ⊎_elim}
use mathlib.Core.List.{List}
use lib.ListN.{length, drop, length-drop, get_or-eq_default}
use lib.Seq.{take_all}
use lib.Dec.{eqb}
use borrow.Author.Tests.{lt-ltb, le-ltb, le-leb, lt-leb, ne_eqb}
use Rattle.rules.specs.Bytes.{byte, maybe}
use Rattle.rules.specs.Instructions.{num_of, num_kind}
use Rattle.rules.specs.Tables.{structure_count, structure_at, field_of, fields_from, structure_of, module_of}
use Rattle.rules.specs.ModuleFile.{structures, structures_at, structures_in, read, refusal}
use Rattle.rules.specs.Heap.{Shape, single, fields, shape_of}
use Rattle.soundness.specs.Readable.{NumberByte, good_shape}
use Rattle.soundness.specs.Cutting.{structures_length, structure_count_lem, structures_good, few_structures}
use Rattle.format.specs.Layout.{Packed}
use Rattle.format.specs.declared.Sections.{Sections}
use Rattle.state.proofs.Stack.{split_lt}
use Rattle.heap.specs.Blocks.{fields_in}
use Rattle.heap.specs.Targets.{shape_in, Shapes, Plain}

number_back : (b : ℕ) → NumberByte b → num_kind (field_of b) ≡ b
number_back b (inl q) = rw q refl
number_back b (inr (inl q)) = rw q refl
number_back b (inr (inr q)) = rw q refl

module _ (s : List ℕ) (readable : refusal s ≡ 0) where
  -- a record past the last one
  past : (i : ℕ) → structures s ≤ i → byte (structures_in s) (structure_at i) ≡ 0
  past i l = get_or-eq_default (structures_in s) 0 {n = structure_at i} (omega (arith, structures_length s readable))

  pub plain_file : Plain (structures_in s)
  plain_file i o h =
      ⊎_elim
      (λ (l : i < structures s). number_back (byte (structures_in s) (structure_at i + 1 + o))
      ((good_shape (structures_in s) (structures_good s readable) i (omega (arith, structure_count_lem s readable))).field_type_lem o h))
      (λ (l : structures s ≤ i). absurd (omega (arith, past i l)))
      (split_lt i (structures s))

  pub shapes_file : Shapes (read s) (structures_in s)
  unfolding shape_of shape_in module_of structure_of fields_in
  shapes_file n = ap (λ (x : Option Shape). maybe (num_of n) x (λ τ. some (single τ))) (same n)
    where
      same : (n : ℕ) → maybe ((read s).structure n) none (λ fs. some (fields fs))
          ≡ cond (eqb (fields_in (structures_in s) n) 0) none (some (fields (fields_from (structures_in s) (structure_at (n - 10) + 1) (fields_in (structures_in s) n))))
      same n =
          ⊎_elim
          (λ (l : n < 10). rw (lt-leb 10 n l, lt-ltb n 10 l) refl)
          (λ (l : 10 ≤ n). ⊎_elim
          (λ (b : n < 10 + structure_count (structures_in s)).
          let some_field = (good_shape (structures_in s) (structures_good s readable) (n - 10) (omega arith)).some_field in
          rw (
            le-leb 10 n l,
            lt-ltb n (10 + structure_count (structures_in s)) b,
            le-ltb n 10 l,
            lt-leb 26 n (omega (arith, structure_count_lem s readable, few_structures s readable)),
            ne_eqb (byte (structures_in s) (structure_at (n - 10))) 0 (λ e. omega (arith, some_field)),
          ) refl)
          (λ (b : 10 + structure_count (structures_in s) ≤ n). ⊎_elim
          (λ (y : n < 26). rw (le-leb 10 n l, le-ltb n (10 + structure_count (structures_in s)) b, le-ltb n 10 l, lt-leb 26 n y, past (n - 10) (omega (arith, structure_count_lem s readable))) refl)
          (λ (y : 26 ≤ n). rw (le-leb 10 n l, le-ltb n (10 + structure_count (structures_in s)) b, le-ltb n 10 l, le-leb 26 n y) refl)
          (split_lt n 26))
          (split_lt n (10 + structure_count (structures_in s))))
          (split_lt n 10)

  -- the file's last section
  pub structures_rest : (c : Sections) → Packed s c → drop (c.code + c.extent) s ≡ structures_in s
  structures_rest c k =
      let a : c.code + c.extent ≡ structures_at s = omega (arith, k.code_is, k.extent_is) in
      let l : length (drop (structures_at s) s) ≡ length s - structures_at s = length-drop (structures_at s) s in
      ap (λ (n : ℕ). drop n s) a ∙ sym (take_all (12 * structures s) (drop (structures_at s) s) (omega (arith, k.whole, k.structures_is)))
