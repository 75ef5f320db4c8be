-- The body that a number names: the entry, a function, or none.
use Prim.Native.Nat.{ℕ}
use native.Mathlib.Omega.{arith}
use mathlib.Core.Path.{◌≡◌, refl, sym, ap}
use mathlib.Core.Option.{none, some}
use mathlib.Core.List.{List}
use borrow.Author.Tests.{eq-eqb, ne_eqb}
use Rattle.rules.specs.Tables.{body_of, module_of}
use Rattle.rules.specs.ModuleFile.{refusal, read}
use Rattle.rules.specs.Typing.{start_of}
use Rattle.format.specs.declared.Sections.{Sections}
use Rattle.format.specs.Layout.{Packed}
use Rattle.reader.specs.declared.entries.FunctionRecord.{FunctionRecord}
use Rattle.std.specs.Prelude.{Some}
use Rattle.reader.specs.Answers.{function_found}
use Rattle.reader.proofs.Records.{function_count_lem}
use Rattle.control.proofs.Files.{callee}
use Rattle.runs.specs.Runs.{BodyIs}

module _ (s : List ℕ) (c : Sections) (packed : Packed s c) (f : ℕ) where
  pub names_entry : f ≡ 0xffffffff → BodyIs s c f (record { body = 65535; start = 0; end = c.entry; params = 0 })
  unfolding module_of
  names_entry e =
      record {
        there = λ other. absurd (other e);
        named = rw (eq-eqb f 0xffffffff e) refl;
        starts = rw (eq-eqb f 0xffffffff e) refl;
        ends = rw (eq-eqb f 0xffffffff e) (ap some (sym packed.entry_is));
        declares = λ h. absurd (omega arith);
        few = omega arith;
        near = omega (arith, packed.entry_inside, packed.little_code);
        body_fits = omega arith;
      }

  module _ (other : f ≡ 0xffffffff → ⊥) where
    pub names_none : (read s).function f ≡ none → start_of (read s) (body_of f) ≡ none
    names_none e = rw (ne_eqb f 0xffffffff other, e) refl

    pub names_function : refusal s ≡ 0 → (g : FunctionRecord) → function_found s f (Some g) ≡ (read s).function f
        → BodyIs s c f (record { body = f; start = g.start; end = g.end; params = g.params })
    names_function readable g e =
        let k = callee s readable f g e in
        record {
          there = λ o. omega (arith, k.0, function_count_lem s c packed, packed.functions_is);
          named = rw (ne_eqb f 0xffffffff other, ne_eqb f 65535 (λ q. omega (arith, k.0, function_count_lem s c packed, packed.few_functions))) refl;
          starts = rw (ne_eqb f 0xffffffff other, ← e) refl;
          ends = rw (ne_eqb f 0xffffffff other, ← e) refl;
          declares = λ h. omega (arith, k.0, function_count_lem s c packed);
          few = k.1;
          near = k.2;
          body_fits = omega (arith, k.0, function_count_lem s c packed, packed.few_functions);
        }
