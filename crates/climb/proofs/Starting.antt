-- A body's start and its parameters.
use mathlib.Core.Path.{◌≡◌, refl, sym, ap, ◌∙◌, subst}
use Prim.Native.Nat.{ℕ, ◌≤◌, ◌<◌}
use native.Mathlib.Omega.{arith}
use mathlib.Core.Option.{Option, none, some}
use mathlib.Core.List.{List, []}
use lib.ListN.{length}
use borrow.Author.Tests.{eq-eqb, ne_eqb}
use Rattle.rules.specs.Bytes.{maybe}
use Rattle.rules.specs.Instructions.{Ty}
use Rattle.rules.specs.Tables.{fn, Function, body_of, body_start, body_end, function_count}
use Rattle.rules.specs.ModuleFile.{edition, functions_in, functions, refusal, read, bodies_in, tables_in, code_in, code_length}
use Rattle.rules.specs.Typing.{start_of}
use Rattle.reader.specs.declared.entries.FunctionRecord.{FunctionRecord}
use Rattle.std.specs.Prelude.{Some}
use Rattle.reader.specs.Answers.{function_found}
use Rattle.format.specs.declared.Sections.{Sections}
use Rattle.soundness.specs.Tests.{none_some, some_inj}
use Rattle.soundness.specs.Readable.{Has, start_is, place_inside}
use Rattle.soundness.specs.Cutting.{good_file, function_count_lem, code_length_lem}
use Rattle.need.specs.Whole.{has_start}
use Rattle.climb.proofs.Laws.{slots_params}
use Rattle.tracks.specs.Walks.{Ready}
use Rattle.tracks.specs.Summing.{Starts, start_stands}

-- the entry
pub entry_starts : (s : List ℕ) (owner : ℕ) → owner ≡ 0xffffffff → Starts s (body_of owner) (body_start (bodies_in s) (body_of owner)) 0
entry_starts s owner e = rw (eq-eqb owner 0xffffffff e) ([], refl, refl)

module _ (s : List ℕ) (rd : refusal s ≡ 0) (owner : ℕ) (not_entry : owner ≡ 0xffffffff → ⊥) (has : Has (bodies_in s) (body_of owner)) where
  is_fn : body_of owner ≡ fn owner
  is_fn = rw (ne_eqb owner 0xffffffff not_entry) refl

  has_fn : owner < function_count (edition s) (functions_in s)
  has_fn = subst (Has (bodies_in s)) is_fn has

  found : (x : ℕ × List Ty) × (start_of (read s) (fn owner) ≡ some x)
  found = has_start s rd (fn owner) (let c : function_count (edition s) (functions_in s) ≡ functions s = function_count_lem s rd in let h : owner < function_count (edition s) (functions_in s) = has_fn in omega arith)

  of_function : (o : Option Function) (x : ℕ × List Ty) → maybe o none (λ F. some (F.start, F.params)) ≡ some x → (F : Function) × (o ≡ some F) × (x.1 ≡ F.params)
  of_function none x e = none_some e
  of_function (some F) x e = (F, refl, ap (λ (y : ℕ × List Ty). y.1) (sym (some_inj (F.start, F.params) x e)))

  callee : (F : Function) × ((read s).function owner ≡ some F) × (found.0.1 ≡ F.params)
  callee = of_function ((read s).function owner) found.0 found.1

  pub function_there : (read s).function owner ≡ none → ⊥
  function_there e = none_some (sym e ∙ callee.1)

  pub function_starts : (g : FunctionRecord) → function_found s owner (Some g) ≡ (read s).function owner → Starts s (body_of owner) (body_start (bodies_in s) (body_of owner)) g.params
  function_starts g is =
      let y = start_is (tables_in s) (good_file s rd) (fn owner) found.0 found.1 in
      subst (λ b. Starts s b (body_start (bodies_in s) b) g.params) (sym is_fn)
      (found.0.1, found.1 ∙ ap (λ p. some (p, found.0.1)) (sym y.1), ap length callee.2 ∙ sym (slots_params s owner g is callee.0 callee.1))

-- where the start lies
module _ (s : List ℕ) (c : Sections) (table : List ℕ) (owner : ℕ) (R : Ready s c table owner) (p n : ℕ) (S : Starts s (body_of owner) p n) where
  pub start_in : p < length table
  start_in =
      let x = place_inside (tables_in s) (good_file s R.readable) (body_of owner) p R.has (start_stands s c table owner R p n S).place in
      let y : p ≤ body_end (bodies_in s) (body_of owner) = x.1 in
      let z : body_end (bodies_in s) (body_of owner) ≤ length (code_in s) = x.2 in
      let l : length (code_in s) ≡ code_length s = code_length_lem s R.readable in
      let w : code_length s < length table = R.tabled.wide in omega arith
