-- The instruction at a place of a body: by its bytes, and where it leads.
use Prim.Native.Nat.{ℕ, ◌+◌, ◌%◌, ◌≤◌, ◌<◌}
use mathlib.Core.Path.{◌≡◌, refl, ap, ◌∙◌, sym, subst}
use native.Mathlib.Omega.{arith}
use mathlib.Core.Bool.{true}
use mathlib.Core.Option.{some}
use mathlib.Core.List.{List}
use lib.ListN.{length}
use borrow.Author.Tests.{le-leb, lt-leb, eq-eqb, ne_eqb}
use Rattle.rules.specs.declared.Instruction.{Instruction}
use Rattle.rules.specs.Bytes.{byte, word}
use Rattle.rules.specs.Instructions.{opcode_of, instruction_of, size}
use Rattle.rules.specs.Tables.{Body, Module, body_of, body_end, module_of}
use Rattle.rules.specs.ModuleFile.{code_length, refusal, read, bodies_in, tables_in, code_in}
use Rattle.rules.specs.Typing.{judge, place_flow}
use Rattle.format.specs.declared.Sections.{Sections}
use Rattle.format.specs.Layout.{Packed}
use Rattle.soundness.specs.Tests.{some_inj}
use Rattle.soundness.specs.Exact.{After as Behind}
use Rattle.soundness.specs.Readable.{Has, orderly, has_end, place_is, place_inside}
use Rattle.soundness.specs.Cutting.{code_length_lem, good_file}
use Rattle.soundness.specs.Numbering.{key_table}
use Rattle.keys.specs.Keys.{Says, Keyed, Known}
use Rattle.keys.proofs.Places.{says_known, says_key}
use Rattle.keys.proofs.Files.{says_at}
use Rattle.records.specs.Record.{lists_of, Holds, bounded, Leads}
use Rattle.records.specs.declared.Transfer.{Transfer}
use Rattle.records.specs.declared.Transfer.TheVariants.{Breaks, Stops, Falls, Jumps, Forks}
use Rattle.transfer.specs.Transfers.{Judges, KeyAt, Moves}
use Rattle.checker.specs.Work.{After, Moved}

after : (m : Module) (b : Body) (p q : ℕ) → Behind m b p q → (a : Transfer) → Leads m b q a → After m b p a
after m b p q n Breaks e = tt
after m b p q n Stops e = tt
after m b p q n (Falls x) e = subst (Behind m b p) (sym e) n
after m b p q n (Jumps x) e = e
after m b p q n (Forks l x) e = (e.0, subst (Behind m b p) (sym e.1) n)

-- the code in keys is lent
module _ (s : List ℕ) (c : Sections) (packed : Packed s c) (e : refusal s ≡ 0) (code : List ℕ) (k : Keyed s code 0) where
  module _ (owner : ℕ) (has : Has (bodies_in s) (body_of owner)) (p : ℕ) (place : (read s).is_place (body_of owner) p ≡ true) (before : p < body_end (bodies_in s) (body_of owner)) where
    abbrev end : ℕ
    end = body_end (bodies_in s) (body_of owner)

    here : (i : Instruction) × ((read s).code p ≡ some i) × ((read s).is_place (body_of owner) (p + size i) ≡ true)
    here = (orderly (tables_in s) (good_file s e)).goes_on (body_of owner) end p (has_end (tables_in s) (good_file s e) (body_of owner) has) place before

    inside : p + size here.0 ≤ code_length s
    inside =
        let x = place_inside (tables_in s) (good_file s e) (body_of owner) (p + size here.0) has here.2 in
        let y : p + size here.0 ≤ end = x.1 in
        let z : end ≤ length (code_in s) = x.2 in
        let l : length (code_in s) ≡ code_length s = code_length_lem s e in omega arith

    says : Says code p here.0
    unfolding module_of
    says = says_at s code 0 k e p here.0 (place_is (tables_in s) (good_file s e) (body_of owner) p place).2 here.1 inside

    module _ (b : ℕ) (key : b ≡ byte code p % 64) where
      key_is : b ≡ byte code p
      key_is = key ∙ says_key code p here.0 says

      stands_here : instruction_of (opcode_of key_table b) (word 4 code (p + 1)) ≡ some here.0
      stands_here = ap (λ (x : ℕ). instruction_of (opcode_of key_table x) (word 4 code (p + 1))) key_is ∙ says.is

      pub key_at_lem : KeyAt code p b
      key_at_lem =
          record {
            known = subst Known (sym key_is) (says_known code p here.0 says);
            whole = λ i q. subst (λ (j : Instruction). p + size j ≤ length code) (some_inj here.0 i (sym stands_here ∙ q)) says.whole;
            near = let x : p + size here.0 ≤ code_length s = inside in
                let l : c.extent ≡ code_length s = packed.extent_is in
                let u : c.extent ≤ 16384 = packed.little_code in omega arith;
          }

      pub moved : (st : List ℕ) (a : Transfer) (st' : List ℕ) → Moves (read s) (body_of owner) b (word 4 code (p + 1)) p st a st' → Moved s owner p st a st'
      moved st a st' m =
          let i : Instruction = here.0 in
          let j : Judges (read s) (body_of owner) i (p + size i) st a st' = m i stands_here in
          let w : place_flow (read s) (body_of owner) p (lists_of st) ≡ judge (read s) (body_of owner) i (p + size i) (lists_of st).locals (lists_of st).operands =
          rw (has_end (tables_in s) (good_file s e) (body_of owner) has, lt-leb end p before, here.1) refl in
          record { flow = ap bounded w ∙ j.flow; leads = after (read s) (body_of owner) p (p + size i) (i, here.1, refl) a j.leads; holds = j.holds }

-- ---- ends

module _ (s : List ℕ) (e : refusal s ≡ 0) (owner : ℕ) (has : Has (bodies_in s) (body_of owner)) (p : ℕ) (late : body_end (bodies_in s) (body_of owner) ≤ p) (st : List ℕ) (held : Holds st) where
  pub entry_ends : owner ≡ 0xffffffff → Moved s owner p st Stops st
  unfolding bounded
  entry_ends z = record { flow = rw (has_end (tables_in s) (good_file s e) (body_of owner) has, le-leb (body_end (bodies_in s) (body_of owner)) p late, eq-eqb owner 0xffffffff z) refl; leads = tt; holds = held }

  pub function_ends : (owner ≡ 0xffffffff → ⊥) → Moved s owner p st Breaks st
  unfolding bounded
  function_ends n = record { flow = rw (has_end (tables_in s) (good_file s e) (body_of owner) has, le-leb (body_end (bodies_in s) (body_of owner)) p late, ne_eqb owner 0xffffffff n) refl; leads = tt; holds = held }
