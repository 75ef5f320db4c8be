-- From what an instruction's function did to what the step does, the structures being the file's last section.
use Prim.Native.Nat.{ℕ, ◌+◌, ◌-◌}
use mathlib.Core.Path.{◌≡◌, refl, ap, ◌∙◌, subst}
use mathlib.Core.Bool.{true, false}
use mathlib.Core.Logic.{inl, inr}
use mathlib.Core.Option.{some}
use mathlib.Core.List.{List}
use lib.Dec.{eqb}
use lib.ListN.{length, take, drop}
use types.Run.{OneOf}
use Rattle.rules.specs.declared.Instruction.{Instruction}
use Rattle.rules.specs.declared.Instruction.TheVariants.{New}
use Rattle.rules.specs.Bytes.{byte, word}
use Rattle.rules.specs.Instructions.{opcode_of, instruction_of}
use Rattle.rules.specs.Tables.{Module}
use Rattle.rules.specs.ModuleFile.{structures_in, read, refusal}
use Rattle.rules.specs.Machine.{exec_in}
use Rattle.soundness.specs.Numbering.{key_table}
use Rattle.format.specs.Layout.{Packed}
use Rattle.format.specs.declared.Sections.{Sections}
use Rattle.keys.specs.Keys.{Says}
use Rattle.keys.proofs.Files.{code_part}
use Rattle.state.specs.declared.Registers.{Registers}
use Rattle.state.specs.declared.Progress.{Progress}
use Rattle.heap.specs.Targets.{Shapes}
use Rattle.access.specs.Access.{HeapReady, AccessIs, ActsOver}
use Rattle.access.proofs.Over.{framed}
use Rattle.access.proofs.Structures.{shapes_file, structures_rest}
use Rattle.access.proofs.HeapKeys.{said, new_keys}

module _ (s : List ℕ) (c : Sections) (q : Packed s c × (refusal s ≡ 0)) where
  -- the file from its structures on
  abbrev last : List ℕ
  last = take (length s - (c.code + c.extent)) (drop (c.code + c.extent) s)

  last_is : last ≡ structures_in s
  last_is = code_part s (c.code + c.extent) ∙ structures_rest s q.1 c q.0

  pub ready_rest : (size : ℕ) (g cells b : List ℕ) → HeapReady size (structures_in s) g cells b → HeapReady size last g cells b
  ready_rest size g cells b o = rw last_is o

  pub shapes_rest : Shapes (read s) last
  shapes_rest = rw last_is (shapes_file s q.1)

  module _ (code : List ℕ) (cap size : ℕ) (r : Registers) (a : Progress) (p t g cells b p' t' g' cells' b' : List ℕ) where
    -- the instruction of key k, j of the word behind it
    pub done : (k : ℕ) (j : ℕ → Instruction) → byte code r.place ≡ k → ((w : ℕ) → instruction_of (opcode_of key_table k) w ≡ some (j w))
        → AccessIs (read s) (j (word 4 code (r.place + 1))) cap size r a last p t g cells b p' t' g' cells' b'
        → (i : Instruction) → Says code r.place i → AccessIs (read s) i cap size r a (structures_in s) p t g cells b p' t' g' cells' b'
    done k j key is x i y =
        subst (λ (n : Instruction). AccessIs (read s) n cap size r a (structures_in s) p t g cells b p' t' g' cells' b') (said code r.place k j key is i y)
        (rw last_is at x)

    pub done_new : (n : ℕ) → byte code r.place ≡ n → OneOf new_keys n
        → AccessIs (read s) (New (eqb n 52) (word 4 code (r.place + 1))) cap size r a last p t g cells b p' t' g' cells' b'
        → (i : Instruction) → Says code r.place i → AccessIs (read s) i cap size r a (structures_in s) p t g cells b p' t' g' cells' b'
    done_new n key (inl e) x = done 49 (New false) (key ∙ e) (λ w. refl) (rw (ap (λ (k : ℕ). eqb k 52) e) at x)
    done_new n key (inr e) x = done 52 (New true) (key ∙ e) (λ w. refl) (rw (ap (λ (k : ℕ). eqb k 52) e) at x)

-- over a heap that is not looked at
pub over_heap : (m : Module) (i : Instruction) (cap size : ℕ) (r : Registers) (a : Progress) (d p t g c b p' t' : List ℕ) → HeapReady size d g c b
    → ActsOver cap r a p t p' t' (exec_in m cap i) → AccessIs m i cap size r a d p t g c b p' t' g c b
over_heap m i cap size r a d p t g c b p' t' o x f k = framed (exec_in m cap i) cap size r d f p t g c b k o a p' t' (x f k)
