-- The keys of the machine's three matches, and what each match promises.
use Rattle.std.specs.Prelude.{ℕ, ◌≡◌, true, false, ◌⊎◌, List, [], ◌∷◌}
use Rattle.std.proofs.Math.Option.{some}
use Rattle.rules.specs.declared.Instruction.{Instruction}
use Rattle.rules.specs.declared.Exception.{Exception}
use Rattle.rules.specs.Results.{exception_number}
use Rattle.rules.specs.Bytes.{byte}
use Rattle.rules.specs.Instructions.{opcode_of, instruction_of}
use Rattle.rules.specs.Tables.{Module}
use Rattle.rules.specs.Machine.{exec_in}
use Rattle.soundness.specs.Framed.{heapless}
use Rattle.soundness.specs.Numbering.{key_table}
use Rattle.keys.specs.Keys.{Says, each}
use Rattle.state.specs.State.{Ready, DoesOver, Lacks}
use Rattle.state.specs.declared.Registers.{Registers}
use Rattle.state.specs.declared.Progress.{Progress}
use Rattle.state.specs.declared.Progress.TheVariants.{Stops}
use Rattle.machine.specs.Ends.{left}

-- ---- keys, the last arm first

-- of `step`: the instructions with a word, and `ret`
abbrev pub wides : List (List ℕ)
wides = each (40 ∷ 39 ∷ 38 ∷ 37 ∷ 36 ∷ 35 ∷ 34 ∷ 33 ∷ 32 ∷ 5 ∷ 4 ∷ 3 ∷ 1 ∷ [])

-- of `numeric`
abbrev pub numerics : List (List ℕ)
numerics = each (21 ∷ 20 ∷ 18 ∷ 17 ∷ 16 ∷ 15 ∷ 14 ∷ 13 ∷ 12 ∷ 11 ∷ 10 ∷ 9 ∷ 8 ∷ 7 ∷ [])

-- of `single`; the first two arms here are no instruction's keys, the next two those of the instructions that only who has the heap does
abbrev pub even : List ℕ
even = 0 ∷ 54 ∷ 56 ∷ 58 ∷ 60 ∷ 62 ∷ []

abbrev pub odd : List ℕ
odd = 53 ∷ 55 ∷ 57 ∷ 59 ∷ 61 ∷ 63 ∷ []

abbrev pub of_heap : List ℕ
of_heap = 6 ∷ 48 ∷ 50 ∷ 52 ∷ []

abbrev pub of_heap_odd : List ℕ
of_heap_odd = 49 ∷ 51 ∷ []

abbrev pub singles : List (List ℕ)
singles = odd ∷ even ∷ of_heap_odd ∷ of_heap ∷ each (47 ∷ 45 ∷ 42 ∷ 41 ∷ 46 ∷ 44 ∷ 43 ∷ 31 ∷ 30 ∷ 29 ∷ 28 ∷ 27 ∷ 26 ∷ 25 ∷ 24 ∷ 23 ∷ 22 ∷ 19 ∷ 2 ∷ [])

-- ---- promises

-- i has the key b, with some word behind it
abbrev pub HasKey : ℕ → Instruction → Type 0
HasKey b i = (w : ℕ) × (instruction_of (opcode_of key_table b) w ≡ some i)

-- an instruction was left to who has the heap, with a number that says so; nothing changed
pub record Leaves (a : Progress) (p t f p' t' f' : List ℕ) : Type 0 where
  pub number : Exception
  pub stops_with : a ≡ Stops number
  pub says_so : left (exception_number number) ≡ true
  pub keeps_payloads : p' ≡ p
  pub keeps_types : t' ≡ t
  pub keeps_words : f' ≡ f

-- the code did what i does, over every heap, or left it and i needs the heap
abbrev pub DoesOrLeaves : Module → ℕ → Instruction → Registers → Progress → List ℕ → List ℕ → List ℕ → List ℕ → List ℕ → List ℕ → Type 0
DoesOrLeaves m cap i r a p t f p' t' f' = DoesOver cap r a p t f p' t' f' (exec_in m cap i) ⊎ ((heapless i ≡ false) × Leaves a p t f p' t' f')

-- the code did what the instruction with key b does, in any module, or left it; it does not touch the frames
abbrev pub Performs : ℕ → ℕ → Registers → Progress → List ℕ → List ℕ → List ℕ → List ℕ → Type 0
Performs b cap r a p t p' t' = (i : Instruction) → HasKey b i → (m : Module) (f : List ℕ) → Ready cap r p t f → DoesOrLeaves m cap i r a p t f p' t' f

-- an instruction with key b stands at place q of the code, and all of it is there
pub record Stands (code : List ℕ) (q b : ℕ) : Type 0 where
  pub instruction : Instruction
  pub says : Says code q instruction
  pub key : b ≡ byte code q

-- the code did what the instruction at its place does, or left it, or found no words for a frame
abbrev pub Steps : Module → ℕ → List ℕ → Registers → Progress → List ℕ → List ℕ → List ℕ → List ℕ → List ℕ → List ℕ → Type 0
Steps m cap code r a p t f p' t' f' = (i : Instruction) → Says code r.place i → DoesOrLeaves m cap i r a p t f p' t' f' ⊎ Lacks a p t f p' t' f'
