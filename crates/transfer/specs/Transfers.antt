-- Where an instruction leads from the lists of a record, and its key.
use Rattle.std.specs.Prelude.{◌≡◌, ℕ, ◌+◌, ◌^◌, ◌≤◌, ◌<◌, Bool, true, false, ◌&&◌, ◌||◌, List, [], ◌∷◌, ◌++◌, length, leb, ltb, Some, None}
use Rattle.std.proofs.Math.Option.{Option, none, some}
use Rattle.std.specs.declared.option.Option as found
use Rattle.rules.specs.declared.Instruction.{Instruction}
use Rattle.rules.specs.Bytes.{word, maybe}
use Rattle.rules.specs.Instructions.{Ty, num_kind, ty_of, opcode_of, instruction_of, size}
use Rattle.rules.specs.Tables.{Body, Module, number_type}
use Rattle.rules.specs.Stack.{at}
use Rattle.rules.specs.Typing.{Flow, to, only, strip, judge}
use Rattle.soundness.specs.Numbering.{key_table}
use Rattle.keys.specs.Keys.{Known, each}
use Rattle.records.specs.Record.{lists_of, Holds, Judged}
use Rattle.records.specs.declared.Transfer.{Transfer}

-- ---- instructions

-- the answer a, and the record r' after it, are the flow of the instruction i before the place q, from the lists of the record r
abbrev pub Judges : Module → Body → Instruction → ℕ → List ℕ → Transfer → List ℕ → Type 0
Judges m b i q r a r' = Judged m b q (judge m b i q (lists_of r).locals (lists_of r).operands) a r'

-- the same for what puts the type t on top of the operands and goes on at q
abbrev pub Pushes : ℕ → ℕ → List ℕ → Transfer → List ℕ → Type 0
Pushes t q r a r' = (m : Module) (b : Body) → Judged m b q (to q (lists_of r).locals (ty_of t ∷ (lists_of r).operands)) a r'

abbrev pub place_of : found.Option ℕ → Option ℕ
place_of (Some q) = some q
place_of None = none

-- ok says whether the operands of r end in arguments of these types; r' is r without them where they do
pub record Stripped (ps : List Ty) (r : List ℕ) (ok : Bool) (r' : List ℕ) : Type 0 where
  pub holds : Holds r'
  pub locals_kept : (lists_of r').locals ≡ (lists_of r).locals
  pub strips : (k : List Ty → Flow) → strip ps (lists_of r).operands k ≡ only ok (k (lists_of r').operands)

-- ---- structures

-- `new` and `gcnew` take the type number k, where z structures are declared
abbrev pub made : ℕ → ℕ → Bool
made z k = number_type k || (leb 10 k && ltb k (10 + z))

-- m has z structures, and these are their type numbers
abbrev pub Numbered : Module → ℕ → Type 0
Numbered m z = (k : ℕ) → maybe (m.structure k) false (λ fs. true) ≡ (leb 10 k && ltb k (10 + z))

-- the type number of field n of the structure of type number k; 0 where there is none
abbrev pub field_type : Module → ℕ → ℕ → ℕ
field_type m k n = maybe (m.structure k) 0 (λ fs. maybe (at fs n) 0 num_kind)

-- ---- keys

-- the keys of the first two matches, the last first
abbrev pub firsts : List (List ℕ)
firsts = each (52 ∷ 49 ∷ 40 ∷ 39 ∷ 38 ∷ 37 ∷ 36 ∷ 35 ∷ 34 ∷ 33 ∷ 32 ∷ 31 ∷ 30 ∷ 6 ∷ 5 ∷ 4 ∷ 3 ∷ 1 ∷ [])

abbrev pub seconds : List (List ℕ)
seconds = each (18 ∷ 17 ∷ 16 ∷ 15 ∷ 14 ∷ 13 ∷ 12 ∷ 11 ∷ 10 ∷ 9 ∷ 8 ∷ 7 ∷ 2 ∷ []) ++ firsts

-- b is the key of an instruction whose bytes are all in the code, from the place p on
pub record KeyAt (code : List ℕ) (p b : ℕ) : Type 0 where
  pub known : Known b
  pub whole : (i : Instruction) → instruction_of (opcode_of key_table b) (word 4 code (p + 1)) ≡ some i → p + size i ≤ length code
  pub near : p < 2 ^ 32

-- the answer a, and the record r' after it, are the flow at place p of the instruction whose key is b and whose word is w
abbrev pub Moves : Module → Body → ℕ → ℕ → ℕ → List ℕ → Transfer → List ℕ → Type 0
Moves m d b w p r a r' = (i : Instruction) → instruction_of (opcode_of key_table b) w ≡ some i → Judges m d i (p + size i) r a r'
