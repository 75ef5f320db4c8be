-- The answer of a family of instructions, and what its parts ensure.
use Rattle.std.specs.Prelude.{◌≡◌, ℕ, suc, Bool, ◌&&◌, ◌||◌, cond, List, [], ◌∷◌, eqb, leb, ltb}
use Rattle.rules.specs.declared.Num.{Num}
use Rattle.rules.specs.declared.Operator.{Operator}
use Rattle.rules.specs.declared.Unary.{Unary}
use Rattle.rules.specs.declared.Unary.TheVariants.{Convert}
use Rattle.rules.specs.declared.Binary.TheVariants.{Arith, Cmp}
use Rattle.rules.specs.declared.Instruction.{Instruction}
use Rattle.rules.specs.declared.Instruction.TheVariants.{One, Two}
use Rattle.rules.specs.Bytes.{byte}
use Rattle.rules.specs.Instructions.{Ty, ty_of, num_kind}
use Rattle.rules.specs.Tables.{Body, Module, params_from}
use Rattle.rules.specs.Operations.{Class, any, number, whole, class1, class_of}
use Rattle.rules.specs.Typing.{Flow, lists, judge, gives1}
use Rattle.records.specs.Record.{lists_of, Holds, Judged}
use Rattle.records.specs.declared.Transfer.{Transfer}

-- the flow of an instruction before the place q, from the lists of a record
abbrev pub judged : Module → Body → Instruction → ℕ → List ℕ → Flow
judged m b i q r = judge m b i q (lists_of r).locals (lists_of r).operands

-- the answer a, and the record r' after it, are that flow, in every body
abbrev pub Answers : Instruction → ℕ → List ℕ → Transfer → List ℕ → Type 0
Answers i q r a r' = (m : Module) (b : Body) → Judged m b q (judged m b i q r) a r'

-- r' is r with t as the type of its top operand
pub record Retyped (r : List ℕ) (t : ℕ) (r' : List ℕ) : Type 0 where
  pub holds : Holds r'
  pub shows : (n : ℕ) → byte r 2 ≡ suc n → lists_of r' ≡ lists (lists_of r).locals (ty_of t ∷ params_from r 32 n)

-- r' is r without its operands
pub record Emptied (r r' : List ℕ) : Type 0 where
  pub holds : Holds r'
  pub count : byte r' 1 ≡ byte r 1
  pub shows : lists_of r' ≡ lists (lists_of r).locals []

-- r' is r with a local of type t more, and without its operands
pub record Bound (r : List ℕ) (t : ℕ) (r' : List ℕ) : Type 0 where
  pub holds : Holds r'
  pub shows : lists_of r' ≡ lists (ty_of t ∷ (lists_of r).locals) []

-- The type bytes are in the order of the classes: 3 and 4 are whole, then the number 6, then the pointers. So where a class
-- does not take every type, the greatest byte g says which it takes.
abbrev pub Greatest : Class → ℕ → Type 0
Greatest any g = ⊥
Greatest number g = g ≡ 6
Greatest whole g = g ≡ 4

-- t is the byte of a pointer to a number, managed or not
abbrev pub cell_type : ℕ → Bool
cell_type t = eqb t 131 || eqb t 132 || eqb t 134 || eqb t 195 || eqb t 196 || eqb t 198

-- t and u are bytes of pointers, both managed or both not: from 192 on they are of managed ones
abbrev pub one_kind : ℕ → ℕ → Bool
one_kind t u = cond (ltb t 192) (leb 128 t && (leb 128 u && ltb u 192)) (leb 192 u)

-- `cmp` and `icmp` take operands of the type bytes t and u; every is whether they take any two pointers of one kind
abbrev pub comparable : Bool → ℕ → ℕ → Bool
comparable every t u = eqb t u || (every && one_kind t u)

-- ---- by what the instructions of one function differ in

-- the answer of every instruction that keeps the type of its operand and takes type bytes up to g
abbrev pub Keeps : ℕ → ℕ → List ℕ → Transfer → List ℕ → Type 0
Keeps g q r a r' = (o : Unary) → Greatest (class1 o) g → ((t : Ty) → gives1 o t ≡ t ∷ []) → Answers (One o) q r a r'

-- of the conversion to the type of byte t
abbrev pub Converts : ℕ → ℕ → List ℕ → Transfer → List ℕ → Type 0
Converts t q r a r' = (b : Bool) (τ : Num) → t ≡ num_kind τ → Answers (One (Convert b τ)) q r a r'

-- of every operator that takes type bytes up to g
abbrev pub Reduces : ℕ → ℕ → List ℕ → Transfer → List ℕ → Type 0
Reduces g q r a r' = (o : Operator) → Greatest (class_of o) g → Answers (Two (Arith o)) q r a r'

-- of both comparisons, in a module of edition 4 or of another
abbrev pub Compares : Bool → ℕ → List ℕ → Transfer → List ℕ → Type 0
Compares every q r a r' =
    (signed : Bool) (m : Module) (b : Body) → eqb m.edition 4 ≡ every → Judged m b q (judged m b (Two (Cmp signed)) q r) a r'
