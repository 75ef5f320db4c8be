-- What an address of the heap is to, by the module's structure records.
use Rattle.std.specs.Prelude.{ℕ, ◌+◌, ◌-◌, ◌<◌, ◌≡◌, cond, List, length, eqb}
use Rattle.std.proofs.Math.Option.{Option, none, some}
use Rattle.rules.specs.declared.Num.{Num}
use Rattle.rules.specs.Bytes.{maybe, byte}
use Rattle.rules.specs.Instructions.{num_of, num_kind}
use Rattle.rules.specs.Tables.{Module, structure_at, field_of, fields_from}
use Rattle.rules.specs.Stack.{slot}
use Rattle.rules.specs.Heap.{Shape, single, fields, shape_of, serial_in, offset_in, in_heap, nowhere, entire, this}
use Rattle.rules.specs.Heap as rules
use Rattle.heap.specs.declared.Target.{Target}
use Rattle.heap.specs.declared.Target.TheVariants.{Lost, Whole, Cell}
use Rattle.heap.specs.Blocks.{cell_in, entry_at, fields_in, width_in}

-- the shape of a type number in the records d
unfoldable pub shape_in : List ℕ → ℕ → Option Shape
shape_in d n =
    maybe (num_of n) (cond (eqb (fields_in d n) 0) none (some (fields (fields_from d (structure_at (n - 10) + 1) (fields_in d n))))) (λ τ. some (single τ))

-- d holds the module's structures
abbrev pub Shapes : Module → List ℕ → Type 0
Shapes m d = (n : ℕ) → shape_of m n ≡ shape_in d n

-- their fields are numbers
abbrev pub Plain : List ℕ → Type 0
Plain d = (i o : ℕ) → o < byte d (structure_at i) → num_kind (field_of (byte d (structure_at i + 1 + o))) ≡ byte d (structure_at i + 1 + o)

-- x, a whole structure of f fields: the address a is its block's
pub record WholeAt (x : rules.Target) (a f : ℕ) : Type 0 where
  pub fields : List Num
  pub is : x ≡ entire (serial_in a) fields
  pub count : length fields ≡ f
  pub few : f < 256
  pub block : offset_in a ≡ 0

-- x, a number of this type in cell c, which is cell o of the live block of entry i
pub record CellAt (x : rules.Target) (d p t : List ℕ) (n a kind c : ℕ) : Type 0 where
  pub entry : ℕ
  pub offset : ℕ
  pub number : Num
  pub live : entry < n
  pub inside : offset < width_in d (entry_at t entry).listed
  pub serial : (entry_at t entry).serial ≡ serial_in a
  pub at : c ≡ (entry_at t entry).first + offset
  pub type : num_kind number ≡ kind
  pub is : x ≡ this (in_heap (serial_in a) offset) (slot kind (cell_in p c))

-- x is no live thing, a whole structure or a number
abbrev pub Aims : rules.Target → List ℕ → List ℕ → List ℕ → ℕ → ℕ → Target → Type 0
Aims x d p t n a Lost = x ≡ nowhere
Aims x d p t n a (Whole f) = WholeAt x a f
Aims x d p t n a (Cell kind c) = CellAt x d p t n a kind c
