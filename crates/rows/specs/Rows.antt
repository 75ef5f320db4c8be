-- What a call for rows is given and what it leaves: types and sizes of rows, the run of a row, the fold from a row on.
use Rattle.std.specs.Prelude.{ℕ, zero, suc, ◌+◌, ◌*◌, ◌-◌, ◌/◌, ◌%◌, ◌^◌, ◌≤◌, ◌<◌, ◌≡◌, Bool, true, false, cond, ◌&&◌, List, eqb, ltb, length, get_or, take, drop}
use Rattle.rules.specs.Bytes.{byte, word, written}
use Rattle.rules.specs.Instructions.{Ty, num, ptr}
use Rattle.rules.specs.Tables.{body_of, function_at, params_from}
use Rattle.rules.specs.ModuleFile.{edition, read, functions_in}
use Rattle.rules.specs.Heap.{Heap, cells_after, table_after}
use Rattle.rules.specs.Machine.{outcome, keeping}
use Rattle.rules.specs.Answers.{admitted, arguments, outcome_of, made_for, other_profile}
use Rattle.rules.specs.AnswerTypes.{MapAnswer}
use Rattle.rules.specs.Mapping.{takes_numbers, Mapped, map_rows, run_row, map_module}
use Rattle.format.specs.declared.Sections.{Sections}
use Rattle.state.specs.declared.Registers.{Registers}
use Rattle.state.specs.State.{memory_of}
use Rattle.runs.specs.Runs.{lent_of, lent_heap_of, slots_in, Empty, RunsOver, BodyIs}
use Rattle.machine.specs.Ends.{number_of}
use Rattle.rows.specs.declared.RowEnd.{RowEnd}

-- ---- rows of arguments and of outputs

abbrev pub is_number : Ty → Bool
is_number (num τ) = true
is_number (ptr g w) = false

-- the types of n parameters of function k of the file s
abbrev pub param_types : List ℕ → ℕ → ℕ → List Ty
param_types s k n = params_from (functions_in s) (function_at (edition s) k + 10) n

-- the first n bytes are those of its parameters' types
abbrev pub TypesAre : List ℕ → ℕ → ℕ → List ℕ → Type 0
TypesAre s k n b = (i : ℕ) → i < n → get_or b i 0 ≡ byte (functions_in s) (function_at (edition s) k + 10 + i)

-- so many bytes of outputs are whole rows, and so many of arguments are the same rows of n arguments
abbrev pub sized : ℕ → ℕ → ℕ → Bool
sized n args out = eqb (out % 8) 0 && eqb args (n * out)

-- of the first n arguments a, with types b, no int has upper bits
unfoldable pub low_ints : List ℕ → List ℕ → ℕ → Bool
low_ints a b zero = true
low_ints a b (suc n) = cond (eqb (byte b n) 3) (ltb (word 8 a (n * 8)) (2 ^ 32)) true && low_ints a b n

-- the outputs with the payload under the height h as row i's; where the height is 0 there is none
abbrev pub value_in : List ℕ → ℕ → List ℕ → ℕ → List ℕ
value_in out i p zero = out
value_in out i p (suc h) = written 8 out (i * 8) (word 8 p (h * 8))

-- ---- a row

-- it ran so; where it did not use the heap, this is as it was
abbrev pub RunsAs : List ℕ → ℕ → ℕ → Registers → ℕ → RowEnd → List ℕ → List ℕ → List ℕ → List ℕ → List ℕ → List ℕ → List ℕ → List ℕ → List ℕ → Type 0
RunsAs s cap n r i g p t f c b p' t' c' b' = RunsOver s cap n r i g.ended p t f c b p' t' c' b' × (g.used ≡ false → (c' ≡ c) × (b' ≡ b))

-- function f of the file s, whose places go from `start` up to `end`, takes the arguments a of the types b
pub record Admits (s : List ℕ) (c : Sections) (f start end : ℕ) (a b : List ℕ) : Type 0 where
  pub body : BodyIs s c f (record { body = f; start = start; end = end; params = length b })
  pub admits : admitted (param_types s f (length b)) (lent_of a b) ≡ true

-- the slots p and t and n cells are lent, no block has been taken, and the arguments fit
pub record Stage (cap n : ℕ) (b p t cells table : List ℕ) : Type 0 where
  pub slots : cap ≡ slots_in p t
  pub fit : length b ≤ cap
  pub empty : Empty n cells table

-- the run of a row of arguments a, of types b, on n cells, ended as g says: the stack is in the first slots, `heap` is what the cells and the
-- table show
pub record RowIs (s : List ℕ) (f : ℕ) (a b : List ℕ) (allowance cap n : ℕ) (g : RowEnd) (p t cells table p' t' cells' table' : List ℕ) : Type 0 where
  pub heap : Heap
  pub exact : outcome (number_of g.ended.stop) (allowance - g.ended.rest) (keeping (memory_of p' t' g.ended.last.height) heap)
      ≡ outcome_of (read s) (body_of f) (arguments (lent_of a b)) allowance cap n
  pub cells_are : cells' ≡ cells_after n heap.blocks cells
  pub table_is : table' ≡ table_after n heap.blocks table
  pub unused : g.used ≡ false → (cells' ≡ cells) × (table' ≡ table)
  pub high : g.ended.last.height ≤ cap
  pub rest_payloads : drop (cap * 8) p' ≡ drop (cap * 8) p
  pub rest_types : drop cap t' ≡ drop cap t
  pub same_payloads : length p' ≡ length p
  pub same_types : length t' ≡ length t

-- ---- all rows

abbrev pub answer_of : ℕ → ℕ → MapAnswer
answer_of n i = record { number = n; rows = i }

abbrev pub left : MapAnswer → List ℕ → List ℕ → List ℕ → List ℕ → List ℕ → Mapped
left r out p t c b = record { answer = r; output = out; stack = lent_of p t; heap = lent_heap_of c b }

-- function f of the file s, whose places go from `start` up to `end`, can be mapped over these rows, of which there is one; b are the types
pub record Mappable (s : List ℕ) (c : Sections) (f start end : ℕ) (b args out : List ℕ) : Type 0 where
  pub body : BodyIs s c f (record { body = f; start = start; end = end; params = length b })
  pub numbers : takes_numbers (param_types s f (length b)) ≡ true
  pub types : TypesAre s f (length b) b
  pub whole : length out % 8 ≡ 0
  pub same : length args ≡ length b * length out
  pub one : 0 < length out

-- the first row's arguments are admitted
abbrev pub FirstLow : List ℕ → List ℕ → Type 0
FirstLow args b = low_ints (take (length b * 8) args) b (length b) ≡ true

-- the answer and the bytes after it are those of the fold from row 0 on, for every scan that the function is for
abbrev pub RowsAre : List ℕ → ℕ → List ℕ → List ℕ → ℕ → List ℕ → List ℕ → List ℕ → List ℕ → List ℕ → List ℕ → List ℕ → List ℕ → List ℕ → MapAnswer → Type 0
RowsAre s f args out allowance p t c b out' p' t' c' b' r =
    (scan : ℕ) → other_profile (made_for (read s) (body_of f)) scan ≡ false
    → left r out' p' t' c' b' ≡ map_rows (run_row s f scan args allowance) (length out / 8) 0 out (lent_of p t) (lent_heap_of c b)

-- those of the rules
abbrev pub MapIs : List ℕ → ℕ → ℕ → List ℕ → List ℕ → ℕ → List ℕ → List ℕ → List ℕ → List ℕ → List ℕ → List ℕ → List ℕ → List ℕ → List ℕ → MapAnswer → Type 0
MapIs s f scan args out allowance p t c b out' p' t' c' b' r =
    left r out' p' t' c' b' ≡ map_module s f scan args out allowance (lent_of p t) (lent_heap_of c b)
