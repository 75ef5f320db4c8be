-- A row of pixels in one call, which no paper asks for. Row i is the run of a function on the i-th row of payloads, with the whole allowance, on
-- the lent slots and the lent heap; the answer, the outputs and what stands in lent memory after are those of a fold over `run_module`.
use Rattle.std.specs.Prelude.{ℕ, zero, suc, ◌*◌, ◌/◌, ◌%◌, Bool, true, false, ◌&&◌, cond, List, [], ◌∷◌, ◌++◌, length, eqb}
use Rattle.std.proofs.Math.Option.{Option, none, some}
pub use Rattle.rules.specs.AnswerTypes.{MapAnswer}
use Rattle.rules.specs.Bytes.{maybe, cut, written}
use Rattle.rules.specs.Numbers.{done, no_such_function, arguments_refused, profile_differs}
use Rattle.rules.specs.Instructions.{Ty, num, ptr, kind_of}
use Rattle.rules.specs.Tables.{Body, entry, fn, body_of, Module}
use Rattle.rules.specs.ModuleFile.{refusal, read}
use Rattle.rules.specs.Stack.{Slot, Lent}
use Rattle.rules.specs.Heap.{LentHeap}
use Rattle.rules.specs.Typing.{start_of}
use Rattle.rules.specs.Answers.{run_number, value_out, made_for, other_profile, Ran, run_module}

-- answer: the number, and the rows before the first that did not finish; output: what the lent output holds after
pub record Mapped : Type 0 where
  pub answer : MapAnswer
  pub output : List ℕ
  pub stack : Lent
  pub heap : LentHeap

abbrev pub mapped : ℕ → ℕ → List ℕ → Lent → LentHeap → Mapped
mapped n i out x y = record { answer = record { number = n; rows = i }; output = out; stack = x; heap = y }

-- ---- refusals before any row

abbrev pub takes_numbers : List Ty → Bool
takes_numbers [] = true
takes_numbers (num τ ∷ ts) = takes_numbers ts
takes_numbers (ptr g w ∷ ts) = false

-- the entry has none
abbrev pub has_result : Module → Body → Bool
has_result m entry = false
has_result m (fn k) = maybe (m.function k) false (λ F. maybe F.result false (λ t. true))

-- 13: lengths that are no whole rows or not the same count, a pointer parameter, no result: none of these
abbrev pub mappable : Module → Body → List Ty → List ℕ → List ℕ → Bool
mappable m b ts args out = eqb (length out % 8) 0 && eqb (length args) (length ts * length out) && takes_numbers ts && has_result m b

-- 12, 13, 17
abbrev pub rows_refusal : Module → Body → ℕ → List ℕ → List ℕ → Option (ℕ × List Ty) → ℕ
rows_refusal m b scan args out none = no_such_function
rows_refusal m b scan args out (some y) = cond (mappable m b y.1 args out) (cond (other_profile (made_for m b) scan) profile_differs 0) arguments_refused

abbrev pub map_refusal_with : List ℕ → ℕ → ℕ → List ℕ → List ℕ → ℕ → ℕ
map_refusal_with s f scan args out (suc e) = suc e
map_refusal_with s f scan args out zero = rows_refusal (read s) (body_of f) scan args out (start_of (read s) (body_of f))

-- why no row is run: 1 to 9, 12, 13, 17; 0 where rows are
unfoldable pub map_refusal : List ℕ → ℕ → ℕ → List ℕ → List ℕ → ℕ
map_refusal s f scan args out = map_refusal_with s f scan args out (refusal s)

-- ---- rows

abbrev pub params_of : Module → Body → List Ty
params_of m b = maybe (start_of m b) [] (λ y. y.1)

-- type bytes, parameter 0 first
abbrev pub types_of : List Ty → List ℕ
types_of [] = []
types_of (t ∷ ts) = types_of ts ++ (kind_of t ∷ [])

-- the arguments of row i, under the parameters' types
abbrev pub row_of : List Ty → List ℕ → ℕ → Lent
row_of ts args i = record { payloads = cut args (8 * length ts * i) (8 * length ts); types = types_of ts }

-- the outputs with the value of row i; as they were where it has none
abbrev pub with_value : List ℕ → ℕ → Option Slot → List ℕ
with_value out i none = out
with_value out i (some v) = written 8 out (8 * i) v.payload

-- the first row that does not finish ends the call: after row i, which ran so, the rest
abbrev pub after_row : (List ℕ → Lent → LentHeap → Mapped) → ℕ → List ℕ → Ran → Mapped
after_row rest i out r =
    cond (eqb (run_number r.answer) done) (rest (with_value out i (value_out r.answer r.stack)) r.stack r.heap)
    (mapped (run_number r.answer) i out r.stack r.heap)

-- k rows from row i on, each run on what the row before left
unfoldable pub map_rows : (ℕ → Lent → LentHeap → Ran) → ℕ → ℕ → List ℕ → Lent → LentHeap → Mapped
map_rows run zero i out x y = mapped done i out x y
map_rows run (suc k) i out x y = after_row (map_rows run k (suc i)) i out (run i x y)

abbrev pub run_row : List ℕ → ℕ → ℕ → List ℕ → ℕ → ℕ → Lent → LentHeap → Ran
run_row s f scan args allowance i x y = run_module s f (row_of (params_of (read s) (body_of f)) args i) scan allowance x y

abbrev pub map_with : List ℕ → ℕ → ℕ → List ℕ → List ℕ → ℕ → Lent → LentHeap → ℕ → Mapped
map_with s f scan args out allowance x y (suc e) = mapped (suc e) 0 out x y
map_with s f scan args out allowance x y zero = map_rows (run_row s f scan args allowance) (length out / 8) 0 out x y

-- the function f of the module s, for a scan of this profile, on each row of these arguments, 8 bytes of `out` a row
unfoldable pub map_module : List ℕ → ℕ → ℕ → List ℕ → List ℕ → ℕ → Lent → LentHeap → Mapped
map_module s f scan args out allowance x y = map_with s f scan args out allowance x y (map_refusal s f scan args out)
