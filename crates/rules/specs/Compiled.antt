-- 02, A4: what is claimed of formula lines, as a statement; its proof is `compiles` of the crate grammar.
use Rattle.std.specs.Prelude.{◌≡◌, ℕ, zero, suc, ◌^◌, ◌≤◌, ◌<◌, cond, List, [], ◌∷◌, length, take, ltb}
use Rattle.std.proofs.Math.Option.{Option, none, some}
use Rattle.rules.specs.Numbers.{done, arithmetic_divide_by_zero}
use Rattle.rules.specs.Stack.{slot, Lent, capacity}
use Rattle.rules.specs.Heap.{LentHeap}
use Rattle.rules.specs.Writing.{Written, file_of}
use Rattle.rules.specs.Answers.{Untyped, Accepted, check, run_number, value_out, Ran, run_module}
use Rattle.rules.specs.Demand3.{IsAccepted}
use Rattle.rules.specs.Files.{lent}
use Rattle.rules.specs.Grammar.{Tree, Line, LineWithin}
use Rattle.rules.specs.Reading.{reading}
use Rattle.rules.specs.Formula.{need, formula_tables, value, formula}

-- "the names r, g, b for parameters 0 to 2"
abbrev pub parameters : ℕ → ℕ → ℕ → ℕ → ℕ
parameters r g b zero = r
parameters r g b (suc zero) = g
parameters r g b (suc (suc i)) = b

-- three ints as lent arguments
abbrev pub three_ints : ℕ → ℕ → ℕ → Lent
three_ints r g b = lent ((3, r) ∷ (3, g) ∷ (3, b) ∷ [])

-- the run finished with this int, "or 24 where a quotient is by zero"
abbrev pub GivesValue : Option ℕ → Ran → Type 0
GivesValue (some v) x = (run_number x.answer ≡ done) × (value_out x.answer x.stack ≡ some (slot 3 v))
GivesValue none x = run_number x.answer ≡ arithmetic_divide_by_zero

-- the run of function 0 of the file s, for any scan, gives the value of the line's reading
abbrev pub Evaluates : List ℕ → List ℕ → ℕ → ℕ → ℕ → ℕ → ℕ → Lent → LentHeap → Type 0
Evaluates line s r g b scan allowance x y =
    (t : Tree) × Line line t × GivesValue (value (parameters r g b) t) (run_module s 0 (three_ints r g b) scan allowance x y)

pub record Compiles : Type 0 where
  -- the reading that is computed is the grammar's
  pub derived : (s : List ℕ) (t : Tree) → reading s ≡ some t → Line s t
  pub read : (s : List ℕ) (t : Tree) → Line s t → reading s ≡ some t
  -- "show that no line has two readings", without and with the depth limit
  pub unique : (s : List ℕ) (t u : Tree) → Line s t → Line s u → t ≡ u
  pub unique_within : (d : ℕ) (s : List ℕ) (t u : Tree) → LineWithin d s t → LineWithin d s u → t ≡ u
  -- "43 a typing would need over 32 operands": exactly then the check of the module of a line's reading, however deep, answers 11 with its
  -- function, and else 0. The module has no labels, so any room is enough
  pub needed : (line : List ℕ) (t : Tree) → Line line t → length line ≤ 256 → (room : List ℕ)
      → (check (file_of (formula_tables t)) room).answer ≡ cond (ltb 32 (need t)) (Untyped 0) Accepted
  -- "Every accepted line's module passes the checker"
  pub accepted : (line out : List ℕ) (n : ℕ) → (formula line out).answer ≡ Written n → (room : List ℕ) → IsAccepted (take n (formula line out).output) room
  -- "run with allowance 257 and 35 slots, or more, it gives the reading's value in wrapping unsigned ints, or 24 where a quotient is by zero"
  pub gives : (line out : List ℕ) (n : ℕ) → (formula line out).answer ≡ Written n
      → (r g b : ℕ) → r < 2 ^ 32 → g < 2 ^ 32 → b < 2 ^ 32 → (scan allowance : ℕ) (x : Lent) (y : LentHeap) → 257 ≤ allowance → 35 ≤ capacity x
      → Evaluates line (take n (formula line out).output) r g b scan allowance x y
