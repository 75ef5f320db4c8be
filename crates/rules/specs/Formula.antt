-- 02, A4: the module of a formula line, the value of its reading, and what compiling answers.
use Rattle.std.specs.Prelude.{ℕ, suc, ◌+◌, ◌/◌, max, cond, List, [], ◌∷◌, ◌++◌, length, ltb, eqb}
use Rattle.std.proofs.Math.Option.{Option, none, some}
use Rattle.rules.specs.Bytes.{maybe}
use Rattle.rules.specs.Words.{add_of, sub_of, mul_of, neg_of}
use Rattle.rules.specs.Numbers.{line_too_long, not_in_grammar, too_deep, too_many_operands}
use Rattle.rules.specs.Tables.{Tables, tables}
use Rattle.rules.specs.Writing.{Unwritten, file_of, Wrote, wrote, delivered}
use Rattle.rules.specs.Files.{PUSH, LOAD, NEG, ADD, SUB, MUL, DIV, RET, constant_bytes, function, function_bytes}
use Rattle.rules.specs.Grammar.{Sign, plus, dash, star, slash, Tree, number, name, minus, both, group, depth}
use Rattle.rules.specs.Reading.{reading}

-- ---- measures of a reading

-- "43 a typing would need over 32 operands": the most operands at one place of the postfix code
abbrev pub need : Tree → ℕ
need (number n) = 1
need (name i) = 1
need (minus t) = need t
need (both o t u) = max (need t) (suc (need u))
need (group t) = need t

-- the numbers in line order
abbrev pub numbers : Tree → List ℕ
numbers (number n) = n ∷ []
numbers (name i) = []
numbers (minus t) = numbers t
numbers (both o t u) = numbers t ++ numbers u
numbers (group t) = numbers t

-- ---- code: "the reading in postfix (`neg`, `mul`, `div`), then `ret`"

pub data Step : Type 0 where
  constant : ℕ → Step
  parameter : ℕ → Step
  negate : Step
  operate : Sign → Step
  answer : Step

-- k is the number of the first constant of this part
abbrev pub postfix : ℕ → Tree → List Step
postfix k (number n) = constant k ∷ []
postfix k (name i) = parameter i ∷ []
postfix k (minus t) = postfix k t ++ (negate ∷ [])
postfix k (both o t u) = postfix k t ++ (postfix (k + length (numbers t)) u ++ (operate o ∷ []))
postfix k (group t) = postfix k t

abbrev pub steps : Tree → List Step
steps t = postfix 0 t ++ (answer ∷ [])

abbrev pub sign_bytes : Sign → List ℕ
sign_bytes plus = ADD
sign_bytes dash = SUB
sign_bytes star = MUL
sign_bytes slash = DIV

abbrev pub step_bytes : Step → List ℕ
step_bytes (constant k) = PUSH k
step_bytes (parameter i) = LOAD i
step_bytes negate = NEG
step_bytes (operate o) = sign_bytes o
step_bytes answer = RET

abbrev pub assembled : List Step → List ℕ
assembled [] = []
assembled (i ∷ is) = step_bytes i ++ assembled is

-- ---- the module: "an edition 3 module with one function of three ints returning an int, an empty entry and no labels: one constant
-- per number in line order"

abbrev pub ints : List ℕ → List (ℕ × ℕ)
ints [] = []
ints (n ∷ ns) = (3, n) ∷ ints ns

abbrev pub code_bytes : Tree → List ℕ
code_bytes t = assembled (steps t)

abbrev pub formula_tables : Tree → Tables
formula_tables t =
    tables 3 (constant_bytes (ints (numbers t))) (function_bytes 0 (function (3 ∷ 3 ∷ 3 ∷ []) 3 (code_bytes t) ∷ [])) [] [] (code_bytes t) 0

-- ---- "the reading's value in wrapping unsigned ints"; none "where a quotient is by zero"

abbrev pub applied : Sign → ℕ → ℕ → Option ℕ
applied plus a b = some (add_of 32 a b)
applied dash a b = some (sub_of 32 a b)
applied star a b = some (mul_of 32 a b)
applied slash a b = cond (eqb b 0) none (some (a / b))

-- env gives the parameters
abbrev pub value : (ℕ → ℕ) → Tree → Option ℕ
value env (number n) = some n
value env (name i) = some (env i)
value env (minus t) = maybe (value env t) none (λ a. some (neg_of 32 a))
value env (both o t u) = maybe (value env t) none (λ a. maybe (value env u) none (λ b. applied o a b))
value env (group t) = value env t

-- ---- the answer, a writer's

abbrev pub compiling : Option Tree → List ℕ → Wrote
compiling none out = wrote (Unwritten not_in_grammar) out
compiling (some t) out =
    cond (ltb 16 (depth t)) (wrote (Unwritten too_deep) out)
    (cond (ltb 32 (need t)) (wrote (Unwritten too_many_operands) out) (delivered (file_of (formula_tables t)) out))

-- "Refusals, in this order: 40 too long; 41 ..; 42 ..; 43 ..; then 16."
unfoldable pub formula : List ℕ → List ℕ → Wrote
formula line out = cond (ltb 256 (length line)) (wrote (Unwritten line_too_long) out) (compiling (reading line) out)
