-- A table that is not of the paper: formula lines and their trees, what compiling answers, and what its modules give, computed.
use Rattle.std.specs.Prelude.{◌≡◌, refl, ℕ, zero, suc, ◌-◌, ◌≤◌, List, [], ◌∷◌, ◌++◌}
use Rattle.std.proofs.Common.{arith}
use Rattle.std.proofs.Math.Option.{Option, none, some}
use Rattle.rules.specs.Stack.{Slot, slot}
use Rattle.rules.specs.Writing.{Unwritten, Written, file_of}
use Rattle.rules.specs.Answers.{check_number, run_number, value_out}
use Rattle.rules.specs.Files.{PUSH, ADD, RET, function, file, scratch, nines}
use Rattle.rules.specs.Evaluate.{check_now, run_now, reading_now, formula_now}
use Rattle.rules.specs.Grammar.{plus, dash, star, slash, Tree, number, name, minus, both, group, is_star, is_slash, digit, factor, Spells, a_product, a_factor, product_more, a_number, negative, Line}
use Rattle.rules.specs.Formula.{formula_tables, value}
use Rattle.rules.specs.Compiled.{parameters, three_ints}

pub record Row : Type 0 where
  pub line : List ℕ
  pub tree : Option Tree

abbrev row : List ℕ → Option Tree → Row
row s t = record { line = s; tree = t }

pub rows : List Row
rows =
    row (40 ∷ 114 ∷ 42 ∷ 51 ∷ 43 ∷ 103 ∷ 41 ∷ 47 ∷ 52 ∷ []) (some (both slash (group (both plus (both star (name 0) (number 3)) (name 1))) (number 4)))  -- (r*3+g)/4
    ∷ row (49 ∷ 45 ∷ 50 ∷ 45 ∷ 51 ∷ []) (some (both dash (both dash (number 1) (number 2)) (number 3)))  -- 1-2-3
    ∷ row (56 ∷ 47 ∷ 52 ∷ 47 ∷ 50 ∷ []) (some (both slash (both slash (number 8) (number 4)) (number 2)))  -- 8/4/2
    ∷ row (49 ∷ 43 ∷ 50 ∷ 42 ∷ 51 ∷ []) (some (both plus (number 1) (both star (number 2) (number 3))))  -- 1+2*3
    ∷ row (49 ∷ 42 ∷ 50 ∷ 43 ∷ 51 ∷ []) (some (both plus (both star (number 1) (number 2)) (number 3)))  -- 1*2+3
    ∷ row (45 ∷ 45 ∷ 53 ∷ []) (some (minus (minus (number 5))))  -- --5
    ∷ row (50 ∷ 32 ∷ 45 ∷ 32 ∷ 45 ∷ 51 ∷ []) (some (both dash (number 2) (minus (number 3))))  -- 2 - -3
    ∷ row (45 ∷ 50 ∷ 42 ∷ 51 ∷ []) (some (both star (minus (number 2)) (number 3)))  -- -2*3
    ∷ row (54 ∷ 47 ∷ 45 ∷ 50 ∷ []) (some (both slash (number 6) (minus (number 2))))  -- 6/-2
    ∷ row (45 ∷ 32 ∷ 40 ∷ 32 ∷ 98 ∷ 32 ∷ 41 ∷ 32 ∷ []) (some (minus (group (name 2))))  -- - ( b )
    ∷ row (32 ∷ 48 ∷ 48 ∷ 55 ∷ 32 ∷ []) (some (number 7))  --  007
    ∷ row (52 ∷ 50 ∷ 57 ∷ 52 ∷ 57 ∷ 54 ∷ 55 ∷ 50 ∷ 57 ∷ 53 ∷ []) (some (number 4294967295))  -- 4294967295
    ∷ row (40 ∷ 40 ∷ 114 ∷ 41 ∷ 41 ∷ []) (some (group (group (name 0))))  -- ((r))
    ∷ row (48 ∷ 48 ∷ 48 ∷ 48 ∷ 48 ∷ 48 ∷ 48 ∷ 48 ∷ 48 ∷ 48 ∷ 48 ∷ 48 ∷ 48 ∷ 48 ∷ 48 ∷ 48 ∷ 48 ∷ 48 ∷ 48 ∷ 52 ∷ 50 ∷ 57 ∷ 52 ∷ 57 ∷ 54 ∷ 55 ∷ 50 ∷ 57 ∷ 53 ∷ []) (some (number 4294967295))  -- 00000000000000000004294967295
    ∷ row (52 ∷ 50 ∷ 57 ∷ 52 ∷ 57 ∷ 54 ∷ 55 ∷ 50 ∷ 57 ∷ 54 ∷ []) none  -- 4294967296
    ∷ row ([]) none  -- the empty line
    ∷ row (32 ∷ 32 ∷ 32 ∷ []) none  --
    ∷ row (49 ∷ 32 ∷ 50 ∷ []) none  -- 1 2
    ∷ row (114 ∷ 32 ∷ 103 ∷ []) none  -- r g
    ∷ row (114 ∷ 103 ∷ []) none  -- rg
    ∷ row (50 ∷ 114 ∷ []) none  -- 2r
    ∷ row (40 ∷ 114 ∷ 41 ∷ 40 ∷ 103 ∷ 41 ∷ []) none  -- (r)(g)
    ∷ row (50 ∷ 40 ∷ 114 ∷ 41 ∷ []) none  -- 2(r)
    ∷ row (40 ∷ 41 ∷ []) none  -- ()
    ∷ row (114 ∷ 43 ∷ []) none  -- r+
    ∷ row (42 ∷ 114 ∷ []) none  -- *r
    ∷ row (43 ∷ 53 ∷ []) none  -- +5
    ∷ row (40 ∷ 114 ∷ []) none  -- (r
    ∷ row (114 ∷ 41 ∷ []) none  -- r)
    ∷ row (82 ∷ []) none  -- R
    ∷ row (114 ∷ 9 ∷ 43 ∷ 103 ∷ []) none  -- r<tab>+g
    ∷ row (114 ∷ 10 ∷ []) none  -- r<newline>
    ∷ row (114 ∷ 43 ∷ 49 ∷ 32 ∷ 48 ∷ []) none  -- r+1 0
    ∷ row (57 ∷ 57 ∷ 57 ∷ 57 ∷ 57 ∷ 57 ∷ 57 ∷ 57 ∷ 57 ∷ 57 ∷ 57 ∷ 57 ∷ 57 ∷ 57 ∷ 57 ∷ 57 ∷ 57 ∷ 57 ∷ 57 ∷ 57 ∷ 57 ∷ 57 ∷ 57 ∷ 57 ∷ 57 ∷ 57 ∷ 42 ∷ 48 ∷ []) none  -- 99999999999999999999999999*0
    ∷ []

pub lines : List Row → List (Option Tree)
unfolding reading_now
lines [] = []
lines (r ∷ rs) = reading_now r.line ∷ lines rs

pub trees : List Row → List (Option Tree)
trees [] = []
trees (r ∷ rs) = r.tree ∷ trees rs

pub table : lines rows ≡ trees rows
unfolding lines trees rows
table = refl

-- ---- refusals: n opening brackets, r, n closing ones; n times `r+r*(`, r, n closing ones

abbrev times : ℕ → List ℕ → List ℕ
times zero s = []
times (suc n) s = s ++ times n s

abbrev nest : ℕ → List ℕ
nest n = times n (40 ∷ []) ++ (114 ∷ times n (41 ∷ []))

abbrev wide : ℕ → List ℕ
wide n = times n (114 ∷ 43 ∷ 114 ∷ 42 ∷ 40 ∷ []) ++ (114 ∷ times n (41 ∷ []))

-- line, length of the output, and what is answered
pub answers : ((formula_now (nest 16) (nines 74)).answer ≡ Written 74) × ((formula_now (nest 16) (nines 73)).answer ≡ Unwritten 16) × ((formula_now (nest 17) []).answer ≡ Unwritten 42)
    × ((formula_now (nest 17 ++ (41 ∷ [])) []).answer ≡ Unwritten 41) × ((formula_now (nest 40 ++ (43 ∷ [])) []).answer ≡ Unwritten 41)
    × ((formula_now (wide 15) []).answer ≡ Unwritten 16) × ((formula_now (wide 16) []).answer ≡ Unwritten 43) × ((formula_now (wide 17) []).answer ≡ Unwritten 42)
    × ((formula_now (times 256 (32 ∷ []) ++ (114 ∷ [])) []).answer ≡ Unwritten 40) × ((formula_now (times 255 (32 ∷ []) ++ (114 ∷ [])) (nines 74)).answer ≡ Written 74)
    -- 40 before 41; minuses and brackets side by side are not deep; of r+r+.. one operand waits, and minuses need none
    × ((formula_now (times 257 (32 ∷ [])) []).answer ≡ Unwritten 40) × ((formula_now (times 17 (45 ∷ []) ++ (114 ∷ [])) []).answer ≡ Unwritten 16)
    × ((formula_now (times 17 (40 ∷ 114 ∷ 41 ∷ 43 ∷ []) ++ (114 ∷ [])) []).answer ≡ Unwritten 16) × ((formula_now (times 33 (114 ∷ 43 ∷ []) ++ (114 ∷ [])) []).answer ≡ Unwritten 16)
    × ((formula_now (times 33 (45 ∷ []) ++ (114 ∷ [])) []).answer ≡ Unwritten 16)
    -- a refusal leaves the output
    × ((formula_now (times 257 (32 ∷ [])) (nines 3)).output ≡ nines 3) × ((formula_now [] (nines 3)).output ≡ nines 3) × ((formula_now (nest 17) (nines 3)).output ≡ nines 3) × ((formula_now (wide 16) (nines 3)).output ≡ nines 3)
unfolding formula_now
answers = (refl, refl, refl, refl, refl, refl, refl, refl, refl, refl, refl, refl, refl, refl, refl, refl, refl, refl, refl)

-- ---- modules: (r*3+g)/4 on 100, 20, 5; r/(g-20) on the same; -b; 2-3; 6/-2

abbrev quarter : Tree
quarter = both slash (group (both plus (both star (name 0) (number 3)) (name 1))) (number 4)

abbrev broken : Tree
broken = both slash (name 0) (group (both dash (name 1) (number 20)))

abbrev below : Tree
below = both dash (number 2) (number 3)

abbrev unsigned : Tree
unsigned = both slash (number 6) (minus (number 2))

abbrev module_of : Tree → List ℕ
module_of t = file_of (formula_tables t)

abbrev value_found : Tree → Option Slot
value_found t = let x = run_now (module_of t) 0 (three_ints 100 20 5) 257 (scratch 35) in value_out x.answer x.stack

pub values : (check_number (check_now (module_of quarter) []).answer ≡ 0) × (value_found quarter ≡ some (slot 3 80))
    × (run_number (run_now (module_of broken) 0 (three_ints 100 20 5) 257 (scratch 35)).answer ≡ 24)
    × (value_found (minus (name 2)) ≡ some (slot 3 4294967291)) × (value_found below ≡ some (slot 3 4294967295)) × (value_found unsigned ≡ some (slot 3 0))
unfolding check_now run_now file_of
values = (refl, refl, refl, refl, refl, refl)

-- the values of the readings
abbrev evaluated : Tree → Option ℕ
evaluated t = value (parameters 100 20 5) t

pub readings : (evaluated quarter ≡ some 80) × (evaluated broken ≡ none) × (evaluated (minus (name 2)) ≡ some 4294967291) × (evaluated below ≡ some 4294967295) × (evaluated unsigned ≡ some 0)
readings = (refl, refl, refl, refl, refl)

-- 7+7 has a constant for each of its numbers, an empty entry and no labels
pub its_file : module_of (both plus (number 7) (number 7)) ≡ file ((3, 7) ∷ (3, 7) ∷ []) (function (3 ∷ 3 ∷ 3 ∷ []) 3 (PUSH 0 ++ (PUSH 1 ++ (ADD ++ RET))) ∷ []) [] []
unfolding file_of
its_file = refl

-- ---- derivations: -2*3, 8/4/2

figure : (c : ℕ) → 48 ≤ c → c ≤ 57 → Spells factor (c ∷ []) (number (c - 48))
figure c a b = a_number (digit (record { from = a; upto = b })) (omega arith)

pub derivations : Line (45 ∷ 50 ∷ 42 ∷ 51 ∷ []) (both star (minus (number 2)) (number 3))
    × Line (56 ∷ 47 ∷ 52 ∷ 47 ∷ 50 ∷ []) (both slash (both slash (number 8) (number 4)) (number 2))
derivations = (
  a_product (product_more (a_factor (negative (figure 50 (omega arith) (omega arith)))) is_star (figure 51 (omega arith) (omega arith))),
  a_product (product_more (product_more (a_factor (figure 56 (omega arith) (omega arith))) is_slash (figure 52 (omega arith) (omega arith))) is_slash (figure 50 (omega arith) (omega arith))),
)
