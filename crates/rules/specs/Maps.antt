-- A table that is not of the paper: calls for rows, with the outputs and all lent memory after.
use Rattle.std.specs.Prelude.{◌≡◌, refl, ℕ, ◌+◌, ◌-◌, ◌*◌, ◌^◌, List, [], ◌∷◌, ◌++◌, length, set}
use Rattle.rules.specs.Bytes.{bytes, zeros}
use Rattle.rules.specs.Heap.{LentHeap}
use Rattle.rules.specs.Mapping.{Mapped, mapped}
use Rattle.rules.specs.Files.{PUSH, LOAD, TLOAD, DIV, RET, NEW, function, function_for, file, file4, nines, leaving, scratch, scratch_heap}
use Rattle.rules.specs.Evaluate.{map_now}

-- 0 (int, int) to int, their quotient; 1 (int) none; 2 (pointer to int) to int; 3 () to int, 5; 4 (long, int) to long, the first, made for
-- profile 7; 5 (int) to a pointer to a structure, a new one;
-- 6 (pointer to int, int) to int. The entry does nothing
abbrev recipes : List ℕ
recipes =
    file4 ((3, 5) ∷ [])
    (function (3 ∷ 3 ∷ []) 3 (LOAD 0 ++ (LOAD 1 ++ (DIV ++ RET))) ∷ function (3 ∷ []) 0 RET ∷ function (131 ∷ []) 3 (LOAD 0 ++ (TLOAD ++ RET)) ∷ function [] 3 (PUSH 0 ++ RET)
    ∷ function_for 7 (4 ∷ 3 ∷ []) 4 (LOAD 0 ++ RET) ∷ function (3 ∷ []) 138 (NEW 10 ++ RET) ∷ function (131 ∷ 3 ∷ []) 3 (LOAD 1 ++ RET) ∷ [])
    [] [] ((3 ∷ []) ∷ [])

abbrev plain : List ℕ
plain = file [] (function (3 ∷ []) 3 (LOAD 0 ++ RET) ∷ function [] 0 RET ∷ []) [] []

-- payloads
abbrev longs : List ℕ → List ℕ
longs [] = []
longs (x ∷ xs) = bytes 8 x ++ longs xs

-- n cells and n entries that a run without blocks leaves; the byte past each slice stays
abbrev blank : ℕ → LentHeap
blank n = record { cells = zeros (8 * n) ++ (9 ∷ []); table = zeros (24 * n) ++ (9 ∷ []) }

-- the function, the scan's profile, the arguments, the bytes of outputs lent, the allowance, slots and cells lent; what comes of it
pub record Row : Type 0 where
  pub function_number : ℕ
  pub scan : ℕ
  pub arguments : List ℕ
  pub outputs : ℕ
  pub allowance : ℕ
  pub slots : ℕ
  pub cells : ℕ
  pub gives : Mapped

abbrev row_for : ℕ → ℕ → List ℕ → ℕ → ℕ → ℕ → ℕ → Mapped → Row
row_for scan f a o n c k r = record { function_number = f; scan = scan; arguments = longs a; outputs = o; allowance = n; slots = c; cells = k; gives = r }

abbrev row : ℕ → List ℕ → ℕ → ℕ → ℕ → ℕ → Mapped → Row
row = row_for 0

-- these rows were done before the answer; o bytes of outputs, c slots and k cells were lent, and the last run left these slots
abbrev ended : ℕ → List ℕ → ℕ → ℕ → List (ℕ × ℕ) → ℕ → Mapped
ended n vs o c st k = mapped n (length vs) (longs vs ++ nines (o - 8 * length vs)) (leaving c st) (blank k)

-- nothing was changed
abbrev untouched : ℕ → ℕ → ℕ → ℕ → Mapped
untouched n o c k = mapped n 0 (nines o) (scratch c) (scratch_heap k)

pub rows : List Row
rows =
    row 0 (12 ∷ 4 ∷ 9 ∷ 2 ∷ 7 ∷ 7 ∷ []) 24 9 4 1 (ended 0 (3 ∷ 4 ∷ 1 ∷ []) 24 4 ((3, 1) ∷ []) 1)
    -- each row has the whole allowance
    ∷ row 0 (12 ∷ 4 ∷ 9 ∷ 2 ∷ []) 16 4 4 0 (ended 0 (3 ∷ 4 ∷ []) 16 4 ((3, 4) ∷ []) 0) ∷ row 0 (12 ∷ 4 ∷ 9 ∷ 2 ∷ []) 16 3 4 0 (ended 15 [] 16 4 ((3, 12) ∷ (3, 4) ∷ (3, 3) ∷ []) 0)
    -- no rows: nothing is run
    ∷ row 0 [] 0 9 4 1 (untouched 0 0 4 1)
    -- the first row that does not finish ends the call, in the middle, at the start, at the end
    ∷ row 0 (12 ∷ 4 ∷ 5 ∷ 0 ∷ 9 ∷ 3 ∷ []) 24 9 4 1 (ended 24 (3 ∷ []) 24 4 ((3, 5) ∷ (3, 0) ∷ (3, 5) ∷ (3, 0) ∷ []) 1)
    ∷ row 0 (5 ∷ 0 ∷ 9 ∷ 3 ∷ []) 16 9 5 1 (ended 24 [] 16 5 ((3, 5) ∷ (3, 0) ∷ (3, 5) ∷ (3, 0) ∷ []) 1) ∷ row 0 (9 ∷ 3 ∷ 5 ∷ 0 ∷ []) 16 9 4 0 (ended 24 (3 ∷ []) 16 4 ((3, 5) ∷ (3, 0) ∷ (3, 5) ∷ (3, 0) ∷ []) 0)
    -- upper bits in an int refuse at their row, which runs nothing
    ∷ row 0 (12 ∷ 4 ∷ 2 ^ 32 ∷ 1 ∷ 9 ∷ 3 ∷ []) 24 9 4 1 (ended 13 (3 ∷ []) 24 4 ((3, 3) ∷ []) 1) ∷ row 0 (12 ∷ 4 ∷ 9 ∷ (2 ^ 32 + 1) ∷ []) 16 9 4 1 (ended 13 (3 ∷ []) 16 4 ((3, 3) ∷ []) 1)
    ∷ row 0 (2 ^ 32 ∷ 4 ∷ 9 ∷ 3 ∷ []) 16 9 4 1 (untouched 13 16 4 1) ∷ row 0 (2 ^ 32 ∷ 4 ∷ []) 8 9 1 1 (untouched 13 8 1 1)
    -- arguments that don't fit
    ∷ row 0 (12 ∷ 4 ∷ 9 ∷ 3 ∷ []) 16 9 1 1 (ended 20 [] 16 1 [] 1)
    -- 13: lengths that are no whole rows, or not the same count; a pointer; no result, which the entry has not either
    ∷ row 0 (12 ∷ 4 ∷ []) 9 9 4 1 (untouched 13 9 4 1) ∷ row 0 (12 ∷ []) 4 9 4 1 (untouched 13 4 4 1) ∷ row 0 (12 ∷ 4 ∷ 9 ∷ []) 16 9 4 1 (untouched 13 16 4 1) ∷ row 0 (12 ∷ 4 ∷ 9 ∷ 3 ∷ []) 8 9 4 1 (untouched 13 8 4 1) ∷ row 0 [] 8 9 4 1 (untouched 13 8 4 1)
    ∷ row 2 (0 ∷ []) 8 9 4 1 (untouched 13 8 4 1) ∷ row 2 [] 0 9 4 1 (untouched 13 0 4 1) ∷ row 6 [] 0 9 4 1 (untouched 13 0 4 1) ∷ row 1 (5 ∷ []) 8 9 4 1 (untouched 13 8 4 1) ∷ row 0xffffffff [] 8 9 4 1 (untouched 13 8 4 1) ∷ row 0xffffffff [] 0 9 4 1 (untouched 13 0 4 1)
    -- 12, before 13
    ∷ row 7 [] 8 9 4 1 (untouched 12 8 4 1) ∷ row 0xfffffffe (12 ∷ []) 9 9 4 1 (untouched 12 9 4 1)
    -- no parameters: the outputs are the rows
    ∷ row 3 [] 16 9 2 1 (ended 0 (5 ∷ 5 ∷ []) 16 2 ((3, 5) ∷ []) 1) ∷ row 3 (5 ∷ []) 8 9 2 1 (untouched 13 8 2 1)
    -- each row starts without blocks
    ∷ row 5 (1 ∷ 2 ∷ []) 16 9 2 1 (mapped 0 2 (longs (65536 ∷ 65536 ∷ [])) (leaving 2 ((7, 65536) ∷ [])) (record { cells = zeros 8 ++ (9 ∷ []); table = longs (1 ∷ 0 ∷ 10 ∷ []) ++ (9 ∷ []) }))
    -- 17, after 13 and before upper bits; a long may have them
    ∷ row_for 7 4 (2 ^ 40 ∷ 1 ∷ 3 ∷ 2 ∷ []) 16 9 3 1 (ended 0 (2 ^ 40 ∷ 3 ∷ []) 16 3 ((4, 3) ∷ []) 1)
    ∷ row 4 (2 ^ 40 ∷ 1 ∷ []) 8 9 3 1 (untouched 17 8 3 1) ∷ row 4 (1 ∷ 2 ^ 32 ∷ []) 8 9 1 1 (untouched 17 8 1 1) ∷ row 4 (1 ∷ []) 8 9 3 1 (untouched 13 8 3 1) ∷ row 4 [] 0 9 3 1 (untouched 17 0 3 1)
    ∷ []

pub computed : List Row → List Mapped
unfolding map_now
computed [] = []
computed (r ∷ rs) = map_now recipes r.function_number r.scan r.arguments (nines r.outputs) r.allowance (scratch r.slots) (scratch_heap r.cells) ∷ computed rs

pub expected : List Row → List Mapped
expected [] = []
expected (r ∷ rs) = r.gives ∷ expected rs

pub table : computed rows ≡ expected rows
unfolding computed expected rows
table = refl

-- what can't be read is refused first; edition 3
pub refused-table :
    (map_now [] 9 0 [] (nines 9) 9 (scratch 1) (scratch_heap 1) ≡ untouched 1 9 1 1) × (map_now (set plain 4 0) 9 0 [] (nines 9) 9 (scratch 1) (scratch_heap 1) ≡ untouched 3 9 1 1)
    × (map_now plain 0 7 (longs (5 ∷ 6 ∷ [])) (nines 16) 9 (scratch 2) (scratch_heap 1) ≡ ended 0 (5 ∷ 6 ∷ []) 16 2 ((3, 6) ∷ []) 1) × (map_now plain 1 7 [] (nines 8) 9 (scratch 2) (scratch_heap 1) ≡ untouched 13 8 2 1)
unfolding map_now
refused-table = (refl, refl, refl, refl)
