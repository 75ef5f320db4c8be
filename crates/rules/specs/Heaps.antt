-- A table that is not of the paper: 02's A6 and A9, runs of edition 4 on a heap of four cells, each new exception, what has a typing, and files.
use Rattle.std.specs.Prelude.{◌≡◌, refl, ℕ, ◌+◌, ◌-◌, ◌*◌, ◌^◌, true, false, List, [], ◌∷◌, ◌++◌, length, set, take}
use Rattle.rules.specs.Bytes.{bytes, zeros}
use Rattle.rules.specs.Instructions.{Instruction, two, cmp, tload, new, delete, flea}
use Rattle.rules.specs.Tables.{entry}
use Rattle.rules.specs.ModuleFile.{read}
use Rattle.rules.specs.Stack.{Slot, slot}
use Rattle.rules.specs.Heap.{Block, LentHeap, heap_capacity}
use Rattle.rules.specs.Machine.{Next, goes, stops, finishes, opened, exec_in}
use Rattle.rules.specs.Answers.{CheckAnswer, Untyped, Accepted, run_number, Ran, answered}
use Rattle.rules.specs.Files.{PUSH, POP, LOAD, STORE, LEA, TLOAD, TSTORE, COPY, SWAP, ADD, INC, DEC, CMP, ICMP, TOI, CALL, RET, FLEA, NULL, NEW, DELETE, GCNULL, GCNEW, Fn, function, file, file4, nines, payloads_up, types_in, lent, scratch, scratch_heap}
use Rattle.rules.specs.Evaluate.{refusal_now, check_now, run_heap_now}

-- int 5, long 7, double 1.0, long -1
abbrev constants : List (ℕ × ℕ)
constants = (3, 5) ∷ (4, 7) ∷ (6, 0x3ff0000000000000) ∷ (4, 0xffffffffffffffff) ∷ []

-- 10: an int and a double; 11: a long; 12: three ints
abbrev shapes : List (List ℕ)
shapes = (3 ∷ 6 ∷ []) ∷ (4 ∷ []) ∷ (3 ∷ 3 ∷ 3 ∷ []) ∷ []

-- 0 () to a pointer to structure 10; 1 (pointer to int), none; 2 (pointer to structure 10) to the same; 3 (managed pointer to
-- int) to the same; 4 () to a managed pointer to structure 10
abbrev functions : List Fn
functions = function [] 138 (NEW 10 ++ RET) ∷ function (131 ∷ []) 0 RET ∷ function (138 ∷ []) 138 (LOAD 0 ++ RET) ∷ function (195 ∷ []) 195 (LOAD 0 ++ RET) ∷ function [] 202 (GCNEW 10 ++ RET) ∷ []

abbrev recipe : List ℕ → List ℕ
recipe code = file4 constants functions [] code shapes

-- a block's address, a field's, and null
abbrev A : ℕ → ℕ
A s = s * 65536

abbrev F : ℕ → ℕ → ℕ
F s i = s * 65536 + 1 + i

abbrev N : ℕ
N = 0xffffffffffffffff

abbrev local : List ℕ
local = PUSH 0 ++ STORE 0

-- the code; the outcome, the steps and the slots that are left; the entries (serial, first cell, type) and the cells
pub record Row : Type 0 where
  pub code : List ℕ
  pub outcome : ℕ
  pub steps : ℕ
  pub left : List (ℕ × ℕ)
  pub blocks : List (ℕ × ℕ × ℕ)
  pub cells : List ℕ

abbrev row : List ℕ → ℕ → ℕ → List (ℕ × ℕ) → List (ℕ × ℕ × ℕ) → List ℕ → Row
row c o k l b z = record { code = c; outcome = o; steps = k; left = l; blocks = b; cells = z }

abbrev empty : List ℕ
empty = 0 ∷ 0 ∷ 0 ∷ 0 ∷ []

pub rows : List Row
rows =
    -- first fit, in serial order; null where no run fits
    row (NEW 3) 0 1 ((7, A 1) ∷ []) ((1, 0, 3) ∷ []) empty
    ∷ row (NEW 10 ++ (NEW 3 ++ NEW 10)) 0 3 ((7, A 1) ∷ (7, A 2) ∷ (7, N) ∷ []) ((1, 0, 10) ∷ (2, 2, 3) ∷ []) empty
    ∷ row (NEW 3 ++ (NEW 10 ++ (SWAP ++ (DELETE ++ NEW 4)))) 0 5 ((7, A 2) ∷ (7, A 3) ∷ []) ((2, 1, 10) ∷ (3, 0, 4) ∷ []) empty
    -- a hole that is too short is left, the lowest that fits is taken; a null uses no serial; the table is by serial, not by cell
    ∷ row (NEW 3 ++ (NEW 3 ++ (SWAP ++ (DELETE ++ NEW 10)))) 0 5 ((7, A 2) ∷ (7, A 3) ∷ []) ((2, 1, 3) ∷ (3, 2, 10) ∷ []) empty
    ∷ row (NEW 10 ++ (NEW 3 ++ (SWAP ++ (DELETE ++ (NEW 3 ++ NEW 3))))) 0 6 ((7, A 2) ∷ (7, A 3) ∷ (7, A 4) ∷ []) ((2, 2, 3) ∷ (3, 0, 3) ∷ (4, 1, 3) ∷ []) empty
    ∷ row (NEW 10 ++ (NEW 3 ++ (NEW 10 ++ (POP ++ NEW 4)))) 0 5 ((7, A 1) ∷ (7, A 2) ∷ (7, A 3) ∷ []) ((1, 0, 10) ∷ (2, 2, 3) ∷ (3, 3, 4) ∷ []) empty
    ∷ row (NEW 3 ++ (NEW 3 ++ (NEW 3 ++ (NEW 3 ++ NEW 3)))) 0 5 ((7, A 1) ∷ (7, A 2) ∷ (7, A 3) ∷ (7, A 4) ∷ (7, N) ∷ []) ((1, 0, 3) ∷ (2, 1, 3) ∷ (3, 2, 3) ∷ (4, 3, 3) ∷ []) empty
    -- reading and writing through pointers; a freed cell is zero, and so is one that is taken again
    ∷ row (NEW 10 ++ (COPY ++ (FLEA 0 ++ (PUSH 0 ++ (TSTORE ++ (FLEA 1 ++ INC)))))) 0 7 [] ((1, 0, 10) ∷ []) (5 ∷ 0x3ff0000000000000 ∷ 0 ∷ 0 ∷ [])
    ∷ row (NEW 10 ++ (COPY ++ (FLEA 0 ++ (COPY ++ (INC ++ TLOAD))))) 0 6 ((7, A 1) ∷ (3, 1) ∷ []) ((1, 0, 10) ∷ []) (1 ∷ 0 ∷ 0 ∷ 0 ∷ [])
    ∷ row (NEW 3 ++ (COPY ++ (INC ++ DELETE))) 0 4 [] [] empty
    ∷ row (NEW 3 ++ (COPY ++ (COPY ++ (INC ++ (DELETE ++ (POP ++ (NEW 3 ++ TLOAD))))))) 0 8 ((3, 0) ∷ []) ((2, 0, 3) ∷ []) empty
    ∷ row (NEW 3 ++ (COPY ++ DEC)) 0 3 ((7, A 1) ∷ []) ((1, 0, 3) ∷ []) (0xffffffff ∷ 0 ∷ 0 ∷ 0 ∷ []) ∷ row (NEW 4 ++ (COPY ++ DEC)) 0 3 ((7, A 1) ∷ []) ((1, 0, 4) ∷ []) (0xffffffffffffffff ∷ 0 ∷ 0 ∷ 0 ∷ [])
    ∷ row (NEW 3 ++ (NEW 11 ++ (COPY ++ (FLEA 0 ++ (PUSH 1 ++ TSTORE))))) 0 6 ((7, A 1) ∷ (7, A 2) ∷ []) ((1, 0, 3) ∷ (2, 1, 11) ∷ []) (0 ∷ 7 ∷ 0 ∷ 0 ∷ []) ∷ row (NEW 10 ++ (FLEA 1 ++ TLOAD)) 0 3 ((6, 0) ∷ []) ((1, 0, 10) ∷ []) empty
    ∷ row (CALL 0 ++ FLEA 1) 0 4 ((7, F 1 1) ∷ []) ((1, 0, 10) ∷ []) empty ∷ row (NEW 10 ++ (CALL 2 ++ FLEA 0)) 0 5 ((7, F 1 0) ∷ []) ((1, 0, 10) ∷ []) empty ∷ row (PUSH 0 ++ CALL 2) 22 1 ((3, 5) ∷ []) [] empty
    -- of two blocks the older is written, shown and read; the newer is freed and the older stays; each field is its own; a run of three
    ∷ row (NEW 3 ++ (COPY ++ (PUSH 0 ++ (TSTORE ++ NEW 3)))) 0 5 ((7, A 1) ∷ (7, A 2) ∷ []) ((1, 0, 3) ∷ (2, 1, 3) ∷ []) (5 ∷ 0 ∷ 0 ∷ 0 ∷ [])
    ∷ row (NEW 3 ++ (NEW 3 ++ (SWAP ++ (COPY ++ (PUSH 0 ++ TSTORE))))) 0 6 ((7, A 2) ∷ (7, A 1) ∷ []) ((1, 0, 3) ∷ (2, 1, 3) ∷ []) (5 ∷ 0 ∷ 0 ∷ 0 ∷ [])
    ∷ row (NEW 3 ++ (NEW 3 ++ DELETE)) 0 3 ((7, A 1) ∷ []) ((1, 0, 3) ∷ []) empty
    ∷ row (NEW 10 ++ (COPY ++ (FLEA 0 ++ (PUSH 0 ++ (TSTORE ++ (FLEA 1 ++ TLOAD)))))) 0 7 ((6, 0) ∷ []) ((1, 0, 10) ∷ []) (5 ∷ 0 ∷ 0 ∷ 0 ∷ [])
    ∷ row (NEW 12 ++ NEW 3) 0 2 ((7, A 1) ∷ (7, A 2) ∷ []) ((1, 0, 12) ∷ (2, 3, 3) ∷ []) empty
    -- null: 36, and nothing to `delete`; compared by payload
    ∷ row (NULL ++ TLOAD) 36 1 ((7, N) ∷ []) [] empty ∷ row (NULL ++ (PUSH 0 ++ TSTORE)) 36 2 ((7, N) ∷ (3, 5) ∷ []) [] empty ∷ row (NULL ++ INC) 36 1 ((7, N) ∷ []) [] empty ∷ row (NULL ++ DELETE) 0 2 [] [] empty ∷ row DELETE 21 0 [] [] empty
    ∷ row (NULL ++ (NEW 3 ++ CMP)) 0 3 ((3, 1) ∷ []) ((1, 0, 3) ∷ []) empty ∷ row (NULL ++ (NEW 3 ++ ICMP)) 0 3 ((3, 1) ∷ []) ((1, 0, 3) ∷ []) empty ∷ row (local ++ (LEA 0 ++ (NEW 3 ++ ICMP))) 0 5 ((3, 5) ∷ (3, 0xffffffff) ∷ []) ((1, 0, 3) ∷ []) empty
    -- equal ones; no number is null, and null is no number
    ∷ row (NULL ++ (NULL ++ ICMP)) 0 3 ((3, 0) ∷ []) [] empty ∷ row (NEW 3 ++ (COPY ++ CMP)) 0 3 ((3, 0) ∷ []) ((1, 0, 3) ∷ []) empty ∷ row (PUSH 3 ++ DELETE) 31 1 ((4, 0xffffffffffffffff) ∷ []) [] empty ∷ row (PUSH 3 ++ TLOAD) 31 1 ((4, 0xffffffffffffffff) ∷ []) [] empty ∷ row (NULL ++ TOI) 32 1 ((7, N) ∷ []) [] empty
    -- 33: freed; a field of what is no structure can't be made; `delete` of a field, of a slot, twice
    ∷ row (NEW 3 ++ (COPY ++ (DELETE ++ TLOAD))) 33 3 ((7, A 1) ∷ []) [] empty ∷ row (NEW 10 ++ (FLEA 0 ++ DELETE)) 33 2 ((7, F 1 0) ∷ []) ((1, 0, 10) ∷ []) empty
    ∷ row (local ++ (LEA 0 ++ DELETE)) 33 3 ((3, 5) ∷ (7, 0) ∷ []) [] empty ∷ row (NEW 3 ++ (COPY ++ (DELETE ++ DELETE))) 33 3 ((7, A 1) ∷ []) [] empty
    ∷ row (NEW 3 ++ (COPY ++ (DELETE ++ (NEW 3 ++ (POP ++ TLOAD))))) 33 5 ((7, A 1) ∷ []) ((2, 0, 3) ∷ []) empty ∷ row (NEW 10 ++ (COPY ++ (DELETE ++ FLEA 9))) 33 3 ((7, A 1) ∷ []) [] empty
    -- 31 before 36, 36 before 33; 33 before 39, 39 before 38; 37 with numbers out of range; 50 before 22; 22
    ∷ row (PUSH 0 ++ DELETE) 31 1 ((3, 5) ∷ []) [] empty ∷ row (PUSH 0 ++ FLEA 0) 31 1 ((3, 5) ∷ []) [] empty ∷ row (FLEA 0) 21 0 [] [] empty ∷ row (NULL ++ FLEA 9) 36 1 ((7, N) ∷ []) [] empty
    ∷ row (NEW 3 ++ FLEA 9) 39 1 ((7, A 1) ∷ []) ((1, 0, 3) ∷ []) empty ∷ row (local ++ (LEA 0 ++ FLEA 9)) 39 3 ((3, 5) ∷ (7, 0) ∷ []) [] empty
    ∷ row (NEW 10 ++ FLEA 2) 38 1 ((7, A 1) ∷ []) ((1, 0, 10) ∷ []) empty ∷ row (NEW 10 ++ (FLEA 1 ++ FLEA 0)) 39 2 ((7, F 1 1) ∷ []) ((1, 0, 10) ∷ []) empty
    ∷ row (NEW 5) 37 0 [] [] empty ∷ row (NEW 13) 37 0 [] [] empty ∷ row (NEW 9) 37 0 [] [] empty
    ∷ row (NEW 7) 37 0 [] [] empty ∷ row (NEW 131) 37 0 [] [] empty ∷ row (NEW 138) 37 0 [] [] empty ∷ row (NEW 259) 37 0 [] [] empty ∷ row (NEW 0) 37 0 [] [] empty ∷ row (NEW 11) 0 1 ((7, A 1) ∷ []) ((1, 0, 11) ∷ []) empty
    ∷ row (NEW 10 ++ TLOAD) 50 1 ((7, A 1) ∷ []) ((1, 0, 10) ∷ []) empty ∷ row (NEW 10 ++ (PUSH 0 ++ TSTORE)) 50 2 ((7, A 1) ∷ (3, 5) ∷ []) ((1, 0, 10) ∷ []) empty
    ∷ row (NEW 10 ++ INC) 50 1 ((7, A 1) ∷ []) ((1, 0, 10) ∷ []) empty ∷ row (NEW 3 ++ (PUSH 1 ++ TSTORE)) 22 2 ((7, A 1) ∷ (4, 7) ∷ []) ((1, 0, 3) ∷ []) empty
    ∷ row (NEW 3 ++ TOI) 32 1 ((7, A 1) ∷ []) ((1, 0, 3) ∷ []) empty
    -- 20 after all, 37 before it: the heap stays as it was; `null` needs a slot, too
    ∷ row (PUSH 0 ++ (PUSH 0 ++ (PUSH 0 ++ (PUSH 0 ++ (PUSH 0 ++ (PUSH 0 ++ NEW 5)))))) 37 6 ((3, 5) ∷ (3, 5) ∷ (3, 5) ∷ (3, 5) ∷ (3, 5) ∷ (3, 5) ∷ []) [] empty
    ∷ row (PUSH 0 ++ (PUSH 0 ++ (PUSH 0 ++ (PUSH 0 ++ (PUSH 0 ++ (PUSH 0 ++ NULL)))))) 20 6 ((3, 5) ∷ (3, 5) ∷ (3, 5) ∷ (3, 5) ∷ (3, 5) ∷ (3, 5) ∷ []) [] empty
    ∷ row (PUSH 0 ++ (PUSH 0 ++ (PUSH 0 ++ (PUSH 0 ++ (PUSH 0 ++ (PUSH 0 ++ NEW 3)))))) 20 6 ((3, 5) ∷ (3, 5) ∷ (3, 5) ∷ (3, 5) ∷ (3, 5) ∷ (3, 5) ∷ []) [] empty
    -- managed: listed until freed with 64 added, freed by the next `gcnew` where no slot holds it, also where there is room; not by `new`
    ∷ row (GCNEW 10 ++ POP) 0 2 [] ((1, 0, 74) ∷ []) empty ∷ row (GCNEW 10 ++ (POP ++ (GCNEW 10 ++ GCNEW 10))) 0 4 ((8, A 2) ∷ (8, A 3) ∷ []) ((2, 0, 74) ∷ (3, 2, 74) ∷ []) empty
    ∷ row (GCNEW 3 ++ (POP ++ NEW 3)) 0 3 ((7, A 2) ∷ []) ((1, 0, 67) ∷ (2, 1, 3) ∷ []) empty ∷ row (GCNEW 10 ++ (GCNEW 10 ++ (POP ++ NEW 3))) 0 4 ((8, A 1) ∷ (7, N) ∷ []) ((1, 0, 74) ∷ (2, 2, 74) ∷ []) empty
    ∷ row (GCNEW 3 ++ (COPY ++ (INC ++ (POP ++ GCNEW 4)))) 0 5 ((8, A 2) ∷ []) ((2, 0, 68) ∷ []) empty
    -- held by a field's pointer, a buried slot, a caller's slot, an argument; by what is left when a function has returned
    ∷ row (GCNEW 10 ++ (FLEA 1 ++ GCNEW 10)) 0 3 ((8, F 1 1) ∷ (8, A 2) ∷ []) ((1, 0, 74) ∷ (2, 2, 74) ∷ []) empty
    ∷ row (GCNEW 3 ++ (PUSH 0 ++ (STORE 0 ++ GCNEW 3))) 0 4 ((8, A 1) ∷ (3, 5) ∷ (8, A 2) ∷ []) ((1, 0, 67) ∷ (2, 1, 67) ∷ []) empty
    ∷ row (GCNEW 10 ++ CALL 4) 0 4 ((8, A 1) ∷ (8, A 2) ∷ []) ((1, 0, 74) ∷ (2, 2, 74) ∷ []) empty ∷ row (CALL 4 ++ (POP ++ CALL 4)) 0 7 ((8, A 2) ∷ []) ((2, 0, 74) ∷ []) empty
    ∷ row (GCNEW 3 ++ (CALL 3 ++ (COPY ++ (INC ++ TLOAD)))) 0 7 ((3, 1) ∷ []) ((1, 0, 67) ∷ []) (1 ∷ 0 ∷ 0 ∷ 0 ∷ [])
    -- packed only where no run is long enough: serial 2 moves from cell 1 to cell 0, and what its pointer reads stays
    ∷ row (GCNEW 3 ++ (POP ++ (NEW 10 ++ (COPY ++ (FLEA 0 ++ (PUSH 0 ++ (TSTORE ++ GCNEW 10))))))) 0 8 ((7, A 2) ∷ (8, A 3) ∷ []) ((2, 0, 10) ∷ (3, 2, 74) ∷ []) (5 ∷ 0 ∷ 0 ∷ 0 ∷ [])
    ∷ row (GCNEW 3 ++ (POP ++ (NEW 10 ++ (COPY ++ (FLEA 0 ++ (PUSH 0 ++ (TSTORE ++ (GCNEW 10 ++ (POP ++ (FLEA 0 ++ TLOAD)))))))))) 0 11 ((3, 5) ∷ []) ((2, 0, 10) ∷ (3, 2, 74) ∷ []) (5 ∷ 0 ∷ 0 ∷ 0 ∷ [])
    ∷ row (GCNEW 3 ++ (POP ++ (NEW 10 ++ (COPY ++ (FLEA 0 ++ (PUSH 0 ++ (TSTORE ++ GCNEW 3))))))) 0 8 ((7, A 2) ∷ (8, A 3) ∷ []) ((2, 1, 10) ∷ (3, 0, 67) ∷ []) (0 ∷ 5 ∷ 0 ∷ 0 ∷ [])
    -- in serial order, so that a block may move up; also where it does not help; freed all the same where null is given
    ∷ row (NEW 3 ++ (NEW 10 ++ (SWAP ++ (DELETE ++ (NEW 3 ++ (COPY ++ (INC ++ GCNEW 10))))))) 0 8 ((7, A 2) ∷ (7, A 3) ∷ (8, N) ∷ []) ((2, 0, 10) ∷ (3, 2, 3) ∷ []) (0 ∷ 0 ∷ 1 ∷ 0 ∷ [])
    ∷ row (GCNEW 3 ++ (POP ++ (NEW 10 ++ (NEW 3 ++ GCNEW 10)))) 0 5 ((7, A 2) ∷ (7, A 3) ∷ (8, N) ∷ []) ((2, 0, 10) ∷ (3, 2, 3) ∷ []) empty
    -- 37, 20: nothing is freed
    ∷ row (GCNEW 3 ++ (POP ++ GCNEW 5)) 37 2 [] ((1, 0, 67) ∷ []) empty ∷ row (GCNEW 67) 37 0 [] [] empty ∷ row (GCNEW 13) 37 0 [] [] empty ∷ row (NEW 67) 37 0 [] [] empty
    ∷ row (GCNEW 3 ++ (POP ++ (PUSH 0 ++ (PUSH 0 ++ (PUSH 0 ++ (PUSH 0 ++ (PUSH 0 ++ (PUSH 0 ++ GCNEW 3)))))))) 20 8 ((3, 5) ∷ (3, 5) ∷ (3, 5) ∷ (3, 5) ∷ (3, 5) ∷ (3, 5) ∷ []) ((1, 0, 67) ∷ []) empty
    ∷ row (PUSH 0 ++ (PUSH 0 ++ (PUSH 0 ++ (PUSH 0 ++ (PUSH 0 ++ (PUSH 0 ++ GCNULL)))))) 20 6 ((3, 5) ∷ (3, 5) ∷ (3, 5) ∷ (3, 5) ∷ (3, 5) ∷ (3, 5) ∷ []) [] empty
    -- the rest of type 8: 31 of `delete`, of null too; 22 across 7 and 8; 36; 39, 38, 50, 32
    ∷ row (GCNEW 3 ++ DELETE) 31 1 ((8, A 1) ∷ []) ((1, 0, 67) ∷ []) empty ∷ row (GCNULL ++ DELETE) 31 1 ((8, N) ∷ []) [] empty ∷ row (GCNULL ++ (NULL ++ CMP)) 22 2 ((8, N) ∷ (7, N) ∷ []) [] empty ∷ row (NULL ++ (GCNULL ++ ICMP)) 22 2 ((7, N) ∷ (8, N) ∷ []) [] empty
    ∷ row (GCNULL ++ (NULL ++ SWAP)) 22 2 ((8, N) ∷ (7, N) ∷ []) [] empty ∷ row (NULL ++ (STORE 0 ++ (GCNULL ++ STORE 0))) 22 3 ((7, N) ∷ (8, N) ∷ []) [] empty ∷ row (NEW 3 ++ CALL 3) 22 1 ((7, A 1) ∷ []) ((1, 0, 3) ∷ []) empty ∷ row (GCNEW 3 ++ CALL 1) 22 1 ((8, A 1) ∷ []) ((1, 0, 67) ∷ []) empty
    ∷ row (GCNULL ++ INC) 36 1 ((8, N) ∷ []) [] empty ∷ row (GCNULL ++ FLEA 9) 36 1 ((8, N) ∷ []) [] empty ∷ row (GCNULL ++ (GCNEW 3 ++ CMP)) 0 3 ((3, 1) ∷ []) ((1, 0, 67) ∷ []) empty ∷ row (GCNEW 3 ++ (GCNULL ++ ICMP)) 0 3 ((3, 0xffffffff) ∷ []) ((1, 0, 67) ∷ []) empty
    ∷ row (GCNEW 3 ++ FLEA 0) 39 1 ((8, A 1) ∷ []) ((1, 0, 67) ∷ []) empty ∷ row (GCNEW 10 ++ FLEA 2) 38 1 ((8, A 1) ∷ []) ((1, 0, 74) ∷ []) empty ∷ row (GCNEW 10 ++ TLOAD) 50 1 ((8, A 1) ∷ []) ((1, 0, 74) ∷ []) empty
    ∷ row (GCNEW 3 ++ TOI) 32 1 ((8, A 1) ∷ []) ((1, 0, 67) ∷ []) empty ∷ row (GCNEW 3 ++ (PUSH 0 ++ ADD)) 32 2 ((8, A 1) ∷ (3, 5) ∷ []) ((1, 0, 67) ∷ []) empty ∷ row (GCNEW 3 ++ (STORE 0 ++ (LEA 0 ++ INC))) 32 3 ((8, A 1) ∷ (7, 0) ∷ []) ((1, 0, 67) ∷ []) empty
    ∷ []

abbrev entry_bytes : List (ℕ × ℕ × ℕ) → List ℕ
entry_bytes [] = []
entry_bytes (e ∷ es) = bytes 8 e.0 ++ (bytes 8 e.1 ++ (bytes 8 e.2 ++ entry_bytes es))

abbrev words_up : List ℕ → List ℕ
words_up [] = []
words_up (x ∷ xs) = bytes 8 x ++ words_up xs

pub computed : List Row → List Ran
unfolding run_heap_now
computed [] = []
computed (r ∷ rs) = run_heap_now (recipe r.code) 0xffffffff (record { payloads = []; types = [] }) 0 100 (scratch 6) (scratch_heap 4) ∷ computed rs

pub expected : List Row → List Ran
expected [] = []
expected (r ∷ rs) =
    record {
      answer = answered r.outcome (record { steps = r.steps; height = length r.left });
      stack = record {
        payloads = payloads_up r.left ++ (zeros (48 - 8 * length r.left) ++ (9 ∷ []));
        types = types_in r.left ++ (zeros (6 - length r.left) ++ (9 ∷ []));
      };
      heap = record { cells = words_up r.cells ++ (9 ∷ []); table = entry_bytes r.blocks ++ (zeros (96 - 24 * length r.blocks) ++ (9 ∷ [])) };
    }
    ∷ expected rs

pub table : computed rows ≡ expected rows
unfolding computed expected rows
table = refl

-- ---- what has a typing

pub typed : List (List ℕ)
typed =
    (NEW 10 ++ (FLEA 1 ++ TLOAD)) ∷ (NULL ++ (NEW 3 ++ (CMP ++ POP))) ∷ (NULL ++ DELETE) ∷ (NEW 10 ++ DELETE) ∷ (NEW 3 ++ DELETE) ∷ (NEW 10 ++ (FLEA 0 ++ INC)) ∷ (NULL ++ (NULL ++ ICMP))
    ∷ (local ++ (LEA 0 ++ (NEW 11 ++ CMP))) ∷ (local ++ (LEA 0 ++ DELETE)) ∷ (NEW 10 ++ (FLEA 0 ++ DELETE)) ∷ (NULL ++ (STORE 0 ++ (NULL ++ STORE 0))) ∷ (NULL ++ (NULL ++ SWAP)) ∷ (NULL ++ (COPY ++ POP))
    ∷ (NEW 10 ++ (STORE 0 ++ (NEW 10 ++ STORE 0))) ∷ (CALL 0 ++ (FLEA 0 ++ CALL 1)) ∷ (NEW 10 ++ (CALL 2 ++ (FLEA 1 ++ TLOAD))) ∷ (NEW 3 ++ CALL 1) ∷ (NEW 10 ++ (FLEA 1 ++ (PUSH 2 ++ TSTORE))) ∷ (NEW 10 ++ (NEW 11 ++ CMP)) ∷ (NEW 6 ++ TLOAD)
    ∷ (NULL ++ (STORE 0 ++ (LOAD 0 ++ DELETE))) ∷ (NEW 10 ++ (NEW 4 ++ ICMP)) ∷ (NEW 4 ++ DELETE) ∷ (NEW 6 ++ DELETE) ∷ (NEW 10 ++ (FLEA 1 ++ INC)) ∷ (NEW 4 ++ DEC)
    ∷ (GCNEW 10 ++ (FLEA 0 ++ INC)) ∷ (GCNEW 10 ++ (FLEA 0 ++ (CALL 3 ++ TLOAD))) ∷ (GCNULL ++ (GCNEW 3 ++ ICMP)) ∷ (GCNEW 10 ++ (GCNEW 11 ++ CMP)) ∷ (GCNULL ++ (COPY ++ POP)) ∷ (GCNULL ++ (STORE 0 ++ (GCNULL ++ STORE 0))) ∷ (GCNEW 3 ++ (CALL 3 ++ TLOAD)) ∷ (CALL 4 ++ (FLEA 1 ++ (PUSH 2 ++ TSTORE))) ∷ (GCNULL ++ (GCNULL ++ SWAP))
    ∷ []

pub untyped : List (List ℕ)
untyped =
    (NULL ++ TLOAD) ∷ (NULL ++ INC) ∷ (NULL ++ (PUSH 0 ++ TSTORE)) ∷ (NULL ++ FLEA 0) ∷ (NEW 10 ++ TLOAD) ∷ (NEW 10 ++ INC) ∷ (NEW 10 ++ (PUSH 0 ++ TSTORE)) ∷ (NEW 3 ++ FLEA 0) ∷ (local ++ (LEA 0 ++ FLEA 0)) ∷ (NEW 10 ++ FLEA 2) ∷ (NEW 11 ++ FLEA 1) ∷ (PUSH 0 ++ FLEA 0) ∷ FLEA 0
    ∷ (NEW 13) ∷ (NEW 9) ∷ (NEW 5) ∷ (NEW 3 ++ (NEW 4 ++ SWAP)) ∷ (NULL ++ (NEW 3 ++ SWAP)) ∷ (NEW 10 ++ (NEW 11 ++ SWAP)) ∷ (NULL ++ (STORE 0 ++ (NEW 3 ++ STORE 0))) ∷ (NEW 10 ++ (STORE 0 ++ (NEW 11 ++ STORE 0)))
    ∷ (NULL ++ CALL 1) ∷ (NULL ++ CALL 2) ∷ (NEW 11 ++ CALL 2) ∷ (NEW 4 ++ CALL 1) ∷ (NEW 3 ++ (PUSH 0 ++ CMP)) ∷ (PUSH 0 ++ (NULL ++ ICMP)) ∷ (NEW 3 ++ (PUSH 0 ++ ADD)) ∷ (NEW 3 ++ (NEW 3 ++ ADD)) ∷ (NEW 3 ++ TOI)
    ∷ (PUSH 0 ++ DELETE) ∷ DELETE ∷ (NEW 3 ++ (STORE 0 ++ LEA 0)) ∷ (NEW 10 ++ (FLEA 1 ++ (PUSH 0 ++ TSTORE)))
    ∷ (GCNEW 3 ++ DELETE) ∷ (GCNULL ++ DELETE) ∷ (NULL ++ (GCNULL ++ CMP)) ∷ (GCNEW 3 ++ (NEW 3 ++ ICMP)) ∷ (GCNULL ++ TLOAD) ∷ (GCNULL ++ FLEA 0) ∷ (GCNEW 3 ++ (NEW 3 ++ SWAP)) ∷ (GCNULL ++ (GCNEW 3 ++ SWAP)) ∷ (NULL ++ (STORE 0 ++ (GCNULL ++ STORE 0)))
    ∷ (NEW 3 ++ CALL 3) ∷ (GCNEW 3 ++ CALL 1) ∷ (GCNULL ++ CALL 3) ∷ (GCNEW 4 ++ CALL 3) ∷ (GCNEW 10 ++ TLOAD) ∷ (GCNEW 13) ∷ (GCNEW 67) ∷ (GCNEW 3 ++ TOI) ∷ (GCNEW 3 ++ (STORE 0 ++ LEA 0))
    ∷ []

pub answers : List (List ℕ) → List CheckAnswer
unfolding check_now
answers [] = []
answers (c ∷ cs) = (check_now (recipe c) []).answer ∷ answers cs

pub every : CheckAnswer → List (List ℕ) → List CheckAnswer
every a [] = []
every a (c ∷ cs) = a ∷ every a cs

-- the type bytes of a label record: locals `null` and `gcnull`, operands pointers to structures 10 and 11 and to an int, managed or not
abbrev labelled : List ℕ
labelled = file4 constants functions ((0xffffffff, 37) ∷ []) (NULL ++ (STORE 0 ++ (GCNULL ++ (STORE 1 ++ (NEW 10 ++ (NEW 11 ++ (NEW 3 ++ (GCNEW 10 ++ (GCNEW 3 ++ POP))))))))) shapes

-- functions that return what they are not declared to: null, another structure; and in edition 3 pointers of two types are not compared
abbrev returning : List ℕ → List ℕ
returning c = file4 constants (function [] 138 (c ++ RET) ∷ []) [] [] shapes

abbrev comparing : List ℕ
comparing = file ((3, 5) ∷ (4, 7) ∷ []) [] [] (PUSH 0 ++ (STORE 0 ++ (PUSH 1 ++ (STORE 1 ++ (LEA 0 ++ (LEA 1 ++ CMP))))))

pub typing-table :
    (answers typed ≡ every Accepted typed) × (answers untyped ≡ every (Untyped 0xffffffff) untyped)
    × ((check_now labelled (nines 64)).room ≡ (1 ∷ 2 ∷ 5 ∷ zeros 13) ++ ((0x80 ∷ 0xc0 ∷ zeros 14) ++ (0x8a ∷ 0x8b ∷ 0x83 ∷ 0xca ∷ 0xc3 ∷ zeros 27)))
    × ((check_now (returning (NEW 10)) []).answer ≡ Accepted) × ((check_now (returning (NEW 11)) []).answer ≡ Untyped 0) × ((check_now (returning NULL) []).answer ≡ Untyped 0)
    × ((check_now comparing []).answer ≡ Untyped 0xffffffff)
unfolding answers every typed untyped check_now
typing-table = (refl, refl, refl, refl, refl, refl, refl)

-- the ends that edition 4 adds are met: accepted modules that end in 33 and 36
pub ends : List (List ℕ)
ends = (NEW 3 ++ (COPY ++ (DELETE ++ TLOAD))) ∷ (NEW 10 ++ (NEW 10 ++ (NEW 10 ++ FLEA 0))) ∷ (CALL 0 ++ (CALL 0 ++ (CALL 0 ++ (FLEA 1 ++ TLOAD)))) ∷ (local ++ (LEA 0 ++ DELETE)) ∷ []

pub numbers : List (List ℕ) → List ℕ
unfolding run_heap_now
numbers [] = []
numbers (c ∷ cs) = run_number (run_heap_now (recipe c) 0xffffffff (record { payloads = []; types = [] }) 0 100 (scratch 6) (scratch_heap 4)).answer ∷ numbers cs

pub ends_table : (answers ends ≡ every Accepted ends) × (numbers ends ≡ 33 ∷ 36 ∷ 36 ∷ 33 ∷ [])
unfolding answers every numbers ends
ends_table = (refl, refl)

-- structure 25, of eight ints, takes eight cells; 26 is not there
abbrev eight : List (List ℕ)
eight = let one : List ℕ = 3 ∷ [] in one ∷ one ∷ one ∷ one ∷ one ∷ one ∷ one ∷ one ∷ one ∷ one ∷ one ∷ one ∷ one ∷ one ∷ one ∷ (3 ∷ 3 ∷ 3 ∷ 3 ∷ 3 ∷ 3 ∷ 3 ∷ 3 ∷ []) ∷ []

abbrev largest : List ℕ → Ran
largest c = run_heap_now (file4 [] [] [] c eight) 0xffffffff (lent []) 0 9 (scratch 2) (scratch_heap 9)

pub largest-table :
    ((largest (NEW 25 ++ NEW 10)).heap.table ≡ entry_bytes ((1, 0, 25) ∷ (2, 8, 10) ∷ []) ++ (zeros 168 ++ (9 ∷ []))) × (run_number (largest (NEW 26)).answer ≡ 37)
unfolding run_heap_now
largest-table = (refl, refl)

-- ---- the lent heap: "capacity is the smaller count, at most 4,096, the rest untouched"

-- these cells and this table, all 9, after `new` of a long and of structure 10
abbrev after : ℕ → ℕ → Ran
after n k = run_heap_now (recipe (NEW 4 ++ NEW 10)) 0xffffffff (lent []) 0 9 (scratch 6) (record { cells = nines n; table = nines k })

abbrev holding : List ℕ → List ℕ → LentHeap
holding cs ts = record { cells = cs; table = ts }

pub lent-table :
    -- no cell; 2 cells of 23 bytes and more entries; 3 entries of 80 bytes and more cells
    ((after 7 999).heap ≡ holding (nines 7) (nines 999)) × ((after 999 23).heap ≡ holding (nines 999) (nines 23))
    × ((after 23 99).heap ≡ holding (zeros 16 ++ nines 7) (bytes 8 1 ++ (bytes 8 0 ++ (bytes 8 4 ++ (zeros 24 ++ nines 51)))))
    × ((after 41 80).heap ≡ holding (zeros 24 ++ nines 17) (bytes 8 1 ++ (bytes 8 0 ++ (bytes 8 4 ++ (bytes 8 2 ++ (bytes 8 1 ++ (bytes 8 10 ++ (zeros 24 ++ nines 8))))))))
    -- other editions clear it too; a refused run changes nothing; one whose arguments don't fit clears it
    × ((run_heap_now (file [] [] [] []) 0xffffffff (lent []) 0 0 (scratch 1) (scratch_heap 2)).heap ≡ holding (zeros 16 ++ nines 1) (zeros 48 ++ nines 1))
    × ((run_heap_now (recipe []) 9 (lent []) 0 9 (scratch 1) (scratch_heap 1)).heap ≡ scratch_heap 1)
    × ((run_heap_now (recipe []) 2 (lent ((7, 0) ∷ [])) 0 9 (scratch 1) (scratch_heap 1)).heap ≡ scratch_heap 1)
    × ((run_heap_now (file4 [] (function (3 ∷ []) 0 RET ∷ []) [] [] []) 0 (lent ((3, 1) ∷ [])) 0 9 (scratch 0) (scratch_heap 1)).heap ≡ holding (zeros 8 ++ nines 1) (zeros 24 ++ nines 1))
unfolding run_heap_now
lent-table = (refl, refl, refl, refl, refl, refl, refl, refl)

pub capacity-table :
    (heap_capacity (record { cells = nines 32776; table = nines 98328 }) ≡ 4096) × (heap_capacity (record { cells = nines 32767; table = nines 98328 }) ≡ 4095) × (heap_capacity (record { cells = nines 32776; table = nines 98303 }) ≡ 4095)
capacity-table = (refl, refl, refl)

-- ---- states that no file comes to in a few steps

-- an instruction in the entry, on this stack, with these blocks and this next serial, of 4 cells
pub on : Instruction → List Slot → List Block → ℕ → Next
unfolding run_heap_now
on i st bs n =
    exec_in (read (recipe [])) 9 i (record { memory = record { stack = st; heap = record { size = 4; blocks = bs; next = n } }; top = opened entry 0 99 0 0; callers = [] })

-- an int of serial 2, from cell 3 on
abbrev int2 : List Block
int2 = record { serial = 2; from = 3; type = 3; managed = false; cells = 8 ∷ [] } ∷ []

abbrev managed2 : List Block
managed2 = record { serial = 2; from = 3; type = 3; managed = true; cells = 8 ∷ [] } ∷ []

-- two ints, serial 1 in cell a and serial 2 in cell b
abbrev ints : ℕ → ℕ → List Block
ints a b = record { serial = 2; from = b; type = 3; managed = false; cells = 8 ∷ [] } ∷ record { serial = 1; from = a; type = 3; managed = false; cells = 7 ∷ [] } ∷ []

-- what is left on the stack, and the next serial
abbrev shown_in : Next → List Slot × ℕ
shown_in (goes s) = (s.memory.stack, s.memory.heap.next)
shown_in (stops e) = ([], e)
shown_in (finishes M) = ([], 0)

-- the blocks that are left
abbrev blocks_in : Next → List Block
blocks_in (goes s) = s.memory.heap.blocks
blocks_in (stops e) = []
blocks_in (finishes M) = []

pub states-table :
    -- "serials (to 2^48 - 2)"
    (shown_in (on (new false 3) [] [] (2 ^ 48 - 2)) ≡ (slot 7 (A (2 ^ 48 - 2)) ∷ [], 2 ^ 48 - 1)) × (shown_in (on (new false 3) [] [] (2 ^ 48 - 1)) ≡ (slot 7 N ∷ [], 2 ^ 48 - 1))
    -- a number's block has no field; offset 0 is the number
    × (shown_in (on tload (slot 7 (F 2 0) ∷ []) int2 3) ≡ ([], 33)) × (shown_in (on tload (slot 7 (A 2) ∷ []) int2 3) ≡ (slot 3 8 ∷ [], 3)) × (shown_in (on tload (slot 7 (A 1) ∷ []) int2 3) ≡ ([], 33))
    × (shown_in (on delete (slot 7 (F 2 0) ∷ []) int2 3) ≡ ([], 33))
    -- "an address not below the height left .. is 33", of `flea` too: 0 is the pointer's own slot
    × (shown_in (on (flea 0) (slot 7 0 ∷ []) [] 1) ≡ ([], 33)) × (shown_in (on (flea 0) (slot 7 1 ∷ slot 3 5 ∷ []) [] 1) ≡ ([], 33)) × (shown_in (on (flea 0) (slot 7 0 ∷ slot 3 5 ∷ []) [] 1) ≡ ([], 39))
    × (shown_in (on tload (slot 7 65535 ∷ []) [] 1) ≡ ([], 33)) × (shown_in (on tload (slot 7 N ∷ []) [] 1) ≡ ([], 36))
    -- by the whole payload: serial 1 is below serial 65536
    × (shown_in (on (two (cmp false)) (slot 7 (A 65536) ∷ slot 7 (A 1) ∷ []) [] 1) ≡ (slot 3 0xffffffff ∷ [], 1)) × (shown_in (on (two (cmp true)) (slot 7 (A 65536) ∷ slot 7 (A 1) ∷ []) [] 1) ≡ (slot 3 0xffffffff ∷ [], 1))
    -- where serials have run out `gcnew` frees and packs all the same, then gives null; a slot of type 7 holds no block
    × (shown_in (on (new true 3) [] managed2 (2 ^ 48 - 1)) ≡ (slot 8 N ∷ [], 2 ^ 48 - 1)) × (blocks_in (on (new true 3) [] managed2 (2 ^ 48 - 1)) ≡ [])
    × (blocks_in (on (new true 3) (slot 8 (A 2) ∷ []) managed2 (2 ^ 48 - 1)) ≡ managed2) × (blocks_in (on (new true 3) (slot 7 (A 2) ∷ []) managed2 (2 ^ 48 - 1)) ≡ [])
    × (blocks_in (on (new true 10) [] (ints 1 3) (2 ^ 48 - 1)) ≡ ints 0 1)
    -- a payload means the same in both types; `delete` of what `new` did not give is 33
    × (shown_in (on tload (slot 8 (A 2) ∷ []) int2 3) ≡ (slot 3 8 ∷ [], 3)) × (shown_in (on tload (slot 7 (A 2) ∷ []) managed2 3) ≡ (slot 3 8 ∷ [], 3)) × (shown_in (on tload (slot 8 0 ∷ slot 3 5 ∷ []) [] 1) ≡ (slot 3 5 ∷ slot 3 5 ∷ [], 1))
    × (shown_in (on delete (slot 7 (A 2) ∷ []) managed2 3) ≡ ([], 33)) × (shown_in (on delete (slot 8 (A 2) ∷ []) managed2 3) ≡ ([], 31))
unfolding on
states-table = (refl, refl, refl, refl, refl, refl, refl, refl, refl, refl, refl, refl, refl, refl, refl, refl, refl, refl, refl, refl, refl, refl, refl)

-- ---- refusals of edition 4: the header is 56 bytes, the record of function 0 at 56 + 48, the structures last

abbrev whole : List ℕ
whole = recipe (NEW 10)

abbrev short : List ℕ
short = file4 [] [] [] [] []

abbrev sixteen : List (List ℕ)
sixteen = let pair : List (List ℕ) = (3 ∷ 6 ∷ []) ∷ (4 ∷ []) ∷ [] in pair ++ (pair ++ (pair ++ (pair ++ (pair ++ (pair ++ (pair ++ pair))))))

-- where the structures are: the header, 4 constants, 5 functions, 5 bytes of the entry, 6 + 1 + 6 + 6 + 6 of the functions
abbrev at_structures : ℕ
at_structures = 56 + 48 + 120 + 5 + 25

pub files : List (List ℕ × ℕ)
files =
    (whole, 0) ∷ (short, 0) ∷ (take 55 short, 1) ∷ (take 48 short, 1) ∷ (file [] [] [] [], 0) ∷ (set (file [] [] [] []) 0 4, 1) ∷ (set short 0 3, 5) ∷ (set short 4 57, 3) ∷ (set short 44 1, 4)
    -- 4: structures over 16; 5: their offset, the sum
    ∷ (set short 48 17, 4) ∷ (set short 48 16, 5) ∷ (set short 52 55, 5) ∷ (set whole 48 1, 5) ∷ (set short 50 1, 4) ∷ (set short 54 1, 5)
    -- a label of function 1
    ∷ (file4 [] (function [] 0 (POP ++ RET) ∷ function [] 0 (POP ++ RET) ∷ []) ((1, 3) ∷ []) [] [], 0) ∷ (file4 [] (function [] 0 (POP ++ RET) ∷ function [] 0 (POP ++ RET) ∷ []) ((1, 1) ∷ []) [] [], 9)
    -- 6: field count, types, unused, the zeros
    ∷ (set whole at_structures 0, 6) ∷ (set whole at_structures 9, 6) ∷ (set whole at_structures 1, 6) ∷ (set whole at_structures 3, 6) ∷ (set whole (at_structures + 1) 7, 6) ∷ (set whole (at_structures + 1) 4, 0)
    ∷ (set whole (at_structures + 9) 1, 6) ∷ (set whole (at_structures + 11) 1, 6)
    -- the second record; 6 before 7
    ∷ (set whole (at_structures + 12) 0, 6) ∷ (set whole (at_structures + 13) 5, 6) ∷ (set (set whole (at_structures + 10) 1) 113 141, 6) ∷ (set whole (at_structures + 8) 3, 6) ∷ (file4 [] [] [] [] ((3 ∷ 4 ∷ 6 ∷ 3 ∷ 4 ∷ 6 ∷ 3 ∷ 4 ∷ []) ∷ []), 0)
    -- 7: return types and parameters; structure 13 is not declared
    ∷ (set whole 113 139, 0) ∷ (set whole 113 141, 7) ∷ (set whole 113 137, 7) ∷ (set whole 113 131, 7) ∷ (set whole 113 128, 7) ∷ (set whole 113 6, 0)
    ∷ (set whole 138 139, 0) ∷ (set whole 138 141, 7) ∷ (set whole 138 137, 7) ∷ (set whole 138 128, 7) ∷ (set whole 138 134, 0)
    -- managed ones; C0 is no type of a signature
    ∷ (set whole 113 192, 7) ∷ (set whole 113 194, 7) ∷ (set whole 113 195, 0) ∷ (set whole 113 196, 0) ∷ (set whole 113 197, 7) ∷ (set whole 113 198, 0) ∷ (set whole 113 201, 7) ∷ (set whole 113 202, 0) ∷ (set whole 113 203, 0) ∷ (set whole 113 204, 0) ∷ (set whole 113 205, 7)
    ∷ (set whole 138 192, 7) ∷ (set whole 138 195, 0) ∷ (set whole 138 197, 7) ∷ (set whole 138 198, 0) ∷ (set whole 138 203, 0) ∷ (set whole 138 204, 0) ∷ (set whole 138 205, 7) ∷ (file [] (function (195 ∷ []) 0 RET ∷ []) [] [], 7) ∷ (file [] (function [] 195 RET ∷ []) [] [], 7)
    -- sixteen structures, 99 and D9 hex the last
    ∷ (file4 [] (function (153 ∷ []) 153 (LOAD 0 ++ RET) ∷ []) [] [] sixteen, 0) ∷ (file4 [] (function (154 ∷ []) 0 RET ∷ []) [] [] sixteen, 7) ∷ (file4 [] (function (217 ∷ []) 217 (LOAD 0 ++ RET) ∷ []) [] [] sixteen, 0) ∷ (file4 [] (function (218 ∷ []) 0 RET ∷ []) [] [] sixteen, 7)
    -- 8: `top`, 2F, is left out; edition 3 has none of these; an operand is not read from the structures
    ∷ (file4 [] [] [] (0x2f ∷ []) [], 8) ∷ (file4 [] [] [] (0x35 ∷ []) [], 8) ∷ (file [] [] [] GCNULL, 8) ∷ (file [] [] [] (GCNEW 3), 8) ∷ (file4 [] [] [] (0x34 ∷ []) [], 8) ∷ (file [] [] [] NULL, 8) ∷ (file [] [] [] (FLEA 0), 8) ∷ (file4 [] [] [] (0x31 ∷ []) [], 8) ∷ (file4 [] [] [] (0x31 ∷ 0 ∷ []) shapes, 8)
    ∷ []

pub refusals : List (List ℕ × ℕ) → List ℕ
unfolding refusal_now
refusals [] = []
refusals (r ∷ rs) = refusal_now r.0 ∷ refusals rs

pub given : List (List ℕ × ℕ) → List ℕ
given [] = []
given (r ∷ rs) = r.1 ∷ given rs

pub refusals_table : refusals files ≡ given files
unfolding refusals given files
refusals_table = refl
