-- A table that is not of the paper: reports of the stack that modules need, with all lent memory after.
use Rattle.std.specs.Prelude.{◌≡◌, refl, ℕ, zero, suc, List, [], ◌∷◌, ◌++◌}
use Rattle.std.proofs.Math.Option.{some}
use Rattle.rules.specs.Bytes.{bytes, zeros}
use Rattle.rules.specs.Reporting.{Unreported, ReportUntyped, ReportLoops, Reported, Reporting, reporting}
use Rattle.rules.specs.Files.{PUSH, POP, LOAD, STORE, LEA, TSTORE, COPY, ADD, JMP, JE, CALL, RET, NULL, NEW, GCNULL, GCNEW, Fn, function, function_for, file_in, file, file4, nines}
use Rattle.rules.specs.Samples.{w1}
use Rattle.rules.specs.Evaluate.{report_now}
use Rattle.rules.specs.Tables.{entry}
use Rattle.rules.specs.ModuleFile.{read}
use Rattle.rules.specs.Heights.{need_of}

-- ---- modules

abbrev ints : List (ℕ × ℕ)
ints = (3, 5) ∷ (3, 7) ∷ []

-- with no labels
abbrev plain : List Fn → List ℕ → List ℕ
plain fs e = file ints fs [] e

-- of one body with labels, its own
abbrev labelled : List ℕ → List ℕ → List ℕ
labelled ps e = file ints [] (owned ps) e
  where
    owned : List ℕ → List (ℕ × ℕ)
    owned [] = []
    owned (p ∷ qs) = (0xffffffff, p) ∷ owned qs

-- functions: the sum of two ints; on one int, a call of function 0 on an int of its own and its parameter, over one operand
abbrev adds : Fn
adds = function (3 ∷ 3 ∷ []) 3 (LOAD 0 ++ (LOAD 1 ++ (ADD ++ RET)))

abbrev calls_under : Fn
calls_under = function (3 ∷ []) 3 (PUSH 0 ++ (PUSH 1 ++ (LOAD 0 ++ (CALL 0 ++ (ADD ++ RET)))))

-- calls function k; calls it where no path leads
abbrev leaps : ℕ → Fn
leaps k = function [] 0 (CALL k ++ RET)

abbrev idle : ℕ → Fn
idle k = function [] 0 (RET ++ (CALL k ++ RET))

-- functions k, k + 1, .. that call the next, n of them, and one that calls none
abbrev chain : ℕ → ℕ → List Fn
chain zero k = function [] 0 RET ∷ []
chain (suc n) k = leaps (suc k) ∷ chain n (suc k)

-- ---- rows

-- a module, the bytes of room and of report lent; what comes of it
pub record Row : Type 0 where
  pub module_file : List ℕ
  pub room : ℕ
  pub report : ℕ
  pub gives : Reporting

abbrev row : List ℕ → ℕ → ℕ → Reporting → Row
row s n k g = record { module_file = s; room = n; report = k; gives = g }

abbrev words : List ℕ → List ℕ
words [] = []
words (w ∷ ws) = bytes 4 w ++ words ws

-- a module without labels, no room, a report of n bytes just long enough: these words of need and frames
abbrev needs : List ℕ → ℕ → List ℕ → Row
needs s n ws = row s 0 n (reporting (Reported n) [] (words ws))

-- a module without labels: 47 with this body, in a report of n bytes
abbrev loops : List ℕ → ℕ → ℕ → Row
loops s n b = row s 0 n (reporting (ReportLoops b) [] (nines n))

-- nothing was changed
abbrev unchanged : List ℕ → ℕ → ℕ → ℕ → Row
unchanged s n k e = row s n k (reporting (Unreported e) (nines n) (nines k))

-- records of labels: reached, with no lists; with one int local
abbrev reached : List ℕ
reached = 1 ∷ zeros 63

abbrev reached_with_int : List ℕ
reached_with_int = 1 ∷ 1 ∷ (zeros 14 ++ (3 ∷ zeros 47))

-- two ways join with the same lists, and the one that stands first has buried a slot more; the other one has
abbrev join_first : List ℕ
join_first = labelled (30 ∷ 40 ∷ []) (PUSH 0 ++ (JE 0 ++ (PUSH 1 ++ (PUSH 0 ++ (STORE 0 ++ (JMP 1 ++ (PUSH 0 ++ (STORE 0 ++ (LOAD 0 ++ COPY)))))))))

abbrev join_last : List ℕ
join_last = labelled (25 ∷ 40 ∷ []) (PUSH 0 ++ (JE 0 ++ (PUSH 0 ++ (STORE 0 ++ (JMP 1 ++ (PUSH 1 ++ (PUSH 0 ++ (STORE 0 ++ (LOAD 0 ++ COPY)))))))))

pub rows : List Row
rows =
    -- two pushes and a sum; an empty entry; a report that is longer than needed: the rest stays
    needs w1 8 (2 ∷ 1 ∷ []) ∷ needs (plain [] []) 8 (0 ∷ 1 ∷ [])
    ∷ row w1 1 10 (reporting (Reported 8) (nines 1) (words (2 ∷ 1 ∷ []) ++ nines 2))
    -- "slots buried under locals counted": of a binding `store`, not of a later one
    ∷ needs (plain [] (PUSH 0 ++ (PUSH 1 ++ (STORE 0 ++ (PUSH 0 ++ POP))))) 8 (3 ∷ 1 ∷ [])
    ∷ needs (plain [] (PUSH 0 ++ (STORE 0 ++ (PUSH 0 ++ (PUSH 1 ++ (STORE 0 ++ PUSH 0)))))) 8 (3 ∷ 1 ∷ [])
    ∷ needs (plain [] (PUSH 0 ++ (PUSH 1 ++ (STORE 0 ++ (PUSH 0 ++ (PUSH 1 ++ (STORE 1 ++ LOAD 1))))))) 8 (5 ∷ 1 ∷ [])
    -- "its largest height over all paths": a join with different buried counts, the larger first and last; a loop adds nothing
    ∷ row join_first 128 8 (reporting (Reported 8) (reached ++ reached_with_int) (words (4 ∷ 1 ∷ [])))
    ∷ row join_last 128 8 (reporting (Reported 8) (reached ++ reached_with_int) (words (4 ∷ 1 ∷ [])))
    ∷ row (labelled (0 ∷ []) (PUSH 0 ++ (COPY ++ (ADD ++ (JE 0 ++ PUSH 0))))) 64 8 (reporting (Reported 8) reached (words (2 ∷ 1 ∷ [])))
    -- "branch values ignored": the way that a constant never takes is deeper
    ∷ row (labelled (15 ∷ 23 ∷ []) (PUSH 0 ++ (JE 0 ++ (JMP 1 ++ (PUSH 0 ++ (COPY ++ (POP ++ (POP ++ PUSH 0)))))))) 129 8 (reporting (Reported 8) (reached ++ (reached ++ nines 1)) (words (2 ∷ 1 ∷ [])))
    -- "at a call the callee's need counts from its first argument": under an operand; under locals; without parameters
    ∷ needs (plain (adds ∷ calls_under ∷ []) (PUSH 0 ++ (PUSH 1 ++ CALL 1))) 24 (7 ∷ 3 ∷ 4 ∷ 1 ∷ 6 ∷ 2 ∷ [])
    ∷ needs (plain (adds ∷ []) (PUSH 0 ++ (PUSH 1 ++ (STORE 0 ++ (LOAD 0 ++ (LOAD 0 ++ CALL 0)))))) 16 (6 ∷ 2 ∷ 4 ∷ 1 ∷ [])
    ∷ needs (plain (function [] 3 (PUSH 0 ++ (PUSH 1 ++ (ADD ++ RET))) ∷ []) (PUSH 0 ++ (PUSH 1 ++ CALL 0))) 16 (4 ∷ 2 ∷ 2 ∷ 1 ∷ [])
    -- the caller's own height may be the largest; two callees; a function that nothing calls; one with a pointer parameter
    ∷ needs (plain (function [] 0 RET ∷ []) (PUSH 0 ++ (PUSH 1 ++ (ADD ++ CALL 0)))) 16 (2 ∷ 2 ∷ 0 ∷ 1 ∷ [])
    ∷ needs (plain (leaps 1 ∷ function [] 0 RET ∷ function [] 0 (PUSH 0 ++ RET) ∷ []) (CALL 2 ++ CALL 0)) 32 (1 ∷ 3 ∷ 0 ∷ 2 ∷ 0 ∷ 1 ∷ 1 ∷ 1 ∷ [])
    ∷ needs (plain (function (0x83 ∷ []) 0 (LOAD 0 ++ (PUSH 0 ++ (TSTORE ++ RET))) ∷ []) (PUSH 0 ++ (STORE 0 ++ (LEA 0 ++ CALL 0)))) 16 (4 ∷ 2 ∷ 3 ∷ 1 ∷ [])
    -- flow goes on past a call whose callee never returns
    ∷ row (file ints (function [] 0 (JMP 0) ∷ []) ((0, 15) ∷ []) (CALL 0 ++ (PUSH 0 ++ PUSH 1))) 64 16 (reporting (Reported 16) reached (words (2 ∷ 2 ∷ 0 ∷ 1 ∷ [])))
    -- "47 with the first body from which a chain of reached calls comes back to a body on it": a function that calls itself; a ring that
    -- function 0, or the entry, only leads to; a ring that is not the first body's; one that nothing calls
    ∷ loops (plain (leaps 0 ∷ []) []) 16 0 ∷ loops (plain (leaps 1 ∷ leaps 2 ∷ leaps 1 ∷ []) []) 32 0
    ∷ loops (plain (leaps 1 ∷ leaps 2 ∷ leaps 1 ∷ []) (CALL 2)) 32 0xffffffff ∷ loops (plain (leaps 0 ∷ []) (CALL 0)) 16 0xffffffff
    ∷ loops (plain (function [] 0 RET ∷ leaps 2 ∷ leaps 1 ∷ []) (CALL 0)) 32 1
    -- a ring that is not reached: dead code makes no chain, no need and no frames
    ∷ needs (plain (leaps 1 ∷ idle 0 ∷ []) (CALL 0)) 24 (0 ∷ 3 ∷ 0 ∷ 2 ∷ 0 ∷ 1 ∷ [])
    ∷ needs (plain (function [] 0 (RET ++ (PUSH 0 ++ (PUSH 0 ++ (CALL 0 ++ RET)))) ∷ []) []) 16 (0 ∷ 1 ∷ 0 ∷ 1 ∷ [])
    -- "the check's own first": the reader's, 10, 11, before 47 and 16
    ∷ unchanged (5 ∷ []) 0 0 1 ∷ unchanged (file_in 2 [] (leaps 0 ∷ []) [] []) 0 0 2 ∷ unchanged (labelled (0 ∷ []) POP) 63 0 10
    ∷ row (plain (leaps 0 ∷ []) POP) 0 3 (reporting (ReportUntyped 0xffffffff) [] (nines 3)) ∷ row (plain (function [] 0 POP ∷ []) []) 1 0 (reporting (ReportUntyped 0) (nines 1) [])
    ∷ row (file [] (leaps 0 ∷ []) ((0xffffffff, 0) ∷ []) POP) 65 16 (reporting (ReportUntyped 0xffffffff) (zeros 64 ++ nines 1) (nines 16))
    -- then 47, "its room stays as the check leaves it"; then 16, likewise
    ∷ loops (plain (leaps 0 ∷ []) []) 15 0 ∷ loops (plain (leaps 0 ∷ []) []) 0 0
    ∷ row (file ints (leaps 0 ∷ []) ((0xffffffff, 0) ∷ []) (PUSH 0)) 65 16 (reporting (ReportLoops 0) (reached ++ nines 1) (nines 16))
    ∷ row w1 0 7 (reporting (Unreported 16) [] (nines 7)) ∷ row (plain [] []) 0 0 (reporting (Unreported 16) [] [])
    ∷ row (labelled (0 ∷ []) (PUSH 0)) 65 7 (reporting (Unreported 16) (reached ++ nines 1) (nines 7))
    -- edition 1; edition 4, its pointers from the heap, and a function with a profile
    ∷ needs (file_in 1 ints [] [] (PUSH 0 ++ (PUSH 1 ++ (0x05 ∷ [])))) 8 (2 ∷ 1 ∷ [])
    ∷ needs (file4 [] (function_for 7 [] 0xca (GCNEW 10 ++ RET) ∷ []) [] (NULL ++ (GCNULL ++ (NEW 10 ++ (GCNEW 3 ++ CALL 0)))) ((3 ∷ []) ∷ [])) 16 (5 ∷ 2 ∷ 1 ∷ 1 ∷ [])
    ∷ []

pub computed : List Row → List Reporting
unfolding report_now
computed [] = []
computed (r ∷ rs) = report_now r.module_file (nines r.room) (nines r.report) ∷ computed rs

pub expected : List Row → List Reporting
expected [] = []
expected (r ∷ rs) = r.gives ∷ expected rs

pub table : computed rows ≡ expected rows
unfolding computed expected rows
table = refl

-- frames over 64 are reported as they are: the entry of a module whose 64 functions call each the next
frames_over_64 : need_of (read (plain (chain 63 0) (CALL 0))) 65 entry ≡ some (0, 65)
unfolding report_now
frames_over_64 = refl
