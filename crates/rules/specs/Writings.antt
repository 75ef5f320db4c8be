-- A table that is not of the paper: the module writer on W1's tables, refusals 2, 4 to 9 and 16, and which of two comes first.
use Rattle.std.specs.Prelude.{◌≡◌, refl, ℕ, ◌+◌, ◌^◌, List, [], ◌∷◌, ◌++◌, take, set}
use Rattle.rules.specs.Bytes.{zeros}
use Rattle.rules.specs.Tables.{Tables, tables}
use Rattle.rules.specs.Writing.{write_number, Unwritten, Written, wrote}
use Rattle.rules.specs.Files.{PUSH, ADD, LOAD, RET, constant_bytes, function_bytes, function_bytes4, label_bytes, function, function_for, structure_bytes, nines, file, file4}
use Rattle.rules.specs.Samples.{w1}
use Rattle.rules.specs.Evaluate.{write_now}

abbrev numbers : List ℕ
numbers = constant_bytes ((3, 7) ∷ (3, 5) ∷ [])

abbrev sum : List ℕ
sum = PUSH 0 ++ (PUSH 1 ++ ADD)

-- one function of one int to int after an empty entry
abbrev one : List ℕ
one = function_bytes 0 (function (3 ∷ []) 3 (LOAD 0 ++ RET) ∷ [])

-- the same in edition 4, made for profile 7
abbrev one4 : List ℕ
one4 = function_bytes4 0 (function_for 7 (3 ∷ []) 3 (LOAD 0 ++ RET) ∷ [])

-- tables, the length of the output, and the number that is answered
pub rows : List (Tables × (ℕ × ℕ))
rows =
    (tables 3 numbers [] [] [] sum 11, (83, 0)) ∷ (tables 3 numbers [] [] [] sum 11, (200, 0)) ∷ (tables 3 numbers [] [] [] sum 11, (82, 16)) ∷ (tables 3 [] [] [] [] [] 0, (48, 0)) ∷ (tables 3 [] [] [] [] [] 0, (47, 16))
    -- 4, and 4 before 5
    ∷ (tables 3 [] (zeros 2580) [] [] [] 0, (0, 4)) ∷ (tables 3 [] [] (zeros 2056) [] [] 0, (0, 4)) ∷ (tables 3 [] [] (zeros 2057) [] [] 0, (0, 4)) ∷ (tables 3 [] [] (zeros 2055) [] [] 0, (0, 5))
    -- 5: part of a record, the entry longer than the code
    ∷ (tables 3 (take 23 numbers) [] [] [] sum 11, (200, 5)) ∷ (tables 3 numbers (0 ∷ []) [] [] sum 11, (200, 5)) ∷ (tables 3 numbers [] (0 ∷ []) [] sum 11, (200, 5)) ∷ (tables 3 numbers [] [] [] sum 12, (200, 5))
    -- 6 to 9
    ∷ (tables 3 (set numbers 0 5) [] [] [] sum 11, (0, 6)) ∷ (tables 3 numbers [] [] [] sum 10, (0, 7)) ∷ (tables 3 [] one [] [] (LOAD 0 ++ RET) 0, (74, 0)) ∷ (tables 3 [] (set one 4 5) [] [] (LOAD 0 ++ RET) 0, (0, 7))
    ∷ (tables 3 numbers [] [] [] (set sum 10 6) 11, (0, 8)) ∷ (tables 3 numbers [] (label_bytes ((0xffffffff, 1) ∷ [])) [] sum 11, (0, 9)) ∷ (tables 3 numbers [] (label_bytes ((0xffffffff, 5) ∷ [])) [] sum 11, (91, 0))
    -- A5: either edition; 2, and 2 before 4 and 5; in edition 1 a pointer parameter is 7, 28 hex is 8
    ∷ (tables 1 numbers [] [] [] sum 11, (83, 0)) ∷ (tables 1 numbers [] [] [] sum 11, (82, 16)) ∷ (tables 0 numbers [] [] [] sum 11, (200, 2)) ∷ (tables 2 numbers [] [] [] sum 11, (200, 2)) ∷ (tables 5 numbers [] [] [] sum 11, (0, 2))
    ∷ (tables 2 [] (zeros 2580) [] [] [] 0, (0, 2)) ∷ (tables 2 numbers [] [] [] sum 12, (200, 2)) ∷ (tables (1 + 2 ^ 32) numbers [] [] [] sum 11, (200, 2)) ∷ (tables 1 [] one [] [] (LOAD 0 ++ (0x22 ∷ [])) 0, (74, 0))
    ∷ (tables 1 [] (set one 10 131) [] [] (LOAD 0 ++ (0x22 ∷ [])) 0, (74, 7)) ∷ (tables 3 [] (set one 10 131) [] [] (LOAD 0 ++ RET) 0, (74, 0)) ∷ (tables 1 [] one [] [] (LOAD 0 ++ RET) 0, (74, 8))
    -- A6: 56 bytes of header, structures last; 4 for more than 16, and for one in another edition; 5 for part of a record, also there; 6, 7
    ∷ (tables 4 numbers [] [] [] sum 11, (91, 0)) ∷ (tables 4 numbers [] [] [] sum 11, (90, 16)) ∷ (tables 4 numbers [] [] (structure_bytes ((3 ∷ []) ∷ [])) sum 11, (103, 0)) ∷ (tables 4 numbers [] [] (structure_bytes ((3 ∷ []) ∷ [])) sum 11, (102, 16))
    ∷ (tables 4 [] [] [] (zeros 204) [] 0, (0, 4)) ∷ (tables 4 [] [] [] (zeros 203) [] 0, (0, 5)) ∷ (tables 3 numbers [] [] (structure_bytes ((3 ∷ []) ∷ [])) sum 11, (200, 4)) ∷ (tables 1 numbers [] [] (zeros 12) sum 11, (200, 4)) ∷ (tables 3 numbers [] [] (zeros 11) sum 11, (200, 5))
    ∷ (tables 2 numbers [] [] (zeros 12) sum 11, (200, 2)) ∷ (tables 4 numbers [] [] (zeros 12) sum 11, (0, 6)) ∷ (tables 4 [] (set one4 10 138) [] [] (LOAD 0 ++ RET) 0, (0, 7)) ∷ (tables 4 [] (set one4 10 138) [] (structure_bytes ((3 ∷ []) ∷ [])) (LOAD 0 ++ RET) 0, (98, 0))
    ∷ (tables 4 [] [] [] [] (0x30 ∷ []) 1, (57, 0)) ∷ (tables 3 [] [] [] [] (0x30 ∷ []) 1, (57, 8))
    -- A7: records of 24 bytes, with any profile; 20 are part of one; 129 are too many
    ∷ (tables 4 [] one4 [] [] (LOAD 0 ++ RET) 0, (86, 0)) ∷ (tables 4 [] one4 [] [] (LOAD 0 ++ RET) 0, (85, 16)) ∷ (tables 4 [] (set one4 23 255) [] [] (LOAD 0 ++ RET) 0, (86, 0)) ∷ (tables 4 [] (set one4 19 1) [] [] (LOAD 0 ++ RET) 0, (86, 7))
    ∷ (tables 4 [] one [] [] (LOAD 0 ++ RET) 0, (86, 5)) ∷ (tables 3 [] one4 [] [] (LOAD 0 ++ RET) 0, (86, 5)) ∷ (tables 4 [] (zeros 3096) [] [] [] 0, (0, 4)) ∷ (tables 4 [] (zeros 3095) [] [] [] 0, (0, 5))
    ∷ []

pub computed : List (Tables × (ℕ × ℕ)) → List ℕ
unfolding write_now
computed [] = []
computed (r ∷ rs) = write_number (write_now r.0 (nines r.1.0)).answer ∷ computed rs

pub expected : List (Tables × (ℕ × ℕ)) → List ℕ
expected [] = []
expected (r ∷ rs) = r.1.1 ∷ expected rs

pub table : computed rows ≡ expected rows
unfolding computed expected rows
table = refl

-- W1 is written byte for byte, and what lies past it is left; a refusal leaves all
pub w1_written : write_now (tables 3 numbers [] [] [] sum 11) (nines 85) ≡ wrote (Written 83) (w1 ++ nines 2)
unfolding write_now
w1_written = refl

-- told edition 1, the same bytes but for the edition's word
pub w1_written_old : write_now (tables 1 numbers [] [] [] sum 11) (nines 85) ≡ wrote (Written 83) (set w1 0 1 ++ nines 2)
unfolding write_now
w1_written_old = refl

pub w1_refused : write_now (tables 3 numbers [] [] [] sum 11) (nines 82) ≡ wrote (Unwritten 16) (nines 82)
unfolding write_now
w1_refused = refl

-- the assembler of the tables above and below puts the same file together
pub same_file : (write_now (tables 3 [] one [] [] (LOAD 0 ++ RET) 0) (nines 74)).output ≡ file [] (function (3 ∷ []) 3 (LOAD 0 ++ RET) ∷ []) [] []
unfolding write_now
same_file = refl

pub same-file4 :
    write_now (tables 4 numbers one4 (label_bytes ((0, 0) ∷ [])) (structure_bytes ((3 ∷ 6 ∷ []) ∷ (4 ∷ []) ∷ [])) (LOAD 0 ++ RET) 0) (nines 143) ≡ wrote (Written 142) (file4 ((3, 7) ∷ (3, 5) ∷ []) (function_for 7 (3 ∷ []) 3 (LOAD 0 ++ RET) ∷ []) ((0, 0) ∷ []) [] ((3 ∷ 6 ∷ []) ∷ (4 ∷ []) ∷ []) ++ nines 1)
unfolding write_now
same-file4 = refl
