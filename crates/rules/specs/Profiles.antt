-- A table that is not of the paper: 02's A7, runs for scans of these profiles, and conversions of these files.
use Rattle.std.specs.Prelude.{◌≡◌, refl, ℕ, List, [], ◌∷◌, ◌++◌, take, set}
use Rattle.rules.specs.Answers.{Untyped, Accepted, Rejected, run_number}
use Rattle.rules.specs.Writing.{write_number, Unwritten, Written, wrote}
use Rattle.rules.specs.Stack.{Lent}
use Rattle.rules.specs.Files.{PUSH, POP, LOAD, STORE, LEA, CMP, CALL, RET, NULL, NEW, DELETE, GCNULL, GCNEW, FLEA, function, function_for, file, file4, nines, lent, scratch, scratch_heap}
use Rattle.rules.specs.Evaluate.{up_now, down_now, check_now, run_heap_now}

-- ---- runs

-- 0 () made for 7, which calls 1 () made for 9; 2 (int) for any; 3 (int) for the highest number. The entry calls 0
abbrev made : List ℕ
made =
    file4 [] (function_for 7 [] 0 (CALL 1 ++ RET) ∷ function_for 9 [] 0 RET ∷ function (3 ∷ []) 0 RET ∷ function_for 0xffffffff (3 ∷ []) 0 RET ∷ []) [] (CALL 0) []

-- function 0 of edition 3, (int)
abbrev plain : List ℕ
plain = file [] (function (3 ∷ []) 0 RET ∷ []) [] []

abbrev none : Lent
none = lent []

abbrev int : Lent
int = lent ((3, 5) ∷ [])

-- a file, a body, its arguments, the scan's profile and the slots lent; the number that is answered
pub runs : List (List ℕ × (ℕ × (Lent × (ℕ × (ℕ × ℕ)))))
runs =
    (made, (0, (none, (7, (9, 0))))) ∷ (made, (0, (none, (9, (9, 17))))) ∷ (made, (0, (none, (8, (9, 17))))) ∷ (made, (1, (none, (9, (9, 0))))) ∷ (made, (1, (none, (7, (9, 17)))))
    -- 0 is a profile like others, and for any where a function has it
    ∷ (made, (0, (none, (0, (9, 17))))) ∷ (made, (2, (int, (0, (9, 0))))) ∷ (made, (2, (int, (5, (9, 0))))) ∷ (made, (3, (int, (0xffffffff, (9, 0))))) ∷ (made, (3, (int, (0, (9, 17))))) ∷ (made, (3, (int, (0x00ffffff, (9, 17)))))
    -- the entry has none; functions that are called are not asked
    ∷ (made, (0xffffffff, (none, (0, (9, 0))))) ∷ (made, (0xffffffff, (none, (5, (9, 0)))))
    -- after 12 and 13, before 20
    ∷ (made, (4, (none, (1, (9, 12))))) ∷ (made, (3, (none, (1, (9, 13))))) ∷ (made, (0, (int, (1, (9, 13))))) ∷ (made, (3, (int, (1, (0, 17))))) ∷ (made, (3, (int, (0xffffffff, (0, 20)))))
    -- other editions have none
    ∷ (plain, (0, (int, (0, (9, 0))))) ∷ (plain, (0, (int, (7, (9, 0))))) ∷ (set plain 0 1, (0, (int, (7, (9, 8)))))
    ∷ []

pub answers : List (List ℕ × (ℕ × (Lent × (ℕ × (ℕ × ℕ))))) → List ℕ
unfolding run_heap_now
answers [] = []
answers (r ∷ rs) = run_number (run_heap_now r.0 r.1.0 r.1.1.0 r.1.1.1.0 9 (scratch r.1.1.1.1.0) (scratch_heap 1)).answer ∷ answers rs

pub numbers : List (List ℕ × (ℕ × (Lent × (ℕ × (ℕ × ℕ))))) → List ℕ
numbers [] = []
numbers (r ∷ rs) = r.1.1.1.1.1 ∷ numbers rs

pub runs_table : answers runs ≡ numbers runs
unfolding answers numbers runs
runs_table = refl

-- "changes no lent memory"
pub nothing_changed : run_heap_now made 3 int 1 9 (scratch 2) (scratch_heap 1) ≡ record { answer = Rejected 17; stack = scratch 2; heap = scratch_heap 1 }
unfolding run_heap_now
nothing_changed = refl

-- ---- conversions

-- an int and a long local, and pointers to them compared
abbrev pointers : List ℕ
pointers = PUSH 0 ++ (STORE 0 ++ (PUSH 1 ++ (STORE 1 ++ (LEA 0 ++ (LEA 1 ++ CMP)))))

-- what the check answers of a module of edition 3, and of the same in edition 4: only comparisons of different pointers differ
pub check-table :
    ((check_now (file ((3, 7) ∷ (4, 5) ∷ []) [] [] pointers) []).answer ≡ Untyped 0xffffffff) × ((check_now (file4 ((3, 7) ∷ (4, 5) ∷ []) [] [] pointers []) []).answer ≡ Accepted)
    × ((check_now (file [] [] [] POP) []).answer ≡ Untyped 0xffffffff) × ((check_now (file4 [] [] [] POP []) []).answer ≡ Untyped 0xffffffff)
unfolding check_now
check-table = (refl, refl, refl, refl)

-- the same module in edition 3, and in edition 4 with profiles: two constants, two functions, a label
abbrev third : List ℕ
third = file ((3, 7) ∷ (4, 5) ∷ []) (function (3 ∷ 131 ∷ []) 3 (LOAD 0 ++ RET) ∷ function [] 0 RET ∷ []) ((0, 11) ∷ []) (PUSH 0 ++ POP)

abbrev fourth_for : ℕ → ℕ → List ℕ
fourth_for n k = file4 ((3, 7) ∷ (4, 5) ∷ []) (function_for n (3 ∷ 131 ∷ []) 3 (LOAD 0 ++ RET) ∷ function_for k [] 0 RET ∷ []) ((0, 11) ∷ []) (PUSH 0 ++ POP) []

pub bytes-table :
    (up_now third (nines 151) ≡ wrote (Written 149) (fourth_for 0 0 ++ nines 2)) × (up_now third (nines 148) ≡ wrote (Unwritten 16) (nines 148))
    × (down_now (fourth_for 0 0) (nines 134) ≡ wrote (Written 133) (third ++ nines 1)) × (down_now (fourth_for 0 0) (nines 132) ≡ wrote (Unwritten 16) (nines 132))
    × (down_now (fourth_for 0 1) (nines 134) ≡ wrote (Unwritten 18) (nines 134)) × (up_now (fourth_for 0 0) (nines 151) ≡ wrote (Unwritten 2) (nines 151))
unfolding up_now down_now
bytes-table = (refl, refl, refl, refl, refl, refl)

-- two labels
pub labels-table :
    (up_now (file [] [] ((0xffffffff, 0) ∷ (0xffffffff, 1) ∷ []) (POP ++ POP)) (nines 74) ≡ wrote (Written 74) (file4 [] [] ((0xffffffff, 0) ∷ (0xffffffff, 1) ∷ []) (POP ++ POP) []))
    × (down_now (file4 [] [] ((0xffffffff, 0) ∷ (0xffffffff, 1) ∷ []) (POP ++ POP) []) (nines 66) ≡ wrote (Written 66) (file [] [] ((0xffffffff, 0) ∷ (0xffffffff, 1) ∷ []) (POP ++ POP)))
unfolding up_now down_now
labels-table = (refl, refl)

-- a module of edition 4 without structures, its entry of this code
abbrev coded : List ℕ → List ℕ
coded code = file4 [] [] [] code []

-- edition 4 with one structure, and function 0 from this type to this
abbrev typed : ℕ → ℕ → List ℕ
typed p r = file4 [] (function (p ∷ []) r RET ∷ []) [] [] ((3 ∷ []) ∷ [])

-- a file, and the numbers of its conversion to edition 4 and to edition 3, the output being long enough
pub files : List (List ℕ × (ℕ × ℕ))
files =
    (third, (0, 2)) ∷ (fourth_for 0 0, (2, 0)) ∷ (file [] [] [] [], (0, 2)) ∷ (coded [], (2, 0))
    -- 1 before 2, also of edition 4 in 48 bytes; other editions are 2, before 3
    ∷ ([], (1, 1)) ∷ (take 47 third, (1, 1)) ∷ (take 55 (coded []), (1, 1)) ∷ (set (file [] [] [] []) 0 1, (2, 2)) ∷ (set third 0 2, (2, 2)) ∷ (set third 0 5, (2, 2)) ∷ (set (set third 0 5) 4 0, (2, 2)) ∷ (set third 0 4, (2, 5)) ∷ (set (fourth_for 0 0) 0 3, (5, 2))
    -- the reader's
    ∷ (set third 4 0, (3, 2)) ∷ (set third 44 1, (4, 2)) ∷ (set third 12 47, (5, 2)) ∷ (set third 48 5, (6, 2)) ∷ (set third 81 5, (7, 2)) ∷ (set (coded POP) 56 0x35, (2, 8)) ∷ (file [] [] [] NULL, (8, 2)) ∷ (file [] [] ((0, 0) ∷ []) [], (9, 2))
    ∷ (set (fourth_for 1 0) 4 0, (2, 3)) ∷ (set (fourth_for 1 0) 44 1, (2, 4)) ∷ (set (fourth_for 1 0) 48 17, (2, 4)) ∷ (set (fourth_for 1 0) 52 0, (2, 5)) ∷ (set (fourth_for 1 0) 56 5, (2, 6)) ∷ (set (fourth_for 1 0) 89 5, (2, 7)) ∷ (file4 [] [] ((0, 0) ∷ []) NULL [], (2, 9))
    -- 18: a profile, of any function, each byte of the word; a structure, also one that is not used; what edition 3 lacks
    ∷ (fourth_for 1 0, (2, 18)) ∷ (fourth_for 0 1, (2, 18)) ∷ (fourth_for 0 256, (2, 18)) ∷ (fourth_for 0 0xff000000, (2, 18)) ∷ (file4 [] [] [] [] ((3 ∷ []) ∷ []), (2, 18)) ∷ (typed 138 0, (2, 18)) ∷ (typed 3 138, (2, 18)) ∷ (typed 3 3, (2, 18))
    ∷ (coded NULL, (2, 18)) ∷ (coded (NEW 3), (2, 18)) ∷ (coded DELETE, (2, 18)) ∷ (coded (FLEA 0), (2, 18)) ∷ (file4 [] (function [] 0 (RET ++ NULL) ∷ []) [] [] [], (2, 18)) ∷ (coded (PUSH 0 ++ NULL), (2, 18))
    -- of a third function too
    ∷ (file4 [] (function [] 0 RET ∷ function [] 0 RET ∷ function_for 1 [] 0 RET ∷ []) [] [] [], (2, 18))
    ∷ (file4 [] (function (195 ∷ []) 0 RET ∷ []) [] [] [], (2, 18)) ∷ (file4 [] (function [] 198 RET ∷ []) [] [] [], (2, 18)) ∷ (coded GCNULL, (2, 18)) ∷ (coded (GCNEW 3), (2, 18))
    -- but not an operand's byte; nor what has no typing
    ∷ (coded (PUSH 0x30303030), (2, 0)) ∷ (coded (PUSH 0x06060606 ++ POP), (2, 0)) ∷ (file [] [] [] (PUSH 0x31313131 ++ POP), (0, 2))
    ∷ []

pub converted : List (List ℕ × (ℕ × ℕ)) → List (ℕ × ℕ)
unfolding up_now down_now
converted [] = []
converted (r ∷ rs) = (write_number (up_now r.0 (nines 200)).answer, write_number (down_now r.0 (nines 200)).answer) ∷ converted rs

pub given : List (List ℕ × (ℕ × ℕ)) → List (ℕ × ℕ)
given [] = []
given (r ∷ rs) = r.1 ∷ given rs

pub files_table : converted files ≡ given files
unfolding converted given files
files_table = refl

-- 16 comes last
pub last_table : (write_number (down_now (fourth_for 0 1) []).answer ≡ 18) × (write_number (down_now (coded NULL) []).answer ≡ 18) × (write_number (up_now third []).answer ≡ 16) × (write_number (up_now (set third 0 1) []).answer ≡ 2)
unfolding up_now down_now
last_table = (refl, refl, refl, refl)
