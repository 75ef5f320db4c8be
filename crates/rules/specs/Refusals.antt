-- A table that is not of the paper: refusals 1 to 9, each limit from both sides, and which of two comes first.
use Rattle.std.specs.Prelude.{◌≡◌, refl, ℕ, zero, suc, true, false, List, [], ◌∷◌, ◌++◌, eqb, take, set}
use Rattle.rules.specs.Bytes.{words}
use Rattle.rules.specs.Files.{PUSH, POP, LOAD, RET, function, file_in, file, file4}
use Rattle.rules.specs.Samples.{w1}
use Rattle.rules.specs.Evaluate.{refusal_now}

-- a header alone: total, counts of constants, functions, labels, code length, entry length, word 44
abbrev bare : ℕ → ℕ → ℕ → ℕ → ℕ → ℕ → ℕ → List ℕ
bare t c f l n e z = words (3 ∷ t ∷ c ∷ 48 ∷ f ∷ 48 ∷ l ∷ 48 ∷ n ∷ 48 ∷ e ∷ z ∷ [])

-- a header alone of an edition, of 56 bytes: counts of constants, functions, labels, code length
abbrev bare_in : ℕ → ℕ → ℕ → ℕ → ℕ → List ℕ
bare_in w c f l n = words (w ∷ 56 ∷ c ∷ 56 ∷ f ∷ 56 ∷ l ∷ 56 ∷ n ∷ 56 ∷ 0 ∷ 0 ∷ 0 ∷ 56 ∷ [])

-- one function of one int to int after an empty entry: its record is at bytes 48 to 67, its code at 68
abbrev one : List ℕ
one = file [] (function (3 ∷ []) 3 (LOAD 0 ++ RET) ∷ []) [] []

abbrev eight : List ℕ
eight = file [] (function (3 ∷ 4 ∷ 6 ∷ 131 ∷ 132 ∷ 134 ∷ 3 ∷ 3 ∷ []) 3 (LOAD 0 ++ RET) ∷ []) [] []

-- one function of edition 1, with this parameter type byte and this return type: `load` 0, `ret`
abbrev old : ℕ → ℕ → List ℕ
old p r = file_in 1 [] (function (p ∷ []) r (LOAD 0 ++ (0x22 ∷ [])) ∷ []) [] []

-- an entry of 5 bytes; function 0 from 5 on, of 2 ^ 32 - 3 bytes; function 1 from 2 on, of 3 bytes: up to 5, the code's length
abbrev wrapping : List ℕ
wrapping =
    words (3 ∷ 93 ∷ 0 ∷ 48 ∷ 2 ∷ 48 ∷ 0 ∷ 88 ∷ 5 ∷ 88 ∷ 5 ∷ 0 ∷ 5 ∷ 0xfffffffd ∷ 0 ∷ 0 ∷ 0 ∷ 2 ∷ 3 ∷ 0 ∷ 0 ∷ 0 ∷ []) ++ (POP ++ (POP ++ (POP ++ (POP ++ POP))))

-- two functions, labels as given: the entry's code is at places 0 to 5, the functions' at 6 and 12
abbrev labelled : List (ℕ × ℕ) → List ℕ
labelled ls = file ((3, 5) ∷ []) (function [] 3 (PUSH 0 ++ RET) ∷ function [] 0 RET ∷ []) ls (PUSH 0 ++ POP)

-- a file and its refusal, 0 for none
pub rows : List (List ℕ × ℕ)
rows =
    (w1, 0) ∷ ([], 1) ∷ (take 47 w1, 1) ∷ (take 48 w1, 3)
    -- 2: none of 1, 3 and 4; 2 before 3, 3 before the rest
    ∷ (set w1 0 0, 2) ∷ (set w1 0 1, 0) ∷ (set w1 0 2, 2) ∷ (set w1 0 5, 2) ∷ (set w1 3 1, 2) ∷ (set (set w1 0 1) 3 1, 2) ∷ (set (set w1 0 5) 4 0, 2) ∷ (w1 ++ (0 ∷ []), 3) ∷ (set w1 4 0x54, 3) ∷ (set w1 6 1, 3) ∷ (set w1 7 1, 3) ∷ (set (set w1 4 0x54) 44 1, 3)
    -- the empty module; 4, each limit, and word 44; 4 before 5
    ∷ (bare 48 0 0 0 0 0 0, 0) ∷ (bare 48 1025 0 0 0 0 0, 4) ∷ (bare 48 1024 0 0 0 0 0, 5) ∷ (bare 48 0 129 0 0 0 0, 4) ∷ (bare 48 0 128 0 0 0 0, 5)
    ∷ (bare 48 0 0 257 0 0 0, 4) ∷ (bare 48 0 0 256 0 0 0, 5) ∷ (bare 48 0 0 0 16385 0 0, 4) ∷ (bare 48 0 0 0 16384 0 0, 5) ∷ (bare 48 0 0 0 0 0 1, 4) ∷ (bare 48 0 0 0 0 99999 0, 5)
    -- the same limits in editions 1 and 4
    ∷ (bare_in 1 1024 0 0 0, 5) ∷ (bare_in 1 1025 0 0 0, 4) ∷ (bare_in 1 0 128 0 0, 5) ∷ (bare_in 1 0 129 0 0, 4) ∷ (bare_in 1 0 0 256 0, 5) ∷ (bare_in 1 0 0 257 0, 4) ∷ (bare_in 1 0 0 0 16384, 5) ∷ (bare_in 1 0 0 0 16385, 4)
    ∷ (bare_in 4 1024 0 0 0, 5) ∷ (bare_in 4 1025 0 0 0, 4) ∷ (bare_in 4 0 128 0 0, 5) ∷ (bare_in 4 0 129 0 0, 4) ∷ (bare_in 4 0 0 256 0, 5) ∷ (bare_in 4 0 0 257 0, 4) ∷ (bare_in 4 0 0 0 16384, 5) ∷ (bare_in 4 0 0 0 16385, 4)
    -- 5: each offset, also of an empty section; the sum; the entry longer than the code
    ∷ (set w1 12 0x31, 5) ∷ (set w1 20 0x49, 5) ∷ (set w1 28 0x49, 5) ∷ (set w1 36 0x49, 5) ∷ (set w1 14 1, 5) ∷ (set w1 22 1, 5) ∷ (set w1 30 1, 5) ∷ (set w1 38 1, 5) ∷ (set w1 42 1, 5) ∷ (set w1 32 0x0a, 5) ∷ (set w1 40 0x0c, 5)
    -- 6: type words and upper bytes; a long and a double may have these
    ∷ (set w1 48 5, 6) ∷ (set w1 60 7, 6) ∷ (set w1 49 1, 6) ∷ (set w1 56 1, 6) ∷ (set w1 71 1, 6) ∷ (set (set w1 48 4) 56 1, 0) ∷ (set (set w1 48 6) 59 1, 0)
    -- 7: bodies that don't fill the code; each field of a record
    ∷ (set w1 40 0x0a, 7) ∷ (one, 0) ∷ (set one 48 1, 7) ∷ (set one 52 5, 7) ∷ (set one 52 7, 7) ∷ (set (set one 52 0) 32 0, 5) ∷ (set one 56 0, 7) ∷ (set one 56 2, 7) ∷ (set one 56 9, 7)
    -- eight parameters, and no ninth
    ∷ (eight, 0) ∷ (set eight 56 9, 7) ∷ (set eight 56 7, 7)
    ∷ (set one 57 0, 0) ∷ (set one 57 4, 0) ∷ (set one 57 6, 0) ∷ (set one 57 5, 7) ∷ (set one 57 7, 7) ∷ (set one 57 131, 7) ∷ (set one 58 4, 0) ∷ (set one 58 6, 0) ∷ (set one 58 131, 0) ∷ (set one 58 132, 0)
    ∷ (set one 58 134, 0) ∷ (set one 58 5, 7) ∷ (set one 58 133, 7) ∷ (set one 58 0, 7) ∷ (set one 59 3, 7) ∷ (set one 65 1, 7) ∷ (set one 66 1, 7) ∷ (set one 67 1, 7)
    ∷ (file [] (function [] 0 [] ∷ []) [] RET, 7)
    -- a label of an empty entry in edition 1
    ∷ (file_in 1 [] (function [] 0 (0x22 ∷ []) ∷ []) ((0xffffffff, 0) ∷ []) [], 9)
    -- in edition 1 no pointer parameter; 28 hex is none of its opcodes
    ∷ (set one 0 1, 8) ∷ (old 3 6, 0) ∷ (old 4 6, 0) ∷ (old 6 6, 0) ∷ (old 131 6, 7) ∷ (old 132 6, 7) ∷ (old 134 6, 7) ∷ (old 3 131, 7) ∷ (old 3 5, 7) ∷ (old 3 0, 0)
    -- lengths that fill the code only if their sum wraps at 32 bits
    ∷ (wrapping, 7)
    -- 8: unknown opcodes, also in code that is never reached; an instruction that crosses the code's or its body's end
    ∷ (file [] [] [] (0 ∷ []), 8) ∷ (file [] [] [] (6 ∷ []), 8) ∷ (file [] [] [] (0x29 ∷ []), 8) ∷ (file [] [] [] (0x2a ∷ []), 8) ∷ (file [] [] [] (0x2d ∷ []), 8) ∷ (file [] [] [] (0x2f ∷ []), 8)
    ∷ (file [] [] [] (255 ∷ []), 8) ∷ (file [] [] [] (RET ++ (6 ∷ [])), 8) ∷ (file [] [] [] (1 ∷ 0 ∷ 0 ∷ 0 ∷ []), 8) ∷ (file [] [] [] (6 ∷ 0 ∷ []), 8) ∷ (file [] [] [] (1 ∷ 6 ∷ 6 ∷ 6 ∷ 6 ∷ []), 0)
    ∷ (file [] (function [] 0 (0 ∷ 0x28 ∷ []) ∷ []) [] (1 ∷ 0 ∷ 0 ∷ 0 ∷ []), 8)
    -- 9: owners, ends, operand bytes, other bodies, an empty entry
    ∷ (labelled ((0xffffffff, 0) ∷ (0xffffffff, 5) ∷ (0, 6) ∷ (0, 11) ∷ (1, 12) ∷ (1, 12) ∷ []), 0) ∷ (labelled ((2, 12) ∷ []), 9) ∷ (labelled ((0xfffffffe, 0) ∷ []), 9) ∷ (labelled ((0xffffffff, 6) ∷ []), 9)
    ∷ (labelled ((0xffffffff, 1) ∷ []), 9) ∷ (labelled ((0, 0) ∷ []), 9) ∷ (labelled ((0, 12) ∷ []), 9) ∷ (labelled ((1, 13) ∷ []), 9) ∷ (labelled ((0, 7) ∷ []), 9)
    ∷ (file [] (function [] 0 RET ∷ []) ((0xffffffff, 0) ∷ []) [], 9) ∷ (labelled ((0, 6) ∷ (0, 7) ∷ []), 9) ∷ (labelled ((0, 7) ∷ (0, 6) ∷ []), 9)
    -- the smallest number, not the first in the file: 6 with 7 and 8, 7 with 8, 8 with 9
    ∷ (file ((5, 0) ∷ []) (function (5 ∷ []) 0 (6 ∷ []) ∷ []) ((9, 0) ∷ []) [], 6) ∷ (file [] (function [] 0 (6 ∷ []) ∷ function (5 ∷ []) 0 RET ∷ []) [] [], 7) ∷ (file [] (function [] 0 (6 ∷ []) ∷ []) ((9, 0) ∷ []) [], 8)
    ∷ []

pub computed : List (List ℕ × ℕ) → List ℕ
unfolding refusal_now
computed [] = []
computed (r ∷ rs) = refusal_now r.0 ∷ computed rs

pub expected : List (List ℕ × ℕ) → List ℕ
expected [] = []
expected (r ∷ rs) = r.1 ∷ expected rs

pub table : computed rows ≡ expected rows
unfolding computed expected rows
table = refl

-- ---- the opcodes of edition e: the bytes below n with which an entry can begin, four more after them

beginning : ℕ → List ℕ → List ℕ
beginning e code = elim (eqb e 4) [ true ↦ file4 [] [] [] code [] | false ↦ file_in e [] [] [] code ]

pub before : ℕ → ℕ → List ℕ → List ℕ
before e zero bs = bs
before e (suc b) bs = elim (refusal_now (beginning e (b ∷ 2 ∷ 2 ∷ 2 ∷ 2 ∷ []))) [ zero ↦ before e b (b ∷ bs) | suc r ↦ before e b bs ]

abbrev from_to : ℕ → ℕ → List ℕ
from_to b zero = []
from_to b (suc n) = b ∷ from_to (suc b) n

-- "opcodes 01 to 05, 07 to 28, 2B, 2C, 2E (hex), 42 in all"
pub opcodes_table : before 3 256 [] ≡ from_to 0x01 5 ++ (from_to 0x07 34 ++ (0x2b ∷ 0x2c ∷ 0x2e ∷ []))
unfolding refusal_now beginning before
opcodes_table = refl

-- 02, A6: "It adds `null`, `new`, `delete`, `flea`"; A9: "Add .. `gcnull` and `gcnew`"
pub fourth_opcodes_table : before 4 256 [] ≡ from_to 0x01 40 ++ (0x2b ∷ 0x2c ∷ 0x2e ∷ 0x30 ∷ 0x31 ∷ 0x32 ∷ 0x33 ∷ 0x34 ∷ [])
unfolding refusal_now beginning before
fourth_opcodes_table = refl

-- 02, A5: "01 to 25 (hex)"
pub old_opcodes_table : before 1 256 [] ≡ from_to 0x01 37
unfolding refusal_now beginning before
old_opcodes_table = refl
