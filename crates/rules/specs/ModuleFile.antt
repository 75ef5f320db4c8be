-- 01, Module file; Answers by number, 1 to 9: the header, one test a row of the table, and the tables that a file is cut into.
use Rattle.std.specs.Prelude.{ℕ, ◌+◌, ◌*◌, Bool, ◌&&◌, ◌||◌, cond, List, ◌∷◌, length, ltb, eqb}
use Rattle.rules.specs.Bytes.{word, cut}
use Rattle.rules.specs.Tables.{Bodies, Tables, bodies, tables, differs, header_size, function_size, unknown_edition, over_limits, first_of, content_tests, Module, module_of}

-- ---- header: "| 0, 4 | edition, 3; total length |" and so on, the same in edition 1 (02, A5); "Edition 4 has a 56-byte header (words 48
-- and 52: structure count, at most 16, and offset; shorter is 1)" (02, A6)

abbrev pub edition : List ℕ → ℕ
edition s = word 4 s 0

abbrev pub constants : List ℕ → ℕ
constants s = word 4 s 8

abbrev pub functions : List ℕ → ℕ
functions s = word 4 s 16

abbrev pub labels : List ℕ → ℕ
labels s = word 4 s 24

abbrev pub code_length : List ℕ → ℕ
code_length s = word 4 s 32

abbrev pub entry_length : List ℕ → ℕ
entry_length s = word 4 s 40

-- other editions have none
abbrev pub structures : List ℕ → ℕ
structures s = cond (eqb (edition s) 4) (word 4 s 48) 0

-- "then four sections without gaps", and "a last section of 12-byte structure records": the packed offsets
abbrev pub constants_at : List ℕ → ℕ
constants_at s = header_size (edition s)

abbrev pub functions_at : List ℕ → ℕ
functions_at s = constants_at s + 12 * constants s

abbrev pub labels_at : List ℕ → ℕ
labels_at s = functions_at s + function_size (edition s) * functions s

abbrev pub code_at : List ℕ → ℕ
code_at s = labels_at s + 8 * labels s

abbrev pub structures_at : List ℕ → ℕ
structures_at s = code_at s + code_length s

-- the sections, cut out at the packed offsets
abbrev pub constants_in : List ℕ → List ℕ
constants_in s = cut s (constants_at s) (12 * constants s)

abbrev pub functions_in : List ℕ → List ℕ
functions_in s = cut s (functions_at s) (function_size (edition s) * functions s)

abbrev pub labels_in : List ℕ → List ℕ
labels_in s = cut s (labels_at s) (8 * labels s)

abbrev pub code_in : List ℕ → List ℕ
code_in s = cut s (code_at s) (code_length s)

abbrev pub structures_in : List ℕ → List ℕ
structures_in s = cut s (structures_at s) (12 * structures s)

abbrev pub bodies_in : List ℕ → Bodies
bodies_in s = bodies (edition s) (functions_in s) (structures_in s) (code_in s) (entry_length s)

abbrev pub tables_in : List ℕ → Tables
tables_in s = tables (edition s) (constants_in s) (functions_in s) (labels_in s) (structures_in s) (code_in s) (entry_length s)

-- ---- 1: "under 48 bytes"; in edition 4 under 56

abbrev pub short : List ℕ → Bool
short s = ltb (length s) (header_size (edition s))

-- ---- 2: "none of 1, 3 and 4" (02, A6)

abbrev pub other_edition : List ℕ → Bool
other_edition s = unknown_edition (edition s)

-- ---- 3: "total length word differs from the lent length"; so does every length of 2 ^ 32 or more

abbrev pub other_total : List ℕ → Bool
other_total s = differs (word 4 s 4) (length s)

-- ---- 4: "a count or the code length is over its limit, or word 44 is not zero"

unfoldable pub over_limit : List ℕ → Bool
over_limit s = over_limits (edition s) (constants s) (functions s) (labels s) (code_length s) (structures s) || differs (word 4 s 44) 0

-- ---- 5: "an offset is not the packed one, the sections' sum is not the total, or the entry is longer than the code"

unfoldable pub not_packed : List ℕ → Bool
not_packed s =
    differs (word 4 s 12) (constants_at s) || differs (word 4 s 20) (functions_at s) || differs (word 4 s 28) (labels_at s)
    || differs (word 4 s 36) (code_at s) || (eqb (edition s) 4 && differs (word 4 s 52) (structures_at s))
    || differs (structures_at s + 12 * structures s) (word 4 s 4) || ltb (code_length s) (entry_length s)

-- ---- the table: "The first in number order is given."

-- 1 to 9; 0: "A module can be read where none of 1 to 9 holds"
unfoldable pub refusal : List ℕ → ℕ
refusal s = first_of 1 (short s ∷ other_edition s ∷ other_total s ∷ over_limit s ∷ not_packed s ∷ content_tests (tables_in s))

-- ---- what reading gives. Its code are the instructions that its edition's table gives, so all that follows is by "the rules of the
-- module's edition" (02, A5)

abbrev pub read : List ℕ → Module
read s = module_of (tables_in s)
