-- 02, A7: "Convert edition 3 to 4 with profile 0 and back (another edition is 2)."
use Rattle.std.specs.Prelude.{ℕ, zero, suc, ◌+◌, Bool, ◌&&◌, ◌||◌, cond, List, [], ◌∷◌, ◌++◌, length, ltb, eqb}
use Rattle.rules.specs.Bytes.{byte, cut, zeros, some_below}
use Rattle.rules.specs.Numbers.{not_in_edition_3}
use Rattle.rules.specs.Instructions.{is_absent}
use Rattle.rules.specs.Tables.{Tables, tables, function_count, function_at, structure_count, profile_at, differs, odd_return, bad_param, opcode_at, due, first_of, content_tests}
use Rattle.rules.specs.ModuleFile.{edition, short, other_total, over_limit, not_packed, tables_in}
use Rattle.rules.specs.Writing.{file_of, Wrote, write_with}

-- ---- the tables of the other edition: the rest "stays", constants, labels, code and entry

-- "with profile 0": the first n records of edition 3, a zero word behind each
unfoldable pub raised : ℕ → List ℕ → List ℕ
raised zero fs = []
raised (suc n) fs = raised n fs ++ (cut fs (function_at 3 n) 20 ++ zeros 4)

-- "and back": the first n records of edition 4, each without its last word
unfoldable pub lowered : ℕ → List ℕ → List ℕ
lowered zero fs = []
lowered (suc n) fs = lowered n fs ++ cut fs (function_at 4 n) 20

abbrev pub to_fourth : Tables → Tables
to_fourth t = tables 4 t.constants (raised (function_count 3 t.bodies.functions) t.bodies.functions) t.labels [] t.bodies.code t.bodies.entry

abbrev pub to_third : Tables → Tables
to_third t = tables 3 t.constants (lowered (function_count 4 t.bodies.functions) t.bodies.functions) t.labels [] t.bodies.code t.bodies.entry

-- the module of the other edition
unfoldable pub fourth : List ℕ → List ℕ
fourth s = file_of (to_fourth (tables_in s))

unfoldable pub third : List ℕ → List ℕ
third s = file_of (to_third (tables_in s))

-- ---- refusals

-- 1 to 9 of a file that must be of edition e: "another edition is 2"
unfoldable pub refusal_in : ℕ → List ℕ → ℕ
refusal_in e s = first_of 1 (short s ∷ differs (edition s) e ∷ other_total s ∷ over_limit s ∷ not_packed s ∷ content_tests (tables_in s))

-- "a nonzero profile", of function i
abbrev pub profiled : List ℕ → ℕ → Bool
profiled fs i = differs (profile_at 4 fs (function_at 4 i)) 0

-- "a type byte .. that edition 3 lacks", in the signature of function i
abbrev pub new_type : List ℕ → ℕ → Bool
new_type fs i = odd_return 3 0 (byte fs (function_at 4 i + 9)) || some_below 8 (bad_param 3 0 fs (function_at 4 i))

-- "or opcode", of an instruction at place p, reached or not
abbrev pub new_opcode : List ℕ → ℕ → Bool
new_opcode code p = eqb (due 4 code p) 0 && is_absent (opcode_at 3 code p)

-- 18: "down with a nonzero profile, a structure, or a type byte or opcode that edition 3 lacks"
unfoldable pub not_in_third : Tables → Bool
not_in_third t =
    some_below (function_count 4 t.bodies.functions) (profiled t.bodies.functions) || ltb 0 (structure_count t.bodies.structures)
    || some_below (function_count 4 t.bodies.functions) (new_type t.bodies.functions) || some_below (length t.bodies.code) (new_opcode t.bodies.code)

-- "after reading"
abbrev pub down_refusal_with : List ℕ → ℕ → ℕ
down_refusal_with s (suc e) = suc e
down_refusal_with s zero = cond (not_in_third (tables_in s)) not_in_edition_3 0

unfoldable pub down_refusal : List ℕ → ℕ
down_refusal s = down_refusal_with s (refusal_in 4 s)

-- ---- what is answered, and the lent output after: "then 16", or 0 with the length

unfoldable pub to_edition4 : List ℕ → List ℕ → Wrote
to_edition4 s out = write_with (refusal_in 3 s) (fourth s) out

unfoldable pub to_edition3 : List ℕ → List ℕ → Wrote
to_edition3 s out = write_with (down_refusal s) (third s) out
