-- 02, A1: the module writer, from tables to an answer and to the lent output after. A5: "A1, told which, writes either". A6: "A1
-- writes it too (a structure for another edition is 4)".
use Rattle.std.specs.Prelude.{ℕ, zero, suc, ◌+◌, ◌/◌, ◌%◌, Bool, false, ◌||◌, cond, List, [], ◌∷◌, ◌++◌, length, drop, ltb, eqb}
use Rattle.std.proofs.Math.Option.{Option, none, some}
pub use Rattle.rules.specs.AnswerTypes.{WriteAnswer}
pub use Rattle.rules.specs.AnswerTypes.{Unwritten, Written}
use Rattle.rules.specs.Bytes.{words}
use Rattle.rules.specs.Numbers.{done, output_too_short}
use Rattle.rules.specs.Tables.{Tables, function_size, constant_count, function_count, label_count, structure_count, differs, header_size, unknown_edition, over_limits, first_of, content_tests}

-- ---- the file of these tables: "A header of counts and offsets, then four sections without gaps", and structures as the last

-- the words of a header of h bytes, in its order, from the lengths in bytes of constants, functions, labels, code and structures
abbrev pub header_words : ℕ → ℕ → ℕ → ℕ → ℕ → ℕ → ℕ → ℕ → List ℕ
header_words e h c f l n z entry =
    e ∷ (h + c + f + l + n + z)
    ∷ (c / 12) ∷ h
    ∷ (f / function_size e) ∷ (h + c)
    ∷ (l / 8) ∷ (h + c + f)
    ∷ n ∷ (h + c + f + l)
    ∷ entry ∷ 0
    ∷ cond (eqb e 4) ((z / 12) ∷ (h + c + f + l + n) ∷ []) []

abbrev pub header_of : Tables → List ℕ
header_of t =
    words (header_words t.bodies.edition (header_size t.bodies.edition) (length t.constants) (length t.bodies.functions) (length t.labels) (length t.bodies.code) (length t.bodies.structures) t.bodies.entry)

abbrev pub file_length : Tables → ℕ
file_length t =
    header_size t.bodies.edition + length t.constants + length t.bodies.functions + length t.labels + length t.bodies.code
    + length t.bodies.structures

unfoldable pub file_of : Tables → List ℕ
file_of t = header_of t ++ (t.constants ++ (t.bodies.functions ++ (t.labels ++ (t.bodies.code ++ t.bodies.structures))))

-- ---- "Refusals: the reader's 4 to 9 (part of a record at a table's end is 5); then 16, output too short." 02, A5: "Refusals: 2, now
-- A1's too"

-- 4: "a count or the code length is over its limit". A count is that of whole records.
unfoldable pub too_many : Tables → Bool
too_many t =
    over_limits t.bodies.edition (constant_count t.constants) (function_count t.bodies.edition t.bodies.functions) (label_count t.labels) (length t.bodies.code)
    (structure_count t.bodies.structures)

-- 5: "part of a record at a table's end", or "the entry is longer than the code"
unfoldable pub broken : Tables → Bool
broken t =
    differs (length t.constants % 12) 0 || differs (length t.bodies.functions % function_size t.bodies.edition) 0 || differs (length t.labels % 8) 0
    || differs (length t.bodies.structures % 12) 0 || ltb (length t.bodies.code) t.bodies.entry

-- 2, 4 to 9; 0 where none holds. 3 cannot: the total length is the writer's own
unfoldable pub table_refusal : Tables → ℕ
table_refusal t = first_of 2 (unknown_edition t.bodies.edition ∷ false ∷ too_many t ∷ broken t ∷ content_tests t)

-- ---- what a writer answers: "0 with the length", or a refusal by its number alone

abbrev pub write_number : WriteAnswer → ℕ
write_number (Unwritten n) = n
write_number (Written n) = done

abbrev pub write_length : WriteAnswer → Option ℕ
write_length (Unwritten n) = none
write_length (Written n) = some n

-- output: what the lent output holds after
pub record Wrote : Type 0 where
  pub answer : WriteAnswer
  pub output : List ℕ

abbrev pub wrote : WriteAnswer → List ℕ → Wrote
wrote a out = record { answer = a; output = out }

-- "then 16, output too short. Here and later a writer answers 0 with the length and leaves output past it unchanged"
abbrev pub delivered : List ℕ → List ℕ → Wrote
delivered file out =
    cond (ltb (length out) (length file)) (wrote (Unwritten output_too_short) out) (wrote (Written (length file)) (file ++ drop (length file) out))

-- a refusal by its number, else the file; "a new refusal .. changes no lent memory and returns only its number"
abbrev pub write_with : ℕ → List ℕ → List ℕ → Wrote
write_with zero file out = delivered file out
write_with (suc n) file out = wrote (Unwritten (suc n)) out

unfoldable pub write : Tables → List ℕ → Wrote
write t out = write_with (table_refusal t) (file_of t) out
