-- 01, Module file; Answers by number, 2, 4 and 6 to 9; 02, A1: "constant, function and label tables, code and entry length"; A6: structures;
-- A7: profiles.
-- The rows of the table of refusals that look into the sections, and the module that these are. Reader and writer share all of it.
use Rattle.std.specs.Prelude.{ℕ, zero, suc, ◌+◌, ◌*◌, ◌-◌, ◌/◌, Bool, true, false, not, ◌&&◌, ◌||◌, cond, List, [], ◌∷◌, length, ltb, leb, eqb}
use Rattle.std.proofs.Math.Option.{Option, none, some}
use Rattle.rules.specs.Bytes.{byte, word, maybe, within, some_below}
use Rattle.rules.specs.Instructions.{Num, int, Ty, num_of, ty_of, Opcode, opcodes, opcode_of, is_absent, operand_bytes, instruction_of, Instruction}
use Rattle.rules.specs.Stack.{Slot, slot}

-- the entry and the functions: the function records, the structures that their signatures name, the code of them all, the length of
-- the entry's
pub record Bodies : Type 0 where
  pub edition : ℕ
  pub functions : List ℕ
  pub structures : List ℕ
  pub code : List ℕ
  pub entry : ℕ

-- the sections of a module, each a list of bytes
pub record Tables : Type 0 where
  pub constants : List ℕ
  pub labels : List ℕ
  pub bodies : Bodies

abbrev pub bodies : ℕ → List ℕ → List ℕ → List ℕ → ℕ → Bodies
bodies e fs zs code n = record { edition = e; functions = fs; structures = zs; code = code; entry = n }

-- edition first; constants, functions, labels, structures, code; the entry's length last
abbrev pub tables : ℕ → List ℕ → List ℕ → List ℕ → List ℕ → List ℕ → ℕ → Tables
tables e cs fs ls zs code n = record { constants = cs; labels = ls; bodies = bodies e fs zs code n }

-- "Function, 20 bytes"; "Each function record of edition 4 .. gets one more word at its end" (02, A7)
abbrev pub function_size : ℕ → ℕ
function_size e = cond (eqb e 4) 24 20

-- "Constant, 12 bytes", "Label, 8 bytes", "12-byte structure records" (02, A6): how many whole records a table has, and where they
-- stand; functions are those of an edition
abbrev pub constant_count : List ℕ → ℕ
constant_count cs = length cs / 12

abbrev pub function_count : ℕ → List ℕ → ℕ
function_count e fs = length fs / function_size e

abbrev pub label_count : List ℕ → ℕ
label_count ls = length ls / 8

abbrev pub structure_count : List ℕ → ℕ
structure_count zs = length zs / 12

abbrev pub constant_at : ℕ → ℕ
constant_at i = 12 * i

abbrev pub function_at : ℕ → ℕ → ℕ
function_at e i = function_size e * i

abbrev pub label_at : ℕ → ℕ
label_at i = 8 * i

abbrev pub structure_at : ℕ → ℕ
structure_at i = 12 * i

abbrev pub differs : ℕ → ℕ → Bool
differs a b = not (eqb a b)

-- "Edition 4 has a 56-byte header" (02, A6)
abbrev pub header_size : ℕ → ℕ
header_size e = cond (eqb e 4) 56 48

-- ---- 2: "none of 1, 3 and 4" (02, A6)

abbrev pub unknown_edition : ℕ → Bool
unknown_edition e = differs e 1 && differs e 3 && differs e 4

-- ---- 4: "a count or the code length is over its limit"

-- "structure count, at most 16"; "a structure for another edition is 4" (02, A6)
abbrev pub structure_limit : ℕ → ℕ
structure_limit e = cond (eqb e 4) 16 0

-- in edition e: constants, functions, labels, bytes of code, structures
abbrev pub over_limits : ℕ → ℕ → ℕ → ℕ → ℕ → ℕ → Bool
over_limits e c f l n z = ltb 1024 c || ltb 128 f || ltb 256 l || ltb 16384 n || ltb (structure_limit e) z

-- ---- 6: "a constant of another type, or an int with upper bytes set"; "a bad structure record is 6" (02, A6)

-- type word t, upper payload word u
abbrev pub odd_constant : ℕ → ℕ → Bool
odd_constant t u = (eqb t 3 && differs u 0) || (differs t 3 && differs t 4 && differs t 6)

unfoldable pub bad_constant : List ℕ → ℕ → Bool
bad_constant cs i = odd_constant (word 4 cs (constant_at i)) (word 4 cs (constant_at i + 8))

unfoldable pub bad_constants : List ℕ → Bool
bad_constants cs = some_below (constant_count cs) (bad_constant cs)

abbrev pub number_type : ℕ → Bool
number_type t = eqb t 3 || eqb t 4 || eqb t 6

-- "field count 1 to 8, eight type bytes (3, 4, 6, unused 0), three zeros"
abbrev pub odd_field : Bool → ℕ → Bool
odd_field used t = (used && not (number_type t)) || (not used && differs t 0)

-- type byte j of the record at byte a
unfoldable pub bad_field : List ℕ → ℕ → ℕ → Bool
bad_field zs a j = odd_field (ltb j (byte zs a)) (byte zs (a + 1 + j))

unfoldable pub bad_structure_record : List ℕ → ℕ → Bool
bad_structure_record zs a =
    eqb (byte zs a) 0 || ltb 8 (byte zs a) || some_below 8 (bad_field zs a) || differs (byte zs (a + 9)) 0 || differs (byte zs (a + 10)) 0
    || differs (byte zs (a + 11)) 0

unfoldable pub bad_structure : List ℕ → ℕ → Bool
bad_structure zs i = bad_structure_record zs (structure_at i)

unfoldable pub bad_structures : List ℕ → Bool
bad_structures zs = some_below (structure_count zs) (bad_structure zs)

-- ---- 7: "a bad function record, or bodies that don't fill the code"; a structure that is "an undeclared one in a signature" (02, A6)

-- "8A to 99 (hex) mean pointer to a structure", numbered from 10, of which z are declared
abbrev pub structure_type : ℕ → ℕ → Bool
structure_type z t = leb 138 t && ltb t (138 + z)

-- "C3, C4, C6 and CA to D9 (hex) for managed pointers, which functions may take and return", in edition 4 (02, A9)
abbrev pub managed_type : ℕ → ℕ → ℕ → Bool
managed_type e z t = eqb e 4 && (eqb t 195 || eqb t 196 || eqb t 198 || (leb 202 t && ltb t (202 + z)))

-- "return type (one byte: 0, 3, 4, 6)"; "functions may return those", pointers to structures (02, A6); in edition e
abbrev pub odd_return : ℕ → ℕ → ℕ → Bool
odd_return e z t = differs t 0 && not (number_type t || structure_type z t || managed_type e z t)

-- "83, 84, 86 hex for pointer to one"; in edition 1 "No pointer types in signatures (7)" (02, A5)
abbrev pub pointer_type : ℕ → ℕ → Bool
pointer_type e t = differs e 1 && (eqb t 131 || eqb t 132 || eqb t 134)

-- "eight parameter type bytes (3, 4, 6, or 83, 84, 86 hex for pointer to one; unused are 0)", in edition e with z structures
abbrev pub odd_param : ℕ → ℕ → Bool → ℕ → Bool
odd_param e z used t = (used && not (number_type t || pointer_type e t || structure_type z t || managed_type e z t)) || (not used && differs t 0)

-- parameter byte j of the record at byte a
unfoldable pub bad_param : ℕ → ℕ → List ℕ → ℕ → ℕ → Bool
bad_param e z s a j = odd_param e z (ltb j (byte s (a + 8))) (byte s (a + 10 + j))

-- "Code begins with the entry's body; function bodies follow in number order without gaps": the place where the body
-- before function i ends, the lengths summed without wrapping
unfoldable pub end_before : Bodies → ℕ → ℕ
end_before b zero = b.entry
end_before b (suc i) = end_before b i + word 4 b.functions (function_at b.edition i + 4)

-- the record at byte a, of a body that must start at the place `from`: "start, length (≥ 1), parameter count (0 to 8,
-- one byte), return type, .., two zero bytes"
unfoldable pub bad_record : ℕ → ℕ → List ℕ → ℕ → ℕ → Bool
bad_record e z s a from =
    differs (word 4 s a) from || eqb (word 4 s (a + 4)) 0 || ltb 8 (byte s (a + 8)) || odd_return e z (byte s (a + 9))
    || some_below 8 (bad_param e z s a) || differs (byte s (a + 18)) 0 || differs (byte s (a + 19)) 0

unfoldable pub bad_function : Bodies → ℕ → Bool
bad_function b i = bad_record b.edition (structure_count b.structures) b.functions (function_at b.edition i) (end_before b i)

-- "and fill the section"
unfoldable pub bad_functions : Bodies → Bool
bad_functions b =
    some_below (function_count b.edition b.functions) (bad_function b)
    || differs (end_before b (function_count b.edition b.functions)) (length b.code)

-- ---- 8: "an unknown opcode, or an instruction crossing its body's end"

-- the code of an edition, by place
abbrev pub opcode_at : ℕ → List ℕ → ℕ → Opcode
opcode_at e code p = opcode_of (opcodes e) (byte code p)

-- The code is cut into instructions from its start: operand bytes still due at place p. An instruction begins where none
-- is due. Where no instruction crosses a body's end this is each body's own cut (`cut_from` of `Claims`).
abbrev pub due_after : ℕ → Opcode → ℕ
due_after zero h = operand_bytes h
due_after (suc d) h = d

unfoldable pub due : ℕ → List ℕ → ℕ → ℕ
due e code zero = 0
due e code (suc p) = due_after (due e code p) (opcode_at e code p)

unfoldable pub unknown_at : ℕ → List ℕ → ℕ → Bool
unknown_at e code p = eqb (due e code p) 0 && is_absent (opcode_at e code p)

abbrev pub due_in : Bodies → ℕ → ℕ
due_in b p = due b.edition b.code p

-- the body before function i, or the last one, ends inside an instruction
unfoldable pub crossed : Bodies → ℕ → Bool
crossed b i = differs (due_in b (end_before b i)) 0

unfoldable pub bad_code : Bodies → Bool
bad_code b =
    some_below (length b.code) (unknown_at b.edition b.code) || some_below (suc (function_count b.edition b.functions)) (crossed b)

-- ---- 9: "a label with no such owner, or not on an instruction start of its owner"

-- place p lies in the body of owner o, of these function records of edition e and this entry length: "function number, or FFFFFFFF for
-- the entry". A body's end is no place in it.
unfoldable pub owns : ℕ → List ℕ → ℕ → ℕ → ℕ → Bool
owns e fs n o p =
    (eqb o 0xffffffff && ltb p n)
    || (ltb o (function_count e fs) && leb (word 4 fs (function_at e o)) p && ltb p (word 4 fs (function_at e o) + word 4 fs (function_at e o + 4)))

unfoldable pub bad_label : Bodies → List ℕ → ℕ → Bool
bad_label b ls i =
    not (owns b.edition b.functions b.entry (word 4 ls (label_at i)) (word 4 ls (label_at i + 4)) && eqb (due_in b (word 4 ls (label_at i + 4))) 0)

unfoldable pub bad_labels : Bodies → List ℕ → Bool
bad_labels b ls = some_below (label_count ls) (bad_label b ls)

-- ---- the table: "The first in number order is given."

-- the number of the first test that holds, counted from n; 0 where none does
unfoldable pub first_of : ℕ → List Bool → ℕ
first_of n [] = 0
first_of n (true ∷ ts) = n
first_of n (false ∷ ts) = first_of (suc n) ts

-- rows 6 to 9
abbrev pub content_tests : Tables → List Bool
content_tests t =
    (bad_constants t.constants || bad_structures t.bodies.structures) ∷ bad_functions t.bodies ∷ bad_code t.bodies ∷ bad_labels t.bodies t.labels ∷ []

-- ---- the module that these tables are; everything after speaks of a `Module` and not of bytes

-- the entry, or a function by number
pub data Body : Type 0 where
  entry : Body
  fn : ℕ → Body

-- "FFFFFFFF names the entry"
abbrev pub body_of : ℕ → Body
body_of n = cond (eqb n 0xffffffff) entry (fn n)

abbrev pub body_number : Body → ℕ
body_number entry = 0xffffffff
body_number (fn k) = k

abbrev pub eq_body : Body → Body → Bool
eq_body entry entry = true
eq_body entry (fn k) = false
eq_body (fn j) entry = false
eq_body (fn j) (fn k) = eqb j k

-- its places go from `start` up to `end`; parameters topmost first, so the last one first; no result for return type 0; "the profile it
-- was made for, 0 for any" (02, A7)
pub record Function : Type 0 where
  pub start : ℕ
  pub end : ℕ
  pub params : List Ty
  pub result : Option Ty
  pub profile : ℕ

-- edition: whose rules hold; structure: the fields of a structure by its type number, from 10 on, the last one first; is_place: "its
-- places (instruction starts, its end)", of a body; extent: the code's length
pub record Module : Type 0 where
  pub edition : ℕ
  pub structure : ℕ → Option (List Num)
  pub constant : ℕ → Option Slot
  pub function : ℕ → Option Function
  pub label : ℕ → Option (Body × ℕ)
  pub code : ℕ → Option Instruction
  pub entry_end : ℕ
  pub is_place : Body → ℕ → Bool
  pub extent : ℕ

-- n type bytes from byte a on, the last one first
abbrev pub params_from : List ℕ → ℕ → ℕ → List Ty
params_from s a zero = []
params_from s a (suc n) = ty_of (byte s (a + n)) ∷ params_from s a n

-- no result for 0
abbrev pub result_of : ℕ → Option Ty
result_of t = cond (eqb t 0) none (some (ty_of t))

-- other editions than 4 have no such word
abbrev pub profile_at : ℕ → List ℕ → ℕ → ℕ
profile_at e s a = cond (eqb e 4) (word 4 s (a + 20)) 0

-- the record at byte a
unfoldable pub function_of : ℕ → List ℕ → ℕ → Function
function_of e s a =
    record {
      start = word 4 s a;
      end = word 4 s a + word 4 s (a + 4);
      params = params_from s (a + 10) (byte s (a + 8));
      result = result_of (byte s (a + 9));
      profile = profile_at e s a;
    }

-- the type of a field. A file that can be read has no other number there: refusal 6
abbrev pub field_of : ℕ → Num
field_of t = maybe (num_of t) int (λ τ. τ)

-- n type bytes from byte a on, the last one first
abbrev pub fields_from : List ℕ → ℕ → ℕ → List Num
fields_from zs a zero = []
fields_from zs a (suc n) = field_of (byte zs (a + n)) ∷ fields_from zs a n

unfoldable pub structure_of : List ℕ → ℕ → List Num
structure_of zs i = fields_from zs (structure_at i + 1) (byte zs (structure_at i))

-- the type word is 3, 4 or 6 where row 6 doesn't hold, so its first byte is the type
unfoldable pub constant_of : List ℕ → ℕ → Slot
constant_of cs i = slot (byte cs (constant_at i)) (word 8 cs (constant_at i + 4))

unfoldable pub label_of : List ℕ → ℕ → Body × ℕ
label_of ls i = (body_of (word 4 ls (label_at i)), word 4 ls (label_at i + 4))

unfoldable pub code_of : ℕ → List ℕ → ℕ → Option Instruction
code_of e code p = instruction_of (opcode_at e code p) (word 4 code (p + 1))

-- where a body starts and ends
abbrev pub body_start : Bodies → Body → ℕ
body_start b entry = 0
body_start b (fn k) = word 4 b.functions (function_at b.edition k)

abbrev pub body_end : Bodies → Body → ℕ
body_end b entry = b.entry
body_end b (fn k) = word 4 b.functions (function_at b.edition k) + word 4 b.functions (function_at b.edition k + 4)

unfoldable pub place_in : Bodies → Body → ℕ → Bool
place_in b x p = leb (body_start b x) p && leb p (body_end b x) && eqb (due_in b p) 0

unfoldable pub module_of : Tables → Module
module_of t =
    record {
      edition = t.bodies.edition;
      structure = λ k. within (leb 10 k && ltb k (10 + structure_count t.bodies.structures)) (structure_of t.bodies.structures (k - 10));
      constant = λ k. within (ltb k (constant_count t.constants)) (constant_of t.constants k);
      function = λ k. within (ltb k (function_count t.bodies.edition t.bodies.functions)) (function_of t.bodies.edition t.bodies.functions (function_at t.bodies.edition k));
      label = λ k. within (ltb k (label_count t.labels)) (label_of t.labels k);
      code = code_of t.bodies.edition t.bodies.code;
      entry_end = t.bodies.entry;
      is_place = place_in t.bodies;
      extent = length t.bodies.code;
    }
