-- The code s of edition e cut into instructions, and a table of places that marks where one begins.
use Rattle.std.specs.Prelude.{ℕ, zero, suc, ◌+◌, ◌*◌, ◌≤◌, ◌<◌, ◌≡◌, Bool, true, false, cond, ◌&&◌, ◌||◌, List, [], ◌∷◌, length, get_or, set, eqb}
use Rattle.std.proofs.Math.Option.{some}
use Rattle.rules.specs.Bytes.{word, some_below}
use Rattle.rules.specs.declared.Instruction.{Instruction}
use Rattle.rules.specs.Instructions.{Opcode, absent, bare, wide, edition1, edition3}
use Rattle.rules.specs.Tables.{function_count, function_at, bodies, end_before, opcode_at, due, unknown_at, differs, code_of}
use Rattle.format.specs.Layout.{Fits}

-- the bytes of an opcode's instruction; 0 for none
abbrev pub size_in : Opcode → ℕ
size_in absent = 0
size_in (bare i) = 1
size_in (wide i) = 5

-- whether an opcode stands alone; whether a word follows it
abbrev pub is_bare : Opcode → Bool
is_bare absent = false
is_bare (bare i) = true
is_bare (wide i) = false

abbrev pub is_wide : Opcode → Bool
is_wide absent = false
is_wide (bare i) = false
is_wide (wide i) = true

-- a number with a bit for each opcode of a table: 1 where the test holds
abbrev pub bits_of : (Opcode → Bool) → List Opcode → ℕ
bits_of test [] = 0
bits_of test (o ∷ os) = cond (test o) 1 0 + 2 * bits_of test os

-- the table of edition 1 or 3; of edition 4 what it has from edition 3
abbrev pub earlier : ℕ → List Opcode
earlier e = cond (eqb e 1) edition1 edition3

-- whether the n bytes from `at` on are opcodes of edition e that stand alone
unfoldable pub all_bare : ℕ → List ℕ → ℕ → ℕ → Bool
all_bare e s at zero = true
all_bare e s at (suc n) = all_bare e s at n && is_bare (opcode_at e s (at + n))

-- a table with n places more marked, from p on, as far as it goes
unfoldable pub marks : List ℕ → ℕ → ℕ → List ℕ
marks t p zero = t
marks t p (suc n) = set (marks t p n) (p + n) 1

-- 1 at a place that begins an instruction, else 0
unfoldable pub mark : ℕ → List ℕ → ℕ → ℕ
mark e s p = cond (eqb (due e s p) 0) 1 0

-- a table with no mark
abbrev pub Blank : List ℕ → Type 0
Blank t = (q : ℕ) → get_or t q 0 ≡ 0

-- an instruction begins at p, all before it are known, and the table is marked below p, as far as it goes
pub record Cut (e : ℕ) (s : List ℕ) (p : ℕ) (t : List ℕ) : Type 0 where
  pub begins : due e s p ≡ 0
  pub known : some_below p (unknown_at e s) ≡ false
  pub marked : (q : ℕ) → q < p → q < length t → get_or t q 0 ≡ mark e s q
  pub clear : (q : ℕ) → p ≤ q → get_or t q 0 ≡ 0

-- an instruction before p is unknown, or one crosses p
abbrev pub Fails : ℕ → List ℕ → ℕ → Type 0
Fails e s p = (some_below p (unknown_at e s) || differs (due e s p) 0) ≡ true

-- what a walk up to p says
abbrev pub Walked : Bool → ℕ → List ℕ → ℕ → List ℕ → Type 0
Walked true e s p t = Cut e s p t
Walked false e s p t = Fails e s p

-- what rows 4, 5 and 7 leave of an edition's n function records and of code: the bodies follow one another and fill the code
pub record Filled (e n : ℕ) (fs code : List ℕ) (entry : ℕ) : Type 0 where
  pub counted : n ≡ function_count e fs
  pub fits : Fits e fs code entry
  pub in_order : (i : ℕ) → i < function_count e fs → word 4 fs (function_at e i) ≡ end_before (bodies e fs [] code entry) i
  pub fills : end_before (bodies e fs [] code entry) (function_count e fs) ≡ length code

-- ---- the table of starts

-- an instruction begins at place p of the code s, in edition e: no operand byte is due there
abbrev pub Begins : ℕ → List ℕ → ℕ → Type 0
Begins e s p = (p < length s) × (due e s p ≡ 0)

-- As far as the table t goes, it marks exactly the places of the code that begin an instruction.
pub record StartsExactly (e : ℕ) (s t : List ℕ) : Type 0 where
  -- no place is marked too many: not one inside an instruction, not the code's end, none past it
  pub only : (p : ℕ) → get_or t p 0 ≡ 1 → Begins e s p
  -- none is missing
  pub each : (p : ℕ) → p < length t → Begins e s p → get_or t p 0 ≡ 1
  -- and the module has an instruction there
  pub found : (p : ℕ) → Begins e s p → (i : Instruction) × (code_of e s p ≡ some i)
