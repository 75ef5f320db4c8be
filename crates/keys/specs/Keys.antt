-- Keys of instructions, at places of the code and in the matches that take them apart.
use Rattle.std.specs.Prelude.{◌≡◌, ℕ, zero, suc, ◌+◌, ◌%◌, ◌≤◌, Bool, true, false, ◌&&◌, ◌||◌, cond, List, [], ◌∷◌, length, drop, set, leb, eqb, Some, None}
use Rattle.std.proofs.Math.Option.{some}
use types.Run.{OneOf}
use Rattle.rules.specs.declared.Instruction.{Instruction}
use Rattle.rules.specs.Bytes.{byte, word}
use Rattle.rules.specs.Instructions.{opcode_of, is_absent, instruction_of, size}
use Rattle.rules.specs.ModuleFile.{edition, code_in}
use Rattle.soundness.specs.Numbering.{key_table}
use Rattle.soundness.specs.Translated.{InKeys}
use Rattle.std.specs.declared.option.Option.{Option}

-- ---- at a place

-- what is decoded at place q of a body that ends at `stop`
unfoldable pub decoded : List ℕ → ℕ → ℕ → Option ℕ
decoded code q stop = cond (leb stop q) None (Some (byte code q % 64))

-- the bytes at place q of the code are the key of the instruction i and its word, and all of them are there
pub record Says (code : List ℕ) (q : ℕ) (i : Instruction) : Type 0 where
  pub is : instruction_of (opcode_of key_table (byte code q)) (word 4 code (q + 1)) ≡ some i
  pub whole : q + size i ≤ length code

-- from `from` on the lent bytes are the code of the file's module in keys, and what follows it
pub record Keyed (file source : List ℕ) (from : ℕ) : Type 0 where
  pub inside : from ≤ length source
  pub keys : InKeys (edition file) (code_in file) (drop from source)

-- `own` with the four bytes of the code from p on
abbrev pub with_word : List ℕ → List ℕ → ℕ → List ℕ
with_word code own p = set (set (set (set own p (byte code p)) (p + 1) (byte code (p + 1))) (p + 2) (byte code (p + 2))) (p + 3) (byte code (p + 3))

-- ---- in matches

-- b is the key of an instruction
abbrev pub Known : ℕ → Type 0
Known b = is_absent (opcode_of key_table b) ≡ false

-- what a match knows of b in its last arm: it is none of each arm's keys, the last of the arms first
abbrev pub Outside : ℕ → List (List ℕ) → Type 0
Outside b [] = Unit {0}
Outside b (ks ∷ kss) = Outside b kss × (OneOf ks b → ⊥)

-- arms of one key each
abbrev pub each : List ℕ → List (List ℕ)
each [] = []
each (k ∷ ks) = (k ∷ []) ∷ each ks

-- b is one of these keys
abbrev pub among : ℕ → List ℕ → Bool
among b [] = false
among b (k ∷ ks) = among b ks || eqb b k

abbrev pub among_any : ℕ → List (List ℕ) → Bool
among_any b [] = false
among_any b (ks ∷ kss) = among_any b kss || among b ks

-- every number below n is one of these keys
abbrev pub complete : ℕ → List (List ℕ) → Bool
complete zero kss = true
complete (suc n) kss = complete n kss && among_any n kss

-- none of these keys is an instruction's
abbrev pub absents : List ℕ → Bool
absents [] = true
absents (k ∷ ks) = is_absent (opcode_of key_table k) && absents ks
