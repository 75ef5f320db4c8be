-- The key of an instruction that stands at a place.
use Prim.Native.Nat.{ℕ, ◌+◌, ◌%◌, ◌≤◌, ◌<◌}
use native.Mathlib.Omega.{arith}
use mathlib.Core.Path.{◌≡◌, refl, sym, ap, ◌∙◌}
use mathlib.Core.Bool.{Bool, true, false, cond, true≢false}
use mathlib.Core.Option.{some}
use mathlib.Core.List.{List}
use lib.ListN.{get_or-eq_default}
use lib.Dec.{leb, ltb, ltb→lt, nltb→le}
use borrow.Author.Tests.{le-leb, lt-leb, leb-true, leb-false}
use Rattle.rules.specs.declared.Instruction.{Instruction}
use Rattle.rules.specs.Bytes.{byte, word}
use Rattle.rules.specs.Instructions.{Opcode, absent, bare, wide, opcode_of, is_absent, instruction_of}
use Rattle.soundness.specs.Numbering.{key_table}
use Rattle.std.specs.Prelude.{Some, None}
use Rattle.keys.specs.Keys.{decoded, Says, Known}

pub decoded_end : (code : List ℕ) (q stop : ℕ) → stop ≤ q → None ≡ decoded code q stop
unfolding decoded
decoded_end code q stop h = rw (le-leb stop q h) refl

pub decoded_key : (code : List ℕ) (q stop : ℕ) → q < stop → Some (byte code q % 64) ≡ decoded code q stop
unfolding decoded
decoded_key code q stop h = rw (lt-leb stop q h) refl

module _ (code : List ℕ) (q stop : ℕ) where
  pub at_end_lem : decoded code q stop ≡ None → stop ≤ q
  unfolding decoded
  at_end_lem e = go (leb stop q) refl e
    where
      go : (x : Bool) → leb stop q ≡ x → cond x None (Some (byte code q % 64)) ≡ None → stop ≤ q
      go true y f = leb-true stop q y
      go false y f = absurd (let z : ◌≡◌ {A = ℕ} 0 1 = cc in omega arith)

  pub at_key : (b : ℕ) → decoded code q stop ≡ Some b → (q < stop) × (b ≡ byte code q % 64)
  unfolding decoded
  at_key b e = go (leb stop q) refl e
    where
      go : (x : Bool) → leb stop q ≡ x → cond x None (Some (byte code q % 64)) ≡ Some b → (q < stop) × (b ≡ byte code q % 64)
      go true y f = absurd (let z : ◌≡◌ {A = ℕ} 0 1 = cc in omega arith)
      go false y f = (leb-false stop q y, cc)

-- an opcode that has an instruction is known
known_opcode : (o : Opcode) (w : ℕ) (i : Instruction) → instruction_of o w ≡ some i → is_absent o ≡ false
known_opcode absent w i e = absurd (let z : ◌≡◌ {A = ℕ} 0 1 = cc in omega arith)
known_opcode (bare j) w i e = refl
known_opcode (wide j) w i e = refl

pub says_known : (code : List ℕ) (q : ℕ) (i : Instruction) → Says code q i → Known (byte code q)
says_known code q i s = known_opcode (opcode_of key_table (byte code q)) (word 4 code (q + 1)) i s.is

-- the table ends at 32 hex
pub known_low : (b : ℕ) → Known b → b < 64
known_low b k = go (ltb b 64) refl
  where
    go : (x : Bool) → ltb b 64 ≡ x → b < 64
    go true e = ltb→lt b 64 (rw e tt)
    go false e =
        let l : 64 ≤ b = nltb→le b 64 (rw e tt) in
        let z : opcode_of key_table b ≡ absent = get_or-eq_default key_table absent {n = b} (omega arith) in
        absurd (true≢false (sym (ap is_absent z) ∙ k))

-- so all of its bits are kept
pub says_key : (code : List ℕ) (q : ℕ) (i : Instruction) → Says code q i → byte code q % 64 ≡ byte code q
says_key code q i s = let l : byte code q < 64 = known_low (byte code q) (says_known code q i s) in omega arith
