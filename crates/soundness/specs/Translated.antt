-- Code in keys: each opcode replaced by its key, operand bytes as they are. It says at every place what the code says by the rules of
-- its edition. The code of editions 3 and 4 is in keys as it stands.
use Rattle.std.specs.Prelude.{◌≡◌, false, cond, List, length, eqb}
use Rattle.std.proofs.Math.Path.{refl}
use Rattle.std.proofs.Common.{sym, ap, ◌∙◌, subst, arith}
use Prim.Native.Nat.{ℕ, zero, suc, ◌+◌, ◌*◌, ◌-◌, ◌≤◌, ◌<◌}
use Rattle.std.proofs.Math.Option.{some}
use Rattle.rules.specs.Bytes.{byte, word}
use Rattle.rules.specs.Instructions.{Opcode, absent, bare, wide, opcode_of, is_absent, operand_bytes, instruction_of, size}
use Rattle.rules.specs.Tables.{opcode_at, due_after, due, code_of}
use Rattle.memory.proofs.Words.{word_suc}
use Rattle.soundness.specs.Names.{Instruction}
use Rattle.soundness.specs.Tests.{eqb_other, decide, none_some, some_inj}
use Rattle.soundness.specs.Numbering.{key_table, key_of, keyed}
use Rattle.soundness.specs.Readable.{Sized, sized, due_suc, due_inside}

-- the byte for place p of the code
abbrev pub key_at : ℕ → List ℕ → ℕ → ℕ
key_at e code p = cond (eqb (due e code p) 0) (key_of e (byte code p)) (byte code p)

-- `own` begins with the code in keys
pub record InKeys (e : ℕ) (code own : List ℕ) : Type 0 where
  pub long : length code ≤ length own
  pub keys : (p : ℕ) → p < length code → byte own p ≡ key_at e code p

pub in_place : (e : ℕ) → eqb e 1 ≡ false → (code : List ℕ) → InKeys e code code
in_place e n code = record { long = omega arith; keys = λ p l. decide (eqb (due e code p) 0) (λ y. rw (y, n) refl) (λ y. rw y refl) }

-- words of the same bytes
same_word : (n : ℕ) (s t : List ℕ) (a : ℕ) → ((j : ℕ) → j < n → byte s (a + j) ≡ byte t (a + j)) → word n s a ≡ word n t a
unfolding word
same_word zero s t a h = refl
same_word (suc n) s t a h =
    let z : a + 0 ≡ a = omega arith in
    let first : byte s a ≡ byte t a = rw z at (h 0 (omega arith)) in
    let rest : word n s (a + 1) ≡ word n t (a + 1) = same_word n s t (a + 1) (λ j l. let q : a + 1 + j ≡ a + suc j = omega arith in rw q (h (suc j) (omega arith))) in
    word_suc n s a ∙ ap (λ x. x + 256 * word n s (a + 1)) first ∙ ap (λ x. byte t a + 256 * x) rest ∙ sym (word_suc n t a)

module _ (e : ℕ) (code own : List ℕ) (k : InKeys e code own) where
  -- where an instruction begins, its key
  opcode_key : (p : ℕ) → p < length code → due e code p ≡ 0 → is_absent (opcode_at e code p) ≡ false → opcode_of key_table (byte own p) ≡ opcode_at e code p
  opcode_key p l d h =
      let q : byte own p ≡ key_of e (byte code p) = k.keys p l ∙ ap (λ n. cond (eqb n 0) (key_of e (byte code p)) (byte code p)) d in
      ap (opcode_of key_table) q ∙ keyed e (byte code p) h

  -- the word behind it, the same
  operand_word : (p : ℕ) → p + 5 ≤ length code → due e code (suc p) ≡ 4 → word 4 own (p + 1) ≡ word 4 code (p + 1)
  operand_word p l d =
      same_word 4 own code (p + 1)
      (λ j m.
      let q : suc p + j ≡ p + 1 + j = omega arith in
      let n : due e code (p + 1 + j) ≡ 4 - j = rw q at (due_inside e code p d j (omega arith)) in
      let z : eqb (due e code (p + 1 + j)) 0 ≡ false = eqb_other (due e code (p + 1 + j)) 0 (λ c. omega arith) in
      k.keys (p + 1 + j) (omega arith) ∙ ap (λ b. cond b (key_of e (byte code (p + 1 + j))) (byte code (p + 1 + j))) z)

  pub in_keys : (p : ℕ) (i : Instruction) → due e code p ≡ 0 → code_of e code p ≡ some i → p + size i ≤ length code
      → instruction_of (opcode_of key_table (byte own p)) (word 4 own (p + 1)) ≡ some i
  unfolding code_of
  in_keys p i d c l = go (opcode_at e code p) refl (sized e (byte code p))
    where
      w : ℕ
      w = word 4 code (p + 1)

      go : (o : Opcode) → opcode_at e code p ≡ o → Sized (opcode_at e code p) → instruction_of (opcode_of key_table (byte own p)) (word 4 own (p + 1)) ≡ some i
      go absent q s = none_some (sym (ap (λ o. instruction_of o w) q) ∙ c)
      go (bare j) q s =
          let y : some j ≡ some i = sym (ap (λ o. instruction_of o w) q) ∙ c in
          let z : size i ≡ 1 = subst (λ x. size x ≡ 1) (some_inj j i y) (subst Sized q s) in
          let t : opcode_of key_table (byte own p) ≡ bare j = opcode_key p (omega arith) d (ap is_absent q) ∙ q in
          ap (λ o. instruction_of o (word 4 own (p + 1))) t ∙ y
      go (wide f) q s =
          let y : some (f w) ≡ some i = sym (ap (λ o. instruction_of o w) q) ∙ c in
          let z : size i ≡ 5 = subst (λ x. size x ≡ 5) (some_inj (f w) i y) (subst Sized q s w) in
          let t : opcode_of key_table (byte own p) ≡ wide f = opcode_key p (omega arith) d (ap is_absent q) ∙ q in
          let n : due e code (suc p) ≡ 4 = due_suc e code p ∙ ap (λ x. due_after x (opcode_at e code p)) d ∙ ap operand_bytes q in
          ap (λ o. instruction_of o (word 4 own (p + 1))) t ∙ ap (λ x. some (f x)) (operand_word p (omega arith) n) ∙ y
