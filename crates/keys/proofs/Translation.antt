-- The table of edition 1 against what the code tests, by computing all 256 bytes; and the walk that puts code in keys.
use Prim.Native.Nat.{ℕ, zero, suc, ◌+◌, ◌-◌, ◌/◌, ◌%◌, ◌^◌, ◌≤◌, ◌<◌}
use native.Mathlib.Nat.{eq-or-lt_of_le}
use native.Mathlib.Numerals.{add-one}
use native.Mathlib.Omega.{arith}
use mathlib.Core.Path.{◌≡◌, refl, sym, ap, ◌∙◌, subst}
use mathlib.Core.Logic.{⊎_elim}
use mathlib.Core.Bool.{false, cond}
use mathlib.Core.List.{List}
use lib.ListN.{length, set, length-set}
use lib.Seq.{get_or-set_same, get_or-set_other}
use lib.Dec.{ltb, eqb}
use Rattle.rules.specs.Bytes.{byte, some_below}
use Rattle.rules.specs.Instructions.{Opcode, absent, bare, wide, edition1, opcode_of, operand_bytes}
use Rattle.rules.specs.Tables.{differs, due_after, due}
use Rattle.soundness.specs.Numbering.{key_of}
use Rattle.soundness.specs.Tests.{eqb_other}
use Rattle.soundness.specs.Readable.{none_below, same_numbers}
use Rattle.soundness.specs.Translated.{key_at, InKeys}
use Rattle.keys.specs.Keys.{with_word}

-- ---- the table

abbrev pub key_by_range : ℕ → ℕ
key_by_range b =
    cond (ltb b 5) b (cond (ltb b 14) (b + 6) (cond (ltb b 16) (b + 27) (cond (ltb b 35) (b + 6) (cond (ltb b 36) (b + 12) (cond (ltb b 38) (b + 9) 0)))))

keys_agree : some_below 256 (λ b. differs (key_by_range b) (key_of 1 b)) ≡ false
unfolding some_below
keys_agree = refl

pub key_by_range_lem : (b : ℕ) → b < 256 → key_by_range b ≡ key_of 1 b
key_by_range_lem b h = same_numbers (key_by_range b) (key_of 1 b) (none_below 256 (λ b. differs (key_by_range b) (key_of 1 b)) keys_agree b h)

abbrev pub operands_by_bits : ℕ → ℕ
operands_by_bits b = cond (ltb 37 b) 0 (cond (eqb (0x3fc00001a / 2 ^ b % 2) 1) 4 0)

operands_agree : some_below 256 (λ b. differs (operands_by_bits b) (operand_bytes (opcode_of edition1 b))) ≡ false
unfolding some_below
operands_agree = refl

operands_by_bits_lem : (b : ℕ) → b < 256 → operands_by_bits b ≡ operand_bytes (opcode_of edition1 b)
operands_by_bits_lem b h =
    same_numbers (operands_by_bits b) (operand_bytes (opcode_of edition1 b)) (none_below 256 (λ b. differs (operands_by_bits b) (operand_bytes (opcode_of edition1 b))) operands_agree b h)

-- ---- operand bytes due behind the byte b, where d were due before it

pub due_later : (d b : ℕ) → 0 < d → d - 1 ≡ due_after d (opcode_of edition1 b)
due_later zero b h = absurd (omega arith)
due_later (suc d) b h = omega arith

pub due_first : (d b n : ℕ) → d ≤ 0 → b < 256 → n ≡ operands_by_bits b → n ≡ due_after d (opcode_of edition1 b)
due_first zero b n h l e = e ∙ operands_by_bits_lem b l
due_first (suc d) b n h l e = absurd (omega arith)

-- ---- the walk, at place p with d operand bytes due

pub record Translating (code own₀ own : List ℕ) (p d : ℕ) : Type 0 where
  pub inside : p ≤ length code
  pub same : length own ≡ length own₀
  pub due_is : d ≡ due 1 code p
  pub keys : (q : ℕ) → q < p → byte own q ≡ key_at 1 code q

pub begins : (code own : List ℕ) → Translating code own own 0 0
unfolding due
begins code own = record { inside = omega arith; same = refl; due_is = refl; keys = λ q l. absurd (omega arith) }

module _ (code own₀ own : List ℕ) (p d : ℕ) (t : Translating code own₀ own p d) where
  -- a second loop goes on where the first stopped
  pub again : Translating code own own p d
  again = record { inside = t.inside; same = refl; due_is = t.due_is; keys = t.keys }

  pub goes_on : length code ≤ length own₀ → p < length code → (k d' : ℕ) → k ≡ cond (eqb d 0) (key_of 1 (byte code p)) (byte code p)
      → d' ≡ due_after d (opcode_of edition1 (byte code p)) → Translating code own₀ (set own p k) (p + 1) d'
  unfolding due
  goes_on l h k d' x y =
      record {
        inside = omega arith;
        same = length-set own p k ∙ t.same;
        due_is = y ∙ ap (λ n. due_after n (opcode_of edition1 (byte code p))) t.due_is ∙ sym (ap (due 1 code) (add-one p));
        keys = λ q m.
            ⊎_elim
            (λ e. let z : q ≡ p = e in rw z (get_or-set_same own p k 0 (omega (arith, t.same)) ∙ x ∙ ap (λ n. cond (eqb n 0) (key_of 1 (byte code p)) (byte code p)) t.due_is))
            (λ j. get_or-set_other own p q k 0 (λ e. let z : q ≡ p = e in omega arith) ∙ t.keys q j) (eq-or-lt_of_le (let z : q ≤ p = omega arith in z));
      }

  pub ended : length code ≤ length own₀ → length code ≤ p → InKeys 1 code own
  ended l h = record { long = omega (arith, t.same); keys = λ q m. t.keys q (omega arith) }

-- an opcode that no word follows
pub no_word : (o : Opcode) (d : ℕ) → d ≡ operand_bytes o → (d ≡ 4 → ⊥) → d ≡ 0
no_word absent d e n = e
no_word (bare i) d e n = e
no_word (wide i) d e n = absurd (n e)

-- a word behind its opcode
pub word_copied : (code own₀ own : List ℕ) (p : ℕ) → Translating code own₀ own p 4 → length code ≤ length own₀ → p + 4 ≤ length code
    → Translating code own₀ (with_word code own p) (p + 4) 0
word_copied code own₀ own p t l h =
    next _ (p + 3) (p + 4) 0 (next _ (p + 2) (p + 3) 1 (next _ (p + 1) (p + 2) 2 (next own p (p + 1) 3 t (omega arith) refl) (omega arith) (omega arith)) (omega arith) (omega arith)) (omega arith) (omega arith)
  where
    next : (own : List ℕ) (q q' d : ℕ) → Translating code own₀ own q (suc d) → q < length code → q + 1 ≡ q' → Translating code own₀ (set own q (byte code q)) q' d
    next own q q' d t h e =
        subst (λ n. Translating code own₀ (set own q (byte code q)) n d) e
        (goes_on code own₀ own q (suc d) t l h (byte code q) d (sym (ap (λ z. cond z (key_of 1 (byte code q)) (byte code q)) (eqb_other (suc d) 0 (λ e. omega arith)))) refl)
