-- The keys of the instructions that may need a heap.
use Prim.Native.Nat.{ℕ, zero, suc, ◌+◌, ◌≤◌}
use native.Mathlib.Omega.{arith}
use mathlib.Core.Path.{◌≡◌, refl, sym, ap, ◌∙◌, subst}
use mathlib.Core.Bool.{Bool, true, false, ◌&&◌, ◌||◌, true≢false}
use mathlib.Core.Logic.{inl, inr}
use mathlib.Core.Option.{some}
use mathlib.Core.List.{List, [], ◌∷◌}
use lib.ListN.{length, get_or}
use types.Run.{OneOf}
use Rattle.rules.specs.declared.Instruction.{Instruction}
use Rattle.rules.specs.declared.Instruction.TheVariants.{New}
use Rattle.rules.specs.Bytes.{byte, word}
use Rattle.rules.specs.Instructions.{Opcode, absent, bare, wide, opcode_of, instruction_of, size}
use Rattle.soundness.specs.Tests.{none_some, some_inj, and_both}
use Rattle.soundness.specs.Walks.{size_some}
use Rattle.soundness.specs.Framed.{heapless}
use Rattle.soundness.specs.Numbering.{key_table}
use Rattle.keys.specs.Keys.{decoded, Says, Outside, each, among_any}
use Rattle.std.specs.Prelude.{Some, None}
use Rattle.std.specs.declared.option.Option.{Option}
use Rattle.keys.proofs.Places.{at_end_lem, at_key, says_key}
use Rattle.keys.proofs.Chain.{outside}

-- ---- the instruction at a place, by its key

-- its key, as it is decoded, is its byte
pub byte_is : (code : List ℕ) (q stop b : ℕ) → decoded code q stop ≡ Some b → (i : Instruction) → Says code q i → byte code q ≡ b
byte_is code q stop b e i s = sym (says_key code q i s) ∙ sym (at_key code q stop b e).1

-- where one that needs a heap is known to stand
pub byte_at : (code : List ℕ) (q stop b : ℕ) {x : Option ℕ} → x ≡ decoded code q stop → x ≡ Some b → (i : Instruction) × Says code q i × (heapless i ≡ false)
    → byte code q ≡ b
byte_at code q stop b e is s = byte_is code q stop b (sym e ∙ is) s.0 s.1

-- j of the word behind it, which one that stands alone does not read
module _ (code : List ℕ) (q k : ℕ) (j : ℕ → Instruction) (key : byte code q ≡ k) (is : (w : ℕ) → instruction_of (opcode_of key_table k) w ≡ some (j w)) (i : Instruction) (s : Says code q i) where
  pub said : j (word 4 code (q + 1)) ≡ i
  said =
      some_inj (j (word 4 code (q + 1))) i
      (sym (is (word 4 code (q + 1))) ∙ ap (λ (n : ℕ). instruction_of (opcode_of key_table n) (word 4 code (q + 1))) (sym key) ∙ s.is)

  -- its bytes are there
  pub said_whole : (n : ℕ) → ((w : ℕ) → size (j w) ≡ n) → q + n ≤ length code
  said_whole n e =
      subst (λ (x : ℕ). q + x ≤ length code) (e (word 4 code (q + 1))) (subst (λ (x : Instruction). q + size x ≤ length code) (sym said) s.whole)

-- `new` or `gcnew`
abbrev pub new_keys : List ℕ
new_keys = 49 ∷ 52 ∷ []

pub new_whole : (code : List ℕ) (q n : ℕ) (i : Instruction) → byte code q ≡ n → OneOf new_keys n → Says code q i → q + 5 ≤ length code
new_whole code q n i key (inl e) s = said_whole code q 49 (New false) (key ∙ e) (λ w. refl) i s 5 (λ w. refl)
new_whole code q n i key (inr e) s = said_whole code q 52 (New true) (key ∙ e) (λ w. refl) i s 5 (λ w. refl)

-- ---- there are no others

-- the arms of `step`, the last one first
abbrev pub heap_keys : List (List ℕ)
heap_keys = (51 ∷ []) ∷ (50 ∷ []) ∷ new_keys ∷ each (48 ∷ 21 ∷ 20 ∷ 8 ∷ 7 ∷ 6 ∷ [])

-- of an opcode with the word w behind it
abbrev heapless_at : ℕ → Opcode → Bool
heapless_at w absent = true
heapless_at w (bare i) = heapless i
heapless_at w (wide j) = heapless (j w)

heapless_is : (o : Opcode) (w : ℕ) (i : Instruction) → instruction_of o w ≡ some i → heapless i ≡ heapless_at w o
heapless_is absent w i e = none_some e
heapless_is (bare j) w i e = ap heapless (sym (some_inj j i e))
heapless_is (wide j) w i e = ap heapless (sym (some_inj (j w) i e))

-- every opcode of a table from key n on, but for these keys
abbrev all_but : List (List ℕ) → ℕ → ℕ → List Opcode → Bool
all_but ks w n [] = true
all_but ks w n (o ∷ os) = (among_any n ks || heapless_at w o) && all_but ks w (suc n) os

all_at : (ks : List (List ℕ)) (w n : ℕ) (t : List Opcode) → all_but ks w n t ≡ true → (i : ℕ) → among_any (n + i) ks ≡ false → heapless_at w (get_or t i absent) ≡ true
all_at ks w n [] h i e = refl
all_at ks w n (o ∷ os) h zero e =
    let q : n + 0 ≡ n = omega arith in
    rw (sym (ap (λ (x : ℕ). among_any x ks) q) ∙ e) at (and_both (among_any n ks || heapless_at w o) (all_but ks w (suc n) os) h).0
all_at ks w n (o ∷ os) h (suc i) e =
    let q : n + suc i ≡ suc n + i = omega arith in
    all_at ks w (suc n) os (and_both (among_any n ks || heapless_at w o) (all_but ks w (suc n) os) h).1 i (sym (ap (λ (x : ℕ). among_any x ks) q) ∙ e)

all_keys : (w : ℕ) → all_but heap_keys w 0 key_table ≡ true
all_keys w = refl

pub no_other : {P : Type 0} (code : List ℕ) (q b : ℕ) (i : Instruction) → b ≡ byte code q → Outside b heap_keys → Says code q i → heapless i ≡ false → P
no_other code q b i e o s h =
    let w : ℕ = word 4 code (q + 1) in
    let z : b ≡ 0 + byte code q = e ∙ omega arith in
    let none_of : among_any (0 + byte code q) heap_keys ≡ false = subst (λ (n : ℕ). among_any n heap_keys ≡ false) z (outside b heap_keys o) in
    absurd (true≢false (sym (all_at heap_keys w 0 key_table (all_keys w) (byte code q) none_of) ∙ sym (heapless_is (opcode_of key_table (byte code q)) w i s.is) ∙ h))

-- an instruction has a byte
pub starts_inside : (code : List ℕ) (q : ℕ) (i : Instruction) → Says code q i → q + 1 ≤ length code
starts_inside code q i s = omega (arith, s.whole, size_some i)

-- and a body that goes on behind it does not end before it
pub no_end : {P : Type 0} (code : List ℕ) (q : ℕ) → decoded code q (q + 1) ≡ None → P
no_end code q e = absurd (let z : q + 1 ≤ q = at_end_lem code q (q + 1) e in omega arith)
