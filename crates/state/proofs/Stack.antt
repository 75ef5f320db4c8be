-- Laws of the stack that lent memory holds: length, push, pop, at, put, under; and of operands taken from it.
use Prim.Native.Nat.{ℕ, zero, suc, ◌+◌, ◌*◌, ◌-◌, ◌^◌, ◌≤◌, ◌<◌}
use native.Mathlib.Omega.{arith}
use native.Mathlib.Numerals.{add-one}
use mathlib.Core.Bool.{Bool, true, false}
use mathlib.Core.Option.{none, some}
use mathlib.Core.Path.{◌≡◌, refl, sym, ap, ◌∙◌}
use mathlib.Core.Logic.{◌⊎◌, inl, inr, ⊎_elim}
use mathlib.Core.List.{List, ◌∷◌}
use lib.Dec.{ltb}
use lib.ListN.{length}
use lib.Seq.{get_or-set_same, get_or-set_other}
use borrow.Author.Tests.{ltb-true, ltb-false, lt-ltb, le-ltb, le-leb, lt-leb, eq-eqb, ne_eqb}
use Rattle.rules.specs.declared.Slot.{Slot}
use Rattle.rules.specs.Stack.{slot_at, slots_of, at, put, under}
use Rattle.rules.specs.Machine.{Next, stops, take1, take2}
use Rattle.memory.proofs.Words.{word_written_same, word_written_below, word_written_above}
use Rattle.state.specs.Slots.{payloads_with, types_with}

pub split_lt : (i n : ℕ) → (i < n) ⊎ (n ≤ i)
split_lt i n = go (ltb i n) refl
  where
    go : (b : Bool) → ltb i n ≡ b → (i < n) ⊎ (n ≤ i)
    go true e = inl (ltb-true i n e)
    go false e = inr (ltb-false i n e)

module _ (p t : List ℕ) where
  pub length_slots : (n : ℕ) → length (slots_of p t n) ≡ n
  unfolding slots_of
  length_slots zero = refl
  length_slots (suc n) = ap suc (length_slots n)

  -- a stack that is not empty
  pub slots_top : (n : ℕ) → 0 < n → slots_of p t n ≡ slot_at p t (n - 1) ∷ slots_of p t (n - 1)
  unfolding slots_of
  slots_top zero h = absurd (omega arith)
  slots_top (suc n) h = let e : suc n - 1 ≡ n = omega arith in rw e refl

  pub at_slots : (n i : ℕ) → i < n → at (slots_of p t n) i ≡ some (slot_at p t i)
  unfolding slots_of
  at_slots zero i h = absurd (omega arith)
  at_slots (suc n) i h =
      ⊎_elim
      (λ (l : i < n). rw (length_slots n, ne_eqb i n (λ e. omega arith)) (at_slots n i l))
      (λ (l : n ≤ i). let e : i ≡ n = omega arith in rw (length_slots n, eq-eqb i n e) (ap (λ (j : ℕ). some (slot_at p t j)) (sym e)))
      (split_lt i n)

  pub at_slots_out : (n i : ℕ) → n ≤ i → at (slots_of p t n) i ≡ none
  unfolding slots_of
  at_slots_out zero i h = refl
  at_slots_out (suc n) i h = rw (length_slots n, ne_eqb i n (λ e. omega arith)) (at_slots_out n i (omega arith))

  pub under_slots : (n b : ℕ) → b ≤ n → under b (slots_of p t n) ≡ slots_of p t b
  unfolding slots_of
  under_slots zero b h = let e : b ≡ 0 = omega arith in rw e refl
  under_slots (suc n) b h =
      ⊎_elim
      (λ (l : n < b). let e : b ≡ suc n = omega arith in rw (length_slots n, lt-ltb n b l) (rw e refl))
      (λ (l : b ≤ n). rw (length_slots n, le-ltb n b l) (under_slots n b l))
      (split_lt n b)

  -- one operand: too few, or the top slot with the stack under it
  pub take1_short : (fl n : ℕ) (k : Slot → List Slot → Next) → n < fl + 1 → take1 fl (slots_of p t n) k ≡ stops 21
  unfolding slots_of
  take1_short fl zero k h = refl
  take1_short fl (suc n) k h = rw (length_slots n, lt-leb fl n (omega arith)) refl

  pub take1_has : (fl n : ℕ) (k : Slot → List Slot → Next) → fl + 1 ≤ n → take1 fl (slots_of p t n) k ≡ k (slot_at p t (n - 1)) (slots_of p t (n - 1))
  unfolding slots_of
  take1_has fl zero k h = absurd (omega arith)
  take1_has fl (suc n) k h = let e : suc n - 1 ≡ n = omega arith in rw (length_slots n, le-leb fl n (omega arith), e) refl

  -- two operands
  pub take2_short : (fl n : ℕ) (k : Slot → Slot → List Slot → Next) → n < fl + 2 → take2 fl (slots_of p t n) k ≡ stops 21
  take2_short fl n k h =
      ⊎_elim
      (λ (l : n < fl + 1). take1_short fl n _ l)
      (λ (l : fl + 1 ≤ n). take1_has fl n _ l ∙ take1_short fl (n - 1) _ (omega arith))
      (split_lt n (fl + 1))

  pub take2_has : (fl n : ℕ) (k : Slot → Slot → List Slot → Next) → fl + 2 ≤ n
      → take2 fl (slots_of p t n) k ≡ k (slot_at p t (n - 2)) (slot_at p t (n - 1)) (slots_of p t (n - 2))
  take2_has fl n k h =
      let e : n - 1 - 1 ≡ n - 2 = omega arith in
      take1_has fl n _ (omega arith) ∙ take1_has fl (n - 1) _ (omega arith) ∙ rw e refl

-- v written to slot i
module _ (p t : List ℕ) (i : ℕ) (v : Slot) (hp : i * 8 + 8 ≤ length p) (ht : i < length t) where
  slot_at_other : (j : ℕ) → (j ≡ i → ⊥) → slot_at (payloads_with p i v) (types_with t i v) j ≡ slot_at p t j
  unfolding slot_at payloads_with types_with
  slot_at_other j ne =
      ⊎_elim
      (λ (l : j < i). rw (get_or-set_other t i j v.kind 0 ne, word_written_below 8 8 p (i * 8) v.payload (j * 8) (omega arith) (omega arith)))
      (λ (l : i ≤ j). rw (get_or-set_other t i j v.kind 0 ne, word_written_above 8 8 p (i * 8) v.payload (j * 8) (omega arith) (omega arith)))
      (split_lt j i)

  slot_at_same : v.payload < 2 ^ 64 → slot_at (payloads_with p i v) (types_with t i v) i ≡ v
  unfolding slot_at payloads_with types_with
  slot_at_same f = rw (get_or-set_same t i v.kind 0 ht, word_written_same 8 p (i * 8) v.payload hp f)

  pub slots_keep : (n : ℕ) → n ≤ i → slots_of (payloads_with p i v) (types_with t i v) n ≡ slots_of p t n
  unfolding slots_of
  slots_keep zero h = refl
  slots_keep (suc n) h = let ne : n ≡ i → ⊥ = λ e. omega arith in rw (slots_keep n (omega arith), slot_at_other n ne)

  pub slots_push : v.payload < 2 ^ 64 → slots_of (payloads_with p i v) (types_with t i v) (i + 1) ≡ v ∷ slots_of p t i
  unfolding slots_of
  slots_push f = rw (add-one, slots_keep i (omega arith), slot_at_same f)

  pub slots_put : v.payload < 2 ^ 64 → (n : ℕ) → i < n → slots_of (payloads_with p i v) (types_with t i v) n ≡ put (slots_of p t n) i v
  unfolding slots_of
  slots_put f zero h = absurd (omega arith)
  slots_put f (suc n) h =
      ⊎_elim
      (λ (l : i < n). let ne : n ≡ i → ⊥ = λ e. omega arith in
      rw (length_slots p t n, ne_eqb i n (λ e. omega arith)) (rw (slots_put f n l, slot_at_other n ne) refl))
      (λ (l : n ≤ i). let e : i ≡ n = omega arith in
      rw (length_slots p t n, eq-eqb i n e) (rw (slots_keep n (omega arith), ← e, slot_at_same f) refl))
      (split_lt i n)
