-- A record that holds is the record of its lists: the bytes that `lists_of` reads nothing from are fixed by `Holds`.
use Rattle.std.specs.Prelude.{◌≡◌, ◌⊎◌, Bool, true, false, List, [], ◌∷◌, ◌++◌, ltb}
use Rattle.std.proofs.Math.Path.{refl, sym, ap}
use Rattle.std.proofs.Common.{◌∙◌, inl, inr, get_or-append-add, ltb→lt, nltb→le}
use Prim.Native.Nat.{ℕ, zero, suc, ◌+◌, ◌-◌, ◌≤◌, ◌<◌}
use native.Mathlib.Omega.{arith}
use Rattle.std.proofs.Math.ListN.{length, get_or, length-append, get_or-append}
use Rattle.std.proofs.lemmas.List.{length-replicate, get_or-replicate, get_or_at}
use Rattle.std.proofs.Math.Seq.{ext_get_or}
use Rattle.rules.specs.Bytes.{byte, zeros, padded}
use Rattle.rules.specs.Instructions.{ty_of, type_byte}
use Rattle.rules.specs.Tables.{params_from}
use Rattle.rules.specs.Check.{types_up, record_bytes}
use Rattle.soundness.specs.Readable.{params_length}
use Rattle.records.specs.Record.{lists_of, IsType, Holds}

split : (i n : ℕ) → (i < n) ⊎ (n ≤ i)
split i n = go (ltb i n) refl
  where
    go : (b : Bool) → ltb i n ≡ b → (i < n) ⊎ (n ≤ i)
    go true e = inl (ltb→lt i n (rw e tt))
    go false e = inr (nltb→le i n (rw e tt))

-- the byte j of what follows n bytes
get_or_after : (xs ys : List ℕ) (n i j : ℕ) → length xs ≡ n → i ≡ n + j → get_or (xs ++ ys) i 0 ≡ get_or ys j 0
get_or_after xs ys n i j e h = let q : i ≡ length xs + j = omega arith in ap (λ k. get_or (xs ++ ys) k 0) q ∙ get_or-append-add xs ys j 0

-- ---- n types from byte a on, filled up to `room` bytes

module _ (r : List ℕ) (a : ℕ) where
  types : ℕ → List ℕ
  types n = types_up (params_from r a n)

  types_length : (n : ℕ) → length (types n) ≡ n
  unfolding types
  types_length zero = refl
  types_length (suc n) =
      let t : ℕ = type_byte (ty_of (byte r (a + n))) in
      let x : length (types n ++ (t ∷ [])) ≡ length (types n) + 1 = length-append (types n) (t ∷ []) in
      let y : length (types n) ≡ n = types_length n in omega arith

  types_at : (n i : ℕ) → i < n → get_or (types n) i 0 ≡ type_byte (ty_of (byte r (a + i)))
  unfolding types
  types_at zero i h = absurd (omega arith)
  types_at (suc n) i h = go (split i n) (types_at n i)
    where
      t : ℕ
      t = type_byte (ty_of (byte r (a + n)))

      go : (i < n) ⊎ (n ≤ i) → (i < n → get_or (types n) i 0 ≡ type_byte (ty_of (byte r (a + i)))) → get_or (types n ++ (t ∷ [])) i 0 ≡ type_byte (ty_of (byte r (a + i)))
      go (inl l) ih = let y : length (types n) ≡ n = types_length n in get_or-append (types n) (t ∷ []) 0 i (omega arith) ∙ ih l
      go (inr l) ih = let q : i ≡ n = omega arith in rw q (get_or_at (types n) t [] 0 n (types_length n))

  module _ (n room : ℕ) (few : n ≤ room) where
    padded_length : length (padded room (types n)) ≡ room
    padded_length =
        let x : length (types n ++ zeros (room - length (types n))) ≡ length (types n) + length (zeros (room - length (types n))) = length-append (types n) (zeros (room - length (types n))) in
        let y : length (zeros (room - length (types n))) ≡ room - length (types n) = length-replicate (room - length (types n)) 0 in
        let z : length (types n) ≡ n = types_length n in omega arith

    padded_at : ((i : ℕ) → i < n → IsType (byte r (a + i))) → ((i : ℕ) → n ≤ i → i < room → byte r (a + i) ≡ 0) → (i : ℕ) → i < room → byte r (a + i) ≡ get_or (padded room (types n)) i 0
    padded_at kinds rest i h = go (split i n)
      where
        go : (i < n) ⊎ (n ≤ i) → byte r (a + i) ≡ get_or (padded room (types n)) i 0
        go (inl l) =
            let z : length (types n) ≡ n = types_length n in sym (get_or-append (types n) (zeros (room - length (types n))) 0 i (omega arith) ∙ types_at n i l ∙ kinds i l)
        go (inr l) =
            let z : length (types n) ≡ n = types_length n in
            let j : ℕ = i - n in
            let q : i ≡ n + j = omega arith in
            rest i l h ∙ sym (get_or_after (types n) (zeros (room - length (types n))) n i j z q ∙ get_or-replicate (room - length (types n)) j 0 0 (omega arith))

-- ---- the record

module _ (r : List ℕ) (h : Holds r) where
  pub holds_few : (length (lists_of r).locals ≤ 16) × (length (lists_of r).operands ≤ 32)
  holds_few =
      let x : length (params_from r 16 (byte r 1)) ≡ byte r 1 = params_length r 16 (byte r 1) in
      let y : length (params_from r 32 (byte r 2)) ≡ byte r 2 = params_length r 32 (byte r 2) in
      let u : byte r 1 ≤ 16 = h.few_locals in
      let v : byte r 2 ≤ 32 = h.few_operands in (omega arith, omega arith)

  head : List ℕ
  head = 1 ∷ length (lists_of r).locals ∷ length (lists_of r).operands ∷ zeros 13

  head_at : (i : ℕ) → i < 16 → byte r i ≡ get_or head i 0
  unfolding head
  head_at zero l = h.given
  head_at (suc zero) l = sym (params_length r 16 (byte r 1))
  head_at (suc (suc zero)) l = sym (params_length r 32 (byte r 2))
  head_at (suc (suc (suc i))) l = h.gap (suc (suc (suc i))) (omega arith) l ∙ sym (get_or-replicate 13 i 0 0 (omega arith))

  head_length : length head ≡ 16
  unfolding head
  head_length = refl

  locals_bytes : List ℕ
  locals_bytes = padded 16 (types r 16 (byte r 1))

  operand_byte_list : List ℕ
  operand_byte_list = padded 32 (types r 32 (byte r 2))

  locals_length : length locals_bytes ≡ 16
  unfolding locals_bytes
  locals_length = padded_length r 16 (byte r 1) 16 h.few_locals

  operands_length : length operand_byte_list ≡ 32
  unfolding operand_byte_list
  operands_length = padded_length r 32 (byte r 2) 32 h.few_operands

  byte_at : (i : ℕ) → i < 64 → byte r i ≡ get_or (head ++ (locals_bytes ++ operand_byte_list)) i 0
  unfolding locals_bytes operand_byte_list
  byte_at i l = go (split i 16) (split i 32)
    where
      go : (i < 16) ⊎ (16 ≤ i) → (i < 32) ⊎ (32 ≤ i) → byte r i ≡ get_or (head ++ (locals_bytes ++ operand_byte_list)) i 0
      go (inl u) y =
          let n : length head ≡ 16 = head_length in head_at i u ∙ sym (get_or-append head (locals_bytes ++ operand_byte_list) 0 i (omega arith))
      go (inr u) (inl v) =
          let j : ℕ = i - 16 in
          let q : i ≡ 16 + j = omega arith in
          let n : length locals_bytes ≡ 16 = locals_length in
          ap (byte r) q ∙ padded_at r 16 (byte r 1) 16 h.few_locals h.local_types h.local_rest j (omega arith)
          ∙ sym (get_or_after head (locals_bytes ++ operand_byte_list) 16 i j head_length q ∙ get_or-append locals_bytes operand_byte_list 0 j (omega arith))
      go (inr u) (inr v) =
          let j : ℕ = i - 32 in
          let q : i ≡ 32 + j = omega arith in
          ap (byte r) q ∙ padded_at r 32 (byte r 2) 32 h.few_operands h.operand_types h.operand_rest j (omega arith)
          ∙ sym (get_or_after head (locals_bytes ++ operand_byte_list) 16 i (16 + j) head_length (omega arith) ∙ get_or_after locals_bytes operand_byte_list 16 (16 + j) j locals_length refl)

  pub holds_record : r ≡ record_bytes (lists_of r)
  unfolding record_bytes types head locals_bytes operand_byte_list
  holds_record =
      let c : length (head ++ (locals_bytes ++ operand_byte_list)) ≡ length head + length (locals_bytes ++ operand_byte_list) = length-append head (locals_bytes ++ operand_byte_list) in
      let d : length (locals_bytes ++ operand_byte_list) ≡ length locals_bytes + length operand_byte_list = length-append locals_bytes operand_byte_list in
      let x : length head ≡ 16 = head_length in
      let y : length locals_bytes ≡ 16 = locals_length in
      let z : length operand_byte_list ≡ 32 = operands_length in
      let w : length r ≡ 64 = h.long in
      ext_get_or 0 r (head ++ (locals_bytes ++ operand_byte_list)) (omega arith) (λ i l. byte_at i (omega arith))
