-- Bytes put by numbers, one behind the other, and a copy by numbers of eight bytes.
use Prim.Native.Nat.{ℕ, ◌+◌, ◌-◌, ◌≤◌, ◌<◌}
use native.Mathlib.Omega.{arith}
use mathlib.Core.Path.{◌≡◌, refl, sym, ap, ◌∙◌}
use mathlib.Core.List.{List, ◌++◌, append_assoc, append-nil}
use lib.ListN.{length, get_or, take, drop, length-append, length-drop, drop_of_length-le}
use lib.Seq.{take_at, take_all, take-append-le, drop_at, drop-drop, take-add, take-take, length-take-le}
use Rattle.rules.specs.Bytes.{bytes, word, written}
use Rattle.memory.proofs.Copies.{word_bytes}

-- P stands at the front of what was `out`: m bytes more behind it
pub behind : (o P new out : List ℕ) (a m : ℕ) → o ≡ P ++ drop a out → length P ≡ a → take a o ++ (new ++ drop (a + m) o) ≡ (P ++ new) ++ drop (a + m) out
behind o P new out a m q h =
    let front : take a o ≡ P = ap (take a) q ∙ take_at P (drop a out) a h in
    let rest : drop (a + m) o ≡ drop (a + m) out = sym (drop-drop m a o) ∙ ap (drop m) (ap (drop a) q ∙ drop_at P (drop a out) a h) ∙ drop-drop m a out in
    rw (front, rest) (sym (append_assoc P new (drop (a + m) out)))

-- what is put keeps the length
pub kept : (o P out : List ℕ) (a : ℕ) → o ≡ P ++ drop a out → length P ≡ a → a ≤ length out → length o ≡ length out
kept o P out a q h l = let x : length (drop a out) ≡ length out - a = length-drop a out in omega (arith, ap length q, length-append P (drop a out))

-- a number stored behind it
pub word_behind : (o P out : List ℕ) (a m v : ℕ) (new : List ℕ) → o ≡ P ++ drop a out → length P ≡ a → bytes m v ≡ new → written m o a v ≡ (P ++ new) ++ drop (a + m) out
unfolding written
word_behind o P out a m v new q h e = ap (λ (x : List ℕ). take a o ++ (x ++ drop (a + m) o)) e ∙ behind o P new out a m q h

-- ---- a copy by numbers of eight bytes

module _ (s d : List ℕ) (small : (i : ℕ) → get_or s i 0 < 256) where
  pub copy_none : d ≡ take 0 s ++ drop 0 d
  copy_none = refl

  pub copy_more : (o : List ℕ) (i : ℕ) → o ≡ take i s ++ drop i d → i + 8 ≤ length s → length d ≡ length s → (v : ℕ) → v ≡ word 8 s i → (o' : List ℕ) → o' ≡ written 8 o i v
      → (o' ≡ take (i + 8) s ++ drop (i + 8) d) × (length o' ≡ length d)
  copy_more o i q l e v w o' r =
      let t : length (take i s) ≡ i = length-take-le i s (omega arith) in
      let g : o' ≡ take (i + 8) s ++ drop (i + 8) d =
      r ∙ word_behind o (take i s) d i 8 v (take 8 (drop i s)) q t (ap (bytes 8) w ∙ word_bytes s small 8 i l)
      ∙ ap (λ (x : List ℕ). x ++ drop (i + 8) d) (sym (take-add i 8 s)) in
      (g, kept o' (take (i + 8) s) d (i + 8) g (length-take-le (i + 8) s (omega arith)) (omega arith))

  -- m bytes more, copied as they are
  pub part_more : (o : List ℕ) (i m : ℕ) → o ≡ take i s ++ drop i d → i + m ≤ length s → length d ≡ length s → (o' : List ℕ) → o' ≡ take i o ++ (take m (drop i s) ++ drop m (drop i o))
      → (o' ≡ take (i + m) s ++ drop (i + m) d) × (length o' ≡ length d)
  part_more o i m q l e o' r =
      let t : length (take i s) ≡ i = length-take-le i s (omega arith) in
      let g : o' ≡ take (i + m) s ++ drop (i + m) d =
      r ∙ ap (λ (x : List ℕ). take i o ++ (take m (drop i s) ++ x)) (drop-drop m i o) ∙ behind o (take i s) (take m (drop i s)) d i m q t ∙ ap (λ (x : List ℕ). x ++ drop (i + m) d) (sym (take-add i m s)) in
      (g, kept o' (take (i + m) s) d (i + m) g (length-take-le (i + m) s (omega arith)) (omega arith))

  -- the last eight, from a place that is reached
  pub copy_last : (o : List ℕ) (i : ℕ) → o ≡ take i s ++ drop i d → 8 ≤ length s → length s - 8 ≤ i → i ≤ length s → length d ≡ length s → (v : ℕ) → v ≡ word 8 s (length s - 8)
      → (o' : List ℕ) → o' ≡ written 8 o (length s - 8) v → o' ≡ s
  unfolding written
  copy_last o i q l h u e v w o' r =
      let a : ℕ = length s - 8 in
      let n : a + 8 ≡ length s = omega arith in
      let t : length (take i s) ≡ i = length-take-le i s u in
      let len : length o ≡ length s = kept o (take i s) d i q t (omega arith) ∙ e in
      let front : take a o ≡ take a s = ap (take a) q ∙ take-append-le a (take i s) (drop i d) (omega arith) ∙ take-take a i s h in
      let none : length o ≤ a + 8 = omega arith in
      let all : length s ≤ a + 8 = omega arith in
      let b : bytes 8 v ≡ take 8 (drop a s) = ap (bytes 8) w ∙ word_bytes s small 8 a (omega arith) in
      r ∙ ap (λ (x : List ℕ). x ++ (bytes 8 v ++ drop (a + 8) o)) front ∙ ap (λ (x : List ℕ). take a s ++ (x ++ drop (a + 8) o)) b
      ∙ ap (λ (x : List ℕ). take a s ++ (take 8 (drop a s) ++ x)) (drop_of_length-le o none)
      ∙ ap (λ (x : List ℕ). take a s ++ x) (append-nil (take 8 (drop a s))) ∙ sym (take-add a 8 s) ∙ take_all (a + 8) s all
