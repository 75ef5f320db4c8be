-- 02, A7: function tables of editions 3 and 4 that differ in zero profile words alone, and that what is read from them is the same.
use Rattle.std.specs.Prelude.{◌≡◌, length, get_or, drop, ltb}
use Rattle.std.proofs.Math.Path.{refl, sym, ap}
use Rattle.std.proofs.Common.{◌∙◌, length-append, length-drop, take_all, take_at, drop_at, get_or-take, get_or-drop, drop-drop, take-add}
use Prim.Native.Nat.{ℕ, zero, suc, ◌+◌, ◌*◌, ◌≤◌, ◌<◌}
use native.Mathlib.Omega.{arith}
use mathlib.Core.List.{List, [], ◌∷◌, ◌++◌, append_assoc, append-nil}
use Rattle.std.proofs.Math.ListN.{take}
use Rattle.std.proofs.lemmas.List.{take-append-le, drop-append-le}
use Rattle.memory.proofs.Words.{word_4, word_out}
use Rattle.rules.specs.Bytes.{number, cut, byte, word, zeros}
use Rattle.rules.specs.Tables.{function_count, function_at}
use Rattle.rules.specs.Converting.{raised, lowered}
use Rattle.soundness.specs.Tests.{decide, ltb_is, ltb_isnt}
use Rattle.soundness.specs.Cutting.{length_cut}

-- ---- parts of lists

-- a part of the front
cut_front : (p q : List ℕ) (a n : ℕ) → a + n ≤ length p → cut (p ++ q) a n ≡ cut p a n
cut_front p q a n h =
    ap (take n) (drop-append-le a p q (omega arith)) ∙ take-append-le n (drop a p) q (simp length-drop (omega arith))

-- a part that stands between two others
cut_between : (p q r : List ℕ) (a n : ℕ) → length p ≡ a → length q ≡ n → cut (p ++ (q ++ r)) a n ≡ q
cut_between p q r a n h k = ap (take n) (drop_at p (q ++ r) a h) ∙ take_at q r n k

-- bytes whose number is 0 are zeros
all_zero : (l : List ℕ) → number l ≡ 0 → l ≡ zeros (length l)
all_zero [] e = refl
all_zero (b ∷ l) e =
    let z : b ≡ 0 = omega arith in
    let r : l ≡ zeros (length l) = all_zero l (omega arith) in
    rw z (ap (λ (x : List ℕ). 0 ∷ x) r)

-- ---- the pair: n records each, those of edition 4 with a zero word behind

pub record Paired (n : ℕ) (fs gs : List ℕ) : Type 0 where
  pub short : length fs ≡ 20 * n
  pub long : length gs ≡ 24 * n
  pub same : (i : ℕ) → i < n → cut gs (function_at 4 i) 20 ≡ cut fs (function_at 3 i) 20
  pub blank : (i : ℕ) → i < n → cut gs (function_at 4 i + 20) 4 ≡ zeros 4

-- ---- raised records

-- they are as long as records of edition 4
raised_length : (n : ℕ) (fs : List ℕ) → 20 * n ≤ length fs → length (raised n fs) ≡ 24 * n
unfolding raised
raised_length zero fs h = refl
raised_length (suc n) fs h =
    let r : length (raised n fs) ≡ 24 * n = raised_length n fs (omega arith) in
    let c : length (cut fs (20 * n) 20) ≡ 20 = length_cut fs (20 * n) 20 (omega arith) in
    simp length-append (omega arith)

-- each begins with the old one
raised_same : (n : ℕ) (fs : List ℕ) → 20 * n ≤ length fs → (i : ℕ) → i < n → cut (raised n fs) (24 * i) 20 ≡ cut fs (20 * i) 20
unfolding raised
raised_same zero fs h i l = absurd (omega arith)
raised_same (suc n) fs h i l =
    let r : length (raised n fs) ≡ 24 * n = raised_length n fs (omega arith) in
    let c : length (cut fs (20 * n) 20) ≡ 20 = length_cut fs (20 * n) 20 (omega arith) in
    decide (ltb i n)
    (λ y. let k : i < n = ltb_is i n y in
    cut_front (raised n fs) (cut fs (20 * n) 20 ++ zeros 4) (24 * i) 20 (omega arith) ∙ raised_same n fs (omega arith) i k)
    (λ y. let k : n ≤ i = ltb_isnt i n y in
    let q : i ≡ n = omega arith in
    rw q (cut_between (raised n fs) (cut fs (20 * n) 20) (zeros 4) (24 * n) 20 r c))

-- and ends with a zero word
raised_blank : (n : ℕ) (fs : List ℕ) → 20 * n ≤ length fs → (i : ℕ) → i < n → cut (raised n fs) (24 * i + 20) 4 ≡ zeros 4
unfolding raised
raised_blank zero fs h i l = absurd (omega arith)
raised_blank (suc n) fs h i l =
    let x : List ℕ = cut fs (20 * n) 20 in
    let r : length (raised n fs) ≡ 24 * n = raised_length n fs (omega arith) in
    let c : length x ≡ 20 = length_cut fs (20 * n) 20 (omega arith) in
    decide (ltb i n)
    (λ y. let k : i < n = ltb_is i n y in
    cut_front (raised n fs) (x ++ zeros 4) (24 * i + 20) 4 (omega arith) ∙ raised_blank n fs (omega arith) i k)
    (λ y. let k : n ≤ i = ltb_isnt i n y in
    let q : i ≡ n = omega arith in
    rw q (ap (λ (z : List ℕ). cut z (24 * n + 20) 4) (sym (append_assoc (raised n fs) x (zeros 4)))
    ∙ cut_between (raised n fs ++ x) (zeros 4) [] (24 * n + 20) 4 (simp length-append (omega arith)) refl))

-- records of edition 3, and what they become
pub raised_pair : (n : ℕ) (fs : List ℕ) → length fs ≡ 20 * n → Paired n fs (raised n fs)
raised_pair n fs e =
    let h : 20 * n ≤ length fs = omega arith in
    record { short = e; long = raised_length n fs h; same = raised_same n fs h; blank = raised_blank n fs h }

-- ---- lowered records

-- they are as long as records of edition 3
lowered_length : (n : ℕ) (gs : List ℕ) → 24 * n ≤ length gs → length (lowered n gs) ≡ 20 * n
unfolding lowered
lowered_length zero gs h = refl
lowered_length (suc n) gs h =
    let r : length (lowered n gs) ≡ 20 * n = lowered_length n gs (omega arith) in
    let c : length (cut gs (24 * n) 20) ≡ 20 = length_cut gs (24 * n) 20 (omega arith) in
    simp length-append (omega arith)

-- each is the front of the old one
lowered_same : (n : ℕ) (gs : List ℕ) → 24 * n ≤ length gs → (i : ℕ) → i < n → cut gs (24 * i) 20 ≡ cut (lowered n gs) (20 * i) 20
unfolding lowered
lowered_same zero gs h i l = absurd (omega arith)
lowered_same (suc n) gs h i l =
    let x : List ℕ = cut gs (24 * n) 20 in
    let r : length (lowered n gs) ≡ 20 * n = lowered_length n gs (omega arith) in
    let c : length x ≡ 20 = length_cut gs (24 * n) 20 (omega arith) in
    decide (ltb i n)
    (λ y. let k : i < n = ltb_is i n y in lowered_same n gs (omega arith) i k ∙ sym (cut_front (lowered n gs) x (20 * i) 20 (omega arith)))
    (λ y. let k : n ≤ i = ltb_isnt i n y in
    let q : i ≡ n = omega arith in
    rw q (sym (ap (λ (z : List ℕ). cut (lowered n gs ++ z) (20 * n) 20) (sym (append-nil x)) ∙ cut_between (lowered n gs) x [] (20 * n) 20 r c)))

-- records of edition 4 without profiles, and what they become
pub lowered_pair : (n : ℕ) (gs : List ℕ) → length gs ≡ 24 * n → ((i : ℕ) → i < n → word 4 gs (function_at 4 i + 20) ≡ 0) → Paired n (lowered n gs) gs
unfolding word
lowered_pair n gs e z =
    let h : 24 * n ≤ length gs = omega arith in
    record {
      short = lowered_length n gs h;
      long = e;
      same = lowered_same n gs h;
      blank = λ i l.
          let c : length (cut gs (24 * i + 20) 4) ≡ 4 = length_cut gs (24 * i + 20) 4 (omega arith) in
          all_zero (cut gs (24 * i + 20) 4) (z i l) ∙ ap zeros c;
    }

-- ---- laws of a pair

module _ (n : ℕ) (fs gs : List ℕ) (p : Paired n fs gs) where
  -- a byte of record i
  pub pair_byte : (i j : ℕ) → i < n → j < 20 → byte gs (function_at 4 i + j) ≡ byte fs (function_at 3 i + j)
  pair_byte i j l h =
      sym (get_or-take 20 (drop (24 * i) gs) j 0 h ∙ get_or-drop (24 * i) gs j 0) ∙ ap (λ (x : List ℕ). get_or x j 0) (p.same i l)
      ∙ get_or-take 20 (drop (20 * i) fs) j 0 h ∙ get_or-drop (20 * i) fs j 0

  -- the same with the place as two sums
  pub pair_byte_at : (i j k : ℕ) → i < n → j + k < 20 → byte gs (function_at 4 i + j + k) ≡ byte fs (function_at 3 i + j + k)
  pair_byte_at i j k l h =
      let a : 24 * i + j + k ≡ 24 * i + (j + k) = omega arith in
      let b : 20 * i + j + k ≡ 20 * i + (j + k) = omega arith in
      rw (a, b) (pair_byte i (j + k) l h)

  -- a word of record i
  pair_word : (i j : ℕ) → i < n → j + 4 ≤ 20 → word 4 gs (function_at 4 i + j) ≡ word 4 fs (function_at 3 i + j)
  pair_word i j l h =
      omega (
        arith,
        word_4 gs (24 * i + j),
        word_4 fs (20 * i + j),
        pair_byte i j l (omega arith),
        pair_byte_at i j 1 l (omega arith),
        pair_byte_at i j 2 l (omega arith),
        pair_byte_at i j 3 l (omega arith),
      )

  -- the word at a record's start, past the last record too
  pub pair_start : (i : ℕ) → word 4 gs (function_at 4 i) ≡ word 4 fs (function_at 3 i)
  pair_start i =
      decide (ltb i n)
      (λ y. let a : 24 * i ≡ 24 * i + 0 = omega arith in let b : 20 * i ≡ 20 * i + 0 = omega arith in
      ap (word 4 gs) a ∙ pair_word i 0 (ltb_is i n y) (omega arith) ∙ sym (ap (word 4 fs) b))
      (λ y. let k : n ≤ i = ltb_isnt i n y in
      let a : length gs ≡ 24 * n = p.long in let b : length fs ≡ 20 * n = p.short in
      word_out 4 gs (24 * i) (omega arith) ∙ sym (word_out 4 fs (20 * i) (omega arith)))

  -- and its second word, the length of the body
  pub pair_length : (i : ℕ) → word 4 gs (function_at 4 i + 4) ≡ word 4 fs (function_at 3 i + 4)
  pair_length i =
      decide (ltb i n) (λ y. pair_word i 4 (ltb_is i n y) (omega arith))
      (λ y. let k : n ≤ i = ltb_isnt i n y in
      let a : length gs ≡ 24 * n = p.long in let b : length fs ≡ 20 * n = p.short in
      word_out 4 gs (24 * i + 4) (omega arith) ∙ sym (word_out 4 fs (20 * i + 4) (omega arith)))

  -- no record has a profile
  pub pair_profile : (i : ℕ) → i < n → word 4 gs (function_at 4 i + 20) ≡ 0
  unfolding word
  pair_profile i l = ap number (p.blank i l)

  -- both have n records
  pub pair_counts : (function_count 3 fs ≡ n) × (function_count 4 gs ≡ n)
  pair_counts = let a : length gs ≡ 24 * n = p.long in let b : length fs ≡ 20 * n = p.short in (omega arith, omega arith)

  -- the records of edition 4 are those of edition 3, raised: the first k, and all
  raises_front : (k : ℕ) → k ≤ n → raised k fs ≡ take (24 * k) gs
  unfolding raised
  raises_front zero h = refl
  raises_front (suc k) h =
      let q : 24 * suc k ≡ 24 * k + (20 + 4) = omega arith in
      rw q (
      ap (λ (x : List ℕ). x ++ (cut fs (20 * k) 20 ++ zeros 4)) (raises_front k (omega arith))
      ∙ ap (λ (x : List ℕ). take (24 * k) gs ++ x)
      (ap (λ (x : List ℕ). x ++ zeros 4) (sym (p.same k h))
      ∙ ap (λ (x : List ℕ). cut gs (24 * k) 20 ++ x) (sym (p.blank k h) ∙ ap (take 4) (sym (drop-drop 20 (24 * k) gs)))
      ∙ sym (take-add 20 4 (drop (24 * k) gs)))
      ∙ sym (take-add (24 * k) (20 + 4) gs))

  pub raises : raised n fs ≡ gs
  raises = let a : length gs ≡ 24 * n = p.long in raises_front n (omega arith) ∙ take_all (24 * n) gs (omega arith)

  -- and those of edition 3 are those of edition 4, lowered
  lowers_front : (k : ℕ) → k ≤ n → lowered k gs ≡ take (20 * k) fs
  unfolding lowered
  lowers_front zero h = refl
  lowers_front (suc k) h =
      let q : 20 * suc k ≡ 20 * k + 20 = omega arith in
      rw q (
      ap (λ (x : List ℕ). x ++ cut gs (24 * k) 20) (lowers_front k (omega arith)) ∙ ap (λ (x : List ℕ). take (20 * k) fs ++ x) (p.same k h)
      ∙ sym (take-add (20 * k) 20 fs))

  pub lowers : lowered n gs ≡ fs
  lowers = let a : length fs ≡ 20 * n = p.short in lowers_front n (omega arith) ∙ take_all (20 * n) fs (omega arith)
