-- Laws of `word` and `written`, for every width.
use Prim.Native.Nat.{ℕ, zero, suc, ◌+◌, ◌*◌, ◌/◌, ◌^◌, ◌-◌, ◌≤◌, ◌<◌}
use native.Mathlib.Nat.{pow-suc, add-zero, le_refl}
use native.Mathlib.Omega.{arith}
use mathlib.Core.Path.{◌≡◌, refl, sym, ap, ◌∙◌}
use mathlib.Core.List.{List, [], ◌∷◌, ◌++◌, append_assoc}
use lib.ListN.{length, take, drop, get_or, length-append, length-drop, take-append-drop, drop_of_length-le}
use lib.Seq.{take_at, drop_at, take-append-le, drop-append-le, drop-append-add, drop-drop, length-take-le, get_or-drop, take_all}
use borrow.Rule.Slice.PartMut.{put_mid, post_of, Post-is as post_is}
use Rattle.std.specs.Int.{to_le_bytes, w32, w64}
use Rattle.rules.specs.Bytes.{number, bytes, word, written}

-- ---- reading byte by byte; bytes past the end count as 0

number_none : (n : ℕ) → 0 ≡ number (take n [])
number_none zero = refl
number_none (suc n) = refl

number_split : (n : ℕ) (l : List ℕ) → number (take (suc n) l) ≡ get_or l 0 0 + 256 * number (take n (drop 1 l))
number_split n [] = let h : number (take n []) ≡ 0 = sym (number_none n) in omega arith
number_split n (b ∷ l) = refl

pub word_suc : (n : ℕ) (s : List ℕ) (at : ℕ) → word (suc n) s at ≡ get_or s at 0 + 256 * word n s (at + 1)
unfolding word
word_suc n s at =
    number_split n (drop at s)
    ∙ ap (λ (b : ℕ). b + 256 * number (take n (drop 1 (drop at s)))) (get_or-drop at s 0 0 ∙ ap (λ (k : ℕ). get_or s k 0) (add-zero at))
    ∙ ap (λ (l : List ℕ). get_or s at 0 + 256 * number (take n l)) (drop-drop 1 at s)

word_at : (n : ℕ) (s : List ℕ) (at i : ℕ) → word (suc n) s (at + i) ≡ get_or s (at + i) 0 + 256 * word n s (at + suc i)
word_at n s at i = let e : at + i + 1 ≡ at + suc i = omega arith in rw (← e) (word_suc n s (at + i))

word_none : (s : List ℕ) (at : ℕ) → word 0 s at ≡ 0
unfolding word
word_none s at = refl

-- the part of a slice from a place on
abbrev pub part : List ℕ → ℕ → List ℕ
part s at = take (length s - at) (drop at s)

pub word_part : (n : ℕ) (s : List ℕ) (at : ℕ) → word n (part s at) 0 ≡ word n s at
unfolding word
word_part n s at = ap (λ (l : List ℕ). number (take n l)) (take_all (length s - at) (drop at s) (rw length-drop (le_refl _)))

pub word_out : (n : ℕ) (s : List ℕ) (at : ℕ) → length s ≤ at → word n s at ≡ 0
unfolding word
word_out n s at h = rw (drop_of_length-le s h) (sym (number_none n))

pub word_4 : (s : List ℕ) (at : ℕ)
    → word 4 s at ≡ get_or s at 0 + 256 * get_or s (at + 1) 0 + 65536 * get_or s (at + 2) 0 + 16777216 * get_or s (at + 3) 0
word_4 s at =
    omega (arith, word_suc 3 s at, word_at 2 s at 1, word_at 1 s at 2, word_at 0 s at 3, word_none s (at + 4))

pub word_8 : (s : List ℕ) (at : ℕ) → word 8 s at ≡ word 4 s at + 4294967296 * word 4 s (at + 4)
word_8 s at =
    omega (arith, word_4 s at, word_suc 7 s at, word_at 6 s at 1, word_at 5 s at 2, word_at 4 s at 3)

-- ---- storing byte by byte

pub length_bytes : (n v : ℕ) → length (bytes n v) ≡ n
length_bytes zero v = refl
length_bytes (suc n) v = ap suc (length_bytes n (v / 256))

-- the part of a slice from `at` on that holds n bytes, once these are v's
pub stored : (n : ℕ) (s : List ℕ) (at v : ℕ) (ys : List ℕ) → ys ≡ bytes n v → put_mid at (at + n - at) s ys ≡ written n s at v
unfolding written
stored n s at v ys q =
    let k : at ≤ at + n = omega arith in ap (λ (l : List ℕ). take at s ++ (l ++ post_of at (at + n - at) s)) q ∙ ap (λ (l : List ℕ). take at s ++ (bytes n v ++ l)) (post_is at (at + n) s k)

pub low_4 : (v : ℕ) → to_le_bytes w32 v ≡ bytes 4 v
low_4 v =
    let a : v / 256 / 256 ≡ v / 65536 = omega arith in
    let b : v / 65536 / 256 ≡ v / 16777216 = omega arith in rw (a, b) refl

pub low_8 : (v : ℕ) → to_le_bytes w64 v ≡ bytes 8 v
low_8 v =
    let a : v / 256 / 256 ≡ v / 65536 = omega arith in
    let b : v / 65536 / 256 ≡ v / 16777216 = omega arith in
    let d : v / 16777216 / 256 ≡ v / 4294967296 = omega arith in
    let e : v / 4294967296 / 256 ≡ v / 1099511627776 = omega arith in
    let f : v / 1099511627776 / 256 ≡ v / 281474976710656 = omega arith in
    let g : v / 281474976710656 / 256 ≡ v / 72057594037927936 = omega arith in rw (a, b, d, e, f, g) refl

-- ---- a number that was stored is read back, and others are kept

pub number_bytes : (n v : ℕ) → v < 256 ^ n → number (bytes n v) ≡ v
number_bytes zero v h = omega (arith, h)
number_bytes (suc n) v h =
    let q : v / 256 < 256 ^ n = omega (arith, rw pow-suc at h) in
    omega (arith, number_bytes n (v / 256) q)

pub length_written : (n : ℕ) (s : List ℕ) (at v : ℕ) → at + n ≤ length s → length (written n s at v) ≡ length s
unfolding written
length_written n s at v h = simp (length-append, length_bytes, length-drop) (omega (arith, length-take-le at s (omega arith)))

pub word_written_same : (n : ℕ) (s : List ℕ) (at v : ℕ) → at + n ≤ length s → v < 256 ^ n → word n (written n s at v) at ≡ v
unfolding word written
word_written_same n s at v h f =
    rw (
      drop_at (take at s) (bytes n v ++ drop (at + n) s) at (length-take-le at s (omega arith)),
      take_at (bytes n v) (drop (at + n) s) n (length_bytes n v),
    ) (number_bytes n v f)

pub word_front : (n : ℕ) (p q : List ℕ) (j : ℕ) → j + n ≤ length p → word n (p ++ q) j ≡ word n p j
unfolding word
word_front n p q j h =
    let g : n ≤ length (drop j p) = simp length-drop (omega arith) in
    rw (drop-append-le j p q (omega arith), take-append-le n (drop j p) q g)

pub word_written_below : (n m : ℕ) (s : List ℕ) (at v j : ℕ) → at + n ≤ length s → j + m ≤ at → word m (written n s at v) j ≡ word m s j
unfolding written
word_written_below n m s at v j h g =
    let k : j + m ≤ length (take at s) = omega (arith, length-take-le at s (omega arith)) in
    word_front m (take at s) (bytes n v ++ drop (at + n) s) j k
    ∙ sym (word_front m (take at s) (drop at s) j k)
    ∙ ap (λ (l : List ℕ). word m l j) (take-append-drop at s)

pub drop_written : (n : ℕ) (s : List ℕ) (at v j : ℕ) → at + n ≤ length s → at + n ≤ j → drop j (written n s at v) ≡ drop j s
unfolding written
drop_written n s at v j h g =
    let f : at + n + (j - (at + n)) ≡ j = omega arith in
    let l : length (take at s ++ bytes n v) ≡ at + n = simp (length-append, length_bytes) (omega (arith, length-take-le at s (omega arith))) in
    let e : j ≡ length (take at s ++ bytes n v) + (j - (at + n)) = omega arith in
    ap (λ (x : List ℕ). drop j x) (sym (append_assoc (take at s) (bytes n v) (drop (at + n) s)))
    ∙ ap (λ (k : ℕ). drop k ((take at s ++ bytes n v) ++ drop (at + n) s)) e
    ∙ drop-append-add (take at s ++ bytes n v) (drop (at + n) s) (j - (at + n))
    ∙ drop-drop (j - (at + n)) (at + n) s
    ∙ ap (λ (k : ℕ). drop k s) f

pub word_written_above : (n m : ℕ) (s : List ℕ) (at v j : ℕ) → at + n ≤ length s → at + n ≤ j → word m (written n s at v) j ≡ word m s j
unfolding word
word_written_above n m s at v j h g = ap (λ (l : List ℕ). number (take m l)) (drop_written n s at v j h g)
