-- What stands in front after a number was stored behind it.
use mathlib.Core.Path.{◌≡◌, refl, sym, ap, ◌∙◌, subst}
use Prim.Native.Nat.{ℕ, zero, suc, ◌+◌, ◌/◌, ◌%◌, ◌≤◌, ◌<◌}
use native.Mathlib.Omega.{arith}
use native.Mathlib.Numerals.{add-one}
use mathlib.Core.List.{List, [], ◌∷◌, ◌++◌, append_assoc, append-nil}
use lib.ListN.{length, take, drop, set, replicate, length-set, replicate-append-replicate}
use lib.Seq.{take-suc-set, take-append-add, length-take-le}
use Rattle.rules.specs.Bytes.{bytes, written}
use Rattle.memory.proofs.Words.{length_written}

pub front_set : (s : List ℕ) (at b : ℕ) → at < length s → take (at + 1) (set s at b) ≡ take at s ++ (b ∷ [])
front_set s at b h = rw (add-one at) (take-suc-set s at b h)

take_bytes : (n v : ℕ) (x : List ℕ) → take n (bytes n v ++ x) ≡ bytes n v
take_bytes zero v x = refl
take_bytes (suc n) v x = ap (λ (l : List ℕ). v % 256 ∷ l) (take_bytes n (v / 256) x)

pub front_written : (n : ℕ) (s : List ℕ) (at v : ℕ) → at + n ≤ length s → take (at + n) (written n s at v) ≡ take at s ++ bytes n v
unfolding written
front_written n s at v h =
    let q : length (take at s) ≡ at = length-take-le at s (omega arith) in
    let z : take (length (take at s) + n) (take at s ++ (bytes n v ++ drop (at + n) s)) ≡ take at s ++ bytes n v = take-append-add (take at s) (bytes n v ++ drop (at + n) s) n ∙ rw (take_bytes n v (drop (at + n) s)) refl in
    rw q at z

-- one byte, and a word behind it
pub wide_put : (s : List ℕ) (at b w : ℕ) → at + 5 ≤ length s → take (at + 5) (written 4 (set s at b) (at + 1) w) ≡ take at s ++ (b ∷ bytes 4 w)
wide_put s at b w h =
    let q : at + 5 ≡ at + 1 + 4 = omega arith in
    let z : at + 1 + 4 ≤ length (set s at b) = rw (length-set s at b) (omega arith) in
    rw q (front_written 4 (set s at b) (at + 1) w z ∙ rw (front_set s at b (omega arith)) (append_assoc (take at s) (b ∷ []) (bytes 4 w)))

-- a word, and eight bytes behind it
pub constant_put : (s : List ℕ) (at v : ℕ) → at + 12 ≤ length s → take (at + 12) (written 8 (written 4 s at 3) (at + 4) v) ≡ take at s ++ (bytes 4 3 ++ bytes 8 v)
constant_put s at v h =
    let q : at + 12 ≡ at + 4 + 8 = omega arith in
    let z : at + 4 + 8 ≤ length (written 4 s at 3) = rw (length_written 4 s at 3 (omega arith)) (omega arith) in
    rw q (front_written 8 (written 4 s at 3) (at + 4) v z ∙ rw (front_written 4 s at 3 (omega arith)) (append_assoc (take at s) (bytes 4 3) (bytes 8 v)))

-- one byte more of a run of equal ones
pub run_more : (s t : List ℕ) (at i b : ℕ) → at + i < length t → take (at + i) t ≡ take at s ++ replicate i b → take (at + (i + 1)) (set t (at + i) b) ≡ take at s ++ replicate (i + 1) b
run_more s t at i b h e =
    let q : at + (i + 1) ≡ at + i + 1 = omega arith in
    rw q (front_set t (at + i) b h ∙ ap (λ (x : List ℕ). x ++ (b ∷ [])) e ∙ append_assoc (take at s) (replicate i b) (b ∷ []) ∙ ap (λ (x : List ℕ). take at s ++ x) (replicate-append-replicate i 1 b))

pub run_none : (s : List ℕ) (at b : ℕ) → take (at + 0) s ≡ take at s ++ replicate 0 b
run_none s at b = let q : at + 0 ≡ at = omega arith in rw q (sym (append-nil (take at s)))

pub run_all : (s t : List ℕ) (at n i b : ℕ) → i ≡ n → take (at + i) t ≡ take at s ++ replicate i b → take (at + n) t ≡ take at s ++ replicate n b
run_all s t at n i b q e = subst (λ (k : ℕ). take (at + k) t ≡ take at s ++ replicate k b) q e
