-- Loops over the bytes of a record: copied, compared, zeroed; and the other records of the room.
use Prim.Native.Nat.{ℕ, zero, suc, ◌+◌, ◌*◌, ◌-◌, ◌≤◌, ◌<◌}
use mathlib.Core.Path.{◌≡◌, refl, ap, ◌∙◌, sym}
use mathlib.Core.Bool.{Bool, true, false, ◌&&◌}
use mathlib.Core.List.{List, ◌++◌, append_assoc}
use mathlib.Core.Logic.{◌≢◌}
use native.Mathlib.Omega.{arith}
use lib.ListN.{get_or, length, take, drop, replicate, length-drop, length-replicate, take-append-drop}
use lib.Seq.{paste, ext_get_or, get_or-take, get_or-drop, take-take, take-add, length-take-le, take-length, drop-drop, drop-paste, drop_at, take_at, drop-append-le, take-append-le}
use lib.Dec.{eqb, ltb}
use Rattle.soundness.specs.Tests.{decide, false_true, eqb_is, eqb_isnt, ltb_is, ltb_isnt}
use Rattle.nodes.specs.Nodes.{record_of}

pub length_part : (room : List ℕ) (at : ℕ) → at + 64 ≤ length room → length (take 64 (drop at room)) ≡ 64
length_part room at h = let e : length (drop at room) ≡ length room - at = length-drop at room in length-take-le 64 (drop at room) (omega arith)

-- ---- compared

-- what i turns of the comparison say
pub record Compared (room st : List ℕ) (at i : ℕ) (same : Bool) : Type 0 where
  pub alike : same ≡ true → (j : ℕ) → j < i → get_or room (at + j) 0 ≡ get_or st j 0
  pub apart : same ≡ false → (j : ℕ) × (j < i) × (get_or room (at + j) 0 ≢ get_or st j 0)

pub compare_none : (room st : List ℕ) (at : ℕ) → Compared room st at 0 true
compare_none room st at = record { alike = λ e j h. absurd (omega arith); apart = λ e. false_true (sym e) }

pub compare_more : (room st : List ℕ) (at i : ℕ) (same : Bool) → Compared room st at i same → Compared room st at (i + 1) (same && eqb (get_or room (at + i) 0) (get_or st i 0))
compare_more room st at i false c = record { alike = λ e j h. false_true e; apart = λ e. let x : (j : ℕ) × (j < i) × (get_or room (at + j) 0 ≢ get_or st j 0) = c.apart refl in (x.0, (let y : x.0 < i = x.1 in omega arith), x.2) }
compare_more room st at i true c =
    record {
      alike = λ e j h. decide (ltb j i) (λ y. c.alike refl j (ltb_is j i y)) (λ y. let w : i ≤ j = ltb_isnt j i y in let q : j ≡ i = omega arith in rw q (eqb_is (get_or room (at + i) 0) (get_or st i 0) e));
      apart = λ e. (i, omega arith, eqb_isnt (get_or room (at + i) 0) (get_or st i 0) e);
    }

pub same_bytes : (room st : List ℕ) (at i : ℕ) → 64 ≤ i → at + 64 ≤ length room → length st ≡ 64 → Compared room st at i true → take 64 (drop at room) ≡ st
same_bytes room st at i g h l c =
    ext_get_or 0 (take 64 (drop at room)) st (length_part room at h ∙ sym l)
    (λ j b. let e : length (take 64 (drop at room)) ≡ 64 = length_part room at h in get_or-take 64 (drop at room) j 0 (omega arith) ∙ get_or-drop at room j 0 ∙ c.alike refl j (omega arith))

pub other_bytes : (room st : List ℕ) (at i : ℕ) → i ≤ 64 → Compared room st at i false → take 64 (drop at room) ≡ st → ⊥
other_bytes room st at i g c e =
    let x : (j : ℕ) × (j < i) × (get_or room (at + j) 0 ≢ get_or st j 0) = c.apart refl in
    let b : x.0 < i = x.1 in
    x.2 (sym (get_or-take 64 (drop at room) x.0 0 (omega arith) ∙ get_or-drop at room x.0 0) ∙ ap (λ (y : List ℕ). get_or y x.0 0) e)

-- ---- zeroed

pub zeros_at : (n j : ℕ) → ◌≡◌ {A = ℕ} (get_or (replicate n 0) j 0) 0
zeros_at zero j = refl
zeros_at (suc n) zero = refl
zeros_at (suc n) (suc j) = zeros_at n j

pub cleared : (d : List ℕ) (n : ℕ) → paste d 0 (replicate n 0) n ≡ replicate n 0 ++ drop n d
cleared d n =
    let z : List ℕ = replicate n 0 in
    let y : 0 + n ≡ n = omega arith in
    let w : take n z ≡ z = ap (λ (x : ℕ). take x z) (sym (length-replicate n 0)) ∙ take-length z in
    ap (λ (x : List ℕ). x ++ drop (0 + n) d) w ∙ ap (λ (x : ℕ). z ++ drop x d) y

-- ---- the room with a record written at a byte

module _ (room st : List ℕ) (at : ℕ) (h : at + 64 ≤ length room) (l : length st ≡ 64) where
  -- behind it
  pub drop_past : (k : ℕ) → at + 64 ≤ k → drop k (paste room at st 64) ≡ drop k room
  drop_past k g =
      let e : at + 64 + (k - (at + 64)) ≡ k = omega arith in
      let p : List ℕ = paste room at st 64 in
      ap (λ (j : ℕ). drop j p) (sym e) ∙ sym (drop-drop (k - (at + 64)) (at + 64) p)
      ∙ ap (drop (k - (at + 64))) (drop-paste room at st 64 (omega arith) (omega arith))
      ∙ drop-drop (k - (at + 64)) (at + 64) room ∙ ap (λ (j : ℕ). drop j room) e

  -- its own bytes written there change nothing
  pub part_kept : st ≡ take 64 (drop at room) → paste room at st 64 ≡ room
  part_kept e =
      let k : length (drop at room) ≡ length room - at = length-drop at room in
      ap (λ (x : List ℕ). take at room ++ take 64 x ++ drop (at + 64) room) e
      ∙ ap (λ (x : List ℕ). take at room ++ x ++ drop (at + 64) room) (take-take 64 64 (drop at room) (omega arith))
      ∙ ap (λ (x : List ℕ). x ++ drop (at + 64) room) (sym (take-add at 64 room))
      ∙ take-append-drop (at + 64) room

  in_head : (a b : List ℕ) (k m : ℕ) → k + m ≤ length a → take m (drop k (a ++ b)) ≡ take m (drop k a)
  in_head a b k m g =
      let e : length (drop k a) ≡ length a - k = length-drop k a in
      ap (take m) (drop-append-le k a b (omega arith)) ∙ take-append-le m (drop k a) b (omega arith)

  -- before it
  pub part_before : (k : ℕ) → k + 64 ≤ at → take 64 (drop k (paste room at st 64)) ≡ take 64 (drop k room)
  part_before k g =
      let a : List ℕ = take at room in
      let e : length a ≡ at = length-take-le at room (omega arith) in
      ap (λ (x : List ℕ). take 64 (drop k x)) (append_assoc a (take 64 st) (drop (at + 64) room))
      ∙ in_head a (take 64 st ++ drop (at + 64) room) k 64 (omega arith)
      ∙ sym (in_head a (drop at room) k 64 (omega arith))
      ∙ ap (λ (x : List ℕ). take 64 (drop k x)) (take-append-drop at room)

  pub part_same : take 64 (drop at (paste room at st 64)) ≡ st
  part_same =
      let a : List ℕ = take at room in
      let e : length a ≡ at = length-take-le at room (omega arith) in
      let w : take 64 st ≡ st = ap (λ (k : ℕ). take k st) (sym l) ∙ take-length st in
      ap (λ (x : List ℕ). take 64 (drop at x)) (append_assoc a (take 64 st) (drop (at + 64) room))
      ∙ ap (take 64) (drop_at a (take 64 st ++ drop (at + 64) room) at e)
      ∙ ap (λ (x : List ℕ). take 64 (x ++ drop (at + 64) room)) w
      ∙ take_at st (drop (at + 64) room) 64 l

-- other records stay
pub record_other : (room st : List ℕ) (k j : ℕ) → 64 * k + 64 ≤ length room → length st ≡ 64 → j ≢ k → record_of (paste room (64 * k) st 64) j ≡ record_of room j
record_other room st k j h l ne =
    decide (ltb j k) (λ y. let g : j < k = ltb_is j k y in part_before room st (64 * k) h l (64 * j) (omega arith))
    (λ y. let g : k ≤ j = ltb_isnt j k y in ap (take 64) (drop_past room st (64 * k) h l (64 * j) (let q : k < j = later g in omega arith)))
  where
    later : k ≤ j → k < j
    later g = decide (ltb k j) (λ y. ltb_is k j y) (λ y. let w : j ≤ k = ltb_isnt k j y in absurd (ne (omega arith)))

pub positive : (n : ℕ) → (n ≡ 0 → ⊥) → 0 < n
positive zero h = absurd (h refl)
positive (suc n) h = omega arith
