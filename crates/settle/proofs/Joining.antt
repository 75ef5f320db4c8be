-- One row over its callees, one by one.
use mathlib.Core.Path.{◌≡◌, refl, sym, ap, ◌∙◌, subst}
use mathlib.Core.Logic.{◌⊎◌, inl, inr}
use Prim.Native.Nat.{ℕ, zero, suc, ◌+◌, ◌≤◌, ◌<◌, ◌-◌, max}
use native.Mathlib.Omega.{arith}
use mathlib.Core.List.{List}
use lib.ListN.{get_or}
use lib.Dec.{leb, ltb}
use Rattle.soundness.specs.Tests.{decide, leb_is, leb_isnt, ltb_is, ltb_isnt}
use Rattle.settle.specs.Graph.{offset_at, NextCall, Joined, Callees}

pub joined_first : (own off need frames : List ℕ) (b : ℕ) → Joined own off need frames b 0 (get_or own b 0) 1
joined_first own off need frames b =
    record { over_own = omega arith; over_calls = λ k a l e. absurd (omega arith); some_height = inl refl; some_frames = inl refl }

pick_max : (a c : ℕ) → (max a c ≡ a) ⊎ (max a c ≡ c)
pick_max a c = decide (leb c a) (λ y. let z : c ≤ a = leb_is c a y in inl (omega arith)) (λ y. let z : a < c = leb_isnt c a y in inr (omega arith))

-- one more entry is 0
pub zeros_next : (off : List ℕ) (b k i : ℕ) → ((j : ℕ) → k ≤ j → j < i → offset_at off b j ≡ 0) → offset_at off b i ≡ 0 → (j : ℕ) → k ≤ j → j < i + 1 → offset_at off b j ≡ 0
zeros_next off b k i Z e j h l = decide (ltb j i) (λ w. Z j h (ltb_is j i w)) (λ w. let z : i ≤ j = ltb_isnt j i w in let v : j ≡ i = omega arith in ap (offset_at off b) v ∙ e)

-- the entries up to the next call are 0
pub joined_skip : (own off need frames : List ℕ) (b k n r x y : ℕ) → NextCall off b k n r → Joined own off need frames b k x y → Joined own off need frames b r x y
joined_skip own off need frames b k n r x y N J =
    record {
      over_own = J.over_own;
      over_calls = λ j a l u. decide (ltb j k) (λ w. J.over_calls j a (ltb_is j k w) u)
          (λ w. let t : 0 ≡ suc a = sym (N.skipped j (ltb_isnt j k w) l) ∙ u in absurd (omega arith));
      some_height = tall J.some_height;
      some_frames = deep J.some_frames;
    }
  where
    tall : (x ≡ get_or own b 0) ⊎ ((j : ℕ) × (a : ℕ) × (j < k) × (offset_at off b j ≡ suc a) × (x ≡ a + get_or need (suc j) 0))
        → (x ≡ get_or own b 0) ⊎ ((j : ℕ) × (a : ℕ) × (j < r) × (offset_at off b j ≡ suc a) × (x ≡ a + get_or need (suc j) 0))
    tall (inl z) = inl z
    tall (inr z) = let l : z.0 < k = z.2 in let h : k ≤ r = N.from in inr (z.0, z.1, omega arith, z.3, z.4)

    deep : (y ≡ 1) ⊎ ((j : ℕ) × (a : ℕ) × (j < k) × (offset_at off b j ≡ suc a) × (y ≡ suc (get_or frames (suc j) 0)))
        → (y ≡ 1) ⊎ ((j : ℕ) × (a : ℕ) × (j < r) × (offset_at off b j ≡ suc a) × (y ≡ suc (get_or frames (suc j) 0)))
    deep (inl z) = inl z
    deep (inr z) = let l : z.0 < k = z.2 in let h : k ≤ r = N.from in inr (z.0, z.1, omega arith, z.3, z.4)

pub joined_next : (own off need frames : List ℕ) (b k x y a x' y' : ℕ) → Joined own off need frames b k x y → a ≡ offset_at off b k → 0 < a
    → x' ≡ max x (a - 1 + get_or need (k + 1) 0) → y' ≡ max y (get_or frames (k + 1) 0 + 1) → Joined own off need frames b (k + 1) x' y'
joined_next own off need frames b k x y zero x' y' J e h f g = absurd (omega arith)
joined_next own off need frames b k x y (suc p) x' y' J e h f g =
    record {
      over_own = (let z : get_or own b 0 ≤ x = J.over_own in let w : x' ≡ max x (p + get_or need (k + 1) 0) = xs in omega arith);
      over_calls = λ j a l u. all j a l u;
      some_height = tall (pick_max x (p + get_or need (k + 1) 0));
      some_frames = deep (pick_max y (suc (get_or frames (k + 1) 0)));
    }
  where
    s : k + 1 ≡ suc k
    s = omega arith

    xs : x' ≡ max x (p + get_or need (k + 1) 0)
    xs = omega arith

    ys : y' ≡ max y (suc (get_or frames (k + 1) 0))
    ys = omega arith

    all : (j a : ℕ) → j < k + 1 → offset_at off b j ≡ suc a → (a + get_or need (suc j) 0 ≤ x') × (get_or frames (suc j) 0 < y')
    all j a l u =
        decide (ltb j k)
        (λ w. let z : (a + get_or need (suc j) 0 ≤ x) × (get_or frames (suc j) 0 < y) = J.over_calls j a (ltb_is j k w) u in
        let q : x' ≡ max x (p + get_or need (k + 1) 0) = xs in let r : y' ≡ max y (suc (get_or frames (k + 1) 0)) = ys in
        let z₀ : a + get_or need (suc j) 0 ≤ x = z.0 in let z₁ : get_or frames (suc j) 0 < y = z.1 in (omega arith, omega arith))
        (λ w. let z : k ≤ j = ltb_isnt j k w in let v : j ≡ k = omega arith in
        let t : suc p ≡ suc a = e ∙ ap (offset_at off b) (sym v) ∙ u in
        let n : get_or need (k + 1) 0 ≡ get_or need (suc j) 0 = let v' : k + 1 ≡ suc j = omega arith in ap (λ i. get_or need i 0) v' in
        let m : get_or frames (k + 1) 0 ≡ get_or frames (suc j) 0 = let v' : k + 1 ≡ suc j = omega arith in ap (λ i. get_or frames i 0) v' in
        let q : x' ≡ max x (p + get_or need (k + 1) 0) = xs in let r : y' ≡ max y (suc (get_or frames (k + 1) 0)) = ys in (omega arith, omega arith))

    tall : (max x (p + get_or need (k + 1) 0) ≡ x) ⊎ (max x (p + get_or need (k + 1) 0) ≡ p + get_or need (k + 1) 0)
        → (x' ≡ get_or own b 0) ⊎ ((j : ℕ) × (a : ℕ) × (j < k + 1) × (offset_at off b j ≡ suc a) × (x' ≡ a + get_or need (suc j) 0))
    tall (inr z) = inr (k, p, omega arith, sym e, xs ∙ z ∙ ap (λ i. p + get_or need i 0) s)
    tall (inl z) = old J.some_height
      where
        old : (x ≡ get_or own b 0) ⊎ ((j : ℕ) × (a : ℕ) × (j < k) × (offset_at off b j ≡ suc a) × (x ≡ a + get_or need (suc j) 0))
            → (x' ≡ get_or own b 0) ⊎ ((j : ℕ) × (a : ℕ) × (j < k + 1) × (offset_at off b j ≡ suc a) × (x' ≡ a + get_or need (suc j) 0))
        old (inl w) = inl (xs ∙ z ∙ w)
        old (inr w) = let l : w.0 < k = w.2 in inr (w.0, w.1, omega arith, w.3, xs ∙ z ∙ w.4)

    deep : (max y (suc (get_or frames (k + 1) 0)) ≡ y) ⊎ (max y (suc (get_or frames (k + 1) 0)) ≡ suc (get_or frames (k + 1) 0))
        → (y' ≡ 1) ⊎ ((j : ℕ) × (a : ℕ) × (j < k + 1) × (offset_at off b j ≡ suc a) × (y' ≡ suc (get_or frames (suc j) 0)))
    deep (inr z) = inr (k, p, omega arith, sym e, ys ∙ z ∙ ap (λ i. suc (get_or frames i 0)) s)
    deep (inl z) = old J.some_frames
      where
        old : (y ≡ 1) ⊎ ((j : ℕ) × (a : ℕ) × (j < k) × (offset_at off b j ≡ suc a) × (y ≡ suc (get_or frames (suc j) 0)))
            → (y' ≡ 1) ⊎ ((j : ℕ) × (a : ℕ) × (j < k + 1) × (offset_at off b j ≡ suc a) × (y' ≡ suc (get_or frames (suc j) 0)))
        old (inl w) = inl (ys ∙ z ∙ w)
        old (inr w) = let l : w.0 < k = w.2 in inr (w.0, w.1, omega arith, w.3, ys ∙ z ∙ w.4)

pub joined_end : (own off need frames : List ℕ) (b n k x y : ℕ) → k ≤ n → n ≤ k → Joined own off need frames b k x y → Joined own off need frames b n x y
joined_end own off need frames b n k x y h l J = let e : k ≡ n = omega arith in subst (λ i. Joined own off need frames b i x y) e J

module _ (off need frames : List ℕ) (b n k a : ℕ) (C : Callees off need frames b n) (l : k < n) (e : a ≡ offset_at off b k) (h : 0 < a) where
  callee : (get_or need (k + 1) 0 ≤ 1000000) × (get_or frames (k + 1) 0 ≤ 1000000)
  callee = go a refl
    where
      s : suc k ≡ k + 1
      s = omega arith

      go : (c : ℕ) → a ≡ c → (get_or need (k + 1) 0 ≤ 1000000) × (get_or frames (k + 1) 0 ≤ 1000000)
      go zero q = absurd (omega arith)
      go (suc p) q = subst (λ i. (get_or need i 0 ≤ 1000000) × (get_or frames i 0 ≤ 1000000)) s (C k p l (sym e ∙ q))

  pub callee_need : get_or need (k + 1) 0 ≤ 1000000
  callee_need = callee.0

  pub callee_frames : get_or frames (k + 1) 0 ≤ 1000000
  callee_frames = callee.1
