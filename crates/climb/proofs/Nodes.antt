-- Laws of marks and grounds.
use mathlib.Core.Path.{◌≡◌, refl, sym, ap, ◌∙◌, subst}
use mathlib.Core.Logic.{◌≢◌, ◌⊎◌, inl, inr}
use Prim.Native.Nat.{ℕ, zero, suc, ◌+◌, ◌-◌, ◌≤◌, ◌<◌, min, max}
use native.Mathlib.Omega.{arith}
use mathlib.Core.List.{List}
use lib.ListN.{length, set, length-set}
use lib.Seq.{get_or-set_same, get_or-set_other}
use lib.Dec.{ltb}
use Rattle.soundness.specs.Tests.{decide, ltb_is, ltb_isnt}
use Rattle.tracks.specs.Walks.{mark_of, ground_of, low_of, high_of, Arrived}
use Rattle.climb.specs.Waits.{Sizes, spread_to, Bounded, FirstIs, LastIs, Narrowed}

-- ---- the bounds set

module _ (grounds : List ℕ) (a c : ℕ) (long : length grounds ≡ 258) where
  abbrev bounds : List ℕ
  bounds = set (set grounds 256 a) 257 c

  pub bounds_long : length bounds ≡ 258
  bounds_long = length-set (set grounds 256 a) 257 c ∙ length-set grounds 256 a ∙ long

  pub bounds_low : low_of bounds ≡ a
  bounds_low = get_or-set_other (set grounds 256 a) 257 256 c 0 (omega arith) ∙ get_or-set_same grounds 256 a 0 (omega arith)

  pub bounds_high : high_of bounds ≡ c
  bounds_high = get_or-set_same (set grounds 256 a) 257 c 0 (let z : length (set grounds 256 a) ≡ length grounds = length-set grounds 256 a in omega arith)

  pub bounds_kept : (n : ℕ) → n < 256 → ground_of bounds n ≡ ground_of grounds n
  bounds_kept n h = get_or-set_other (set grounds 256 a) 257 n c 0 (omega arith) ∙ get_or-set_other grounds 256 n a 0 (omega arith)

-- ---- arrivals

module _ (k g : ℕ) (marks grounds : List ℕ) (low : k < 256) (s : Sizes marks grounds) where
  pub arrive_stays : 0 < mark_of marks k → g ≤ ground_of grounds k → Arrived k g marks grounds marks grounds
  arrive_stays m h =
      record {
        marked = refl;
        grounded = refl;
        others = λ n l e. (refl, refl);
        here = inl (refl, refl, m, h);
        lower = omega arith;
        higher = omega arith;
        within = λ e n. absurd (n e);
        top = λ h. h;
      }

  raised_here : ground_of (set grounds k g) k ≡ g
  raised_here = get_or-set_same grounds k g 0 (let z : length grounds ≡ 258 = s.1 in omega arith)

  raised_other : (n : ℕ) → n ≢ k → ground_of (set grounds k g) n ≡ ground_of grounds n
  raised_other n e = get_or-set_other grounds k n g 0 e

  pub arrive_raises : mark_of marks k ≡ 1 → ground_of grounds k < g → Arrived k g marks grounds marks (set grounds k g)
  arrive_raises m h =
      let u : low_of (set grounds k g) ≡ low_of grounds = raised_other 256 (omega arith) in
      let v : high_of (set grounds k g) ≡ high_of grounds = raised_other 257 (omega arith) in
      record {
        marked = refl;
        grounded = length-set grounds k g;
        others = λ n l e. (refl, raised_other n e);
        here = inr (m, raised_here, inr h);
        lower = omega arith;
        higher = omega arith;
        within = λ e n. absurd (n m);
        top = λ h. omega arith;
      }

  pub arrive_waits : (mark_of marks k ≡ 0) ⊎ (ground_of grounds k < g) → Arrived k g marks grounds (set marks k 1) (spread_to k (set grounds k g))
  arrive_waits h =
      let long : length (set grounds k g) ≡ 258 = length-set grounds k g ∙ s.1 in
      let a : ℕ = min (low_of (set grounds k g)) k in
      let b : ℕ = max (high_of (set grounds k g)) (k + 1) in
      let u : low_of (set grounds k g) ≡ low_of grounds = raised_other 256 (omega arith) in
      let v : high_of (set grounds k g) ≡ high_of grounds = raised_other 257 (omega arith) in
      let x : low_of (spread_to k (set grounds k g)) ≡ min (low_of (set grounds k g)) k = bounds_low (set grounds k g) a b long in
      let y : high_of (spread_to k (set grounds k g)) ≡ max (high_of (set grounds k g)) (k + 1) = bounds_high (set grounds k g) a b long in
      record {
        marked = length-set marks k 1;
        grounded = bounds_long (set grounds k g) a b long ∙ sym s.1;
        others = λ n l e. (get_or-set_other marks k n 1 0 e, bounds_kept (set grounds k g) a b long n l ∙ raised_other n e);
        here = inr (get_or-set_same marks k 1 0 (let z : length marks ≡ 256 = s.0 in omega arith), bounds_kept (set grounds k g) a b long k low ∙ raised_here, h);
        lower = omega arith;
        higher = omega arith;
        within = λ e n. (omega arith, omega arith);
        top = λ h. omega arith;
      }

-- ---- picks

pub not_zero : (m : ℕ) → (0 < m → ⊥) → m ≡ 0
not_zero zero h = refl
not_zero (suc m) h = absurd (h (omega arith))

pub first_more : (marks : List ℕ) (low i : ℕ) → ((n : ℕ) → low ≤ n → n < i → mark_of marks n ≢ 1) → mark_of marks i ≢ 1 → (n : ℕ) → low ≤ n → n < i + 1 → mark_of marks n ≢ 1
first_more marks low i f h n l u = decide (ltb n i) (λ y. f n l (ltb_is n i y)) (λ y. let z : i ≤ n = ltb_isnt n i y in let w : n ≡ i = omega arith in subst (λ j. mark_of marks j ≢ 1) (sym w) h)

pub last_more : (marks : List ℕ) (i high : ℕ) → 0 < i → ((n : ℕ) → i ≤ n → n < high → mark_of marks n ≢ 1) → mark_of marks (i - 1) ≢ 1 → (n : ℕ) → i - 1 ≤ n → n < high → mark_of marks n ≢ 1
last_more marks i high p f h n l u = decide (ltb n i) (λ y. let z : n < i = ltb_is n i y in let w : n ≡ i - 1 = omega arith in subst (λ j. mark_of marks j ≢ 1) (sym w) h) (λ y. f n (ltb_isnt n i y) u)

-- none waits
pub none_waits : (marks grounds : List ℕ) (r : ℕ) → Bounded marks grounds → FirstIs marks (low_of grounds) (high_of grounds) r → high_of grounds ≤ r → (n : ℕ) → mark_of marks n ≡ 1 → ⊥
none_waits marks grounds r b f h n m = let u : low_of grounds ≤ n = (b.0 n m).0 in let v : n < high_of grounds = (b.0 n m).1 in f.before n u (omega arith) m

pub narrowed_same : (marks grounds : List ℕ) → Bounded marks grounds → Narrowed marks grounds grounds
narrowed_same marks grounds b = record { long = refl; kept = λ n l. refl; bounded = b }

pub narrowed : (marks grounds : List ℕ) (low high : ℕ) → length grounds ≡ 258 → Bounded marks grounds → FirstIs marks (low_of grounds) (high_of grounds) low → LastIs marks low (high_of grounds) high
    → Narrowed marks grounds (set (set grounds 256 low) 257 high)
narrowed marks grounds low high long b f l =
    let x : low_of (set (set grounds 256 low) 257 high) ≡ low = bounds_low grounds low high long in
    let y : high_of (set (set grounds 256 low) 257 high) ≡ high = bounds_high grounds low high long in
    let top : high ≤ high_of grounds = l.up_to in
    let cap : high_of grounds ≤ 256 = b.1 in
    record {
      long = bounds_long grounds low high long ∙ sym long;
      kept = bounds_kept grounds low high long;
      bounded = ((λ n m. ((inside n m).0, (inside n m).1)), omega arith);
    }
  where
    inside : (n : ℕ) → mark_of marks n ≡ 1 → (low_of (set (set grounds 256 low) 257 high) ≤ n) × (n < high_of (set (set grounds 256 low) 257 high))
    inside n m =
        let u : low_of grounds ≤ n = (b.0 n m).0 in
        let v : n < high_of grounds = (b.0 n m).1 in
        let x : low_of (set (set grounds 256 low) 257 high) ≡ low = bounds_low grounds low high long in
        let y : high_of (set (set grounds 256 low) 257 high) ≡ high = bounds_high grounds low high long in
        let p : low ≤ n = decide (ltb n low) (λ z. absurd (f.before n u (ltb_is n low z) m)) (λ z. ltb_isnt n low z) in
        let q : n < high = decide (ltb n high) (λ z. ltb_is n high z) (λ z. absurd (l.behind n (ltb_isnt n high z) v m)) in
        (omega arith, omega arith)

pub spread_is : (k : ℕ) (grounds : List ℕ) (u v a c : ℕ) → u ≡ low_of grounds → v ≡ high_of grounds → a ≡ min u k → c ≡ max v (k + 1) → set (set grounds 256 a) 257 c ≡ spread_to k grounds
spread_is k grounds u v a c d e x y =
    ap (λ z. set (set grounds 256 z) 257 c) (x ∙ ap (λ z. min z k) d) ∙ ap (λ z. set (set grounds 256 (min (low_of grounds) k)) 257 z) (y ∙ ap (λ z. max z (k + 1)) e)

pub spread_long : (k : ℕ) (grounds : List ℕ) → length (spread_to k grounds) ≡ length grounds
spread_long k grounds = length-set (set grounds 256 (min (low_of grounds) k)) 257 (max (high_of grounds) (k + 1)) ∙ length-set grounds 256 (min (low_of grounds) k)

-- how arrivals end
module _ (k g : ℕ) (marks grounds : List ℕ) (low : k < 256) (s : Sizes marks grounds) where
  pub arrived_first : (marks' grounds' : List ℕ) → mark_of marks k ≡ 0 → marks' ≡ set marks k 1 → grounds' ≡ spread_to k (set grounds k g) → Arrived k g marks grounds marks' grounds'
  arrived_first marks' grounds' m e f = subst (λ x. Arrived k g marks grounds x grounds') (sym e) (subst (Arrived k g marks grounds (set marks k 1)) (sym f) (arrive_waits k g marks grounds low s (inl m)))

  pub arrived_again : (marks' grounds' : List ℕ) → ground_of grounds k < g → marks' ≡ set marks k 1 → grounds' ≡ spread_to k (set grounds k g) → Arrived k g marks grounds marks' grounds'
  arrived_again marks' grounds' m e f = subst (λ x. Arrived k g marks grounds x grounds') (sym e) (subst (Arrived k g marks grounds (set marks k 1)) (sym f) (arrive_waits k g marks grounds low s (inr m)))

pub wait_long : (k g : ℕ) (grounds grounds' : List ℕ) → grounds' ≡ spread_to k (set grounds k g) → length grounds' ≡ length grounds
wait_long k g grounds grounds' e = ap length e ∙ spread_long k (set grounds k g) ∙ length-set grounds k g

-- bounds that were set, from what was read of the old ones
module _ (marks grounds : List ℕ) (sizes : Sizes marks grounds) (b : Bounded marks grounds) (u v low : ℕ) (d : u ≡ low_of grounds) (e : v ≡ high_of grounds) (f : FirstIs marks u v low) where
  first_is : FirstIs marks (low_of grounds) (high_of grounds) low
  first_is = subst (λ x. FirstIs marks x (high_of grounds) low) d (subst (λ x. FirstIs marks u x low) e f)

  pub pick_nothing : v ≤ low → Narrowed marks grounds grounds × ((n : ℕ) → mark_of marks n ≡ 1 → ⊥)
  pick_nothing h = (narrowed_same marks grounds b, none_waits marks grounds low b first_is (omega arith))

  pub pick_low : low < v → (mark_of marks low ≡ 1) × (v ≤ 256)
  pick_low h = (f.waits h, let t : high_of grounds ≤ 256 = b.1 in omega arith)

  pub pick_narrowed : (high : ℕ) → LastIs marks low v high → Narrowed marks grounds (set (set grounds 256 low) 257 high)
  pick_narrowed high l = narrowed marks grounds low high sizes.1 b first_is (subst (λ x. LastIs marks low x high) e l)
