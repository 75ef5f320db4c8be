-- The laws of a visit, one a return.
use mathlib.Core.Path.{◌≡◌, refl, sym, ap, ◌∙◌, subst}
use mathlib.Core.Logic.{◌⊎◌, inl, inr}
use Prim.Native.Nat.{ℕ, zero, suc, ◌+◌, ◌≤◌, ◌<◌}
use native.Mathlib.Omega.{arith}
use mathlib.Core.Bool.{Bool, true, false, ◌&&◌}
use mathlib.Core.List.{List, [], ◌∷◌}
use lib.ListN.{length, get_or, set, length-set}
use lib.Seq.{get_or-set_same, get_or-set_other}
use lib.Dec.{ltb, eqb}
use Rattle.soundness.specs.Tests.{decide, eqb_is, eqb_isnt, ltb_is, ltb_isnt, and_both, false_true}
use Rattle.settle.specs.Graph.{offset_at, NextCall, Joined, Callees, Need, made, Way, stays, calls, Loops, back, on, Low, Sizes, Settled, Open, Kept, Visited, Grown, Reached, Ended, mark_of, unseen}

-- ---- marks

pub unseen_set : (l : List ℕ) (b v : ℕ) → b < length l → mark_of l b ≡ 0 → 0 < v → suc (unseen (set l b v)) ≡ unseen l
unseen_set [] b v h e p = absurd (omega arith)
unseen_set (zero ∷ l) zero zero h e p = absurd (omega arith)
unseen_set (zero ∷ l) zero (suc v) h e p = refl
unseen_set (suc k ∷ l) zero v h e p = absurd (omega arith)
unseen_set (zero ∷ l) (suc b) v h e p = ap suc (unseen_set l b v (omega arith) e p)
unseen_set (suc k ∷ l) (suc b) v h e p = unseen_set l b v (omega arith) e p

pub unseen_again : (l : List ℕ) (b v : ℕ) → 0 < mark_of l b → 0 < v → unseen (set l b v) ≡ unseen l
unseen_again [] b v h p = refl
unseen_again (zero ∷ l) zero v h p = absurd (omega arith)
unseen_again (suc k ∷ l) zero zero h p = absurd (omega arith)
unseen_again (suc k ∷ l) zero (suc v) h p = refl
unseen_again (zero ∷ l) (suc b) v h p = ap suc (unseen_again l b v h p)
unseen_again (suc k ∷ l) (suc b) v h p = unseen_again l b v h p

apart : (a b : ℕ) → eqb a b ≡ false → a ≡ b → ⊥
apart a b e q = eqb_isnt a b e q

-- ---- ways

way_on : (n : ℕ) (own off : List ℕ) (a b k p : ℕ) → Way n own off a b → k < n → offset_at off b k ≡ suc p → Way n own off a (suc k)
way_on n own off _ _ k p (stays b) l e = calls b k p (suc k) l e (stays (suc k))
way_on n own off _ _ k p (calls a j q b h f w) l e = calls a j q (suc k) h f (way_on n own off (suc j) b k p w l e)

-- a row that is seen, and not settled, makes its callers loop
stuck : (n : ℕ) (own off marks need frames : List ℕ) (b k p : ℕ) → Settled n own off marks need frames → k < n → offset_at off b k ≡ suc p
    → 0 < mark_of marks (suc k) → eqb (mark_of marks (suc k)) 2 ≡ false → (mark_of marks (suc k) ≡ 1 → Way n own off (suc k) b) → Loops n own off b
stuck n own off marks need frames b k p S l e h q w =
    decide (eqb (mark_of marks (suc k)) 1) (λ y. back b k p l e (w (eqb_is (mark_of marks (suc k)) 1 y)))
    (λ y. let s : mark_of marks (suc k) ≤ 3 = S.small (suc k) in
    let u : mark_of marks (suc k) ≡ 1 → ⊥ = eqb_isnt (mark_of marks (suc k)) 1 y in
    let v : mark_of marks (suc k) ≡ 2 → ⊥ = eqb_isnt (mark_of marks (suc k)) 2 q in
    on b k p l e (S.loops (suc k) l (three (mark_of marks (suc k)) h s u v)))
  where
    three : (c : ℕ) → 0 < c → c ≤ 3 → (c ≡ 1 → ⊥) → (c ≡ 2 → ⊥) → c ≡ 3
    three zero h s u v = absurd (omega arith)
    three (suc zero) h s u v = absurd (u refl)
    three (suc (suc zero)) h s u v = absurd (v refl)
    three (suc (suc (suc zero))) h s u v = refl
    three (suc (suc (suc (suc c)))) h s u v = absurd (omega arith)

positive : (c : ℕ) → 0 < c → (p : ℕ) × (c ≡ suc p)
positive zero h = absurd (omega arith)
positive (suc p) h = (p, refl)

-- ---- reach

grown_refl : (marks : List ℕ) → Grown marks marks
grown_refl marks = record { seen = λ a h. refl; shut = λ a h. h; fewer = omega arith }

pub reach_seen : (n : ℕ) (own off marks need frames : List ℕ) (b k j : ℕ) → j ≡ suc k → Sizes n own off marks need frames → Settled n own off marks need frames → Open n own off marks b → k < n
    → 0 < offset_at off b k → 0 < mark_of marks j → Reached n own off b k marks marks need frames (eqb (mark_of marks j) 2)
reach_seen n own off marks need frames b k j z Z S O l e h =
    let p : (p : ℕ) × (offset_at off b k ≡ suc p) = positive (offset_at off b k) e in
    subst (λ i. Reached n own off b k marks marks need frames (eqb (mark_of marks i) 2)) (sym z)
    (record {
      sizes = Z;
      settled = S;
      grown = grown_refl marks;
      fine = λ q a u. eqb_is (mark_of marks (suc k)) 2 q;
      not_fine = λ q. stuck n own off marks need frames b k p.0 S l p.1 (subst (λ i. 0 < mark_of marks i) z h) q (λ w. O (suc k) l w);
    })

pub reach_open : (n : ℕ) (own off marks : List ℕ) (b k j : ℕ) → j ≡ suc k → Open n own off marks b → k < n → 0 < offset_at off b k → Open n own off marks j
reach_open n own off marks b k j z O l e a h m =
    let p : (p : ℕ) × (offset_at off b k ≡ suc p) = positive (offset_at off b k) e in
    subst (Way n own off a) (sym z) (way_on n own off a b k p.0 (O a h m) l p.1)

pub reach_visited : (n : ℕ) (own off marks marks' need' frames' : List ℕ) (b k j : ℕ) → j ≡ suc k → k < n → 0 < offset_at off b k → mark_of marks j ≡ 0
    → Visited n own off j marks marks' need' frames' → Reached n own off b k marks marks' need' frames' (eqb (mark_of marks' j) 2)
reach_visited n own off marks marks' need' frames' b k j z l e m W₀ =
    let p : (p : ℕ) × (offset_at off b k ≡ suc p) = positive (offset_at off b k) e in
    record {
      sizes = W₀.sizes;
      settled = W₀.settled;
      grown = record {
        seen = λ a h. decide (eqb a j) (λ y. let q : a ≡ j = eqb_is a j y in let w : mark_of marks a ≡ 0 = ap (mark_of marks) q ∙ m in absurd (omega arith)) (λ y. W₀.kept.seen a (apart a j y) h);
        shut = λ a h. decide (eqb a j) (λ y. let q : a ≡ j = eqb_is a j y in let w : mark_of marks' j ≡ 1 = ap (mark_of marks') (sym q) ∙ h in let v : 2 ≤ mark_of marks' j = W₀.ended in absurd (omega arith)) (λ y. W₀.kept.shut a (apart a j y) h);
        fewer = W₀.kept.fewer;
      };
      fine = λ q a u. ap (mark_of marks') (sym z) ∙ eqb_is (mark_of marks' j) 2 q;
      not_fine = λ q. stuck n own off marks' need' frames' b k p.0 W₀.settled l p.1 (let v : 2 ≤ mark_of marks' j = W₀.ended in let w : mark_of marks' j ≡ mark_of marks' (suc k) = ap (mark_of marks') z in omega arith)
          (ap (λ i. eqb (mark_of marks' i) 2) (sym z) ∙ q) (λ w. let v : 2 ≤ mark_of marks' j = W₀.ended in let u : mark_of marks' j ≡ mark_of marks' (suc k) = ap (mark_of marks') z in absurd (omega arith));
    }

-- ---- visit: row b is open, its callees below k were looked at, and k is the next

pub record Looking (n : ℕ) (own off : List ℕ) (b left : ℕ) (marks₀ : List ℕ) (k : ℕ) (ok : Bool) (marks need frames : List ℕ) : Type 0 where
  pub bound : k ≤ n
  pub called : k < n → 0 < offset_at off b k
  pub sizes : Sizes n own off marks need frames
  pub settled : Settled n own off marks need frames
  pub here : mark_of marks b ≡ 1
  pub opened : Open n own off marks b
  pub few : unseen marks < left
  pub kept : Kept b marks₀ marks
  pub fine : ok ≡ true → (j a : ℕ) → j < k → offset_at off b j ≡ suc a → mark_of marks (suc j) ≡ 2
  pub not_fine : ok ≡ false → Loops n own off b

mark_set : (marks : List ℕ) (b v a : ℕ) → (a ≡ b → ⊥) → mark_of (set marks b v) a ≡ mark_of marks a
mark_set marks b v a h = get_or-set_other marks b a v 0 h

pub visit_first : (n : ℕ) (own off marks need frames : List ℕ) (b left k : ℕ) → Sizes n own off marks need frames → Settled n own off marks need frames → b ≤ n → mark_of marks b ≡ 0 → unseen marks ≤ left
    → Open n own off marks b → NextCall off b 0 n k → Looking n own off b left (set marks b 1) k true (set marks b 1) need frames
visit_first n own off marks need frames b left k Z S h m u O N =
    record {
      bound = N.within;
      called = N.called;
      sizes = record { few = Z.few; owns = Z.owns; offs = Z.offs; marked = length-set marks b 1 ∙ Z.marked; needs = Z.needs; framed = Z.framed };
      settled = record {
        settled = λ a l e. decide (eqb a b) (λ y. absurd (clash a 2 (eqb_is a b y) e (omega arith))) (λ y. S.settled a l (sym (mark_set marks b 1 a (apart a b y)) ∙ e));
        loops = λ a l e. decide (eqb a b) (λ y. absurd (clash a 3 (eqb_is a b y) e (omega arith))) (λ y. S.loops a l (sym (mark_set marks b 1 a (apart a b y)) ∙ e));
        small = λ a. decide (eqb a b) (λ y. let w : mark_of (set marks b 1) a ≡ 1 = ap (mark_of (set marks b 1)) (eqb_is a b y) ∙ at_b in omega arith)
            (λ y. let w : mark_of (set marks b 1) a ≡ mark_of marks a = mark_set marks b 1 a (apart a b y) in let v : mark_of marks a ≤ 3 = S.small a in omega arith);
      };
      here = at_b;
      opened = λ a l e. decide (eqb a b) (λ y. subst (λ i. Way n own off i b) (sym (eqb_is a b y)) (stays b)) (λ y. O a l (sym (mark_set marks b 1 a (apart a b y)) ∙ e));
      few = (let w : suc (unseen (set marks b 1)) ≡ unseen marks = unseen_set marks b 1 inside m (omega arith) in omega arith);
      kept = record { seen = λ a q l. refl; shut = λ a q e. e; fewer = omega arith };
      fine = λ q j a l e. let z : 0 ≡ suc a = sym (N.skipped j (omega arith) l) ∙ e in absurd (omega arith);
      not_fine = λ q. false_true (sym q);
    }
  where
    inside : b < length marks
    inside = let z : length marks ≡ 129 = Z.marked in let w : n ≤ 128 = Z.few in omega arith

    at_b : mark_of (set marks b 1) b ≡ 1
    at_b = get_or-set_same marks b 1 0 inside

    clash : (a v : ℕ) → a ≡ b → mark_of (set marks b 1) a ≡ v → 1 < v → ⊥
    clash a v q e l = let w : mark_of (set marks b 1) b ≡ v = ap (mark_of (set marks b 1)) (sym q) ∙ e in let z : mark_of (set marks b 1) b ≡ 1 = at_b in omega arith

and_false : (x y : Bool) → (x && y) ≡ false → (x ≡ false) ⊎ (y ≡ false)
and_false true y e = inr e
and_false false y e = inl refl

pub visit_next : (n : ℕ) (own off marks₀ marks need frames marks' need' frames' : List ℕ) (b left k i : ℕ) (ok r : Bool) → Looking n own off b left marks₀ k ok marks need frames
    → Reached n own off b k marks marks' need' frames' r → NextCall off b (k + 1) n i → Looking n own off b left marks₀ i (ok && r) marks' need' frames'
visit_next n own off marks₀ marks need frames marks' need' frames' b left k i ok r L R N =
    record {
      bound = N.within;
      called = N.called;
      sizes = R.sizes;
      settled = R.settled;
      here = R.grown.seen b (let w : mark_of marks b ≡ 1 = L.here in omega arith) ∙ L.here;
      opened = λ a h e. L.opened a h (R.grown.shut a e);
      few = (let x : unseen marks < left = L.few in let y : unseen marks' ≤ unseen marks = R.grown.fewer in omega arith);
      kept = record {
        seen = λ a q h. R.grown.seen a (let w : mark_of marks a ≡ mark_of marks₀ a = L.kept.seen a q h in omega arith) ∙ L.kept.seen a q h;
        shut = λ a q e. L.kept.shut a q (R.grown.shut a e);
        fewer = (let x : unseen marks ≤ unseen marks₀ = L.kept.fewer in let y : unseen marks' ≤ unseen marks = R.grown.fewer in omega arith);
      };
      fine = λ q j a h e. all (and_both ok r q) j a h e;
      not_fine = λ q. some (and_false ok r q);
    }
  where
    all : (ok ≡ true) × (r ≡ true) → (j a : ℕ) → j < i → offset_at off b j ≡ suc a → mark_of marks' (suc j) ≡ 2
    all q j a h e =
        decide (ltb j k)
        (λ y. let w : mark_of marks (suc j) ≡ 2 = L.fine q.0 j a (ltb_is j k y) e in R.grown.seen (suc j) (omega arith) ∙ w)
        (λ y. let w : k ≤ j = ltb_isnt j k y in decide (eqb j k)
        (λ x. let v : k ≡ j = sym (eqb_is j k x) in ap (λ i. mark_of marks' (suc i)) (sym v) ∙ R.fine q.1 a (ap (offset_at off b) v ∙ e))
        (λ x. let v : j ≡ k → ⊥ = eqb_isnt j k x in let z : 0 ≡ suc a = sym (N.skipped j (omega arith) h) ∙ e in absurd (omega arith)))

    some : (ok ≡ false) ⊎ (r ≡ false) → Loops n own off b
    some (inl x) = L.not_fine x
    some (inr x) = R.not_fine x

-- the mark of row b at the end, with need and frames that differ there only
ended : (n : ℕ) (own off marks₀ marks need frames need' frames' : List ℕ) (b left v : ℕ) (ok : Bool) → b ≤ n → Looking n own off b left marks₀ n ok marks need frames → 2 ≤ v → v ≤ 3
    → length need' ≡ 129 → length frames' ≡ 129
    → ((a : ℕ) → (a ≡ b → ⊥) → (get_or need' a 0 ≡ get_or need a 0) × (get_or frames' a 0 ≡ get_or frames a 0))
    → (v ≡ 2 → Need n own off b (get_or need' b 0) (get_or frames' b 0)) → (v ≡ 3 → Loops n own off b)
    → Visited n own off b marks₀ (set marks b v) need' frames'
ended n own off marks₀ marks need frames need' frames' b left v ok hb L g s ln lf same done loop =
    record {
      sizes = record { few = L.sizes.few; owns = L.sizes.owns; offs = L.sizes.offs; marked = length-set marks b v ∙ L.sizes.marked; needs = ln; framed = lf };
      settled = record {
        settled = λ a l e. decide (eqb a b) (λ y. subst (λ i. Need n own off i (get_or need' i 0) (get_or frames' i 0)) (sym (eqb_is a b y)) (done (sym (at a (eqb_is a b y)) ∙ e)))
            (λ y. let z : (get_or need' a 0 ≡ get_or need a 0) × (get_or frames' a 0 ≡ get_or frames a 0) = same a (apart a b y) in
            subst (λ i. Need n own off a i (get_or frames' a 0)) (sym z.0) (subst (λ i. Need n own off a (get_or need a 0) i) (sym z.1) (L.settled.settled a l (sym (mark_set marks b v a (apart a b y)) ∙ e))));
        loops = λ a l e. decide (eqb a b) (λ y. subst (Loops n own off) (sym (eqb_is a b y)) (loop (sym (at a (eqb_is a b y)) ∙ e))) (λ y. L.settled.loops a l (sym (mark_set marks b v a (apart a b y)) ∙ e));
        small = λ a. decide (eqb a b) (λ y. let w : mark_of (set marks b v) a ≡ v = at a (eqb_is a b y) in omega arith)
            (λ y. let w : mark_of (set marks b v) a ≡ mark_of marks a = mark_set marks b v a (apart a b y) in let u : mark_of marks a ≤ 3 = L.settled.small a in omega arith);
      };
      kept = record {
        seen = λ a q h. mark_set marks b v a q ∙ L.kept.seen a q h;
        shut = λ a q e. L.kept.shut a q (sym (mark_set marks b v a q) ∙ e);
        fewer = (let x : unseen marks ≤ unseen marks₀ = L.kept.fewer in let w : mark_of marks b ≡ 1 = L.here in let y : unseen (set marks b v) ≡ unseen marks = unseen_again marks b v (omega arith) (omega arith) in omega arith);
      };
      ended = let w : mark_of (set marks b v) b ≡ v = at b refl in omega arith;
    }
  where
    inside : b < length marks
    inside = let z : length marks ≡ 129 = L.sizes.marked in let w : n ≤ 128 = L.sizes.few in omega arith

    at : (a : ℕ) → a ≡ b → mark_of (set marks b v) a ≡ v
    at a q = ap (mark_of (set marks b v)) q ∙ get_or-set_same marks b v 0 inside

pub visit_loops : (n : ℕ) (own off marks₀ marks need frames : List ℕ) (b left : ℕ) (ok : Bool) → b ≤ n → Looking n own off b left marks₀ n ok marks need frames → ok ≡ false
    → Visited n own off b marks₀ (set marks b 3) need frames
visit_loops n own off marks₀ marks need frames b left ok hb L e =
    ended n own off marks₀ marks need frames need frames b left 3 ok hb L (omega arith) (omega arith) L.sizes.needs L.sizes.framed (λ a q. (refl, refl)) (λ z. absurd (omega arith)) (λ z. L.not_fine e)

pub visit_callees : (n : ℕ) (own off marks₀ marks need frames : List ℕ) (b left : ℕ) (ok : Bool) → Low n own off → Looking n own off b left marks₀ n ok marks need frames → ok ≡ true → Callees off need frames b n
visit_callees n own off marks₀ marks need frames b left ok W L e k a l q =
    W (suc k) (get_or need (suc k) 0) (get_or frames (suc k) 0) l (L.settled.settled (suc k) l (L.fine e k a l q))

pub visit_settles : (n : ℕ) (own off marks₀ marks need frames : List ℕ) (b left : ℕ) (ok : Bool) → b ≤ n → Looking n own off b left marks₀ n ok marks need frames → ok ≡ true
    → (x y : ℕ) → Joined own off need frames b n x y → Visited n own off b marks₀ (set marks b 2) (set need b x) (set frames b y)
visit_settles n own off marks₀ marks need frames b left ok hb L e x y J =
    ended n own off marks₀ marks need frames (set need b x) (set frames b y) b left 2 ok hb L (omega arith) (omega arith) (length-set need b x ∙ L.sizes.needs) (length-set frames b y ∙ L.sizes.framed)
    (λ a q. (get_or-set_other need b a x 0 q, get_or-set_other frames b a y 0 q))
    (λ z. subst (λ i. Need n own off b i (get_or (set frames b y) b 0)) (sym (get_or-set_same need b x 0 in_need)) (subst (λ i. Need n own off b x i) (sym (get_or-set_same frames b y 0 in_frames))
    (made b x y need frames J (λ k a l q. L.settled.settled (suc k) l (L.fine e k a l q)))))
    (λ z. absurd (omega arith))
  where
    in_need : b < length need
    in_need = let z : length need ≡ 129 = L.sizes.needs in let w : n ≤ 128 = L.sizes.few in omega arith

    in_frames : b < length frames
    in_frames = let z : length frames ≡ 129 = L.sizes.framed in let w : n ≤ 128 = L.sizes.few in omega arith

-- row b was unseen before it was opened
pub visited_from : (n : ℕ) (own off marks marks' need' frames' : List ℕ) (b : ℕ) → b < length marks → mark_of marks b ≡ 0 → Visited n own off b (set marks b 1) marks' need' frames'
    → Visited n own off b marks marks' need' frames'
visited_from n own off marks marks' need' frames' b i m W₀ =
    record {
      sizes = W₀.sizes;
      settled = W₀.settled;
      kept = record {
        seen = λ a q h. W₀.kept.seen a q (let z : mark_of (set marks b 1) a ≡ mark_of marks a = mark_set marks b 1 a q in omega arith) ∙ mark_set marks b 1 a q;
        shut = λ a q e. sym (mark_set marks b 1 a q) ∙ W₀.kept.shut a q e;
        fewer = (let x : unseen marks' ≤ unseen (set marks b 1) = W₀.kept.fewer in let y : suc (unseen (set marks b 1)) ≡ unseen marks = unseen_set marks b 1 i m (omega arith) in omega arith);
      };
      ended = W₀.ended;
    }

pub looked : (n : ℕ) (own off : List ℕ) (b left : ℕ) (marks₀ : List ℕ) (k : ℕ) (ok : Bool) (marks need frames : List ℕ) → n ≤ k → Looking n own off b left marks₀ k ok marks need frames
    → Looking n own off b left marks₀ n ok marks need frames
looked n own off b left marks₀ k ok marks need frames h L = let z : k ≡ n = let w : k ≤ n = L.bound in omega arith in subst (λ i. Looking n own off b left marks₀ i ok marks need frames) z L

-- ---- all rows

unseen_low : (l : List ℕ) → unseen l ≤ length l
unseen_low [] = omega arith
unseen_low (zero ∷ l) = let z : unseen l ≤ length l = unseen_low l in omega arith
unseen_low (suc k ∷ l) = let z : unseen l ≤ length l = unseen_low l in omega arith

pub few_unseen : (n : ℕ) (own off marks need frames : List ℕ) → Sizes n own off marks need frames → unseen marks ≤ 129
few_unseen n own off marks need frames Z = let a : unseen marks ≤ length marks = unseen_low marks in let b : length marks ≡ 129 = Z.marked in omega arith

pub begin_seen : (n : ℕ) (own off marks need frames : List ℕ) (b : ℕ) → Ended n own off b marks need frames → 0 < mark_of marks b → Ended n own off (b + 1) marks need frames
begin_seen n own off marks need frames b E h =
    record {
      sizes = E.sizes;
      settled = E.settled;
      shut = E.shut;
      all = λ a l. decide (ltb a b) (λ y. E.all a (ltb_is a b y)) (λ y. let z : b ≤ a = ltb_isnt a b y in let w : b ≡ a = omega arith in subst (λ i. 2 ≤ mark_of marks i) w (two (mark_of marks b) h (E.shut b)));
    }
  where
    two : (c : ℕ) → 0 < c → (c ≡ 1 → ⊥) → 2 ≤ c
    two zero h s = absurd (omega arith)
    two (suc zero) h s = absurd (s refl)
    two (suc (suc c)) h s = omega arith

pub begin_open : (n : ℕ) (own off marks need frames : List ℕ) (b : ℕ) → Ended n own off b marks need frames → Open n own off marks b
begin_open n own off marks need frames b E a l e = absurd (E.shut a e)

pub begin_visited : (n : ℕ) (own off marks need frames marks' need' frames' : List ℕ) (b : ℕ) → Ended n own off b marks need frames → mark_of marks b ≡ 0 → Visited n own off b marks marks' need' frames'
    → Ended n own off (b + 1) marks' need' frames'
begin_visited n own off marks need frames marks' need' frames' b E m W₀ =
    record {
      sizes = W₀.sizes;
      settled = W₀.settled;
      shut = λ a e. decide (eqb a b) (λ y. let q : mark_of marks' b ≡ 1 = ap (mark_of marks') (sym (eqb_is a b y)) ∙ e in let v : 2 ≤ mark_of marks' b = W₀.ended in omega arith) (λ y. E.shut a (W₀.kept.shut a (apart a b y) e));
      all = λ a l. decide (ltb a b)
          (λ y. let k : a < b = ltb_is a b y in let z : 2 ≤ mark_of marks a = E.all a k in
          let q : mark_of marks' a ≡ mark_of marks a = W₀.kept.seen a (λ r. omega arith) (omega arith) in omega arith)
          (λ y. let z : b ≤ a = ltb_isnt a b y in let w : b ≡ a = omega arith in subst (λ i. 2 ≤ mark_of marks' i) w W₀.ended);
    }

pub ended_all : (n : ℕ) (own off marks need frames : List ℕ) (b : ℕ) → n < b → b ≤ n + 1 → Ended n own off b marks need frames → Ended n own off (n + 1) marks need frames
ended_all n own off marks need frames b h l E = let z : b ≡ n + 1 = omega arith in subst (λ i. Ended n own off i marks need frames) z E
