-- Walks from node to node until none waits.
use Rattle.std.specs.Prelude.{◌≡◌, refl, ◌≢◌, ◌⊎◌, ℕ, zero, suc, ◌+◌, ◌*◌, ◌-◌, ◌≤◌, ◌<◌, List, length, get_or, set, eqb, ltb}
use Rattle.std.proofs.Common.{sym, ◌∙◌, subst, inl, inr, arith, length-set, get_or-set_same, get_or-set_other}
use Rattle.std.proofs.Math.ListN.{get_or-eq_default}
use Rattle.rules.specs.Tables.{Body}
use Rattle.rules.specs.ModuleFile.{labels, read}
use Rattle.rules.specs.Typing.{Lists}
use Rattle.soundness.specs.Tests.{decide, eqb_is, eqb_isnt, ltb_is, ltb_isnt}
use Rattle.nodes.specs.Nodes.{place_of, owner_of}
use Rattle.rules.specs.Need.{height, Path, argument_at}
use Rattle.tracks.specs.Walks.{walked_map, Moved, Grows, mark_of, ground_of, low_of, high_of, offset_of, Met, Noted, WalkedIn, Climbing}
use Rattle.tracks.specs.Loop.{Finished}

-- ---- later states: what was met is met, what was noted is noted

pub record Later (M G Q : List ℕ) (x : ℕ) (M' G' Q' : List ℕ) (x' : ℕ) : Type 0 where
  pub kept : (n : ℕ) → n < 256 → 0 < mark_of M n → (0 < mark_of M' n) × (ground_of G n ≤ ground_of G' n)
  pub higher : x ≤ x'
  pub wider : (k : ℕ) → offset_of Q k ≤ offset_of Q' k

pub later_refl : (M G Q : List ℕ) (x : ℕ) → Later M G Q x M G Q x
later_refl M G Q x = record { kept = λ n l h. (h, omega arith); higher = omega arith; wider = λ k. omega arith }

pub later_trans : (M G Q : List ℕ) (x : ℕ) (M' G' Q' : List ℕ) (x' : ℕ) (M'' G'' Q'' : List ℕ) (x'' : ℕ) → Later M G Q x M' G' Q' x' → Later M' G' Q' x' M'' G'' Q'' x'' → Later M G Q x M'' G'' Q'' x''
later_trans M G Q x M' G' Q' x' M'' G'' Q'' x'' a c =
    record {
      kept = λ n l h. let u = a.kept n l h in let v = c.kept n l u.0 in let y : ground_of G n ≤ ground_of G' n = u.1 in let z : ground_of G' n ≤ ground_of G'' n = v.1 in (v.0, omega arith);
      higher = let u : x ≤ x' = a.higher in let v : x' ≤ x'' = c.higher in omega arith;
      wider = λ k. let u : offset_of Q k ≤ offset_of Q' k = a.wider k in let v : offset_of Q' k ≤ offset_of Q'' k = c.wider k in omega arith;
    }

pub grows_later : (M G Q : List ℕ) (x : ℕ) (M' G' Q' : List ℕ) (x' : ℕ) → Grows M G Q x M' G' Q' x' → Later M G Q x M' G' Q' x'
grows_later M G Q x M' G' Q' x' g = record { kept = λ n l h. go n h (g.each n l); higher = g.higher; wider = g.wider }
  where
    go : (n : ℕ) → 0 < mark_of M n → Moved (mark_of M n) (ground_of G n) (mark_of M' n) (ground_of G' n) → (0 < mark_of M' n) × (ground_of G n ≤ ground_of G' n)
    go n h (inl z) = let u : mark_of M' n ≡ mark_of M n = z.0 in let v : ground_of G' n ≡ ground_of G n = z.1 in (omega arith, omega arith)
    go n h (inr z) = ((let u : mark_of M' n ≡ 1 = z.0 in omega arith), more z.1)
      where
        more : (mark_of M n ≡ 0) ⊎ (ground_of G n < ground_of G' n) → ground_of G n ≤ ground_of G' n
        more (inl y) = absurd (omega arith)
        more (inr y) = omega arith

pub walked_later : (s table : List ℕ) (b : Body) (M G Q : List ℕ) (x : ℕ) (M' G' Q' : List ℕ) (x' : ℕ) → Later M G Q x M' G' Q' x' → (p : ℕ) (l : Lists) (f : ℕ) → WalkedIn s table b M G Q x p l f → WalkedIn s table b M' G' Q' x' p l f
walked_later s table b M G Q x M' G' Q' x' a = walked_map (read s) b (Met s table b M G) (Noted s table b Q x) (Met s table b M' G') (Noted s table b Q' x') met noted
  where
    met : (q : ℕ) (k : Lists) (f : ℕ) → Met s table b M G q k f → Met s table b M' G' q k f
    met q k f t = let u = a.kept t.2 t.3 t.5 in (t.0, t.1, t.2, t.3, t.4, u.0, (let v : ground_of G t.2 ≤ ground_of G' t.2 = u.1 in let w : f ≤ ground_of G t.2 = t.6 in omega arith))

    noted : (q : ℕ) (k : Lists) (f : ℕ) → Noted s table b Q x q k f → Noted s table b Q' x' q k f
    noted q k f n =
        record {
          fits = let u : height k f ≤ x = n.fits in let v : x ≤ x' = a.higher in omega arith;
          calls = λ j e. let u : argument_at (read s) k f j < offset_of Q j = n.calls j e in let v : offset_of Q j ≤ offset_of Q' j = a.wider j in omega arith;
        }

-- ---- what is left to do: each node can rise so far, and be walked from once more

cost : ℕ → ℕ → ℕ
cost zero g = 1030
cost (suc zero) g = 2 * (513 - g) + 1
cost (suc (suc m)) g = 2 * (513 - g)

pub fuel : List ℕ → List ℕ → ℕ → ℕ
fuel M G zero = 0
fuel M G (suc n) = cost (mark_of M n) (ground_of G n) + fuel M G n

moved_cost : (a f c g : ℕ) → (c ≡ 1 → g ≤ 512) → Moved a f c g → cost c g ≤ cost a f
unfolding cost
moved_cost a f c g l (inl z) = rw (z.0, z.1) (omega arith)
moved_cost zero f c g l (inr z) = rw z.0 (omega arith)
moved_cost (suc zero) f c g l (inr z) = rw z.0 (go z.1)
  where
    go : (suc zero ≡ 0) ⊎ (f < g) → 2 * (513 - g) + 1 ≤ 2 * (513 - f) + 1
    go (inl e) = absurd (omega arith)
    go (inr e) = omega arith
moved_cost (suc (suc a)) f c g l (inr z) = let u : g ≤ 512 = l z.0 in rw z.0 (go u z.1)
  where
    go : g ≤ 512 → (suc (suc a) ≡ 0) ⊎ (f < g) → 2 * (513 - g) + 1 ≤ 2 * (513 - f)
    go u (inl e) = absurd (omega arith)
    go u (inr e) = omega arith

-- of a node that waited: it has more ground_level, or nothing changed
waiting_cost : (f c g : ℕ) → (c ≡ 1 → g ≤ 512) → Moved 1 f c g → (c ≡ 1) × ((g ≡ f) ⊎ (cost c g < cost 1 f))
unfolding cost
waiting_cost f c g l (inl z) = (z.0, inl z.1)
waiting_cost f c g l (inr z) = (z.0, inr (let u : g ≤ 512 = l z.0 in rw z.0 (go u z.1)))
  where
    go : g ≤ 512 → (◌≡◌ {A = ℕ} 1 0) ⊎ (f < g) → 2 * (513 - g) + 1 < 2 * (513 - f) + 1
    go u (inl e) = absurd (omega arith)
    go u (inr e) = omega arith

walked_cost : (g : ℕ) → cost 2 g < cost 1 g
unfolding cost
walked_cost g = omega arith

fuel_le : (M G M' G' : List ℕ) (n : ℕ) → ((i : ℕ) → i < n → cost (mark_of M' i) (ground_of G' i) ≤ cost (mark_of M i) (ground_of G i)) → fuel M' G' n ≤ fuel M G n
unfolding fuel
fuel_le M G M' G' zero h = omega arith
fuel_le M G M' G' (suc n) h =
    let u : fuel M' G' n ≤ fuel M G n = fuel_le M G M' G' n (λ i l. h i (omega arith)) in let v : cost (mark_of M' n) (ground_of G' n) ≤ cost (mark_of M n) (ground_of G n) = h n (omega arith) in omega arith

fuel_less : (M G M' G' : List ℕ) (n k : ℕ) → k < n → ((i : ℕ) → i < n → cost (mark_of M' i) (ground_of G' i) ≤ cost (mark_of M i) (ground_of G i)) → cost (mark_of M' k) (ground_of G' k) < cost (mark_of M k) (ground_of G k)
    → fuel M' G' n < fuel M G n
unfolding fuel
fuel_less M G M' G' zero k l h s = absurd (omega arith)
fuel_less M G M' G' (suc n) k l h s =
    decide (eqb k n)
    (λ y. let e : k ≡ n = eqb_is k n y in
    let w : cost (mark_of M' n) (ground_of G' n) < cost (mark_of M n) (ground_of G n) = subst (λ j. cost (mark_of M' j) (ground_of G' j) < cost (mark_of M j) (ground_of G j)) e s in
    let u : fuel M' G' n ≤ fuel M G n = fuel_le M G M' G' n (λ i l. h i (omega arith)) in omega arith)
    (λ y. let d : k ≢ n = eqb_isnt k n y in
    let u : fuel M' G' n < fuel M G n = fuel_less M G M' G' n k (omega arith) (λ i l. h i (omega arith)) s in
    let v : cost (mark_of M' n) (ground_of G' n) ≤ cost (mark_of M n) (ground_of G n) = h n (omega arith) in omega arith)

-- ---- one node

pub record Visited (s table : List ℕ) (b : Body) (M G Q : List ℕ) (x : ℕ) (M' G' Q' : List ℕ) (x' : ℕ) : Type 0 where
  pub climbing : Climbing s table b M' G' Q' x'
  pub later : Later M G Q x M' G' Q' x'
  pub others : (n : ℕ) → (owner_of s n ≡ b → ⊥) → mark_of M' n ≡ mark_of M n
  pub less : fuel M' G' 256 < fuel M G 256

module _ (s table : List ℕ) (b : Body) (M G Q : List ℕ) (x : ℕ) (C : Climbing s table b M G Q x) (k : ℕ) (waits : mark_of M k ≡ 1) (M₁ G₁ Q₁ : List ℕ) (x₁ : ℕ)
    (F : Finished s table b (place_of s k) (ground_of G k) M G Q x M₁ G₁ Q₁ x₁) (low : (n : ℕ) → mark_of M₁ n ≡ 1 → ground_of G₁ n ≤ 512) where
  k_low : k < 256
  k_low = decide (ltb k 256) (λ y. ltb_is k 256 y) (λ y. let u : 256 ≤ k = ltb_isnt k 256 y in let v : length M ≡ 256 = C.marked in let z : mark_of M k ≡ 0 = get_or-eq_default M 0 {n = k} (omega arith) in absurd (omega arith))

  C₁ : Climbing s table b M₁ G₁ Q₁ x₁
  C₁ = F.climbing

  far : (n : ℕ) → 256 ≤ n → (mark_of M₁ n ≡ 0) × (mark_of M n ≡ 0)
  far n h = let u : length M₁ ≡ 256 = C₁.marked in let v : length M ≡ 256 = C.marked in (get_or-eq_default M₁ 0 {n = n} (omega arith), get_or-eq_default M 0 {n = n} (omega arith))

  -- nodes of other bodies stay
  others₁ : (n : ℕ) → (owner_of s n ≡ b → ⊥) → mark_of M₁ n ≡ mark_of M n
  others₁ n o = decide (ltb n 256) (λ y. go (F.grows.each n (ltb_is n 256 y))) (λ y. let f = far n (ltb_isnt n 256 y) in f.0 ∙ sym f.1)
    where
      go : Moved (mark_of M n) (ground_of G n) (mark_of M₁ n) (ground_of G₁ n) → mark_of M₁ n ≡ mark_of M n
      go (inl z) = z.0
      go (inr z) = absurd (o (C₁.mine n z.0))

  costs : (i : ℕ) → i < 256 → cost (mark_of M₁ i) (ground_of G₁ i) ≤ cost (mark_of M i) (ground_of G i)
  costs i l = moved_cost (mark_of M i) (ground_of G i) (mark_of M₁ i) (ground_of G₁ i) (low i) (F.grows.each i l)

  at_k : (mark_of M₁ k ≡ 1) × ((ground_of G₁ k ≡ ground_of G k) ⊎ (cost (mark_of M₁ k) (ground_of G₁ k) < cost (mark_of M k) (ground_of G k)))
  at_k =
      subst (λ m. (mark_of M₁ k ≡ 1) × ((ground_of G₁ k ≡ ground_of G k) ⊎ (cost (mark_of M₁ k) (ground_of G₁ k) < cost m (ground_of G k)))) (sym waits)
      (waiting_cost (ground_of G k) (mark_of M₁ k) (ground_of G₁ k) (low k) (subst (λ m. Moved m (ground_of G k) (mark_of M₁ k) (ground_of G₁ k)) waits (F.grows.each k k_low)))

  -- more ground_level came meanwhile: it waits still
  pub visit_again : (ground_of G₁ k ≡ ground_of G k → ⊥) → Visited s table b M G Q x M₁ G₁ Q₁ x₁
  visit_again n =
      record { climbing = C₁; later = grows_later M G Q x M₁ G₁ Q₁ x₁ F.grows; others = others₁; less = fuel_less M G M₁ G₁ 256 k k_low costs (go at_k.1) }
    where
      go : (ground_of G₁ k ≡ ground_of G k) ⊎ (cost (mark_of M₁ k) (ground_of G₁ k) < cost (mark_of M k) (ground_of G k)) → cost (mark_of M₁ k) (ground_of G₁ k) < cost (mark_of M k) (ground_of G k)
      go (inl e) = absurd (n e)
      go (inr e) = e

  -- it was walked from
  module _ (same : ground_of G₁ k ≡ ground_of G k) where
    abbrev M₂ : List ℕ
    M₂ = set M₁ k 2

    here : mark_of M₂ k ≡ 2
    here = get_or-set_same M₁ k 2 0 (let u : length M₁ ≡ 256 = C₁.marked in let v : k < 256 = k_low in omega arith)

    there : (n : ℕ) → n ≢ k → mark_of M₂ n ≡ mark_of M₁ n
    there n e = get_or-set_other M₁ k n 2 0 e

    split : (P : ℕ → Type 0) (n : ℕ) → P k → (n ≢ k → P n) → P n
    split P n u v = decide (eqb n k) (λ e. subst P (sym (eqb_is n k e)) u) (λ e. v (eqb_isnt n k e))

    own_k : owner_of s k ≡ b
    own_k = C.mine k waits

    later₂ : Later M₁ G₁ Q₁ x₁ M₂ G₁ Q₁ x₁
    later₂ = record { kept = λ n l. split (λ n. 0 < mark_of M₁ n → (0 < mark_of M₂ n) × (ground_of G₁ n ≤ ground_of G₁ n)) n (λ h. (let u : mark_of M₂ k ≡ 2 = here in omega arith, omega arith)) (λ e h. (let u : mark_of M₂ n ≡ mark_of M₁ n = there n e in omega arith, omega arith)); higher = omega arith; wider = λ j. omega arith }

    climbs : Climbing s table b M₂ G₁ Q₁ x₁
    climbs =
        record {
          marked = length-set M₁ k 2 ∙ C₁.marked;
          grounded = C₁.grounded;
          wide = C₁.wide;
          small = λ n. split (λ n. mark_of M₂ n ≤ 2) n (let u : mark_of M₂ k ≡ 2 = here in omega arith) (λ e. let u : mark_of M₂ n ≡ mark_of M₁ n = there n e in let v : mark_of M₁ n ≤ 2 = C₁.small n in omega arith);
          numbered = λ n. split (λ n. 0 < mark_of M₂ n → n < labels s) n (λ h. C.numbered k (omega arith)) (λ e h. let u : mark_of M₂ n ≡ mark_of M₁ n = there n e in C₁.numbered n (omega arith));
          mine = λ n. split (λ n. mark_of M₂ n ≡ 1 → owner_of s n ≡ b) n (λ h. own_k) (λ e h. C₁.mine n (sym (there n e) ∙ h));
          paths = λ n. split (λ n. 0 < mark_of M₂ n → owner_of s n ≡ b → (l : Lists) × Path (read s) b (place_of s n) l (ground_of G₁ n)) n (λ h o. C₁.paths k (let u : mark_of M₁ k ≡ 1 = at_k.0 in omega arith) o) (λ e h o. let u : mark_of M₂ n ≡ mark_of M₁ n = there n e in C₁.paths n (omega arith) o);
          between = λ n. split (λ n. mark_of M₂ n ≡ 1 → (low_of G₁ ≤ n) × (n < high_of G₁)) n (λ h. absurd (let u : mark_of M₂ k ≡ 2 = here in omega arith)) (λ e h. C₁.between n (sym (there n e) ∙ h));
          top = C₁.top;
          own_met = C₁.own_met;
          row_met = C₁.row_met;
          walked = λ n. split (λ n. owner_of s n ≡ b → mark_of M₂ n ≡ 2 → (l : Lists) → Path (read s) b (place_of s n) l (ground_of G₁ n) → WalkedIn s table b M₂ G₁ Q₁ x₁ (place_of s n) l (ground_of G₁ n)) n
              (λ o h l p. walked_later s table b M₁ G₁ Q₁ x₁ M₂ G₁ Q₁ x₁ later₂ (place_of s k) l (ground_of G₁ k) (subst (WalkedIn s table b M₁ G₁ Q₁ x₁ (place_of s k) l) (sym same) (F.walked l (subst (Path (read s) b (place_of s k) l) same p))))
              (λ e o h l p. walked_later s table b M₁ G₁ Q₁ x₁ M₂ G₁ Q₁ x₁ later₂ (place_of s n) l (ground_of G₁ n) (C₁.walked n o (sym (there n e) ∙ h) l p));
        }

    pub visit_done : Visited s table b M G Q x (set M₁ k 2) G₁ Q₁ x₁
    visit_done =
        record {
          climbing = climbs;
          later = later_trans M G Q x M₁ G₁ Q₁ x₁ M₂ G₁ Q₁ x₁ (grows_later M G Q x M₁ G₁ Q₁ x₁ F.grows) later₂;
          others = λ n o. there n (λ e. o (subst (λ j. owner_of s j ≡ b) (sym e) own_k)) ∙ others₁ n o;
          less = fuel_less M G M₂ G₁ 256 k k_low
              (λ i l. split (λ i. cost (mark_of M₂ i) (ground_of G₁ i) ≤ cost (mark_of M i) (ground_of G i)) i (let u : cost (mark_of M₂ k) (ground_of G₁ k) < cost (mark_of M k) (ground_of G k) = strict in omega arith) (λ e. subst (λ m. cost m (ground_of G₁ i) ≤ cost (mark_of M i) (ground_of G i)) (sym (there i e)) (costs i l)))
              strict;
        }
      where
        strict : cost (mark_of M₂ k) (ground_of G₁ k) < cost (mark_of M k) (ground_of G k)
        strict =
            subst (λ m. cost m (ground_of G₁ k) < cost (mark_of M k) (ground_of G k)) (sym here)
            (subst (λ m. cost 2 (ground_of G₁ k) < cost m (ground_of G k)) (sym waits) (subst (λ g. cost 2 g < cost 1 (ground_of G k)) (sym same) (walked_cost (ground_of G k))))

-- ---- the bounds of those that wait come closer

module _ (s table : List ℕ) (b : Body) (M G Q : List ℕ) (x : ℕ) (C : Climbing s table b M G Q x) (G' : List ℕ) (long : length G' ≡ length G) (kept : (n : ℕ) → n < 256 → ground_of G' n ≡ ground_of G n)
    (bounded : ((n : ℕ) → mark_of M n ≡ 1 → (low_of G' ≤ n) × (n < high_of G')) × (high_of G' ≤ 256)) where
  marked_low : (n : ℕ) → 0 < mark_of M n → n < 256
  marked_low n h = decide (ltb n 256) (λ y. ltb_is n 256 y) (λ y. let u : 256 ≤ n = ltb_isnt n 256 y in let v : length M ≡ 256 = C.marked in let z : mark_of M n ≡ 0 = get_or-eq_default M 0 {n = n} (omega arith) in absurd (omega arith))

  later_bounds : Later M G Q x M G' Q x
  later_bounds = record { kept = λ n l h. (h, let u : ground_of G' n ≡ ground_of G n = kept n l in omega arith); higher = omega arith; wider = λ j. omega arith }

  pub climbing_bounds : Climbing s table b M G' Q x
  climbing_bounds =
      record {
        marked = C.marked;
        grounded = long ∙ C.grounded;
        wide = C.wide;
        small = C.small;
        numbered = C.numbered;
        mine = C.mine;
        paths = λ n h o. let p = C.paths n h o in (p.0, subst (Path (read s) b (place_of s n) p.0) (sym (kept n (marked_low n h))) p.1);
        between = bounded.0;
        top = bounded.1;
        own_met = C.own_met;
        row_met = C.row_met;
        walked = λ n o h l p.
            let e : ground_of G' n ≡ ground_of G n = kept n (marked_low n (omega arith)) in
            subst (WalkedIn s table b M G' Q x (place_of s n) l) (sym e) (walked_later s table b M G Q x M G' Q x later_bounds (place_of s n) l (ground_of G n) (C.walked n o h l (subst (Path (read s) b (place_of s n) l) e p)));
      }

  pub bounds_later : Later M G Q x M G' Q x
  bounds_later = later_bounds

  pub fuel_bounds : fuel M G' 256 ≡ fuel M G 256
  fuel_bounds = let u : fuel M G' 256 ≤ fuel M G 256 = fuel_le M G M G' 256 (λ i l. let e : ground_of G' i ≡ ground_of G i = kept i l in rw e (omega arith)) in
      let v : fuel M G 256 ≤ fuel M G' 256 = fuel_le M G' M G 256 (λ i l. let e : ground_of G' i ≡ ground_of G i = kept i l in rw e (omega arith)) in omega arith

-- ---- until none waits

-- what the room shows of each node: the lengths of the lists at its place
pub record Shown (s room : List ℕ) : Type 0 where
  pub enough : 64 * labels s ≤ length room
  pub lengths : (n : ℕ) → n < labels s → (l : Lists) (f : ℕ) → Path (read s) (owner_of s n) (place_of s n) l f
      → (get_or room (64 * n + 1) 0 ≡ length l.locals) × (get_or room (64 * n + 2) 0 ≡ length l.operands)

pub record Drained (s table : List ℕ) (b : Body) (M G Q : List ℕ) (x : ℕ) (M' G' Q' : List ℕ) (x' : ℕ) : Type 0 where
  pub climbing : Climbing s table b M' G' Q' x'
  pub later : Later M G Q x M' G' Q' x'
  pub others : (n : ℕ) → (owner_of s n ≡ b → ⊥) → mark_of M' n ≡ mark_of M n

-- none waits
abbrev pub Quiet : List ℕ → Type 0
Quiet M = (n : ℕ) → mark_of M n ≡ 1 → ⊥

pub drained_start : (s table : List ℕ) (b : Body) (M G Q : List ℕ) (x : ℕ) → Climbing s table b M G Q x → Drained s table b M G Q x M G Q x
drained_start s table b M G Q x C = record { climbing = C; later = later_refl M G Q x; others = λ n o. refl }

module _ (s table : List ℕ) (b : Body) (M₀ G₀ Q₀ : List ℕ) (x₀ : ℕ) (M G Q : List ℕ) (x : ℕ) (D : Drained s table b M₀ G₀ Q₀ x₀ M G Q x) (G' : List ℕ) (long : length G' ≡ length G) (kept : (n : ℕ) → n < 256 → ground_of G' n ≡ ground_of G n)
    (bounded : ((n : ℕ) → mark_of M n ≡ 1 → (low_of G' ≤ n) × (n < high_of G')) × (high_of G' ≤ 256)) where
  pub drained_bounds : Drained s table b M₀ G₀ Q₀ x₀ M G' Q x
  drained_bounds =
      record {
        climbing = climbing_bounds s table b M G Q x D.climbing G' long kept bounded;
        later = later_trans M₀ G₀ Q₀ x₀ M G Q x M G' Q x D.later (bounds_later s table b M G Q x D.climbing G' long kept bounded);
        others = D.others;
      }

  pub drained_visit : (M'' G'' Q'' : List ℕ) (x'' : ℕ) → Visited s table b M G' Q x M'' G'' Q'' x'' → Drained s table b M₀ G₀ Q₀ x₀ M'' G'' Q'' x'' × (fuel M'' G'' 256 < fuel M G 256)
  drained_visit M'' G'' Q'' x'' v = (
    record {
      climbing = v.climbing;
      later = later_trans M₀ G₀ Q₀ x₀ M G' Q x M'' G'' Q'' x'' drained_bounds.later v.later;
      others = λ n o. v.others n o ∙ D.others n o;
    },
    (let e : fuel M G' 256 ≡ fuel M G 256 = fuel_bounds s table b M G Q x D.climbing G' long kept bounded in let u : fuel M'' G'' 256 < fuel M G' 256 = v.less in omega arith),
  )
