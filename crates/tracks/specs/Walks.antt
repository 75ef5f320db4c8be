-- What walks leave: nodes with a mark and the largest ground_level that came to them, the largest height, and for each callee where its first argument lies at most.
use Rattle.std.specs.Prelude.{◌≡◌, refl, ◌≢◌, ◌⊎◌, ℕ, suc, ◌+◌, ◌-◌, ◌≤◌, ◌<◌, true, List, [], ◌∷◌, length, get_or, eqb, ltb}
use Rattle.std.proofs.Common.{sym, ◌∙◌, subst, inl, inr, arith}
use Rattle.std.proofs.Math.Option.{some}
use Rattle.std.proofs.Math.ListN.{get_or-eq_default}
use Rattle.rules.specs.Tables.{Body, Module, body_of, body_end}
use Rattle.rules.specs.ModuleFile.{labels, refusal, read, bodies_in}
use Rattle.rules.specs.Typing.{Lists, place_flow, WellTyped}
use Rattle.format.specs.declared.Sections.{Sections}
use Rattle.format.specs.Layout.{Packed}
use Rattle.soundness.specs.Readable.{Has}
use Rattle.soundness.specs.Tests.{decide, eqb_is, eqb_isnt, ltb_is, ltb_isnt}
use Rattle.nodes.specs.Nodes.{place_of, owner_of, Tabled}
use Rattle.rules.specs.Need.{raised, height, Path, call_at, argument_at}
use Rattle.need.specs.Rises.{Notes}

-- ---- walks

-- M: met, with this much ground_level at least; W: noted
module _ (m : Module) (b : Body) (M W : ℕ → Lists → ℕ → Type 0) where
  pub data Goes : Lists → ℕ → List (ℕ × Lists) → Type 0 where
    ends : (l : Lists) (f : ℕ) → Goes l f []
    meets : (l : Lists) (f q : ℕ) (k : Lists) (ns : List (ℕ × Lists)) → M q k (raised f l k) → Goes l f ns → Goes l f ((q, k) ∷ ns)
    passes : (l : Lists) (f q : ℕ) (k : Lists) (ms ns : List (ℕ × Lists)) → W q k (raised f l k) → place_flow m b q k ≡ some ms → Goes k (raised f l k) ms → Goes l f ns
        → Goes l f ((q, k) ∷ ns)

  pub record Walked (p : ℕ) (l : Lists) (f : ℕ) : Type 0 where
    pub noted : W p l f
    pub next : List (ℕ × Lists)
    pub flow : place_flow m b p l ≡ some next
    pub goes : Goes l f next

module _ (m : Module) (b : Body) (M W M' W' : ℕ → Lists → ℕ → Type 0) (f : (q : ℕ) (k : Lists) (g : ℕ) → M q k g → M' q k g) (h : (q : ℕ) (k : Lists) (g : ℕ) → W q k g → W' q k g) where
  pub goes_map : (l : Lists) (g : ℕ) (ns : List (ℕ × Lists)) → Goes m b M W l g ns → Goes m b M' W' l g ns
  goes_map _ _ _ (ends l g) = ends l g
  goes_map _ _ _ (meets l g q k ns r x) = meets l g q k ns (f q k (raised g l k) r) (goes_map l g ns x)
  goes_map _ _ _ (passes l g q k ms ns w e x y) = passes l g q k ms ns (h q k (raised g l k) w) e (goes_map k (raised g l k) ms x) (goes_map l g ns y)

  pub walked_map : (p : ℕ) (l : Lists) (g : ℕ) → Walked m b M W p l g → Walked m b M' W' p l g
  walked_map p l g w = record { noted = h p l g w.noted; next = w.next; flow = w.flow; goes = goes_map l g w.next w.goes }

-- ---- what the code keeps

-- 0: nothing has flowed to the node; 1: it waits for a walk; 2: it was walked from, with the ground_level that it has
abbrev pub mark_of : List ℕ → ℕ → ℕ
mark_of marks n = get_or marks n 0

abbrev pub ground_of : List ℕ → ℕ → ℕ
ground_of grounds n = get_or grounds n 0

-- all nodes that wait lie between these
abbrev pub low_of : List ℕ → ℕ
low_of grounds = get_or grounds 256 0

abbrev pub high_of : List ℕ → ℕ
high_of grounds = get_or grounds 257 0

-- one more than where the first argument of function k lies at most; 0 where there is no call
abbrev pub offset_of : List ℕ → ℕ → ℕ
offset_of row k = get_or row k 0

-- the marks and the grounds have moved: a node is as it was, or it waits, for the first time or with more ground_level
abbrev pub Moved : ℕ → ℕ → ℕ → ℕ → Type 0
Moved mark ground_level mark' ground' = ((mark' ≡ mark) × (ground' ≡ ground_level)) ⊎ ((mark' ≡ 1) × ((mark ≡ 0) ⊎ (ground_level < ground')))

pub record Grows (marks grounds row : List ℕ) (most : ℕ) (marks' grounds' row' : List ℕ) (most' : ℕ) : Type 0 where
  pub each : (n : ℕ) → n < 256 → Moved (mark_of marks n) (ground_of grounds n) (mark_of marks' n) (ground_of grounds' n)
  pub higher : most ≤ most'
  pub wider : (k : ℕ) → offset_of row k ≤ offset_of row' k

moved_trans : (a f b g c h : ℕ) → Moved a f b g → Moved b g c h → Moved a f c h
moved_trans a f b g c h (inl x) (inl y) = inl (y.0 ∙ x.0, y.1 ∙ x.1)
moved_trans a f b g c h (inl x) (inr y) = inr (y.0, go y.1)
  where
    go : (b ≡ 0) ⊎ (g < h) → (a ≡ 0) ⊎ (f < h)
    go (inl z) = inl (sym x.0 ∙ z)
    go (inr z) = let w : g ≡ f = x.1 in inr (omega arith)
moved_trans a f b g c h (inr x) (inl y) = inr (y.0 ∙ x.0, go x.1)
  where
    go : (a ≡ 0) ⊎ (f < g) → (a ≡ 0) ⊎ (f < h)
    go (inl z) = inl z
    go (inr z) = let w : h ≡ g = y.1 in inr (omega arith)
moved_trans a f b g c h (inr x) (inr y) = inr (y.0, go x.1 y.1)
  where
    go : (a ≡ 0) ⊎ (f < g) → (b ≡ 0) ⊎ (g < h) → (a ≡ 0) ⊎ (f < h)
    go (inl z) w = inl z
    go (inr z) (inl w) = absurd (let v : b ≡ 1 = x.0 in omega arith)
    go (inr z) (inr w) = inr (omega arith)

pub grows_refl : (marks grounds row : List ℕ) (most : ℕ) → Grows marks grounds row most marks grounds row most
grows_refl marks grounds row most = record { each = λ n l. inl (refl, refl); higher = omega arith; wider = λ k. omega arith }

pub grows_trans : (M G R : List ℕ) (x : ℕ) (M' G' R' : List ℕ) (x' : ℕ) (M'' G'' R'' : List ℕ) (x'' : ℕ) → Grows M G R x M' G' R' x' → Grows M' G' R' x' M'' G'' R'' x'' → Grows M G R x M'' G'' R'' x''
grows_trans M G R x M' G' R' x' M'' G'' R'' x'' a c =
    record {
      each = λ n l. moved_trans (mark_of M n) (ground_of G n) (mark_of M' n) (ground_of G' n) (mark_of M'' n) (ground_of G'' n) (a.each n l) (c.each n l);
      higher = let u : x ≤ x' = a.higher in let v : x' ≤ x'' = c.higher in omega arith;
      wider = λ k. let u : offset_of R k ≤ offset_of R' k = a.wider k in let v : offset_of R' k ≤ offset_of R'' k = c.wider k in omega arith;
    }

-- ---- in a file

module _ (s table : List ℕ) (b : Body) where
  -- the node at place q has been met with ground_level f at least
  abbrev pub Met : List ℕ → List ℕ → ℕ → Lists → ℕ → Type 0
  Met marks grounds q k f = Path (read s) b q k f × (q < body_end (bodies_in s) b) × (n : ℕ) × (n < 256) × (get_or table q 0 ≡ suc n) × (0 < mark_of marks n) × (f ≤ ground_of grounds n)

  abbrev pub Noted : List ℕ → ℕ → ℕ → Lists → ℕ → Type 0
  Noted row most = Notes (read s) b most (offset_of row)

  abbrev pub WalkedIn : List ℕ → List ℕ → List ℕ → ℕ → ℕ → Lists → ℕ → Type 0
  WalkedIn marks grounds row most = Walked (read s) b (Met marks grounds) (Noted row most)

  abbrev pub GoesIn : List ℕ → List ℕ → List ℕ → ℕ → Lists → ℕ → List (ℕ × Lists) → Type 0
  GoesIn marks grounds row most = Goes (read s) b (Met marks grounds) (Noted row most)

  module _ (M G R : List ℕ) (x : ℕ) (M' G' R' : List ℕ) (x' : ℕ) (g : Grows M G R x M' G' R' x') where
    pub met_grows : (q : ℕ) (k : Lists) (f : ℕ) → Met M G q k f → Met M' G' q k f
    met_grows q k f t = go (g.each t.2 t.3)
      where
        go : Moved (mark_of M t.2) (ground_of G t.2) (mark_of M' t.2) (ground_of G' t.2) → Met M' G' q k f
        go (inl z) = (
          t.0,
          t.1,
          t.2,
          t.3,
          t.4,
          (let u : 0 < mark_of M t.2 = t.5 in let v : mark_of M' t.2 ≡ mark_of M t.2 = z.0 in omega arith),
          let u : f ≤ ground_of G t.2 = t.6 in let v : ground_of G' t.2 ≡ ground_of G t.2 = z.1 in omega arith,
        )
        go (inr z) = (t.0, t.1, t.2, t.3, t.4, (let v : mark_of M' t.2 ≡ 1 = z.0 in omega arith), more z.1)
          where
            more : (mark_of M t.2 ≡ 0) ⊎ (ground_of G t.2 < ground_of G' t.2) → f ≤ ground_of G' t.2
            more (inl y) = absurd (let u : 0 < mark_of M t.2 = t.5 in omega arith)
            more (inr y) = let u : f ≤ ground_of G t.2 = t.6 in omega arith

    pub noted_grows : (q : ℕ) (k : Lists) (f : ℕ) → Noted R x q k f → Noted R' x' q k f
    noted_grows q k f n =
        record {
          fits = let u : height k f ≤ x = n.fits in let v : x ≤ x' = g.higher in omega arith;
          calls = λ j e. let u : argument_at (read s) k f j < offset_of R j = n.calls j e in let v : offset_of R j ≤ offset_of R' j = g.wider j in omega arith;
        }

    pub walked_grows : (p : ℕ) (l : Lists) (f : ℕ) → WalkedIn M G R x p l f → WalkedIn M' G' R' x' p l f
    walked_grows = walked_map (read s) b (Met M G) (Noted R x) (Met M' G') (Noted R' x') met_grows noted_grows

    pub goes_grows : (l : Lists) (f : ℕ) (ns : List (ℕ × Lists)) → GoesIn M G R x l f ns → GoesIn M' G' R' x' l f ns
    goes_grows = goes_map (read s) b (Met M G) (Noted R x) (Met M' G') (Noted R' x') met_grows noted_grows

  -- the height is one of a path's
  abbrev pub OwnMet : ℕ → Type 0
  OwnMet most = (p : ℕ) × (l : Lists) × (f : ℕ) × Path (read s) b p l f × (most ≡ height l f)

  abbrev pub RowMet : List ℕ → Type 0
  RowMet row = (k a : ℕ) → offset_of row k ≡ suc a → (p : ℕ) × (l : Lists) × (f : ℕ) × Path (read s) b p l f × (call_at (read s) b p ≡ some k) × (a ≡ argument_at (read s) l f k)

  -- ---- the invariant, while body b is walked

  pub record Climbing (marks grounds row : List ℕ) (most : ℕ) : Type 0 where
    pub marked : length marks ≡ 256
    pub grounded : length grounds ≡ 258
    pub wide : length row ≡ 128
    pub small : (n : ℕ) → mark_of marks n ≤ 2
    pub numbered : (n : ℕ) → 0 < mark_of marks n → n < labels s
    pub mine : (n : ℕ) → mark_of marks n ≡ 1 → owner_of s n ≡ b
    pub paths : (n : ℕ) → 0 < mark_of marks n → owner_of s n ≡ b → (l : Lists) × Path (read s) b (place_of s n) l (ground_of grounds n)
    pub between : (n : ℕ) → mark_of marks n ≡ 1 → (low_of grounds ≤ n) × (n < high_of grounds)
    pub top : high_of grounds ≤ 256
    pub own_met : OwnMet most
    pub row_met : RowMet row
    pub walked : (n : ℕ) → owner_of s n ≡ b → mark_of marks n ≡ 2 → (l : Lists) → Path (read s) b (place_of s n) l (ground_of grounds n)
        → WalkedIn marks grounds row most (place_of s n) l (ground_of grounds n)

  -- a place of the body on a path, by numbers
  pub record Standing (at locals ground_level h : ℕ) : Type 0 where
    pub given : Lists
    pub path : Path (read s) b at given ground_level
    pub place : (read s).is_place b at ≡ true
    pub locals_is : length given.locals ≡ locals
    pub height_is : h ≡ ground_level + length given.operands

-- all that the parts of the loop ask of the file
pub record Ready (s : List ℕ) (c : Sections) (table : List ℕ) (owner : ℕ) : Type 0 where
  pub packed : Packed s c
  pub readable : refusal s ≡ 0
  pub tabled : Tabled s table
  pub has : Has (bodies_in s) (body_of owner)
  pub typed : WellTyped (read s)

-- ---- flow comes to node k with ground_level g

pub record Arrived (k g : ℕ) (marks grounds marks' grounds' : List ℕ) : Type 0 where
  pub marked : length marks' ≡ length marks
  pub grounded : length grounds' ≡ length grounds
  pub others : (n : ℕ) → n < 256 → n ≢ k → (mark_of marks' n ≡ mark_of marks n) × (ground_of grounds' n ≡ ground_of grounds n)
  pub here : ((mark_of marks' k ≡ mark_of marks k) × (ground_of grounds' k ≡ ground_of grounds k) × (0 < mark_of marks k) × (g ≤ ground_of grounds k))
      ⊎ ((mark_of marks' k ≡ 1) × (ground_of grounds' k ≡ g) × ((mark_of marks k ≡ 0) ⊎ (ground_of grounds k < g)))
  pub lower : low_of grounds' ≤ low_of grounds
  pub higher : high_of grounds ≤ high_of grounds'
  pub within : mark_of marks' k ≡ 1 → (mark_of marks k ≡ 1 → ⊥) → (low_of grounds' ≤ k) × (k < high_of grounds')
  pub top : high_of grounds ≤ 256 → high_of grounds' ≤ 256

module _ (s table : List ℕ) (b : Body) (k g : ℕ) (marks grounds marks' grounds' : List ℕ) (a : Arrived k g marks grounds marks' grounds') (k_low : k < 256) where
  -- at k, or elsewhere
  split : (P : ℕ → Type 0) (n : ℕ) → P k → (n ≢ k → P n) → P n
  split P n x y = decide (eqb n k) (λ e. subst P (sym (eqb_is n k e)) x) (λ e. y (eqb_isnt n k e))

  pub arrived_grows : (row : List ℕ) (most : ℕ) → Grows marks grounds row most marks' grounds' row most
  arrived_grows row most = record { each = λ n l. split (λ n. Moved (mark_of marks n) (ground_of grounds n) (mark_of marks' n) (ground_of grounds' n)) n (at a.here) (λ z. inl (a.others n l z)); higher = omega arith; wider = λ j. omega arith }
    where
      at : ((mark_of marks' k ≡ mark_of marks k) × (ground_of grounds' k ≡ ground_of grounds k) × (0 < mark_of marks k) × (g ≤ ground_of grounds k))
          ⊎ ((mark_of marks' k ≡ 1) × (ground_of grounds' k ≡ g) × ((mark_of marks k ≡ 0) ⊎ (ground_of grounds k < g)))
          → Moved (mark_of marks k) (ground_of grounds k) (mark_of marks' k) (ground_of grounds' k)
      at (inl z) = inl (z.0, z.1)
      at (inr z) = inr (z.0, more z.2)
        where
          more : (mark_of marks k ≡ 0) ⊎ (ground_of grounds k < g) → (mark_of marks k ≡ 0) ⊎ (ground_of grounds k < ground_of grounds' k)
          more (inl y) = inl y
          more (inr y) = let u : ground_of grounds' k ≡ g = z.1 in inr (omega arith)

  -- it is met
  pub arrived_met : (0 < mark_of marks' k) × (g ≤ ground_of grounds' k)
  arrived_met = at a.here
    where
      at : ((mark_of marks' k ≡ mark_of marks k) × (ground_of grounds' k ≡ ground_of grounds k) × (0 < mark_of marks k) × (g ≤ ground_of grounds k))
          ⊎ ((mark_of marks' k ≡ 1) × (ground_of grounds' k ≡ g) × ((mark_of marks k ≡ 0) ⊎ (ground_of grounds k < g)))
          → (0 < mark_of marks' k) × (g ≤ ground_of grounds' k)
      at (inl z) = let u : mark_of marks' k ≡ mark_of marks k = z.0 in let v : ground_of grounds' k ≡ ground_of grounds k = z.1 in (omega arith, omega arith)
      at (inr z) = let u : mark_of marks' k ≡ 1 = z.0 in let v : ground_of grounds' k ≡ g = z.1 in (omega arith, omega arith)

  abbrev Here : Type 0
  Here =
      ((mark_of marks' k ≡ mark_of marks k) × (ground_of grounds' k ≡ ground_of grounds k) × (0 < mark_of marks k) × (g ≤ ground_of grounds k))
      ⊎ ((mark_of marks' k ≡ 1) × (ground_of grounds' k ≡ g) × ((mark_of marks k ≡ 0) ⊎ (ground_of grounds k < g)))

  module _ (row : List ℕ) (most : ℕ) (C : Climbing s table b marks grounds row most) (kl : k < labels s) (own : owner_of s k ≡ b) (l : Lists) (path : Path (read s) b (place_of s k) l g) where
    far : (n : ℕ) → 256 ≤ n → mark_of marks' n ≡ 0
    far n h = let u : length marks' ≡ length marks = a.marked in let v : length marks ≡ 256 = C.marked in get_or-eq_default marks' 0 {n = n} (omega arith)

    -- at k; elsewhere, where nothing changed; past the marks
    cases : (P : ℕ → Type 0) (n : ℕ) → P k → ((mark_of marks' n ≡ mark_of marks n) × (ground_of grounds' n ≡ ground_of grounds n) → P n) → (mark_of marks' n ≡ 0 → P n) → P n
    cases P n x y z = split P n x (λ e. decide (ltb n 256) (λ u. y (a.others n (ltb_is n 256 u) e)) (λ u. z (far n (ltb_isnt n 256 u))))

    pub climbing_arrived : Climbing s table b marks' grounds' row most
    climbing_arrived =
        record {
          marked = a.marked ∙ C.marked;
          grounded = a.grounded ∙ C.grounded;
          wide = C.wide;
          small = λ n. cases (λ n. mark_of marks' n ≤ 2) n (small_here a.here) (λ x. let u : mark_of marks' n ≡ mark_of marks n = x.0 in let v : mark_of marks n ≤ 2 = C.small n in omega arith) (λ z. omega arith);
          numbered = λ n. cases (λ n. 0 < mark_of marks' n → n < labels s) n (λ h. kl) (λ x h. let u : mark_of marks' n ≡ mark_of marks n = x.0 in C.numbered n (omega arith)) (λ z h. absurd (omega arith));
          mine = λ n. cases (λ n. mark_of marks' n ≡ 1 → owner_of s n ≡ b) n (λ h. own) (λ x h. C.mine n (sym x.0 ∙ h)) (λ z h. absurd (omega arith));
          paths = λ n. cases (λ n. 0 < mark_of marks' n → owner_of s n ≡ b → (l : Lists) × Path (read s) b (place_of s n) l (ground_of grounds' n)) n (λ h o. path_here a.here)
              (λ x h o. let u : mark_of marks' n ≡ mark_of marks n = x.0 in
              let p : (l : Lists) × Path (read s) b (place_of s n) l (ground_of grounds n) = C.paths n (omega arith) o in (p.0, subst (Path (read s) b (place_of s n) p.0) (sym x.1) p.1))
              (λ z h o. absurd (omega arith));
          between = λ n. cases (λ n. mark_of marks' n ≡ 1 → (low_of grounds' ≤ n) × (n < high_of grounds')) n (λ h. range_here h)
              (λ x h. still n (C.between n (sym x.0 ∙ h))) (λ z h. absurd (omega arith));
          top = a.top C.top;
          own_met = C.own_met;
          row_met = C.row_met;
          walked = λ n. cases (λ n. owner_of s n ≡ b → mark_of marks' n ≡ 2 → (l : Lists) → Path (read s) b (place_of s n) l (ground_of grounds' n) → WalkedIn s table b marks' grounds' row most (place_of s n) l (ground_of grounds' n)) n
              (λ o h j p. walked_here a.here o h j p) (λ x o h j p. same n x o h j p) (λ z o h. absurd (omega arith));
        }
      where
        small_here : Here → mark_of marks' k ≤ 2
        small_here (inl x) = let u : mark_of marks' k ≡ mark_of marks k = x.0 in let v : mark_of marks k ≤ 2 = C.small k in omega arith
        small_here (inr x) = let u : mark_of marks' k ≡ 1 = x.0 in omega arith

        path_here : Here → (l : Lists) × Path (read s) b (place_of s k) l (ground_of grounds' k)
        path_here (inl x) = let p : (l : Lists) × Path (read s) b (place_of s k) l (ground_of grounds k) = C.paths k x.2 own in (p.0, subst (Path (read s) b (place_of s k) p.0) (sym x.1) p.1)
        path_here (inr x) = (l, subst (Path (read s) b (place_of s k) l) (sym x.1) path)

        still : (n : ℕ) → (low_of grounds ≤ n) × (n < high_of grounds) → (low_of grounds' ≤ n) × (n < high_of grounds')
        still n h = let u : low_of grounds' ≤ low_of grounds = a.lower in let v : high_of grounds ≤ high_of grounds' = a.higher in let x : low_of grounds ≤ n = h.0 in let y : n < high_of grounds = h.1 in (omega arith, omega arith)

        range_here : mark_of marks' k ≡ 1 → (low_of grounds' ≤ k) × (k < high_of grounds')
        range_here h = decide (eqb (mark_of marks k) 1) (λ e. still k (C.between k (eqb_is (mark_of marks k) 1 e))) (λ e. a.within h (eqb_isnt (mark_of marks k) 1 e))

        same : (n : ℕ) → (mark_of marks' n ≡ mark_of marks n) × (ground_of grounds' n ≡ ground_of grounds n) → owner_of s n ≡ b → mark_of marks' n ≡ 2 → (j : Lists) → Path (read s) b (place_of s n) j (ground_of grounds' n)
            → WalkedIn s table b marks' grounds' row most (place_of s n) j (ground_of grounds' n)
        same n x o h j p =
            subst (WalkedIn s table b marks' grounds' row most (place_of s n) j) (sym x.1)
            (walked_grows s table b marks grounds row most marks' grounds' row most (arrived_grows row most) (place_of s n) j (ground_of grounds n)
            (C.walked n o (sym x.0 ∙ h) j (subst (Path (read s) b (place_of s n) j) x.1 p)))

        walked_here : Here → owner_of s k ≡ b → mark_of marks' k ≡ 2 → (j : Lists) → Path (read s) b (place_of s k) j (ground_of grounds' k) → WalkedIn s table b marks' grounds' row most (place_of s k) j (ground_of grounds' k)
        walked_here (inl x) o h j p = same k (x.0, x.1) o h j p
        walked_here (inr x) o h j p = absurd (let u : mark_of marks' k ≡ 1 = x.0 in omega arith)
