-- A body from its start to its last node, and what is known of it then.
use Rattle.std.specs.Prelude.{◌≡◌, refl, ◌⊎◌, ℕ, zero, suc, ◌-◌, ◌≤◌, ◌<◌, true, List, [], length, get_or, ltb}
use Rattle.std.proofs.Common.{sym, ◌∙◌, subst, inl, inr, arith}
use Rattle.std.proofs.Math.Option.{some}
use Rattle.std.proofs.Math.ListN.{get_or-eq_default}
use Rattle.rules.specs.Instructions.{Ty}
use Rattle.rules.specs.Tables.{Body, body_of, body_end}
use Rattle.rules.specs.ModuleFile.{labels, read, bodies_in, tables_in}
use Rattle.rules.specs.Typing.{Lists, lists, start_of}
use Rattle.format.specs.declared.Sections.{Sections}
use Rattle.soundness.specs.Tests.{decide, some_inj, ltb_is, ltb_isnt}
use Rattle.soundness.specs.Readable.{orderly, place_inside}
use Rattle.soundness.specs.Cutting.{good_file}
use Rattle.nodes.specs.Nodes.{owner_of}
use Rattle.rules.specs.Need.{raised, height, Path, begins}
use Rattle.need.specs.Grounds.{height_bound}
use Rattle.need.specs.Safe.{path_given}
use Rattle.need.specs.Settle.{Summed}
use Rattle.need.specs.Rises as Rises
use Rattle.need.specs.Rises.{Notes, summed}
use Rattle.tracks.specs.Walks.{Moved, Arrived, Goes, ends, meets, passes, Walked, mark_of, ground_of, high_of, offset_of, Met, Noted, WalkedIn, Climbing, Standing, Ready}
use Rattle.tracks.specs.Steps.{one_lists}
use Rattle.tracks.specs.Jumps.{node_of, arrival_climbs, arrival_met}
use Rattle.tracks.specs.Visits.{Quiet, Drained, walked_later}
use Rattle.tracks.specs.Loop.{Finished}

-- before a body is walked: none waits, its own nodes are unmarked, no call is noted
pub record Fresh (s : List ℕ) (b : Body) (M G Q : List ℕ) : Type 0 where
  pub marked : length M ≡ 256
  pub grounded : length G ≡ 258
  pub wide : length Q ≡ 128
  pub small : (n : ℕ) → mark_of M n ≤ 2
  pub numbered : (n : ℕ) → 0 < mark_of M n → n < labels s
  pub quiet : Quiet M
  pub unseen : (n : ℕ) → owner_of s n ≡ b → mark_of M n ≡ 0
  pub top : high_of G ≤ 256
  pub blank : (k : ℕ) → offset_of Q k ≡ 0

-- the body starts at p with n parameters
abbrev pub Starts : List ℕ → Body → ℕ → ℕ → Type 0
Starts s b p n = (ts : List Ty) × (start_of (read s) b ≡ some (p, ts)) × (length ts ≡ n)

module _ (s : List ℕ) (c : Sections) (table : List ℕ) (owner : ℕ) (R : Ready s c table owner) (p n : ℕ) (S : Starts s (body_of owner) p n) where
  abbrev b : Body
  b = body_of owner

  start_path : Path (read s) (body_of owner) p (lists S.0 []) n
  start_path = subst (Path (read s) (body_of owner) p (lists S.0 [])) S.2 (begins p S.0 S.1)

  pub start_stands : Standing s table (body_of owner) p n n n
  start_stands =
      record {
        given = lists S.0 [];
        path = start_path;
        place = (orderly (tables_in s) (good_file s R.readable)).enters (body_of owner) (p, S.0) S.1;
        locals_is = S.2;
        height_is = omega arith;
      }

  pub start_climbs : (M G Q : List ℕ) → Fresh s (body_of owner) M G Q → Climbing s table (body_of owner) M G Q n
  start_climbs M G Q F =
      record {
        marked = F.marked;
        grounded = F.grounded;
        wide = F.wide;
        small = F.small;
        numbered = F.numbered;
        mine = λ k e. absurd (F.quiet k e);
        paths = λ k h o. absurd (let u : mark_of M k ≡ 0 = F.unseen k o in omega arith);
        between = λ k e. absurd (F.quiet k e);
        top = F.top;
        own_met = (p, lists S.0 [], n, start_path, omega arith);
        row_met = λ k a e. absurd (let u : offset_of Q k ≡ 0 = F.blank k in omega arith);
        walked = λ k o e. absurd (let u : mark_of M k ≡ 0 = F.unseen k o in omega arith);
      }

  module _ (M G Q : List ℕ) (x : ℕ) (C : Climbing s table (body_of owner) M G Q x) (quiet : Quiet M) where
    -- the nodes, each with its largest ground_level
    abbrev Node : ℕ → Lists → ℕ → Type 0
    Node q k g = (j : ℕ) × (get_or table q 0 ≡ suc j) × (q < body_end (bodies_in s) (body_of owner)) × (mark_of M j ≡ 2) × (ground_of G j ≡ g) × Path (read s) (body_of owner) q k g

    abbrev Any : ℕ → Type 0
    Any q = Unit {0}

    place_of_lem : (q : ℕ) (k : Lists) (f : ℕ) → Path (read s) (body_of owner) q k f → (read s).is_place (body_of owner) q ≡ true
    place_of_lem q k f r = ((R.typed.consistent (body_of owner)).inside q k (path_given (read s) (body_of owner) _ (R.typed.consistent (body_of owner)) q k f r)).1

    walked_mark : (j : ℕ) → 0 < mark_of M j → mark_of M j ≡ 2
    walked_mark j h = two (mark_of M j) h (C.small j) (quiet j)
      where
        two : (m : ℕ) → 0 < m → m ≤ 2 → (m ≡ 1 → ⊥) → m ≡ 2
        two zero h l u = absurd (omega arith)
        two (suc zero) h l u = absurd (u refl)
        two (suc (suc zero)) h l u = refl
        two (suc (suc (suc m))) h l u = absurd (omega arith)

    node_met : (q : ℕ) (k : Lists) (f : ℕ) → Met s table (body_of owner) M G q k f → (g : ℕ) × Node q k g × (f ≤ g)
    node_met q k f t =
        let w = node_of s c table owner R q t.2 (place_of_lem q k f t.0) t.1 t.4 in
        let y = C.paths t.2 t.5 w.3 in
        let r : Path (read s) (body_of owner) q y.0 (ground_of G t.2) = subst (λ z. Path (read s) (body_of owner) z y.0 (ground_of G t.2)) w.2 y.1 in
        let e : y.0 ≡ k = one_lists s c table owner R q y.0 k (ground_of G t.2) f r t.0 in
        (ground_of G t.2, (t.2, t.4, t.1, walked_mark t.2 t.5, refl, subst (λ z. Path (read s) (body_of owner) q z (ground_of G t.2)) e r), t.6)

    abbrev W : ℕ → Lists → ℕ → Type 0
    W = Notes (read s) (body_of owner) x (offset_of Q)

    goes : (l : Lists) (f : ℕ) (ns : List (ℕ × Lists)) → Goes (read s) (body_of owner) (Met s table (body_of owner) M G) (Noted s table (body_of owner) Q x) l f ns → Rises.Goes (read s) (body_of owner) Any Node W l f ns
    goes _ _ _ (ends l f) = Rises.ends l f
    goes _ _ _ (meets l f q k ns t g) = let y = node_met q k (raised f l k) t in Rises.meets l f q k y.0 ns y.1 y.2 (goes l f ns g)
    goes _ _ _ (passes l f q k ms ns w e g h) = Rises.passes l f q k ms ns tt w e (goes k (raised f l k) ms g) (goes l f ns h)

    walked : (q : ℕ) (k : Lists) (f : ℕ) → WalkedIn s table (body_of owner) M G Q x q k f → Rises.Walked (read s) (body_of owner) Any Node W q k f
    walked q k f w = record { noted = w.noted; next = w.next; flow = w.flow; goes = goes k f w.next w.goes }

    closed : (q : ℕ) (k : Lists) (g : ℕ) → Node q k g → Rises.Walked (read s) (body_of owner) Any Node W q k g
    closed q k g t =
        let w = node_of s c table owner R q t.0 (place_of_lem q k g t.5) t.2 t.1 in
        walked q k g
        (subst (WalkedIn s table (body_of owner) M G Q x q k) t.4
        (subst (λ z. WalkedIn s table (body_of owner) M G Q x z k (ground_of G t.0)) w.2
        (C.walked t.0 w.3 t.3 k (subst (λ z. Path (read s) (body_of owner) z k (ground_of G t.0)) (sym w.2) (subst (Path (read s) (body_of owner) q k) (sym t.4) t.5)))))

    -- the start was met, or walked from
    abbrev pub Begun : Type 0
    Begun = Met s table (body_of owner) M G p (lists S.0 []) n ⊎ WalkedIn s table (body_of owner) M G Q x p (lists S.0 []) n

    pub body_summed : Begun → Summed (read s) (body_of owner) x (offset_of Q)
    body_summed g =
        summed (read s) (body_of owner) x (offset_of Q) Any Node
        (record { on_paths = λ q k g t. t.5; closed = closed; started = λ q ts e. same q ts e (first g) })
        C.own_met C.row_met
      where
        At : ℕ × List Ty → Type 0
        At y = ((g : ℕ) × Node y.0 (lists y.1 []) g × (length y.1 ≤ g)) ⊎ (Any y.0 × Rises.Walked (read s) (body_of owner) Any Node W y.0 (lists y.1 []) (length y.1))

        first : Begun → At (p, S.0)
        first (inl t) = let y = node_met p (lists S.0 []) n t in inl (y.0, y.1, (let u : n ≤ y.0 = y.2 in let v : length S.0 ≡ n = S.2 in omega arith))
        first (inr w) = inr (tt, subst (Rises.Walked (read s) (body_of owner) Any Node W p (lists S.0 [])) (sym S.2) (walked p (lists S.0 []) n w))

        same : (q : ℕ) (ts : List Ty) → start_of (read s) (body_of owner) ≡ some (q, ts) → At (p, S.0) → At (q, ts)
        same q ts e y = subst At (some_inj (p, S.0) (q, ts) (sym S.1 ∙ e)) y

-- ---- after a body

pub record Done (s : List ℕ) (b : Body) (M : List ℕ) (M' G' Q' : List ℕ) (x : ℕ) : Type 0 where
  pub summed : Summed (read s) b x (offset_of Q')
  pub marked : length M' ≡ 256
  pub grounded : length G' ≡ 258
  pub wide : length Q' ≡ 128
  pub small : (n : ℕ) → mark_of M' n ≤ 2
  pub numbered : (n : ℕ) → 0 < mark_of M' n → n < labels s
  pub quiet : Quiet M'
  pub top : high_of G' ≤ 256
  pub others : (n : ℕ) → (owner_of s n ≡ b → ⊥) → mark_of M' n ≡ mark_of M n
  pub low : x ≤ 544

module _ (s : List ℕ) (c : Sections) (table : List ℕ) (owner : ℕ) (R : Ready s c table owner) (p n : ℕ) (S : Starts s (body_of owner) p n) (M₀ M₁ G₁ Q₁ : List ℕ) (x₁ : ℕ) (M G Q : List ℕ) (x : ℕ)
    (D : Drained s table (body_of owner) M₁ G₁ Q₁ x₁ M G Q x) (quiet : Quiet M) (others : (n : ℕ) → (owner_of s n ≡ body_of owner → ⊥) → mark_of M₁ n ≡ mark_of M₀ n) where
  finish : Begun s c table owner R p n S M G Q x D.climbing quiet → Done s (body_of owner) M₀ M G Q x
  finish g =
      let C = D.climbing in
      record {
        summed = body_summed s c table owner R p n S M G Q x D.climbing quiet g;
        marked = D.climbing.marked;
        grounded = D.climbing.grounded;
        wide = D.climbing.wide;
        small = D.climbing.small;
        numbered = D.climbing.numbered;
        quiet = quiet;
        top = D.climbing.top;
        others = λ n o. D.others n o ∙ others n o;
        low = let o = D.climbing.own_met in let h : height o.1 o.2 ≤ 544 = height_bound (read s) (body_of owner) _ (R.typed.consistent (body_of owner)) o.0 o.1 o.2 o.3 in let e : x ≡ height o.1 o.2 = o.4 in omega arith;
      }

  -- the start was walked from before
  pub done_walked : WalkedIn s table (body_of owner) M₁ G₁ Q₁ x₁ p (lists S.0 []) n → Done s (body_of owner) M₀ M G Q x
  done_walked w = finish (inr (walked_later s table (body_of owner) M₁ G₁ Q₁ x₁ M G Q x D.later p (lists S.0 []) n w))

  -- .. or met
  pub done_met : Met s table (body_of owner) M₁ G₁ p (lists S.0 []) n → Done s (body_of owner) M₀ M G Q x
  done_met t =
      let u = D.later.kept t.2 t.3 t.5 in
      finish (inl (t.0, t.1, t.2, t.3, t.4, u.0, (let v : ground_of G₁ t.2 ≤ ground_of G t.2 = u.1 in let w : n ≤ ground_of G₁ t.2 = t.6 in omega arith)))

-- ---- the two ways to begin

module _ (s : List ℕ) (c : Sections) (table : List ℕ) (owner : ℕ) (R : Ready s c table owner) (p n : ℕ) (S : Starts s (body_of owner) p n) (M₀ G₀ Q₀ : List ℕ) (F : Fresh s (body_of owner) M₀ G₀ Q₀) where
  -- a walk from the start, then the nodes
  pub walked_done : (M₁ G₁ Q₁ : List ℕ) (x₁ : ℕ) → Finished s table (body_of owner) p n M₀ G₀ Q₀ n M₁ G₁ Q₁ x₁ → (M G Q : List ℕ) (x : ℕ) → Drained s table (body_of owner) M₁ G₁ Q₁ x₁ M G Q x → Quiet M → Done s (body_of owner) M₀ M G Q x
  walked_done M₁ G₁ Q₁ x₁ W M G Q x D quiet =
      done_walked s c table owner R p n S M₀ M₁ G₁ Q₁ x₁ M G Q x D quiet same (W.walked (lists S.0 []) (start_path s c table owner R p n S))
    where
      same : (k : ℕ) → (owner_of s k ≡ body_of owner → ⊥) → mark_of M₁ k ≡ mark_of M₀ k
      same k o = decide (ltb k 256) (λ y. go (W.grows.each k (ltb_is k 256 y)))
          (λ y. let l : 256 ≤ k = ltb_isnt k 256 y in let u : length M₁ ≡ 256 = W.climbing.marked in let v : length M₀ ≡ 256 = F.marked in
          get_or-eq_default M₁ 0 {n = k} (omega arith) ∙ sym (get_or-eq_default M₀ 0 {n = k} (omega arith)))
        where
          go : Moved (mark_of M₀ k) (ground_of G₀ k) (mark_of M₁ k) (ground_of G₁ k) → mark_of M₁ k ≡ mark_of M₀ k
          go (inl z) = z.0
          go (inr z) = absurd (o (W.climbing.mine k z.0))

  -- the start is a node
  module _ (v : ℕ) (e : v ≡ get_or table p 0) (some-node : 0 < get_or table p 0) (inside : p ≡ body_end (bodies_in s) (body_of owner) → ⊥) where
    place : (read s).is_place (body_of owner) p ≡ true
    place = (start_stands s c table owner R p n S).place

    before : p < body_end (bodies_in s) (body_of owner)
    before = let x = place_inside (tables_in s) (good_file s R.readable) (body_of owner) p R.has place in let y : p ≤ body_end (bodies_in s) (body_of owner) = x.1 in omega arith

    node : get_or table p 0 ≡ suc (v - 1)
    node = omega arith

    pub start_node : (1 ≤ v) × (v - 1 < 256)
    start_node = (omega arith, (node_of s c table owner R p (v - 1) place before node).1)

    C : Climbing s table (body_of owner) M₀ G₀ Q₀ n
    C = start_climbs s c table owner R p n S M₀ G₀ Q₀ F

    module _ (M₁ G₁ : List ℕ) (a : Arrived (v - 1) n M₀ G₀ M₁ G₁) where
      pub node_climbs : Climbing s table (body_of owner) M₁ G₁ Q₀ n
      node_climbs = arrival_climbs s c table owner R M₀ G₀ Q₀ n C p (v - 1) (lists S.0 []) n (start_path s c table owner R p n S) place before node M₁ G₁ a

      pub node_done : (M G Q : List ℕ) (x : ℕ) → Drained s table (body_of owner) M₁ G₁ Q₀ n M G Q x → Quiet M → Done s (body_of owner) M₀ M G Q x
      node_done M G Q x D quiet =
          done_met s c table owner R p n S M₀ M₁ G₁ Q₀ n M G Q x D quiet same
          (arrival_met s c table owner R M₀ G₀ Q₀ n C p (v - 1) (lists S.0 []) n (start_path s c table owner R p n S) place before node M₁ G₁ a)
        where
          same : (k : ℕ) → (owner_of s k ≡ body_of owner → ⊥) → mark_of M₁ k ≡ mark_of M₀ k
          same k o = decide (ltb k 256) (λ y. (a.others k (ltb_is k 256 y) (λ z. o (subst (λ j. owner_of s j ≡ body_of owner) (sym z) (node_of s c table owner R p (v - 1) place before node).3))).0)
              (λ y. let l : 256 ≤ k = ltb_isnt k 256 y in let u : length M₁ ≡ length M₀ = a.marked in let w : length M₀ ≡ 256 = F.marked in
              get_or-eq_default M₁ 0 {n = k} (omega arith) ∙ sym (get_or-eq_default M₀ 0 {n = k} (omega arith)))
