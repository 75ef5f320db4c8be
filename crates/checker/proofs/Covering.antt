-- Where every body is started and no node waits, the check finds a table for each body, and the nodes show it.
use Prim.Native.Nat.{ℕ, zero, suc, ◌+◌, ◌≤◌, ◌<◌}
use mathlib.Core.Path.{◌≡◌, refl, ap, ◌∙◌, sym, subst}
use mathlib.Core.Logic.{inl, inr}
use native.Mathlib.Omega.{arith}
use mathlib.Core.Bool.{true}
use mathlib.Core.Option.{Option, none, some}
use mathlib.Core.List.{List, [], ◌∷◌}
use lib.ListN.{get_or}
use lib.Dec.{eqb, ltb}
use Rattle.rules.specs.Tables.{Body, entry, fn, body_end}
use Rattle.rules.specs.ModuleFile.{refusal, labels, functions, read, bodies_in, tables_in}
use Rattle.rules.specs.Typing.{Lists, lists}
use Rattle.rules.specs.Check.{Table, check_body, functions_from, bodies, first_untyped, record_at, given_at, label_record}
use Rattle.soundness.specs.Tests.{decide, some_inj, eqb_is, eqb_isnt, ltb_is, ltb_isnt}
use Rattle.soundness.specs.Exact.{check_consistent, typing_of}
use Rattle.soundness.specs.Forced.{Forced, forced_given}
use Rattle.soundness.specs.Readable.{Has, has_end, label_is, label_own, label_inside, place_extent, place_onward, cut_apart, orderly}
use Rattle.soundness.specs.Cutting.{label_count_lem, good_file}
use Rattle.soundness.specs.Walks.{Covered, covered, Seen, seen_node, met}
use Rattle.records.specs.Record.{lists_of}
use Rattle.records.specs.Canon.{holds_record}
use Rattle.nodes.specs.Nodes.{place_of, owner_of, Tabled, record_of, mark_of, listed_at, count_of, done_of, shown_at, node_of}
use Rattle.nodes.proofs.Copies.{positive}
use Rattle.nodes.proofs.Numbering.{label_at}
use Rattle.nodes.proofs.Shown.{shows_none, shows_record}
use Rattle.checker.specs.Work.{Recorded, Passed, WalkedIn, WalkedNode, Sound, Quiet, Started, Refuted}

-- a body without typing
pub untyped : (s : List ℕ) (b : Body) → Refuted s b → check_body (read s) b ≡ none
untyped s b r = go (check_body (read s) b) refl
  where
    go : (o : Option Table) → check_body (read s) b ≡ o → o ≡ none
    go none e = refl
    go (some out) e = absurd (r (typing_of (read s) b out) (check_consistent (read s) b out e))

abbrev pub Typed : List ℕ → Body → Type 0
Typed s b = (out : Table) × (check_body (read s) b ≡ some out)

module _ (s table : List ℕ) (e : refusal s ≡ 0) (t : Tabled s table) (room marks : List ℕ) (b₀ : Body) (w : Sound s table room marks b₀) (quiet : Quiet marks) where
  module _ (b : Body) (has : Has (bodies_in s) b) (started : Started s table room marks b) where
    abbrev U : ℕ → Type 0
    U = Passed table (body_end (bodies_in s) b)

    abbrev R : ℕ → Lists → Type 0
    R = Recorded s table room marks b

    apart : (q : ℕ) (k : Lists) → U q → R q k → ⊥
    apart q k (inl z) r = let l : q < body_end (bodies_in s) b = r.1 in omega arith
    apart q k (inr z) r = let y : 0 ≡ suc r.2 = sym z ∙ r.3 in omega arith

    same_node : (q : ℕ) (k l : Lists) → R q k → R q l → k ≡ l
    same_node q k l r r' =
        let x : suc r.2 ≡ suc r'.2 = sym r.3 ∙ r'.3 in
        let y : r.2 ≡ r'.2 = omega arith in sym r.5 ∙ ap (λ (n : ℕ). lists_of (record_of room n)) y ∙ r'.5

    -- a node of the body has the body as its owner
    owned_by : (q k : ℕ) → get_or table q 0 ≡ suc k → (read s).is_place b q ≡ true → q < body_end (bodies_in s) b → owner_of s k ≡ b
    owned_by q k n h l =
        let x : (k < labels s) × (place_of s k ≡ q) = t.node q k n in
        label_own (tables_in s) (good_file s e) k (owner_of s k) b q (body_end (bodies_in s) b) (label_at s e k x.0 ∙ ap (λ (p : ℕ). some (owner_of s k, p)) x.1) h (has_end (tables_in s) (good_file s e) b has) l

    walked_all : (q : ℕ) (l : Lists) → R q l → WalkedIn s table room marks b q l
    walked_all q l r =
        let k : ℕ = r.2 in
        let n : (k < labels s) × (place_of s k ≡ q) = t.node q k r.3 in
        let x : (i : ℕ) × (i < count_of marks) × (listed_at marks i ≡ k) = w.listed k n.0 r.4 in
        let l : x.0 < count_of marks = x.1 in
        let d : done_of marks ≡ count_of marks = quiet in
        let h : WalkedNode s table room marks k = subst (WalkedNode s table room marks) x.2 (w.walked x.0 (omega arith)) in
        subst (λ (x : Lists). WalkedIn s table room marks b q x) r.5
        (subst (λ (p : ℕ). WalkedIn s table room marks b p (lists_of (record_of room k))) n.1
        (subst (λ (x : Body). WalkedIn s table room marks x (place_of s k) (lists_of (record_of room k))) (owned_by q k r.3 r.0 r.1) h))

    no_label : (q : ℕ) → U q → (k : ℕ) → (read s).label k ≡ some (b, q) → ⊥
    no_label q (inl z) k h = let l : q < body_end (bodies_in s) b = label_inside (tables_in s) (good_file s e) k b q (body_end (bodies_in s) b) h (has_end (tables_in s) (good_file s e) b has) in omega arith
    no_label q (inr z) k h =
        let l : k < labels s = subst (λ (n : ℕ). k < n) (label_count_lem s e) (label_is (tables_in s) (good_file s e) k b q h).0 in
        let p : place_of s k ≡ q = ap (λ (x : Body × ℕ). x.1) (some_inj (owner_of s k, place_of s k) (b, q) (sym (label_at s e k l) ∙ h)) in
        let x : (j : ℕ) × (get_or table (place_of s k) 0 ≡ suc j) × (j ≤ k) = t.found k l in
        let y : 0 ≡ suc x.0 = sym z ∙ ap (λ (n : ℕ). get_or table n 0) (sym p) ∙ x.1 in omega arith

    all_covered : Covered (read s) b U R
    all_covered =
        record {
          apart = apart;
          once = same_node;
          closed = walked_all;
          unlabelled = no_label;
          started = λ p ts h. met (read s) b U R ((p, lists ts []) ∷ []) (started p ts h) p (lists ts []) (inl (refl, refl));
          inside = place_extent (tables_in s) (good_file s e) b has;
          onward = place_onward (tables_in s) (good_file s e) b;
          cut = cut_apart (tables_in s) (good_file s e) b;
        }

    pub typed : Typed s b
    typed = let x = covered (read s) b U R all_covered in (x.0, x.1)

    -- ---- the node k of a label of the body

    module _ (k : ℕ) (numbered : k < labels s) (mine : owner_of s k ≡ b) where
      abbrev p : ℕ
      p = place_of s k

      label_here : (read s).label k ≡ some (b, place_of s k)
      label_here = label_at s e k numbered ∙ ap (λ (x : Body). some (x, place_of s k)) mine

      placed : (read s).is_place b (place_of s k) ≡ true
      placed = (orderly (tables_in s) (good_file s e)).lands k b (place_of s k) label_here

      before : place_of s k < body_end (bodies_in s) b
      before = label_inside (tables_in s) (good_file s e) k b (place_of s k) (body_end (bodies_in s) b) label_here (has_end (tables_in s) (good_file s e) b has)

      abbrev node : ℕ
      node = node_of s table k

      node_is : get_or table (place_of s k) 0 ≡ suc (node_of s table k)
      node_is = let x : (j : ℕ) × (get_or table (place_of s k) 0 ≡ suc j) × (j ≤ k) = t.found k numbered in let y : get_or table (place_of s k) 0 ≡ suc x.0 = x.1 in omega arith

      node_label : (node_of s table k < labels s) × (place_of s (node_of s table k) ≡ place_of s k)
      node_label = t.node (place_of s k) (node_of s table k) node_is

      not_passed : Passed table (body_end (bodies_in s) b) (place_of s k) → ⊥
      not_passed (inl z) = let l : place_of s k < body_end (bodies_in s) b = before in omega arith
      not_passed (inr z) = let y : 0 ≡ suc (node_of s table k) = sym z ∙ node_is in omega arith

      -- nothing has flowed to it: the table gives nothing there
      unseen : mark_of marks (node_of s table k) ≡ 0 → (out : Table) → check_body (read s) b ≡ some out → get_or out (place_of s k) none ≡ none
      unseen m out o = go (get_or out (place_of s k) none) refl
        where
          x : (out : Table) × (check_body (read s) b ≡ some out) × ((q : ℕ) (l : Lists) → get_or out q none ≡ some l → Seen (read s) b U R q l)
          x = covered (read s) b U R all_covered

          same : x.0 ≡ out
          same = some_inj x.0 out (sym x.1 ∙ o)

          go : (y : Option Lists) → get_or out (place_of s k) none ≡ y → y ≡ none
          go none z = refl
          go (some l) z =
              let r : R (place_of s k) l = seen_node (read s) b U R (place_of s k) l (x.2 (place_of s k) l (ap (λ (o : Table). get_or o (place_of s k) none) same ∙ z)) not_passed in
              let u : suc r.2 ≡ suc (node_of s table k) = sym r.3 ∙ node_is in
              let v : r.2 ≡ node_of s table k = omega arith in
              let g : 0 < mark_of marks r.2 = r.4 in
              let h : mark_of marks r.2 ≡ 0 = ap (mark_of marks) v ∙ m in absurd (omega arith)

      -- what has flowed to it is what the table gives there
      seen : (mark_of marks (node_of s table k) ≡ 0 → ⊥) → (out : Table) → check_body (read s) b ≡ some out → get_or out (place_of s k) none ≡ some (lists_of (record_of room (node_of s table k)))
      seen m out o =
          forced_given (read s) b (typing_of (read s) b out) (check_consistent (read s) b out o) (place_of s k) (lists_of (record_of room (node_of s table k)))
          (subst (λ (q : ℕ). Forced (read s) b q (lists_of (record_of room (node_of s table k)))) node_label.1
          (subst (λ (x : Body). Forced (read s) x (place_of s (node_of s table k)) (lists_of (record_of room (node_of s table k))))
          (owned_by (place_of s k) (node_of s table k) node_is placed before) (w.forced (node_of s table k) node_label.0 (positive (mark_of marks (node_of s table k)) m))))

      pub shown_is : shown_at room marks (node_of s table k) ≡ label_record (read s) ((read s).label k)
      unfolding label_record
      shown_is = rw label_here (with_table typed.0 typed.1)
        where
          with_table : (out : Table) → check_body (read s) b ≡ some out → shown_at room marks (node_of s table k) ≡ record_at (given_at (check_body (read s) b) (place_of s k))
          with_table out o =
              rw o (decide (eqb (mark_of marks (node_of s table k)) 0)
              (λ y. let z : mark_of marks (node_of s table k) ≡ 0 = eqb_is (mark_of marks (node_of s table k)) 0 y in shows_none room marks (node_of s table k) z ∙ sym (ap record_at (unseen z out o)))
              (λ y. let z : mark_of marks (node_of s table k) ≡ 0 → ⊥ = eqb_isnt (mark_of marks (node_of s table k)) 0 y in
              shows_record room marks (node_of s table k) z ∙ holds_record (record_of room (node_of s table k)) (w.holds (node_of s table k) node_label.0 (positive (mark_of marks (node_of s table k)) z))
              ∙ sym (ap record_at (seen z out o))))

-- ---- the first body without typing

module _ (s : List ℕ) where
  none_before : (b : Body) (bs : List Body) → Typed s b → first_untyped (read s) (b ∷ bs) ≡ first_untyped (read s) bs
  unfolding first_untyped
  none_before b bs x = rw (first_untyped, x.1) refl

  first_here : (b : Body) (bs : List Body) → check_body (read s) b ≡ none → first_untyped (read s) (b ∷ bs) ≡ some b
  unfolding first_untyped
  first_here b bs x = rw (first_untyped, x) refl

  nobody : first_untyped (read s) [] ≡ none
  unfolding first_untyped
  nobody = refl

  in_functions : (n j k : ℕ) → j ≤ k → k < j + n → ((i : ℕ) → i < k → Typed s (fn i)) → check_body (read s) (fn k) ≡ none → first_untyped (read s) (functions_from n j) ≡ some (fn k)
  in_functions zero j k h l f x = absurd (omega arith)
  in_functions (suc n) j k h l f x =
      decide (eqb j k) (λ y. let z : j ≡ k = eqb_is j k y in rw z (first_here (fn k) (functions_from n (suc k)) x))
      (λ y. let z : j ≡ k → ⊥ = eqb_isnt j k y in
      let m : j < k = later z in none_before (fn j) (functions_from n (suc j)) (f j m) ∙ in_functions n (suc j) k m (omega arith) f x)
    where
      later : (j ≡ k → ⊥) → j < k
      later z = decide (ltb j k) (λ y. ltb_is j k y) (λ y. let u : k ≤ j = ltb_isnt j k y in absurd (z (omega arith)))

  no_function : (n j : ℕ) → ((i : ℕ) → j ≤ i → i < j + n → Typed s (fn i)) → first_untyped (read s) (functions_from n j) ≡ none
  no_function zero j f = nobody
  no_function (suc n) j f = none_before (fn j) (functions_from n (suc j)) (f j (omega arith) (omega arith)) ∙ no_function n (suc j) (λ i h l. f i (omega arith) (omega arith))

  pub first_entry : check_body (read s) entry ≡ none → first_untyped (read s) (bodies (functions s)) ≡ some entry
  first_entry x = first_here entry (functions_from (functions s) 0) x

  pub first_function : (k : ℕ) → k < functions s → Typed s entry → ((i : ℕ) → i < k → Typed s (fn i)) → check_body (read s) (fn k) ≡ none
      → first_untyped (read s) (bodies (functions s)) ≡ some (fn k)
  first_function k h x f y = none_before entry (functions_from (functions s) 0) x ∙ in_functions (functions s) 0 k (omega arith) (omega arith) f y

  pub all_typed : Typed s entry → ((i : ℕ) → i < functions s → Typed s (fn i)) → first_untyped (read s) (bodies (functions s)) ≡ none
  all_typed x f = none_before entry (functions_from (functions s) 0) x ∙ no_function (functions s) 0 (λ i h l. f i (omega arith))
