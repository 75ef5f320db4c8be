-- The marks with a node put on the list, or with one more that was walked from.
use Prim.Native.Nat.{ℕ, zero, suc, ◌+◌, ◌≤◌, ◌<◌}
use mathlib.Core.Path.{◌≡◌, refl, ap, ◌∙◌, sym}
use mathlib.Core.Logic.{◌≢◌}
use native.Mathlib.Omega.{arith}
use mathlib.Core.List.{List}
use lib.ListN.{length, get_or, set, length-set}
use lib.Seq.{get_or-set_same, get_or-set_other}
use lib.Dec.{eqb}
use borrow.Author.Tests.{eq-eqb, ne_eqb}
use Rattle.soundness.specs.Tests.{decide, eqb_is, eqb_isnt}
use Rattle.std.specs.Prelude.{Some, None}
use Rattle.nodes.specs.Nodes.{Whole, mark_of, listed_at, count_of, done_of, appended, advanced, waiting_in, unseen}

-- ---- put on the list

module _ (marks : List ℕ) (k : ℕ) (whole : Whole marks) (low : k < 256) (few : count_of marks < 256) where
  abbrev marked : List ℕ
  marked = set marks k 1

  abbrev listed : List ℕ
  listed = set marked (256 + count_of marks) k

  long_marked : length marked ≡ 514
  long_marked = length-set marks k 1 ∙ whole

  long_listed : length listed ≡ 514
  long_listed = length-set marked (256 + count_of marks) k ∙ long_marked

  pub appended_long : length (appended marks k) ≡ length marks
  appended_long = length-set listed 512 (count_of marks + 1) ∙ long_listed ∙ sym whole

  -- a word that is none of the three
  other_word : (j : ℕ) → j ≢ k → j ≢ 256 + count_of marks → j ≢ 512 → get_or (appended marks k) j 0 ≡ get_or marks j 0
  other_word j a b c =
      get_or-set_other listed 512 j (count_of marks + 1) 0 c ∙ get_or-set_other marked (256 + count_of marks) j k 0 b ∙ get_or-set_other marks k j 1 0 a

  pub appended_mark : mark_of (appended marks k) k ≡ 1
  appended_mark =
      get_or-set_other listed 512 k (count_of marks + 1) 0 (λ z. omega arith) ∙ get_or-set_other marked (256 + count_of marks) k k 0 (λ z. omega arith)
      ∙ get_or-set_same marks k 1 0 (omega arith)

  pub appended_marks : (j : ℕ) → j < 256 → j ≢ k → mark_of (appended marks k) j ≡ mark_of marks j
  appended_marks j l n = other_word j n (λ z. omega arith) (λ z. omega arith)

  pub appended_count : count_of (appended marks k) ≡ count_of marks + 1
  appended_count = let l : length listed ≡ 514 = long_listed in get_or-set_same listed 512 (count_of marks + 1) 0 (omega arith)

  pub appended_done : done_of (appended marks k) ≡ done_of marks
  appended_done = other_word 513 (λ z. omega arith) (λ z. omega arith) (λ z. omega arith)

  pub appended_last : listed_at (appended marks k) (count_of marks) ≡ k
  appended_last =
      let l : length marked ≡ 514 = long_marked in
      get_or-set_other listed 512 (256 + count_of marks) (count_of marks + 1) 0 (λ z. omega arith) ∙ get_or-set_same marked (256 + count_of marks) k 0 (omega arith)

  pub appended_before : (i : ℕ) → i < count_of marks → listed_at (appended marks k) i ≡ listed_at marks i
  appended_before i l = other_word (256 + i) (λ z. omega arith) (λ z. omega arith) (λ z. omega arith)

-- ---- walked from

module _ (marks : List ℕ) (whole : Whole marks) where
  pub advanced_long : length (advanced marks) ≡ length marks
  advanced_long = length-set marks 513 (done_of marks + 1)

  pub advanced_done : done_of (advanced marks) ≡ done_of marks + 1
  advanced_done = get_or-set_same marks 513 (done_of marks + 1) 0 (omega arith)

  pub advanced_word : (j : ℕ) → j < 513 → get_or (advanced marks) j 0 ≡ get_or marks j 0
  advanced_word j l = get_or-set_other marks 513 j (done_of marks + 1) 0 (λ z. omega arith)

-- ---- the first that waits

pub waiting_nothing : (marks : List ℕ) → done_of marks ≡ count_of marks → None ≡ waiting_in marks
unfolding waiting_in
waiting_nothing marks e = rw (eq-eqb (done_of marks) (count_of marks) e) refl

pub waiting_node : (marks : List ℕ) → (done_of marks ≡ count_of marks → ⊥) → Some (listed_at marks (done_of marks)) ≡ waiting_in marks
unfolding waiting_in
waiting_node marks n = rw (ne_eqb (done_of marks) (count_of marks) n) refl

pub nothing_waits : (marks : List ℕ) → waiting_in marks ≡ None → done_of marks ≡ count_of marks
unfolding waiting_in
nothing_waits marks e = decide (eqb (done_of marks) (count_of marks)) (λ y. eqb_is (done_of marks) (count_of marks) y)
    (λ y. absurd (let q : Some (listed_at marks (done_of marks)) ≡ None = rw y at e in let z : ◌≡◌ {A = ℕ} 0 1 = cc in omega arith))

pub node_waits : (marks : List ℕ) (k : ℕ) → waiting_in marks ≡ Some k → (done_of marks ≢ count_of marks) × (k ≡ listed_at marks (done_of marks))
unfolding waiting_in
node_waits marks k e = decide (eqb (done_of marks) (count_of marks))
    (λ y. absurd (let q : None ≡ Some k = rw y at e in let z : ◌≡◌ {A = ℕ} 0 1 = cc in omega arith))
    (λ y. (eqb_isnt (done_of marks) (count_of marks) y, let q : Some (listed_at marks (done_of marks)) ≡ Some k = rw y at e in cc))

-- ---- the nodes to which nothing has flowed

pub unseen_most : (marks : List ℕ) (n : ℕ) → unseen marks n ≤ n
unfolding unseen
unseen_most marks zero = omega arith
unseen_most marks (suc n) =
    let r : unseen marks n ≤ n = unseen_most marks n in
    decide (eqb (mark_of marks n) 0) (λ y. rw y (omega arith)) (λ y. rw y (omega arith))

pub unseen_some : (marks : List ℕ) (n k : ℕ) → k < n → mark_of marks k ≡ 0 → 0 < unseen marks n
unfolding unseen
unseen_some marks zero k l a = absurd (omega arith)
unseen_some marks (suc n) k l a =
    decide (eqb k n) (λ y. let e : k ≡ n = eqb_is k n y in let a' : mark_of marks n ≡ 0 = ap (mark_of marks) (sym e) ∙ a in rw a' (omega arith))
    (λ y. let ne : k ≢ n = eqb_isnt k n y in
    let r : 0 < unseen marks n = unseen_some marks n k (omega arith) a in
    decide (eqb (mark_of marks n) 0) (λ z. rw z (omega arith)) (λ z. rw z (omega arith)))

module _ (marks marks' : List ℕ) where
  pub unseen_same : (n : ℕ) → ((j : ℕ) → j < n → mark_of marks' j ≡ mark_of marks j) → unseen marks' n ≡ unseen marks n
  unfolding unseen
  unseen_same zero h = refl
  unseen_same (suc n) h = rw (h n (omega arith), unseen_same n (λ j l. h j (omega arith))) refl

  -- one less, where something flows to node k
  pub unseen_less : (n k : ℕ) → k < n → mark_of marks k ≡ 0 → mark_of marks' k ≡ 1 → ((j : ℕ) → j < n → j ≢ k → mark_of marks' j ≡ mark_of marks j)
      → unseen marks n ≡ unseen marks' n + 1
  unfolding unseen
  unseen_less zero k l a b h = absurd (omega arith)
  unseen_less (suc n) k l a b h =
      decide (eqb k n)
      (λ y. let e : k ≡ n = eqb_is k n y in
      let a' : mark_of marks n ≡ 0 = ap (mark_of marks) (sym e) ∙ a in
      let b' : mark_of marks' n ≡ 1 = ap (mark_of marks') (sym e) ∙ b in
      let r : unseen marks' n ≡ unseen marks n = unseen_same n (λ j m. h j (omega arith) (λ z. omega arith)) in
      rw (a', b') (omega arith))
      (λ y. let ne : k ≢ n = eqb_isnt k n y in
      let r : unseen marks n ≡ unseen marks' n + 1 = unseen_less n k (omega arith) a b (λ j m. h j (omega arith)) in
      rw (h n (omega arith) (λ z. ne (sym z))) (omega arith))
