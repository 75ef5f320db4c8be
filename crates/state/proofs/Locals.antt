-- Laws of locals and waiting frames in their words. A write at or above the running frame's words leaves the waiting frames.
use Prim.Native.Nat.{ℕ, zero, suc, ◌+◌, ◌*◌, ◌≤◌, ◌<◌}
use native.Mathlib.Omega.{arith}
use native.Mathlib.Numerals.{add-one}
use mathlib.Core.Option.{none, some}
use mathlib.Core.Path.{◌≡◌, refl, sym, ap, ◌∙◌}
use mathlib.Core.Logic.{⊎_elim}
use mathlib.Core.List.{List, ◌∷◌}
use lib.ListN.{length, get_or, set, length-set}
use lib.Seq.{get_or-set_same, get_or-set_other, lt-length-set}
use borrow.Author.Tests.{eq-eqb, ne_eqb}
use Rattle.rules.specs.Stack.{at}
use Rattle.state.specs.State.{locals_of, frame_at, callers_of, bound_in, Caller, Waiting}
use Rattle.state.proofs.Stack.{split_lt}

module _ (f : List ℕ) (a : ℕ) where
  pub length_locals : (n : ℕ) → length (locals_of f a n) ≡ n
  unfolding locals_of
  length_locals zero = refl
  length_locals (suc n) = ap suc (length_locals n)

  pub at_locals : (n i : ℕ) → i < n → at (locals_of f a n) i ≡ some (get_or f (a + 4 + i) 0)
  unfolding locals_of
  at_locals zero i h = absurd (omega arith)
  at_locals (suc n) i h =
      ⊎_elim
      (λ (l : i < n). rw (length_locals n, ne_eqb i n (λ e. omega arith)) (at_locals n i l))
      (λ (l : n ≤ i). let e : i ≡ n = omega arith in rw (length_locals n, eq-eqb i n e) (ap (λ (j : ℕ). some (get_or f (a + 4 + j) 0)) (sym e)))
      (split_lt i n)

  pub at_locals_out : (n i : ℕ) → n ≤ i → at (locals_of f a n) i ≡ none
  unfolding locals_of
  at_locals_out zero i h = refl
  at_locals_out (suc n) i h = rw (length_locals n, ne_eqb i n (λ e. omega arith)) (at_locals_out n i (omega arith))

pub length_callers : (f : List ℕ) (d : ℕ) → length (callers_of f d) ≡ d
unfolding callers_of
length_callers f zero = refl
length_callers f (suc d) = ap suc (length_callers f d)

-- ---- words that are the same in two lists

-- words below n are the same
abbrev pub Alike : List ℕ → List ℕ → ℕ → Type 0
Alike f' f n = (i : ℕ) → i < n → get_or f' i 0 ≡ get_or f i 0

module _ (f' f : List ℕ) where
  pub locals_same : (a n : ℕ) → ((i : ℕ) → i < n → get_or f' (a + 4 + i) 0 ≡ get_or f (a + 4 + i) 0) → locals_of f' a n ≡ locals_of f a n
  unfolding locals_of
  locals_same a zero s = refl
  locals_same a (suc n) s = rw (s n (omega arith), locals_same a n (λ i l. s i (omega arith))) refl

  caller_alike : (a b : ℕ) → Alike f' f (a + 24) → Caller f a b → Caller f' a b
  caller_alike a b s c =
      record {
        over = rw (s (a + 21) (omega arith)) c.over;
        low = rw (s (a + 21) (omega arith), s (a + 2) (omega arith)) c.low;
        few = rw (s (a + 3) (omega arith)) c.few;
        near = rw (s (a + 20) (omega arith)) c.near;
      }

  pub waiting_alike : (d b : ℕ) → Alike f' f (d * 24) → Waiting f d b → Waiting f' d b
  unfolding Waiting
  waiting_alike zero b s w = tt
  waiting_alike (suc d) b s w = (
    caller_alike (d * 24) b (λ i l. s i (omega arith)) w.0,
    rw (s (d * 24 + 2) (omega arith)) (waiting_alike d (get_or f (d * 24 + 2) 0) (λ i l. s i (omega arith)) w.1),
  )

  frame_alike : (a : ℕ) → get_or f (a + 3) 0 ≤ 16 → Alike f' f (a + 24) → frame_at f' a ≡ frame_at f a
  unfolding frame_at
  frame_alike a few s =
      rw (
        s a (omega arith),
        s (a + 1) (omega arith),
        s (a + 2) (omega arith),
        s (a + 3) (omega arith),
        s (a + 20) (omega arith),
        s (a + 21) (omega arith),
        locals_same a (get_or f (a + 3) 0) (λ i l. s (a + 4 + i) (omega arith)),
      ) refl

  pub callers_alike : (d b : ℕ) → Waiting f d b → Alike f' f (d * 24) → callers_of f' d ≡ callers_of f d
  unfolding callers_of Waiting
  callers_alike zero b w s = refl
  callers_alike (suc d) b w s =
      rw (frame_alike (d * 24) w.0.few (λ i l. s i (omega arith)), callers_alike d (get_or f (d * 24 + 2) 0) w.1 (λ i l. s i (omega arith))) refl

-- ---- words written

pub set_alike : (f : List ℕ) (i x n : ℕ) → n ≤ i → Alike (set f i x) f n
set_alike f i x n h j l = get_or-set_other f i j x 0 (λ e. omega arith)

pub locals_bind : (f : List ℕ) (a n x : ℕ) → a + 4 + n < length f → locals_of (set f (a + 4 + n) x) a (n + 1) ≡ x ∷ locals_of f a n
unfolding locals_of
locals_bind f a n x h =
    rw (
      add-one,
      locals_same (set f (a + 4 + n) x) f a n (λ i l. set_alike f (a + 4 + n) x (a + 4 + n) (omega arith) (a + 4 + i) (omega arith)),
      get_or-set_same f (a + 4 + n) x 0 h,
    ) refl

-- ---- a local bound

module _ (f : List ℕ) (a n x : ℕ) where
  abbrev once : List ℕ
  once = set f (a + 4 + n) x

  pub length_bound : length (bound_in f a n x) ≡ length f
  unfolding bound_in
  length_bound = simp length-set

  pub bound_alike : Alike (bound_in f a n x) f (a + 3)
  unfolding bound_in
  bound_alike i l = get_or-set_other once (a + 3) i (n + 1) 0 (λ e. omega arith) ∙ get_or-set_other f (a + 4 + n) i x 0 (λ e. omega arith)

  module _ (few : n < 16) (room : a + 24 ≤ length f) where
    pub bound_count : get_or (bound_in f a n x) (a + 3) 0 ≡ n + 1
    unfolding bound_in
    bound_count = get_or-set_same once (a + 3) (n + 1) 0 (lt-length-set f (a + 4 + n) x (omega arith))

    pub bound_locals : locals_of (bound_in f a n x) a (n + 1) ≡ x ∷ locals_of f a n
    unfolding bound_in
    bound_locals =
        locals_same (set once (a + 3) (n + 1)) once a (n + 1) (λ i l. get_or-set_other once (a + 3) (a + 4 + i) (n + 1) 0 (λ e. omega arith))
        ∙ locals_bind f a n x (omega arith)
