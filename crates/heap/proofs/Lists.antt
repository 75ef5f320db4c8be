-- Blocks read off entries and cells: what the rules' `find` and `stored` come to.
use Prim.Native.Nat.{ℕ, zero, suc, ◌+◌, ◌≤◌, ◌<◌}
use native.Mathlib.Nat.{add-zero}
use native.Mathlib.Omega.{arith}
use mathlib.Core.Path.{◌≡◌, refl, sym, ap, ◌∙◌}
use mathlib.Core.Option.{none, some}
use mathlib.Core.Logic.{◌⊎◌, inl, inr, ⊎_elim}
use mathlib.Core.List.{List, ◌∷◌}
use lib.ListN.{length, get_or, set}
use borrow.Author.Tests.{eq-eqb, ne_eqb}
use Rattle.rules.specs.Heap.{Block, find, stored, with_cell}
use Rattle.heap.specs.declared.Entry.{Entry}
use Rattle.heap.specs.Blocks.{cells_of, block_of, blocks_of, end_of, Outside, Rising, Laid}
use Rattle.heap.proofs.Stores.{split_lt}

-- ---- cells

pub length_cells : (C : ℕ → ℕ) (n c : ℕ) → length (cells_of C c n) ≡ n
unfolding cells_of
length_cells C zero c = refl
length_cells C (suc n) c = ap suc (length_cells C n (suc c))

pub get_or_cells : (C : ℕ → ℕ) (n c i : ℕ) → i < n → get_or (cells_of C c n) i 0 ≡ C (c + i)
unfolding cells_of
get_or_cells C zero c i h = absurd (omega arith)
get_or_cells C (suc n) c zero h = ap C (sym (add-zero c))
get_or_cells C (suc n) c (suc i) h = let e : suc c + i ≡ c + suc i = omega arith in get_or_cells C n (suc c) i (omega arith) ∙ ap C e

-- cells from c up to e are the same
abbrev pub Alike : (ℕ → ℕ) → (ℕ → ℕ) → ℕ → ℕ → Type 0
Alike C' C c e = (x : ℕ) → c ≤ x → x < e → C' x ≡ C x

pub cells_alike : (C' C : ℕ → ℕ) (n c : ℕ) → Alike C' C c (c + n) → cells_of C' c n ≡ cells_of C c n
unfolding cells_of
cells_alike C' C zero c h = refl
cells_alike C' C (suc n) c h = rw (h c (omega arith) (omega arith), cells_alike C' C n (suc c) (λ x l m. h x (omega arith) (omega arith))) refl

pub cells_set : (C' C : ℕ → ℕ) (n c i x : ℕ) → i < n → C' (c + i) ≡ x → ((y : ℕ) → (y ≡ c + i → ⊥) → C' y ≡ C y)
    → cells_of C' c n ≡ set (cells_of C c n) i x
unfolding cells_of
cells_set C' C zero c i x h e o = absurd (omega arith)
cells_set C' C (suc n) c zero x h e o =
    rw (sym (ap C' (add-zero c)) ∙ e, cells_alike C' C n (suc c) (λ y l m. o y (λ q. omega arith))) refl
cells_set C' C (suc n) c (suc i) x h e o =
    let q : suc c + i ≡ c + suc i = omega arith in
    rw (o c (λ q. omega arith), cells_set C' C n (suc c) i x (omega arith) (ap C' q ∙ e) (λ y ne. o y (λ z. ne (z ∙ sym q)))) refl

-- ---- blocks

pub block_alike : (w C' C : ℕ → ℕ) (e : Entry) → Alike C' C e.first (end_of w e) → block_of w C' e ≡ block_of w C e
block_alike w C' C e h = rw (cells_alike C' C (w e.listed) e.first h) refl

pub blocks_alike : (w C' C : ℕ → ℕ) (E' E : ℕ → Entry) (n : ℕ) → ((i : ℕ) → i < n → block_of w C' (E' i) ≡ block_of w C (E i)) → blocks_of w C' E' n ≡ blocks_of w C E n
unfolding blocks_of
blocks_alike w C' C E' E zero h = refl
blocks_alike w C' C E' E (suc n) h =
    ap (λ (b : Block). b ∷ blocks_of w C' E' n) (h n (omega arith))
    ∙ ap (λ (l : List Block). block_of w C (E n) ∷ l) (blocks_alike w C' C E' E n (λ i l. h i (omega arith)))

pub length_blocks : (w C : ℕ → ℕ) (E : ℕ → Entry) (n : ℕ) → length (blocks_of w C E n) ≡ n
unfolding blocks_of
length_blocks w C E zero = refl
length_blocks w C E (suc n) = ap suc (length_blocks w C E n)

-- ---- serials

pub differ : {E : ℕ → Entry} {n next : ℕ} → Rising E n next → (i j : ℕ) → i < n → j < n → (i ≡ j → ⊥) → (E i).serial ≡ (E j).serial → ⊥
differ {E} r i j hi hj ne e =
    ⊎_elim
    (λ (l : i < j). omega (arith, r.rise i j l hj))
    (λ (l : j ≤ i). ⊎_elim (λ (g : j < i). omega (arith, r.rise j i g hi)) (λ (g : i ≤ j). let q : i ≡ j = omega arith in ne q) (split_lt j i))
    (split_lt i j)

module _ (w C : ℕ → ℕ) (E : ℕ → Entry) where
  pub find_none : (s n : ℕ) → ((i : ℕ) → i < n → (E i).serial ≡ s → ⊥) → find (blocks_of w C E n) s ≡ none
  unfolding blocks_of
  find_none s zero h = refl
  find_none s (suc n) h = rw (ne_eqb (E n).serial s (h n (omega arith))) (find_none s n (λ i l. h i (omega arith)))

  pub find_some : {next : ℕ} (s n : ℕ) → Rising E n next → (i : ℕ) → i < n → (E i).serial ≡ s → find (blocks_of w C E n) s ≡ some (block_of w C (E i))
  unfolding blocks_of
  find_some s zero r i h e = absurd (omega arith)
  find_some {next} s (suc n) r i h e =
      ⊎_elim
      (λ (l : i < n). rw (ne_eqb (E n).serial s (λ q. differ r i n h (omega arith) (λ z. omega arith) (e ∙ sym q))) (find_some s n lower i l e))
      (λ (l : n ≤ i). let q : i ≡ n = omega arith in let z : (E n).serial ≡ s = sym (ap (λ (x : ℕ). (E x).serial) q) ∙ e in
      rw (eq-eqb (E n).serial s z) (ap (λ (x : ℕ). some (block_of w C (E x))) (sym q)))
      (split_lt i n)
    where
      lower : Rising E n next
      lower = record { rise = λ i j l m. r.rise i j l (omega arith); from_1 = λ i l. r.from_1 i (omega arith); given = λ i l. r.given i (omega arith) }

-- ---- blocks that lie apart

module _ {w C : ℕ → ℕ} {E : ℕ → Entry} {size n low top : ℕ} (k : Laid w C E size n low top) where
  pub parted : (i j : ℕ) → i < n → j < n → (i ≡ j → ⊥) → (end_of w (E i) ≤ (E j).first) ⊎ (end_of w (E j) ≤ (E i).first)
  parted i j hi hj ne =
      ⊎_elim
      (λ (l : i < j). k.apart i j l hj)
      (λ (l : j ≤ i). ⊎_elim (λ (g : j < i). ⊎_elim (λ a. inr a) (λ a. inl a) (k.apart j i g hi)) (λ (g : i ≤ j). let q : i ≡ j = omega arith in absurd (ne q)) (split_lt j i))
      (split_lt i j)

  -- a cell of block i is outside every other block
  pub owned : (i j c : ℕ) → i < n → j < n → (j ≡ i → ⊥) → (E i).first ≤ c → c < end_of w (E i) → Outside w (E j) c
  owned i j c hi hj ne l m =
      ⊎_elim (λ (a : end_of w (E j) ≤ (E i).first). inr (omega arith)) (λ (a : end_of w (E i) ≤ (E j).first). inl (omega arith)) (parted j i hj hi ne)

  -- where only cells of block i change, the other blocks stay
  pub other_block : (C' : ℕ → ℕ) (i j : ℕ) → i < n → j < n → (j ≡ i → ⊥) → ((c : ℕ) → Outside w (E i) c → C' c ≡ C c) → block_of w C' (E j) ≡ block_of w C (E j)
  other_block C' i j hi hj ne o =
      block_alike w C' C (E j) (λ x l m. o x (⊎_elim (λ (a : end_of w (E j) ≤ (E i).first). inl (omega arith)) (λ (a : end_of w (E i) ≤ (E j).first). inr (omega arith)) (parted j i hj hi ne)))

  -- x with_cell to cell o of block i
  module _ (C' : ℕ → ℕ) (i o x : ℕ) (hi : i < n) (ho : o < w (E i).listed) (same : C' ((E i).first + o) ≡ x) (other : (c : ℕ) → (c ≡ (E i).first + o → ⊥) → C' c ≡ C c) where
    outside_same : (c : ℕ) → Outside w (E i) c → C' c ≡ C c
    outside_same c = ⊎_elim (λ (l : c < (E i).first). other c (λ q. omega arith)) (λ (l : end_of w (E i) ≤ c). other c (λ q. omega arith))

    this_block : block_of w C' (E i) ≡ with_cell (block_of w C (E i)) o x
    this_block = rw (cells_set C' C (w (E i).listed) (E i).first o x ho same other) refl

    pub stored_blocks : {next : ℕ} → Rising E n next → (m : ℕ) → i < m → m ≤ n → blocks_of w C' E m ≡ stored (blocks_of w C E m) (E i).serial o x
    unfolding blocks_of
    stored_blocks r zero l h = absurd (omega arith)
    stored_blocks r (suc m) l h =
        ⊎_elim
        (λ (a : i < m). rw (ne_eqb (E m).serial (E i).serial (differ r m i (omega arith) hi (λ q. omega arith)))
        (ap (λ (b : Block). b ∷ blocks_of w C' E m) (other_block C' i m hi (omega arith) (λ q. omega arith) outside_same)
        ∙ ap (λ (z : List Block). block_of w C (E m) ∷ z) (stored_blocks r m a (omega arith))))
        (λ (a : m ≤ i). let q : i ≡ m = omega arith in
        rw (eq-eqb (E m).serial (E i).serial (sym (ap (λ (y : ℕ). (E y).serial) q)))
        (ap (λ (b : Block). b ∷ blocks_of w C' E m) (rw q at this_block)
        ∙ ap (λ (z : List Block). with_cell (block_of w C (E m)) o x ∷ z) (blocks_alike w C' C E E m (λ j lj. other_block C' i j hi (omega arith) (λ z. omega arith) outside_same))))
        (split_lt i m)

    pub stored_laid : Laid w C' E size n low top
    stored_laid =
        record {
          listed = k.listed;
          wide = k.wide;
          inside = k.inside;
          apart = k.apart;
          full = k.full;
          clear = λ c l f. outside_same c (f i hi) ∙ k.clear c l f;
          low_top = k.low_top;
          top_size = k.top_size;
          rest = k.rest;
        }
