-- One row more.
use mathlib.Core.Path.{◌≡◌, refl, sym, ap, ◌∙◌, subst}
use mathlib.Core.Logic.{◌≢◌}
use Prim.Native.Nat.{ℕ, zero, suc, ◌+◌, ◌*◌, ◌-◌, ◌≤◌, ◌<◌}
use native.Mathlib.Omega.{arith}
use mathlib.Core.List.{List, ◌++◌}
use lib.ListN.{length, get_or, set, take, drop, length-set, length-append, length-drop, get_or-append, get_or-eq_default}
use lib.Seq.{get_or-set_same, get_or-set_other, get_or-append-add, get_or-take, get_or-drop, length-take-le}
use lib.Dec.{eqb, ltb}
use borrow.Author.Tests.{ne_eqb}
use Rattle.rules.specs.Tables.{Body, Module, body_of, function_count}
use Rattle.rules.specs.ModuleFile.{edition, functions_in, functions, read, bodies_in}
use Rattle.format.specs.declared.Sections.{Sections}
use Rattle.soundness.specs.Tests.{decide, eqb_is, eqb_isnt, ltb_is, ltb_isnt}
use Rattle.soundness.specs.Readable.{Has}
use Rattle.soundness.specs.Cutting.{function_count_lem, few_functions}
use Rattle.rules.specs.Need.{Most, Path, height}
use Rattle.rules.specs.Typing.{Lists}
use Rattle.need.specs.Settle.{Summed}
use Rattle.need.specs.Whole.{below}
use Rattle.settle.specs.Graph.{row_of, called_at}
use Rattle.tracks.specs.Walks.{offset_of, Ready}
use Rattle.tracks.specs.Summing.{Fresh}
use Rattle.reporter.specs.Rows.{RowIs, Asks, Filled}

pub row_is : (off q : List ℕ) (i : ℕ) → take (128 * i) off ++ (q ++ drop (128 * i + 128 - 128 * i) (drop (128 * i) off)) ≡ take (128 * i) off ++ (q ++ drop 128 (drop (128 * i) off))
row_is off q i = let e : 128 * i + 128 - 128 * i ≡ 128 = omega arith in ap (λ m. take (128 * i) off ++ (q ++ drop m (drop (128 * i) off))) e

pub same_part : (P : List ℕ → Type 0) (off : List ℕ) (i : ℕ) → P (take 128 (drop (128 * i) off)) → P (take (128 * i + 128 - 128 * i) (drop (128 * i) off))
same_part P off i h = let e : 128 ≡ 128 * i + 128 - 128 * i = omega arith in subst (λ m. P (take m (drop (128 * i) off))) e h

module _ (off q : List ℕ) (i : ℕ) (room : 128 * i + 128 ≤ length off) (long : length q ≡ 128) where
  abbrev off' : List ℕ
  off' = take (128 * i) off ++ (q ++ drop 128 (drop (128 * i) off))

  first : length (take (128 * i) off) ≡ 128 * i
  first = length-take-le (128 * i) off (omega arith)

  before : (j : ℕ) → j < 128 * i → get_or off' j 0 ≡ get_or off j 0
  before j h = get_or-append (take (128 * i) off) (q ++ drop 128 (drop (128 * i) off)) 0 j (let e : length (take (128 * i) off) ≡ 128 * i = first in omega arith) ∙ get_or-take (128 * i) off j 0 h

  after : (k : ℕ) → get_or off' (128 * i + k) 0 ≡ get_or (q ++ drop 128 (drop (128 * i) off)) k 0
  after k = ap (λ m. get_or off' (m + k) 0) (sym first) ∙ get_or-append-add (take (128 * i) off) (q ++ drop 128 (drop (128 * i) off)) k 0

  here : (k : ℕ) → k < 128 → get_or off' (128 * i + k) 0 ≡ get_or q k 0
  here k h = after k ∙ get_or-append q (drop 128 (drop (128 * i) off)) 0 k (omega arith)

  behind : (j : ℕ) → 128 * i + 128 ≤ j → get_or off' j 0 ≡ get_or off j 0
  behind j h =
      let m : ℕ = j - (128 * i + 128) in
      let e : j ≡ 128 * i + (length q + m) = omega arith in
      let d : 128 * i + (128 + m) ≡ j = omega arith in
      ap (λ z. get_or off' z 0) e ∙ after (length q + m) ∙ get_or-append-add q (drop 128 (drop (128 * i) off)) m 0 ∙ get_or-drop 128 (drop (128 * i) off) m 0 ∙ get_or-drop (128 * i) off (128 + m) 0 ∙ ap (λ z. get_or off z 0) d

  long' : length off' ≡ length off
  long' =
      let a : length off' ≡ length (take (128 * i) off) + length (q ++ drop 128 (drop (128 * i) off)) = length-append (take (128 * i) off) (q ++ drop 128 (drop (128 * i) off)) in
      let b : length (q ++ drop 128 (drop (128 * i) off)) ≡ length q + length (drop 128 (drop (128 * i) off)) = length-append q (drop 128 (drop (128 * i) off)) in
      let c : length (drop 128 (drop (128 * i) off)) ≡ length (drop (128 * i) off) - 128 = length-drop 128 (drop (128 * i) off) in
      let d : length (drop (128 * i) off) ≡ length off - 128 * i = length-drop (128 * i) off in
      let e : length (take (128 * i) off) ≡ 128 * i = first in omega arith

summed_map : (m : Module) (b : Body) (x y : ℕ) (f g : ℕ → ℕ) → x ≡ y → ((k : ℕ) → f k ≡ g k) → Summed m b x f → Summed m b y g
summed_map m b x y f g d e S =
    record {
      own_most = subst (Most (λ h. (p : ℕ) × (l : Lists) × (f : ℕ) × Path m b p l f × (h ≡ height l f))) d S.own_most;
      offset_some = λ k a z. S.offset_some k a (e k ∙ z);
      offset_most = λ p l h k r z. let u = S.offset_most p l h k r z in let v : f k ≡ g k = e k in omega (arith, u, v);
    }

row_once : (a c : ℕ) → row_of a ≡ row_of c → a ≡ c
row_once zero zero e = refl
row_once zero (suc c) e = absurd (let z : ◌≡◌ {A = ℕ} 0 1 = cc in omega arith)
row_once (suc a) zero e = absurd (let z : ◌≡◌ {A = ℕ} 0 1 = cc in omega arith)
row_once (suc a) (suc c) e = ap suc (let z : a ≡ c = cc in z)

module _ (s : List ℕ) (c : Sections) (table room : List ℕ) (A : Asks s c table room) (owner i : ℕ) (is_row : body_of owner ≡ row_of i) (low : i ≤ c.functions) where
  counts : (c.functions ≡ functions s) × (c.functions ≤ 128)
  counts = let a : function_count (edition s) (functions_in s) ≡ functions s = function_count_lem s A.readable in let b : function_count (edition s) (functions_in s) ≤ 128 = few_functions s A.readable in
      let d : c.functions ≡ functions s = A.packed.functions_is in (d, omega arith)

  has : Has (bodies_in s) (body_of owner)
  has = subst (Has (bodies_in s)) (sym is_row) (go i low)
    where
      go : (j : ℕ) → j ≤ c.functions → Has (bodies_in s) (row_of j)
      go zero l = tt
      go (suc k) l = let a : function_count (edition s) (functions_in s) ≡ functions s = function_count_lem s A.readable in let d : c.functions ≡ functions s = counts.0 in omega arith

  pub row_ready : Ready s c table owner
  row_ready = record { packed = A.packed; readable = A.readable; tabled = A.tabled; has = has; typed = A.typed }

  module _ (own off M G : List ℕ) (F : Filled s c.functions i own off M G) where
    pub row_room : (i ≤ 128) × (128 * i + 128 ≤ length off)
    row_room = let a : 128 * suc c.functions ≤ length off = F.offs in let b : c.functions ≤ 128 = counts.1 in (omega arith, omega arith)

    pub row_fresh : Fresh s (body_of owner) M G (take 128 (drop (128 * i) off))
    row_fresh =
        record {
          marked = F.marked;
          grounded = F.grounded;
          wide = length-take-le 128 (drop (128 * i) off) (let a : length (drop (128 * i) off) ≡ length off - 128 * i = length-drop (128 * i) off in let b : 128 * i + 128 ≤ length off = row_room.1 in omega arith);
          small = F.small;
          numbered = F.numbered;
          quiet = F.quiet;
          unseen = λ n o. F.unseen n i (omega arith) (o ∙ is_row);
          top = F.top;
          blank = λ k. decide (ltb k 128) (λ y. get_or-take 128 (drop (128 * i) off) k 0 (ltb_is k 128 y) ∙ get_or-drop (128 * i) off k 0 ∙ F.blank (128 * i + k) (omega arith))
              (λ y. let l : 128 ≤ k = ltb_isnt k 128 y in past k l);
        }
      where
        past : (k : ℕ) → 128 ≤ k → get_or (take 128 (drop (128 * i) off)) k 0 ≡ 0
        past k l = get_or-eq_default (take 128 (drop (128 * i) off)) 0 {n = k} (let a : length (take 128 (drop (128 * i) off)) ≡ 128 = length-take-le 128 (drop (128 * i) off) (let a : length (drop (128 * i) off) ≡ length off - 128 * i = length-drop (128 * i) off in let b : 128 * i + 128 ≤ length off = row_room.1 in omega arith) in omega arith)

    module _ (off₂ M₂ G₂ : List ℕ) (r : ℕ) (D : RowIs s (body_of owner) i off M off₂ M₂ G₂ r) where
      q : List ℕ
      q = D.0

      pub row_low : r < 4294967296
      row_low = let a : r ≤ 544 = D.2.low in omega arith

      pub filled_next : Filled s c.functions (i + 1) (set own i r) off₂ M₂ G₂
      filled_next =
          record {
            owns = length-set own i r ∙ F.owns;
            offs = let e : length off₂ ≡ length off = ap length D.1 ∙ long' off D.0 i row_room.1 D.2.wide in let a : 128 * suc c.functions ≤ length off = F.offs in omega arith;
            rows = λ b l. decide (eqb b i) (λ y. mine b (eqb_is b i y)) (λ y. let n : b ≢ i = eqb_isnt b i y in old b (omega arith));
            blank = λ j h. ap (λ z. get_or z j 0) D.1 ∙ behind off D.0 i row_room.1 D.2.wide j (omega arith) ∙ F.blank j (omega arith);
            marked = D.2.marked;
            grounded = D.2.grounded;
            small = D.2.small;
            numbered = D.2.numbered;
            quiet = D.2.quiet;
            top = D.2.top;
            unseen = λ k b l o. D.2.others k (λ z. absurd (let e : b ≡ i = row_once b i (sym o ∙ z ∙ is_row) in omega arith)) ∙ F.unseen k b (omega arith) o;
          }
        where
          old : (b : ℕ) → b < i → Summed (read s) (row_of b) (get_or (set own i r) b 0) (called_at c.functions off₂ b)
          old b l =
              summed_map (read s) (row_of b) (get_or own b 0) (get_or (set own i r) b 0) (called_at c.functions off b) (called_at c.functions off₂ b) (sym (get_or-set_other own i b r 0 (λ z. omega arith)))
              (λ k. decide (ltb k c.functions)
              (λ y. rw y (let h : k < c.functions = ltb_is k c.functions y in let n : c.functions ≤ 128 = counts.1 in sym (ap (λ z. get_or z (128 * b + k) 0) D.1 ∙ before off D.0 i row_room.1 D.2.wide (128 * b + k) (omega arith))))
              (λ y. rw y refl)) (F.rows b l)

          called : (k : ℕ) → offset_of D.0 k ≡ called_at c.functions off₂ i k
          called k =
              decide (ltb k c.functions)
              (λ y. rw y (let h : k < c.functions = ltb_is k c.functions y in let n : c.functions ≤ 128 = counts.1 in sym (ap (λ z. get_or z (128 * i + k) 0) D.1 ∙ here off D.0 i row_room.1 D.2.wide k (omega arith))))
              (λ y. rw y (none (offset_of D.0 k) refl (ltb_isnt k c.functions y)))
            where
              none : (v : ℕ) → offset_of D.0 k ≡ v → c.functions ≤ k → v ≡ 0
              none zero e h = refl
              none (suc a) e h =
                  let z = D.2.summed.offset_some k a e in
                  let u : k < functions s = below s A.typed A.readable (body_of owner) k (z.0, z.1, z.2, z.3, z.4) in
                  let w : c.functions ≡ functions s = counts.0 in absurd (omega arith)

          mine : (b : ℕ) → b ≡ i → Summed (read s) (row_of b) (get_or (set own i r) b 0) (called_at c.functions off₂ b)
          mine b e =
              subst (λ b. Summed (read s) (row_of b) (get_or (set own i r) b 0) (called_at c.functions off₂ b)) (sym e)
              (summed_map (read s) (row_of i) r (get_or (set own i r) i 0) (offset_of D.0) (called_at c.functions off₂ i)
              (sym (get_or-set_same own i r 0 (let a : length own ≡ 129 = F.owns in let b : i ≤ 128 = row_room.0 in omega arith))) called
              (subst (λ b. Summed (read s) b r (offset_of D.0)) is_row D.2.summed))

-- the next owner
pub next_row : (s : List ℕ) (c : Sections) (table room : List ℕ) → Asks s c table room → (i : ℕ) → i < c.functions → body_of i ≡ row_of (i + 1)
next_row s c table room A i h =
    let a : function_count (edition s) (functions_in s) ≡ functions s = function_count_lem s A.readable in let b : function_count (edition s) (functions_in s) ≤ 128 = few_functions s A.readable in
    let d : c.functions ≡ functions s = A.packed.functions_is in
    let e : suc i ≡ i + 1 = omega arith in
    rw (ne_eqb i 0xffffffff (λ z. omega arith)) (ap row_of e)

pub row_long : (s : List ℕ) (b : Body) (i : ℕ) (off M off₂ M₂ G₂ : List ℕ) (r : ℕ) → 128 * i + 128 ≤ length off → RowIs s b i off M off₂ M₂ G₂ r → length off₂ ≡ length off
row_long s b i off M off₂ M₂ G₂ r l D = ap length D.1 ∙ long' off D.0 i l D.2.wide
