-- A table of calls: row 0 is the entry's, row 1 + k function k's, 128 entries a row. Entry k is 0 where function k is not called, else one more than where its
-- first argument lies at most. own: the largest own height of each row's body.
use Rattle.std.specs.Prelude.{◌≡◌, ◌⊎◌, ℕ, zero, suc, ◌+◌, ◌*◌, ◌≤◌, ◌<◌, Bool, true, false, cond, List, [], ◌∷◌, length, get_or, ltb}
use Rattle.std.proofs.Common.{inl, inr, arith}
use Rattle.soundness.specs.Tests.{decide, ltb_is, ltb_yes}
use Rattle.rules.specs.Tables.{Body, entry, fn, Module}
use Rattle.rules.specs.Need.{Calls, Needs, Chain, stay, then_call, Recursive}
use Rattle.need.specs.Settle.{Summed, settles}

abbrev pub offset_at : List ℕ → ℕ → ℕ → ℕ
offset_at off b k = get_or off (128 * b + k) 0

-- the first function from k on that row b calls is r, or there is none and r is n
pub record NextCall (off : List ℕ) (b k n r : ℕ) : Type 0 where
  pub from : k ≤ r
  pub within : r ≤ n
  pub skipped : (j : ℕ) → k ≤ j → j < r → offset_at off b j ≡ 0
  pub called : r < n → 0 < offset_at off b r

-- what a row gives with the needs of its first i callees
pub record Joined (own off need frames : List ℕ) (b i x y : ℕ) : Type 0 where
  pub over_own : get_or own b 0 ≤ x
  pub over_calls : (k a : ℕ) → k < i → offset_at off b k ≡ suc a → (a + get_or need (suc k) 0 ≤ x) × (get_or frames (suc k) 0 < y)
  pub some_height : (x ≡ get_or own b 0) ⊎ ((k : ℕ) × (a : ℕ) × (k < i) × (offset_at off b k ≡ suc a) × (x ≡ a + get_or need (suc k) 0))
  pub some_frames : (y ≡ 1) ⊎ ((k : ℕ) × (a : ℕ) × (k < i) × (offset_at off b k ≡ suc a) × (y ≡ suc (get_or frames (suc k) 0)))

module _ (n : ℕ) (own off : List ℕ) where
  -- the row's need and frames, by those of its callees, theirs by those of theirs and so on
  pub data Need : ℕ → ℕ → ℕ → Type 0 where
    made : (b x y : ℕ) (need frames : List ℕ) → Joined own off need frames b n x y
        → ((k a : ℕ) → k < n → offset_at off b k ≡ suc a → Need (suc k) (get_or need (suc k) 0) (get_or frames (suc k) 0)) → Need b x y

  pub data Way : ℕ → ℕ → Type 0 where
    stays : (b : ℕ) → Way b b
    calls : (b k a c : ℕ) → k < n → offset_at off b k ≡ suc a → Way (suc k) c → Way b c

  -- from row b a way leads to a row and back to it
  pub data Loops : ℕ → Type 0 where
    back : (b k a : ℕ) → k < n → offset_at off b k ≡ suc a → Way (suc k) b → Loops b
    on : (b k a : ℕ) → k < n → offset_at off b k ≡ suc a → Loops (suc k) → Loops b

-- ---- the table of a module

abbrev pub row_of : ℕ → Body
row_of zero = entry
row_of (suc k) = fn k

-- the entries of a row; behind them stands the next row, which is not this body's
abbrev pub called_at : ℕ → List ℕ → ℕ → ℕ → ℕ
called_at n off b k = cond (ltb k n) (offset_at off b k) 0

-- each row says what its body does
abbrev pub TableOf : Module → ℕ → List ℕ → List ℕ → Type 0
TableOf m n own off = (b : ℕ) → b ≤ n → Summed m (row_of b) (get_or own b 0) (called_at n off b)

module _ (n : ℕ) (off : List ℕ) where
  called_in : (b k a : ℕ) → called_at n off b k ≡ suc a → (k < n) × (offset_at off b k ≡ suc a)
  called_in b k a e = decide (ltb k n) (λ y. (ltb_is k n y, rw y at e)) (λ y. let z : 0 ≡ suc a = rw y at e in absurd (omega arith))

  in_called : (b k a : ℕ) → k < n → offset_at off b k ≡ suc a → called_at n off b k ≡ suc a
  in_called b k a l e = rw (ltb_yes k n l) e

module _ (m : Module) (n : ℕ) (own off : List ℕ) (T : TableOf m n own off) where
  pub need_is : (b x y : ℕ) → b ≤ n → Need n own off b x y → Needs m (row_of b) x y
  need_is _ _ _ h (made b x y need frames J f) =
      settles m (row_of b) (get_or own b 0) (called_at n off b) (λ k. get_or need (suc k) 0) (λ k. get_or frames (suc k) 0) x y (T b h)
      (record {
        over_own = J.over_own;
        over_calls = λ k a e. let c = called_in n off b k a e in J.over_calls k a c.0 c.1;
        some_height = tall J.some_height;
        some_frames = deep J.some_frames;
      })
      (λ k a e. let c = called_in n off b k a e in need_is (suc k) (get_or need (suc k) 0) (get_or frames (suc k) 0) c.0 (f k a c.0 c.1))
    where
      tall : (x ≡ get_or own b 0) ⊎ ((k : ℕ) × (a : ℕ) × (k < n) × (offset_at off b k ≡ suc a) × (x ≡ a + get_or need (suc k) 0))
          → (x ≡ get_or own b 0) ⊎ ((k : ℕ) × (a : ℕ) × (called_at n off b k ≡ suc a) × (x ≡ a + get_or need (suc k) 0))
      tall (inl z) = inl z
      tall (inr z) = inr (z.0, z.1, in_called n off b z.0 z.1 z.2 z.3, z.4)

      deep : (y ≡ 1) ⊎ ((k : ℕ) × (a : ℕ) × (k < n) × (offset_at off b k ≡ suc a) × (y ≡ suc (get_or frames (suc k) 0)))
          → (y ≡ 1) ⊎ ((k : ℕ) × (a : ℕ) × (called_at n off b k ≡ suc a) × (y ≡ suc (get_or frames (suc k) 0)))
      deep (inl z) = inl z
      deep (inr z) = inr (z.0, z.1, in_called n off b z.0 z.1 z.2 z.3, z.4)

  call_is : (b k a : ℕ) → b ≤ n → k < n → offset_at off b k ≡ suc a → Calls m (row_of b) k
  call_is b k a h l e = let z = (T b h).offset_some k a (in_called n off b k a l e) in (z.0, z.1, z.2, z.3, z.4)

  way_is : (b c : ℕ) → b ≤ n → Way n own off b c → Chain m (row_of b) (row_of c)
  way_is _ _ h (stays b) = stay (row_of b)
  way_is _ _ h (calls b k a c l e w) = then_call (row_of b) k (row_of c) (call_is b k a h l e) (way_is (suc k) c l w)

  pub loops_is : (b : ℕ) → b ≤ n → Loops n own off b → Recursive m (row_of b)
  loops_is _ h (back b k a l e w) = (row_of b, k, stay (row_of b), call_is b k a h l e, way_is (suc k) b l w)
  loops_is _ h (on b k a l e r) =
      let x : Recursive m (fn k) = loops_is (suc k) l r in (x.0, x.1, then_call (row_of b) k x.0 (call_is b k a h l e) x.2, x.3, x.4)

-- ---- what the code keeps: marks 0 unseen, 1 open (its callees are being visited), 2 settled, 3 loops

abbrev pub mark_of : List ℕ → ℕ → ℕ
mark_of marks b = get_or marks b 0

-- rows that are unseen
abbrev pub unseen : List ℕ → ℕ
unseen [] = 0
unseen (zero ∷ l) = suc (unseen l)
unseen (suc k ∷ l) = unseen l

-- every need of the table is small, so that sums fit a word
abbrev pub Low : ℕ → List ℕ → List ℕ → Type 0
Low n own off = (b x y : ℕ) → b ≤ n → Need n own off b x y → (x ≤ 1000000) × (y ≤ 1000000)

pub record Sizes (n : ℕ) (own off marks need frames : List ℕ) : Type 0 where
  pub few : n ≤ 128
  pub owns : length own ≡ 129
  pub offs : 128 * suc n ≤ length off
  pub marked : length marks ≡ 129
  pub needs : length need ≡ 129
  pub framed : length frames ≡ 129

pub record Settled (n : ℕ) (own off marks need frames : List ℕ) : Type 0 where
  pub settled : (b : ℕ) → b ≤ n → mark_of marks b ≡ 2 → Need n own off b (get_or need b 0) (get_or frames b 0)
  pub loops : (b : ℕ) → b ≤ n → mark_of marks b ≡ 3 → Loops n own off b
  pub small : (b : ℕ) → mark_of marks b ≤ 3

-- from each open row a way leads to row b
abbrev pub Open : ℕ → List ℕ → List ℕ → List ℕ → ℕ → Type 0
Open n own off marks b = (a : ℕ) → a ≤ n → mark_of marks a ≡ 1 → Way n own off a b

-- what a visit of row b leaves: other rows that were seen stay as they are, none is opened
pub record Kept (b : ℕ) (marks marks' : List ℕ) : Type 0 where
  pub seen : (a : ℕ) → (a ≡ b → ⊥) → 0 < mark_of marks a → mark_of marks' a ≡ mark_of marks a
  pub shut : (a : ℕ) → (a ≡ b → ⊥) → mark_of marks' a ≡ 1 → mark_of marks a ≡ 1
  pub fewer : unseen marks' ≤ unseen marks

pub record Visited (n : ℕ) (own off : List ℕ) (b : ℕ) (marks marks' need' frames' : List ℕ) : Type 0 where
  pub sizes : Sizes n own off marks' need' frames'
  pub settled : Settled n own off marks' need' frames'
  pub kept : Kept b marks marks'
  pub ended : 2 ≤ mark_of marks' b

-- the callees of a row have their need and frames, which are small
abbrev pub Callees : List ℕ → List ℕ → List ℕ → ℕ → ℕ → Type 0
Callees off need frames b n = (k a : ℕ) → k < n → offset_at off b k ≡ suc a → (get_or need (suc k) 0 ≤ 1000000) × (get_or frames (suc k) 0 ≤ 1000000)

-- what was seen stays, and no row is opened
pub record Grown (marks marks' : List ℕ) : Type 0 where
  pub seen : (a : ℕ) → 0 < mark_of marks a → mark_of marks' a ≡ mark_of marks a
  pub shut : (a : ℕ) → mark_of marks' a ≡ 1 → mark_of marks a ≡ 1
  pub fewer : unseen marks' ≤ unseen marks

-- what is left when row b has looked at its call of function k
pub record Reached (n : ℕ) (own off : List ℕ) (b k : ℕ) (marks marks' need' frames' : List ℕ) (ok : Bool) : Type 0 where
  pub sizes : Sizes n own off marks' need' frames'
  pub settled : Settled n own off marks' need' frames'
  pub grown : Grown marks marks'
  pub fine : ok ≡ true → (a : ℕ) → offset_at off b k ≡ suc a → mark_of marks' (suc k) ≡ 2
  pub not_fine : ok ≡ false → Loops n own off b

-- no row is open
abbrev pub Shut : List ℕ → Type 0
Shut marks = (a : ℕ) → mark_of marks a ≡ 1 → ⊥

-- what is left when the rows below i have ended
pub record Ended (n : ℕ) (own off : List ℕ) (i : ℕ) (marks need frames : List ℕ) : Type 0 where
  pub sizes : Sizes n own off marks need frames
  pub settled : Settled n own off marks need frames
  pub shut : Shut marks
  pub all : (b : ℕ) → b < i → 2 ≤ mark_of marks b
