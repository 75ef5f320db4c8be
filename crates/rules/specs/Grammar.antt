-- 02, A4: the grammar of a formula line, as derivations over bytes. "State the grammar without the reader": nothing here reads,
-- a derivation says which bytes spell which tree.
use Rattle.std.specs.Prelude.{ℕ, suc, ◌+◌, ◌*◌, ◌-◌, ◌≤◌, ◌<◌, max, List, [], ◌∷◌, ◌++◌, length, take}

-- `+ - * /`
pub data Sign : Type 0 where
  plus dash star slash : Sign

-- what a line says. `group` keeps a bracket, so that depth is a matter of the tree
pub data Tree : Type 0 where
  number : ℕ → Tree
  name : ℕ → Tree
  minus : Tree → Tree
  both : Sign → Tree → Tree → Tree
  group : Tree → Tree

-- "the names r, g, b for parameters 0 to 2"
pub data Name : ℕ → ℕ → Type 0 where
  is_r : Name 114 0
  is_g : Name 103 1
  is_b : Name 98 2

-- + and - make sums, * and / products
pub data SumSign : ℕ → Sign → Type 0 where
  is_plus : SumSign 43 plus
  is_dash : SumSign 45 dash

pub data ProductSign : ℕ → Sign → Type 0 where
  is_star : ProductSign 42 star
  is_slash : ProductSign 47 slash

-- 0 to 9
pub record Digit (c : ℕ) : Type 0 where
  pub from : 48 ≤ c
  pub upto : c ≤ 57

-- digits and the number that they spell in decimal: "Leading zeros are allowed"
pub data Numeral : List ℕ → ℕ → Type 0 where
  digit : {c : ℕ} → Digit c → Numeral (c ∷ []) (c - 48)
  next : {s : List ℕ} {n c : ℕ} → Numeral s n → Digit c → Numeral (s ++ (c ∷ [])) (10 * n + (c - 48))

-- a sum, a product, a factor
pub data Rank : Type 0 where
  sum product factor : Rank

-- the bytes s spell the tree t, as a sum, as a product, or as a factor
pub data Spells : Rank → List ℕ → Tree → Type 0 where
  -- "equal ranks group from the left": left of a sign may stand a sum again, right of it only a product
  a_product : {s : List ℕ} {t : Tree} → Spells product s t → Spells sum s t
  sum_more : {s s' : List ℕ} {c : ℕ} {o : Sign} {t u : Tree} → Spells sum s t → SumSign c o → Spells product s' u → Spells sum (s ++ (c ∷ s')) (both o t u)
  -- "Products bind tighter than sums"
  a_factor : {s : List ℕ} {t : Tree} → Spells factor s t → Spells product s t
  product_more : {s s' : List ℕ} {c : ℕ} {o : Sign} {t u : Tree} → Spells product s t → ProductSign c o → Spells factor s' u → Spells product (s ++ (c ∷ s')) (both o t u)
  -- "unsigned decimal ints up to 4294967295"
  a_number : {s : List ℕ} {n : ℕ} → Numeral s n → n ≤ 4294967295 → Spells factor s (number n)
  a_name : {c i : ℕ} → Name c i → Spells factor (c ∷ []) (name i)
  -- "unary minus binds tightest and may repeat"
  negative : {s : List ℕ} {t : Tree} → Spells factor s t → Spells factor (45 ∷ s) (minus t)
  -- "A bracketed part holds a whole line's grammar again"
  bracketed : {s : List ℕ} {t : Tree} → Spells sum s t → Spells factor (40 ∷ (s ++ (41 ∷ []))) (group t)
  -- "spaces may stand anywhere but inside a number": before and after every factor is every such place
  space_before : {s : List ℕ} {t : Tree} → Spells factor s t → Spells factor (32 ∷ s) t
  space_after : {s : List ℕ} {t : Tree} → Spells factor s t → Spells factor (s ++ (32 ∷ [])) t

-- a line, "the grammar taken without the depth limit"
abbrev pub Line : List ℕ → Tree → Type 0
Line s t = Spells sum s t

-- "up to 16 deep": the most brackets around one place
abbrev pub depth : Tree → ℕ
depth (number n) = 0
depth (name i) = 0
depth (minus t) = depth t
depth (both o t u) = max (depth t) (depth u)
depth (group t) = suc (depth t)

-- a line with brackets at most d deep
pub record LineWithin (d : ℕ) (s : List ℕ) (t : Tree) : Type 0 where
  pub line : Line s t
  pub shallow : depth t ≤ d

-- bytes that some line of the grammar begins with
abbrev pub Begins : List ℕ → Type 0
Begins p = (rest : List ℕ) × (t : Tree) × Line (p ++ rest) t

-- the place where bytes stop making sense: a line can begin with those before it, and none with one more of them
pub record StopsAt (s : List ℕ) (k : ℕ) : Type 0 where
  pub upto : k ≤ length s
  pub before : Begins (take k s)
  pub after : k < length s → Begins (take (suc k) s) → ⊥
