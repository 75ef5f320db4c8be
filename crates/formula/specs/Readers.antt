-- What the readers promise.
use Rattle.std.specs.Prelude.{◌≡◌, ℕ, zero, suc, ◌+◌, ◌*◌, ◌-◌, ◌≤◌, ◌<◌, max, List, [], ◌∷◌, ◌++◌, length, drop, take, replicate, Some, None}
use Rattle.std.proofs.Math.Option.{some}
use Rattle.rules.specs.Files.{constant_bytes}
use Rattle.rules.specs.Grammar.{Tree}
use Rattle.rules.specs.Grammar as Grammar
use Rattle.rules.specs.Reading.{Part, onward, closed, sum, product, factor}
use Rattle.rules.specs.Formula.{numbers, postfix, assembled, ints, need}
pub use Rattle.formula.specs.declared.readers.Cursor.{Cursor}
use Rattle.std.specs.declared.option.Option as found

-- room for what is still to be written. Operands and signs take turns, so that n bytes of a line give at most 3 n + 2 bytes of code and (n + 1) / 2 constants; k is 1
-- after an operand, 0 before one
pub record Ready (k : ℕ) (s code pool : List ℕ) (c : Cursor) (depth held : ℕ) : Type 0 where
  pub short : length s ≤ 256
  pub code_room : length code ≡ 771
  pub pool_room : length pool ≡ 1536
  pub at_in : c.at ≤ length s
  pub code_in : c.code ≤ 3 * c.at + 2 * k
  pub pool_in : 2 * c.numbers ≤ c.at + k
  pub shallow : depth ≤ 16
  pub few : held ≤ c.at

abbrev pub AfterSign : List ℕ → Cursor → ℕ → Type 0
AfterSign s c r = (c.at < r) × (r ≤ length s)

-- the tree t was read from c up to r, its constants and its postfix code put behind what was there
pub record Wrote (t : Tree) (s code pool : List ℕ) (c : Cursor) (depth held : ℕ) (code' pool' : List ℕ) (r : Cursor) : Type 0 where
  pub on : c.at < r.at
  pub upto : r.at ≤ length s
  pub code_room : length code' ≡ length code
  pub pool_room : length pool' ≡ length pool
  pub code_in : r.code + 3 * c.at ≤ c.code + 3 * r.at + 2
  pub pool_in : 2 * r.numbers + c.at ≤ 2 * c.numbers + r.at + 1
  pub code_long : r.code ≡ c.code + length (assembled (postfix c.numbers t))
  pub code_is : take r.code code' ≡ take c.code code ++ assembled (postfix c.numbers t)
  pub numbers_are : r.numbers ≡ c.numbers + length (numbers t)
  pub pool_is : take (12 * r.numbers) pool' ≡ take (12 * c.numbers) pool ++ constant_bytes (ints (numbers t))
  pub shallow : depth + Grammar.depth t ≤ 16
  pub most : r.most ≡ max c.most (held + need t)

-- ---- the definition's readers, with every bound that is enough: 4 for each byte that is left, and n

abbrev pub Enough : List ℕ → ℕ → ℕ → ℕ → Type 0
Enough s at n f = 4 * (length s - at) + n ≤ f

-- a part that a definition gives is over 16 deep
abbrev pub TooDeep : ℕ → Part → Type 0
TooDeep depth p = (t : Tree) (rest : List ℕ) → p ≡ some (t, rest) → 16 < depth + Grammar.depth t

-- what the reader R gives from the place `from` on, which is c's or after a sign there
abbrev pub PartIs : (ℕ → List ℕ → Part) → ℕ → List ℕ → List ℕ → List ℕ → Cursor → ℕ → ℕ → ℕ → List ℕ → List ℕ → found.Option Cursor → Type 0
PartIs R n s code pool c from depth held code' pool' None = (f : ℕ) → Enough s from n f → TooDeep depth (R f (drop from s))
PartIs R n s code pool c from depth held code' pool' (Some r) =
    (t : Tree) × Wrote t s code pool c depth held code' pool' r × ((f : ℕ) → Enough s from n f → R f (drop from s) ≡ some (t, drop r.at s))

abbrev pub FactorIs : List ℕ → List ℕ → List ℕ → Cursor → ℕ → ℕ → List ℕ → List ℕ → found.Option Cursor → Type 0
FactorIs s code pool c = PartIs factor 1 s code pool c c.at

abbrev pub ProductIs : List ℕ → List ℕ → List ℕ → Cursor → ℕ → ℕ → List ℕ → List ℕ → found.Option Cursor → Type 0
ProductIs s code pool c = PartIs product 2 s code pool c c.at

abbrev pub SumIs : List ℕ → List ℕ → List ℕ → Cursor → ℕ → ℕ → List ℕ → List ℕ → found.Option Cursor → Type 0
SumIs s code pool c = PartIs sum 3 s code pool c c.at

-- after an opening bracket
unfoldable pub bracketed_of : ℕ → List ℕ → Part
bracketed_of f s = onward (sum f s) (λ t r. closed t r)

abbrev pub BracketedIs : List ℕ → List ℕ → List ℕ → Cursor → ℕ → ℕ → ℕ → List ℕ → List ℕ → found.Option Cursor → Type 0
BracketedIs = PartIs bracketed_of 3

-- one byte of code more
pub record Signed (code : List ℕ) (c : Cursor) (op : ℕ) (code' : List ℕ) (r : Cursor) : Type 0 where
  pub room : length code' ≡ length code
  pub cursor : r ≡ record { at = c.at; code = c.code + 1; numbers = c.numbers; most = c.most }
  pub code_is : take (c.code + 1) code' ≡ take c.code code ++ (op ∷ [])

-- n times `neg` more
pub record Negated (code : List ℕ) (c : Cursor) (n : ℕ) (code' : List ℕ) (r : Cursor) : Type 0 where
  pub room : length code' ≡ length code
  pub cursor : r ≡ record { at = c.at; code = c.code + n; numbers = c.numbers; most = c.most }
  pub code_is : take (c.code + n) code' ≡ take c.code code ++ replicate n 19

-- the instruction of a sign that waited; 0 where none did
abbrev pub Completed : List ℕ → Cursor → ℕ → List ℕ → Cursor → Type 0
Completed code c zero code' r = (code' ≡ code) × (r ≡ c)
Completed code c (suc k) code' r = Signed code c (suc k) code' r
