-- What the functions of `tokens` promise.
use Rattle.std.specs.Prelude.{◌≡◌, ◌≢◌, ℕ, zero, suc, ◌+◌, ◌*◌, ◌-◌, ◌≤◌, ◌<◌, cond, List, [], ◌∷◌, length, drop, get_or, leb, eqb, Some, None}
use Rattle.std.proofs.Math.Option.{none}
use Rattle.rules.specs.Grammar.{Sign, Tree, SumSign, ProductSign}
use Rattle.rules.specs.Reading.{skip, digits, Lead, sign, closing, lead, Part, onward, negated, closed, product_sign, sum_sign, factor}
use Rattle.rules.specs.Formula.{sign_bytes}
pub use Rattle.formula.specs.declared.tokens.Follow.{Follow}
use Rattle.std.specs.declared.option.Option as found

-- the place r after the spaces from a place on
pub record Skipped (s : List ℕ) (at r : ℕ) : Type 0 where
  pub from : at ≤ r
  pub upto : r ≤ length s
  pub rest : drop r s ≡ skip (drop at s)

-- v is the number n, or both are over 4294967295
pub record Capped (v n : ℕ) : Type 0 where
  pub same : leb v 4294967295 ≡ leb n 4294967295
  pub value : v ≤ 4294967295 → v ≡ n
  pub below : v < 42949672960

-- one digit more, the byte c
unfoldable pub Grown : ℕ → ℕ → ℕ → Type 0
Grown v c r = (n : ℕ) → Capped v n → Capped r (10 * n + (c - 48))

-- the place r after zeros from a place on, which leave the first digit's value as it is
pub record PastZeros (s : List ℕ) (at first r : ℕ) : Type 0 where
  pub from : at ≤ r
  pub upto : r ≤ length s
  pub same : digits first (drop at s) ≡ digits first (drop r s)

-- the digits from a place on, after a first one: their number is v, or as large; r is the place after them
pub record Counted (s : List ℕ) (at first v r : ℕ) : Type 0 where
  pub number : ℕ
  pub is : digits first (drop at s) ≡ (number, drop r s)
  pub capped : Capped v number
  pub from : at ≤ r
  pub upto : r ≤ length s

-- what stands in front is l, and the place after it r
pub record Leads (s : List ℕ) (at r : ℕ) (l : List ℕ → Lead) : Type 0 where
  pub is : lead (drop at s) ≡ l (drop r s)
  pub on : at < r
  pub upto : r ≤ length s

-- the parameter that a byte names
abbrev pub name_of : ℕ → found.Option ℕ
name_of c = cond (eqb c 114) (Some 0) (cond (eqb c 103) (Some 1) (cond (eqb c 98) (Some 2) None))

-- ---- minuses

-- no minus stands at a place
abbrev pub Plain : List ℕ → ℕ → Type 0
Plain s at = at < length s → get_or s at 0 ≢ 45

-- a part behind n minuses
abbrev pub negatives : ℕ → Part → Part
negatives zero p = p
negatives (suc n) p = negatives n (onward p (λ t r. negated t r))

-- n minuses from a place on, and r the place after them
pub record AfterMinuses (s : List ℕ) (at n r : ℕ) : Type 0 where
  pub from : at + n ≤ r
  pub upto : r ≤ length s
  pub plain : Plain s r
  pub is : (f : ℕ) → factor (n + f) (drop at s) ≡ negatives n (factor f (drop r s))

-- ---- signs: nothing that S goes on with; or a sign of the kind K, with its instruction

-- a sign of the kind K with this instruction, and r the place after it
abbrev pub SignAt : (ℕ → Sign → Type 0) → List ℕ → ℕ → ℕ → ℕ → Type 0
SignAt K s at op r = (o : Sign) × (b : ℕ) × K b o × (sign_bytes o ≡ op ∷ []) × Leads s at r (sign o)

abbrev pub Signs : (Lead → Part → (Sign → List ℕ → Part) → Part) → (ℕ → Sign → Type 0) → List ℕ → ℕ → found.Option Follow → Type 0
Signs S K s at None = (d : Part) (k : Sign → List ℕ → Part) → S (lead (drop at s)) d k ≡ d
Signs S K s at (Some f) = SignAt K s at f.opcode f.at

abbrev pub SumFollow : List ℕ → ℕ → found.Option Follow → Type 0
SumFollow = Signs sum_sign SumSign

abbrev pub ProductFollow : List ℕ → ℕ → found.Option Follow → Type 0
ProductFollow = Signs product_sign ProductSign

-- the closing bracket
abbrev pub CloseFollow : List ℕ → ℕ → found.Option ℕ → Type 0
CloseFollow s at None = (t : Tree) → closed t (drop at s) ≡ none
CloseFollow s at (Some r) = Leads s at r closing
