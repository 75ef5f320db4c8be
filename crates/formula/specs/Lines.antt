-- What the functions on whole lines promise.
use Rattle.std.specs.Prelude.{◌≡◌, ℕ, ◌*◌, ◌≤◌, ◌<◌, List, [], ◌∷◌, take, Some, None}
use Rattle.std.proofs.Math.Option.{some}
use Rattle.rules.specs.Tables.{Tables, tables}
use Rattle.rules.specs.AnswerTypes.{Unwritten}
use Rattle.rules.specs.Writing.{wrote}
use Rattle.rules.specs.Files.{constant_bytes, function, function_bytes}
use Rattle.rules.specs.Grammar.{Tree, depth}
use Rattle.rules.specs.Reading.{reading}
use Rattle.rules.specs.Formula.{need, numbers, ints, code_bytes, formula}
use Rattle.std.specs.declared.option.Option as found
use Rattle.formula.specs.Readers.{Cursor}

-- the tables of one function of three ints to an int, with these constants and this code
abbrev pub one_function : List ℕ → List ℕ → Tables
one_function constants code = tables 3 constants (function_bytes 0 (function (3 ∷ 3 ∷ 3 ∷ []) 3 code ∷ [])) [] [] code 0

-- a line of this tree was read: its constants, and its code with `ret`
pub record Whole (code pool : List ℕ) (c : Cursor) (t : Tree) : Type 0 where
  pub code_is : take c.code code ≡ code_bytes t
  pub pool_is : take (12 * c.numbers) pool ≡ constant_bytes (ints (numbers t))
  pub most : c.most ≡ need t
  pub few : c.numbers ≤ 128
  pub short : c.code ≤ 771

-- a line that is not in the grammar, or is too deep
abbrev pub Unread : List ℕ → Type 0
Unread line = (t : Tree) → reading line ≡ some t → 16 < depth t

-- the line is answered with this number, and no output changes
abbrev pub Refuses : List ℕ → ℕ → Type 0
Refuses line n = (out : List ℕ) → wrote (Unwritten n) out ≡ formula line out

abbrev pub LineIs : List ℕ → List ℕ → List ℕ → found.Option Cursor → Type 0
LineIs line code pool None = Unread line
LineIs line code pool (Some c) = (t : Tree) × (reading line ≡ some t) × (depth t ≤ 16) × Whole code pool c t
