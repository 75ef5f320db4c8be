-- The table of calls, row by row.
use Rattle.std.specs.Prelude.{◌≡◌, ℕ, suc, ◌*◌, ◌≤◌, ◌<◌, List, ◌++◌, length, get_or, take, drop}
use Rattle.rules.specs.ModuleFile.{labels, refusal, read}
use Rattle.rules.specs.Typing.{WellTyped}
use Rattle.format.specs.declared.Sections.{Sections}
use Rattle.format.specs.Layout.{Packed}
use Rattle.nodes.specs.Nodes.{owner_of, Tabled}
use Rattle.need.specs.Settle.{Summed}
use Rattle.settle.specs.Graph.{row_of, called_at}
use Rattle.tracks.specs.Walks.{mark_of, high_of}
use Rattle.tracks.specs.Visits.{Quiet, Shown}
use Rattle.rules.specs.Tables.{Body}
use Rattle.tracks.specs.Summing.{Done}

-- row i was filled, and nothing else of the table changed
abbrev pub RowIs : List ℕ → Body → ℕ → List ℕ → List ℕ → List ℕ → List ℕ → List ℕ → ℕ → Type 0
RowIs s b i off marks off' marks' grounds' r =
    (q : List ℕ) × (off' ≡ take (128 * i) off ++ (q ++ drop 128 (drop (128 * i) off))) × Done s b marks marks' grounds' q r

pub record Asks (s : List ℕ) (c : Sections) (table room : List ℕ) : Type 0 where
  pub packed : Packed s c
  pub readable : refusal s ≡ 0
  pub tabled : Tabled s table
  pub typed : WellTyped (read s)
  pub shown : Shown s room

-- the rows below i say what their bodies do; the others are blank, and their bodies' nodes unmarked
pub record Filled (s : List ℕ) (n i : ℕ) (own off marks grounds : List ℕ) : Type 0 where
  pub owns : length own ≡ 129
  pub offs : 128 * suc n ≤ length off
  pub rows : (b : ℕ) → b < i → Summed (read s) (row_of b) (get_or own b 0) (called_at n off b)
  pub blank : (j : ℕ) → 128 * i ≤ j → get_or off j 0 ≡ 0
  pub marked : length marks ≡ 256
  pub grounded : length grounds ≡ 258
  pub small : (k : ℕ) → mark_of marks k ≤ 2
  pub numbered : (k : ℕ) → 0 < mark_of marks k → k < labels s
  pub quiet : Quiet marks
  pub top : high_of grounds ≤ 256
  pub unseen : (k b : ℕ) → i ≤ b → owner_of s k ≡ row_of b → mark_of marks k ≡ 0
