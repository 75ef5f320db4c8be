-- What the writer asks of a lent output, and what it leaves there.
use Rattle.std.specs.Prelude.{ℕ, ◌^◌, ◌≤◌, ◌<◌, List, ◌++◌, length, drop}
use Rattle.rules.specs.Tables.{Tables}
use Rattle.rules.specs.Writing.{file_length, file_of}

-- the output has room for the file of these tables, and the header's words for its numbers
pub record Takes (out : List ℕ) (t : Tables) : Type 0 where
  pub long : file_length t ≤ length out
  pub edition_small : t.bodies.edition < 2 ^ 32
  pub small : file_length t < 2 ^ 32
  pub entry_small : t.bodies.entry < 2 ^ 32

-- the file in front, and what was there past it
abbrev pub filled_with : Tables → List ℕ → List ℕ
filled_with t out = file_of t ++ drop (file_length t) out
