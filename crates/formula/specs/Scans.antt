-- What the functions of `scan` promise: the code's state, as that of the definition.
use Rattle.std.specs.Prelude.{◌≡◌, ℕ, zero, suc, ◌≤◌, ◌<◌, cond, List, leb, Some, None, Ok, Err}
use Rattle.std.proofs.Math.Option.{Option, none, some}
use Rattle.grammar.specs.Scan.{Mode, before, inside, after, standing, scan_byte}
use Rattle.grammar.specs.Scan as Pass
use Rattle.grammar.specs.Scanned.{Stopped, Reads}
pub use Rattle.formula.specs.declared.scan.State.{State}
use Rattle.std.specs.declared.option.Option as found
use Rattle.std.specs.declared.result.Result.{Result}

-- a factor must come; or the value of a number; or a value over 4294967295, and no digit may follow
abbrev pub mode_of : ℕ → ℕ → Mode
mode_of zero v = cond (leb v 4294967295) (inside v) after
mode_of (suc k) v = before

abbrev pub state_of : State → Pass.State
state_of at = standing (mode_of at.wanted at.value) at.brackets at.deepest

pub record Legal (at : State) : Type 0 where
  pub upto : at.value ≤ 4294967296
  pub fresh : 0 < at.wanted → at.value ≡ 0

abbrev pub step_of : found.Option State → Option Pass.State
step_of None = none
step_of (Some at) = some (state_of at)

-- the state after one byte: legal again, with at most one bracket more
abbrev pub Keeps : ℕ → found.Option State → Type 0
Keeps n None = Unit {0}
Keeps n (Some at) = Legal at × (at.brackets ≤ suc n)

pub record Moves (at : State) (c : ℕ) (r : found.Option State) : Type 0 where
  pub is : step_of r ≡ scan_byte (state_of at) c
  pub keeps : Keeps at.brackets r

abbrev pub ScanIs : List ℕ → Result ℕ ℕ → Type 0
ScanIs s (Err k) = Stopped s k
ScanIs s (Ok d) = Reads s d
