-- Nodes that wait: what the code's parts leave.
use Rattle.std.specs.Prelude.{◌≡◌, ◌≢◌, ℕ, ◌+◌, ◌*◌, ◌≤◌, ◌<◌, min, max, List, length, set, Some, None}
use Rattle.tracks.specs.Walks.{mark_of, ground_of, low_of, high_of}
use Rattle.std.specs.declared.option.Option.{Option}

abbrev pub Sizes : List ℕ → List ℕ → Type 0
Sizes marks grounds = (length marks ≡ 256) × (length grounds ≡ 258)

-- with node k among those that may wait
abbrev pub spread_to : ℕ → List ℕ → List ℕ
spread_to k grounds = set (set grounds 256 (min (low_of grounds) k)) 257 (max (high_of grounds) (k + 1))

-- those that wait lie between
abbrev pub Bounded : List ℕ → List ℕ → Type 0
Bounded marks grounds = ((n : ℕ) → mark_of marks n ≡ 1 → (low_of grounds ≤ n) × (n < high_of grounds)) × (high_of grounds ≤ 256)

-- those that wait have a record in the room
abbrev pub Roomy : List ℕ → List ℕ → Type 0
Roomy room marks = (n : ℕ) → mark_of marks n ≡ 1 → 64 * n + 64 ≤ length room

pub record FirstIs (marks : List ℕ) (low high r : ℕ) : Type 0 where
  pub from : low ≤ r
  pub before : (n : ℕ) → low ≤ n → n < r → mark_of marks n ≢ 1
  pub waits : r < high → mark_of marks r ≡ 1

pub record LastIs (marks : List ℕ) (low high r : ℕ) : Type 0 where
  pub over : low < r
  pub up_to : r ≤ high
  pub behind : (n : ℕ) → r ≤ n → n < high → mark_of marks n ≢ 1

-- the bounds are closer; nothing else changed
pub record Narrowed (marks grounds grounds' : List ℕ) : Type 0 where
  pub long : length grounds' ≡ length grounds
  pub kept : (n : ℕ) → n < 256 → ground_of grounds' n ≡ ground_of grounds n
  pub bounded : Bounded marks grounds'

abbrev pub PickedIs : List ℕ → Option ℕ → Type 0
PickedIs marks (Some k) = (mark_of marks k ≡ 1) × (k < 256)
PickedIs marks None = (n : ℕ) → mark_of marks n ≡ 1 → ⊥
