-- What one instruction of a walk leaves, by numbers.
use Rattle.std.specs.Prelude.{◌≡◌, ℕ, suc, ◌+◌, ◌-◌, ◌≤◌, ◌<◌, List, length, get_or, Some, None}
use Rattle.std.proofs.Math.Option.{some}
use Rattle.rules.specs.Bytes.{word}
use Rattle.rules.specs.Tables.{Body, Function}
use Rattle.rules.specs.ModuleFile.{read}
use Rattle.tracks.specs.Plans.{result_slots}
use Rattle.tracks.specs.Walks.{Arrived}
use Rattle.tracks.specs.Leads.{noted}
use Rattle.climb.specs.Waits.{Sizes}
use Rattle.climb.specs.declared.walk.Spot.{Spot}
use Rattle.std.specs.declared.option.Option.{Option}

abbrev pub spot : ℕ → ℕ → ℕ → ℕ → Spot
spot p n g h = record { at = p; locals = n; ground_level = g; height = h }

-- function k exists, and its arguments are there
abbrev pub Callable : List ℕ → ℕ → ℕ → Type 0
Callable s k h = (k < 128) × (F : Function) × ((read s).function k ≡ some F) × (length F.params ≤ h) × (length F.params ≤ 8)

abbrev pub CallIs : List ℕ → ℕ → Spot → List ℕ → Spot → List ℕ → Type 0
CallIs s k p row r row' =
    (F : Function) → (read s).function k ≡ some F
    → (r ≡ spot (p.at + 5) p.locals p.ground_level (p.height - length F.params + result_slots F.result)) × (row' ≡ noted row k (p.height - length F.params + 1))

-- flow came to the node of label k
abbrev pub JumpIs : List ℕ → List ℕ → ℕ → ℕ → List ℕ → List ℕ → List ℕ → List ℕ → Type 0
JumpIs s table k ground_level marks grounds marks' grounds' =
    (b : Body) (p : ℕ) → (read s).label k ≡ some (b, p) → (n : ℕ) × (get_or table p 0 ≡ suc n) × Arrived n ground_level marks grounds marks' grounds'

-- what an instruction of number x asks
pub record OtherAsks (s code : List ℕ) (x : ℕ) (p : Spot) (row marks grounds : List ℕ) : Type 0 where
  pub low : p.at ≤ 16384
  pub few : p.locals ≤ 16
  pub small : (p.ground_level ≤ 512) × (p.height ≤ 544)
  pub wide : length row ≡ 128
  pub sizes : Sizes marks grounds
  pub from : 16 ≤ x
  pub whole : x < 20 → p.at + 5 ≤ length code
  pub stores : x ≡ 16 → word 4 code (p.at + 1) < p.locals → 1 ≤ p.height
  pub labelled : (x ≡ 17 → (b : Body) × (q : ℕ) × ((read s).label (word 4 code (p.at + 1)) ≡ some (b, q)))
  pub forks : (x ≡ 18 → (1 ≤ p.height) × (b : Body) × (q : ℕ) × ((read s).label (word 4 code (p.at + 1)) ≡ some (b, q)))
  pub calls : x ≡ 19 → Callable s (word 4 code (p.at + 1)) p.height
  pub up_to : x ≤ 20

pub record OtherIs (s table : List ℕ) (w x : ℕ) (p : Spot) (row marks grounds : List ℕ) (r : Option Spot) (row' marks' grounds' : List ℕ) : Type 0 where
  pub stores : x ≡ 16 → (w < p.locals → r ≡ Some (spot (p.at + 5) p.locals p.ground_level (p.height - 1))) × (p.locals ≤ w → r ≡ Some (spot (p.at + 5) (p.locals + 1) p.height p.height))
      × (row' ≡ row) × (marks' ≡ marks) × (grounds' ≡ grounds)
  pub jumps : x ≡ 17 → (r ≡ None) × (row' ≡ row) × JumpIs s table w p.ground_level marks grounds marks' grounds'
  pub forks : x ≡ 18 → (r ≡ Some (spot (p.at + 5) p.locals p.ground_level (p.height - 1))) × (row' ≡ row) × JumpIs s table w p.ground_level marks grounds marks' grounds'
  pub calls : x ≡ 19 → ((F : Function) → (read s).function w ≡ some F
      → (r ≡ Some (spot (p.at + 5) p.locals p.ground_level (p.height - length F.params + result_slots F.result))) × (row' ≡ noted row w (p.height - length F.params + 1)))
      × (marks' ≡ marks) × (grounds' ≡ grounds)
  pub stops : x ≡ 20 → (r ≡ None) × (row' ≡ row) × (marks' ≡ marks) × (grounds' ≡ grounds)
