-- What the checker's table, room and marks hold while it works (see `Nodes`), and what its parts leave.
use Rattle.std.specs.Prelude.{◌≡◌, ◌⊎◌, ℕ, suc, ◌+◌, ◌*◌, ◌^◌, ◌≤◌, ◌<◌, Bool, true, false, List, [], ◌∷◌, length, get_or, drop, Ok, Err}
use Rattle.std.proofs.Math.Option.{some}
use Rattle.rules.specs.Instructions.{Ty}
use Rattle.rules.specs.Tables.{Body, entry, Module, body_of, body_number, body_end}
use Rattle.rules.specs.ModuleFile.{labels, functions, refusal, read, bodies_in}
use Rattle.rules.specs.Typing.{Lists, lists, Typing, Consistent, WellTyped, start_of, place_flow}
use Rattle.rules.specs.Demand3.{FirstUntyped}
use Rattle.rules.specs.Check.{bodies, first_untyped}
use Rattle.rules.specs.AnswerTypes.{CheckAnswer}
use Rattle.rules.specs.AnswerTypes as Answer
use Rattle.rules.specs.Answers.{checked, check}
use Rattle.format.specs.declared.Sections.{Sections}
use Rattle.format.specs.Layout.{Packed}
use Rattle.soundness.specs.Exact.{After as Behind}
use Rattle.soundness.specs.Forced.{Forced}
use Rattle.soundness.specs.Readable.{Has}
use Rattle.soundness.specs.Walks.{Goes, Walked}
use Rattle.records.specs.Record.{lists_of, Holds, flow_of, bounded, Labelled}
use Rattle.records.specs.declared.Transfer.{Transfer}
use Rattle.nodes.specs.Nodes.{place_of, owner_of, Tabled, record_of, mark_of, listed_at, count_of, done_of, unseen, Fits}
use Rattle.std.specs.declared.result.Result.{Result}
use Rattle.checker.specs.declared.walk.Turn.{Turn}
use Rattle.checker.specs.declared.walk.Turn.TheVariants.{Breaks, Ends, Goes as On}

-- what has flowed to a node stays, its place on the list, and the room behind the records
pub record Grows (n : ℕ) (room marks room' marks' : List ℕ) : Type 0 where
  pub rest : drop (64 * n) room' ≡ drop (64 * n) room
  pub long : length room' ≡ length room
  pub many : length marks' ≡ length marks
  pub kept : (k : ℕ) → k < n → 0 < mark_of marks k → (record_of room' k ≡ record_of room k) × (0 < mark_of marks' k)
  pub more : count_of marks ≤ count_of marks'
  pub order : (i : ℕ) → i < count_of marks → listed_at marks' i ≡ listed_at marks i

-- ---- walks

-- the node at place q of the body has these lists
abbrev pub Recorded : List ℕ → List ℕ → List ℕ → List ℕ → Body → ℕ → Lists → Type 0
Recorded s table room marks b q l =
    ((read s).is_place b q ≡ true) × (q < body_end (bodies_in s) b) × (k : ℕ) × (get_or table q 0 ≡ suc k) × (0 < mark_of marks k) × (lists_of (record_of room k) ≡ l)

-- q is no node of a body that ends at e, where the next body may have one
abbrev pub Passed : List ℕ → ℕ → ℕ → Type 0
Passed table e q = (q ≡ e) ⊎ (get_or table q 0 ≡ 0)

abbrev pub WalkedIn : List ℕ → List ℕ → List ℕ → List ℕ → Body → ℕ → Lists → Type 0
WalkedIn s table room marks b = Walked (read s) b (Passed table (body_end (bodies_in s) b)) (Recorded s table room marks b)

abbrev pub GoesIn : List ℕ → List ℕ → List ℕ → List ℕ → Body → List (ℕ × Lists) → Type 0
GoesIn s table room marks b = Goes (read s) b (Passed table (body_end (bodies_in s) b)) (Recorded s table room marks b)

-- node k was walked from
abbrev pub WalkedNode : List ℕ → List ℕ → List ℕ → List ℕ → ℕ → Type 0
WalkedNode s table room marks k = WalkedIn s table room marks (owner_of s k) (place_of s k) (lists_of (record_of room k))

-- ---- the invariant, while body b is checked

-- Every record holds lists that every typing gives at its place. The list has every node that something has flowed to, and no
-- other; the first of them were walked from, and those that wait are b's.
pub record Sound (s table room marks : List ℕ) (b : Body) : Type 0 where
  pub holds : (k : ℕ) → k < labels s → 0 < mark_of marks k → Holds (record_of room k)
  pub forced : (k : ℕ) → k < labels s → 0 < mark_of marks k → Forced (read s) (owner_of s k) (place_of s k) (lists_of (record_of room k))
  pub listed : (k : ℕ) → k < labels s → 0 < mark_of marks k → (i : ℕ) × (i < count_of marks) × (listed_at marks i ≡ k)
  pub each : (i : ℕ) → i < count_of marks → (listed_at marks i < labels s) × (0 < mark_of marks (listed_at marks i))
  pub walked : (i : ℕ) → i < done_of marks → WalkedNode s table room marks (listed_at marks i)
  pub mine : (i : ℕ) → done_of marks ≤ i → i < count_of marks → owner_of s (listed_at marks i) ≡ b
  pub behind : done_of marks ≤ count_of marks
  pub few : count_of marks + unseen marks (labels s) ≤ labels s

-- all that the parts of the loop ask, in a module that can be read, while the body of this owner is checked
pub record Working (s : List ℕ) (c : Sections) (table : List ℕ) (owner : ℕ) (room marks : List ℕ) : Type 0 where
  pub packed : Packed s c
  pub readable : refusal s ≡ 0
  pub tabled : Tabled s table
  pub has : Has (bodies_in s) (body_of owner)
  pub fits : Fits (labels s) room marks
  pub sound : Sound s table room marks (body_of owner)

-- no node waits
abbrev pub Quiet : List ℕ → Type 0
Quiet marks = done_of marks ≡ count_of marks

-- k is the first node that waits
abbrev pub Next : List ℕ → ℕ → Type 0
Next marks k = (done_of marks < count_of marks) × (k ≡ listed_at marks (done_of marks))

-- no typing
abbrev pub Refuted : List ℕ → Body → Type 0
Refuted s b = (T : Typing) → Consistent (read s) b T → ⊥

-- a place of the body, with lists that every typing gives there
pub record Stands (s : List ℕ) (b : Body) (p : ℕ) (l : Lists) : Type 0 where
  pub place : (read s).is_place b p ≡ true
  pub forced : Forced (read s) b p l

-- st is their record
pub record Standing (s : List ℕ) (owner p : ℕ) (st : List ℕ) : Type 0 where
  pub holds : Holds st
  pub stands : Stands s (body_of owner) p (lists_of st)

-- the body's start is recorded, or passed and walked from
abbrev pub Started : List ℕ → List ℕ → List ℕ → List ℕ → Body → Type 0
Started s table room marks b = (p : ℕ) (ts : List Ty) → start_of (read s) b ≡ some (p, ts) → GoesIn s table room marks b ((p, lists ts []) ∷ [])

abbrev pub Settled : List ℕ → List ℕ → List ℕ → List ℕ → Body → Type 0
Settled s table room marks b = Started s table room marks b × Quiet marks

-- ---- instructions

-- every place that the instruction at p goes to comes after it or has a label of its own body
abbrev pub After : Module → Body → ℕ → Transfer → Type 0
After m b p Transfer.Breaks = Unit {0}
After m b p Transfer.Stops = Unit {0}
After m b p (Transfer.Falls q) = Behind m b p q
After m b p (Transfer.Jumps q) = Labelled m b q
After m b p (Transfer.Forks l q) = Labelled m b l × Behind m b p q

-- the answer a, and the record r' after it, are the flow of the place p with the lists of the record r
pub record Moved (s : List ℕ) (owner p : ℕ) (r : List ℕ) (a : Transfer) (r' : List ℕ) : Type 0 where
  pub flow : bounded (place_flow (read s) (body_of owner) p (lists_of r)) ≡ flow_of a (lists_of r')
  pub leads : After (read s) (body_of owner) p a
  pub holds : Holds r'

-- ---- what the parts of the loop leave

-- room and marks have grown soundly; ok gives Y, else the body has no typing
pub record Left (s table : List ℕ) (b : Body) (room marks room' marks' : List ℕ) (ok : Bool) (Y : Type 0) : Type 0 where
  pub grows : Grows (labels s) room marks room' marks'
  pub sound : Sound s table room' marks' b
  pub done : ok ≡ true → Y
  pub refuted : ok ≡ false → Refuted s b

-- where an instruction's answer heads, not before place p: to places of the body with lists that every typing gives there
abbrev pub Heads : List ℕ → Body → ℕ → Lists → Transfer → Type 0
Heads s b p l Transfer.Breaks = Refuted s b
Heads s b p l Transfer.Stops = Unit {0}
Heads s b p l (Transfer.Falls q) = (p ≤ q) × Stands s b q l
Heads s b p l (Transfer.Jumps q) = Labelled (read s) b q × Stands s b q l
Heads s b p l (Transfer.Forks x q) = (Labelled (read s) b x × Stands s b x l) × ((p ≤ q) × Stands s b q l)

abbrev pub targets : Transfer → Lists → List (ℕ × Lists)
targets Transfer.Breaks l = []
targets Transfer.Stops l = []
targets (Transfer.Falls q) l = (q, l) ∷ []
targets (Transfer.Jumps q) l = (q, l) ∷ []
targets (Transfer.Forks x q) l = (x, l) ∷ (q, l) ∷ []

-- a walk towards the places ns is refused, ends at nodes, or goes on at q: whatever is recorded later, a walk from there completes it
abbrev pub TurnIs : List ℕ → List ℕ → Body → ℕ → Lists → List (ℕ × Lists) → List ℕ → List ℕ → Turn → Type 0
TurnIs s table b p l ns room marks Breaks = Refuted s b
TurnIs s table b p l ns room marks Ends = GoesIn s table room marks b ns
TurnIs s table b p l ns room marks (On q) =
    (p ≤ q) × Stands s b q l × Passed table (body_end (bodies_in s) b) q
    × ((room' marks' : List ℕ) → Grows (labels s) room marks room' marks' → WalkedIn s table room' marks' b q l → GoesIn s table room' marks' b ns)

pub record Turned (s table : List ℕ) (b : Body) (p : ℕ) (l : Lists) (ns : List (ℕ × Lists)) (room marks room' marks' : List ℕ) (t : Turn) : Type 0 where
  pub grows : Grows (labels s) room marks room' marks'
  pub sound : Sound s table room' marks' b
  pub turn : TurnIs s table b p l ns room' marks' t

-- the instruction leads somewhere, or stops
abbrev pub Leads : Transfer → Type 0
Leads Transfer.Breaks = ⊥
Leads Transfer.Stops = Unit {0}
Leads (Transfer.Falls q) = Unit {0}
Leads (Transfer.Jumps q) = Unit {0}
Leads (Transfer.Forks x q) = Unit {0}

abbrev pub TurnLeads : Transfer → Turn → Type 0
TurnLeads a Breaks = Unit {0}
TurnLeads a Ends = Leads a
TurnLeads a (On q) = Leads a

-- ---- the verdict

-- every body is started and no node waits; or this body is the first without typing
abbrev pub Decides : List ℕ → List ℕ → List ℕ → List ℕ → Result (Unit {0}) ℕ → Type 0
Decides s table room marks (Ok x) = Sound s table room marks entry × Quiet marks × ((b : Body) → Has (bodies_in s) b → Started s table room marks b)
Decides s table room marks (Err o) = (first_untyped (read s) (bodies (functions s)) ≡ some (body_of o)) × (body_number (body_of o) ≡ o) × (o < 2 ^ 32)

pub record VerdictIs (s table room marks room' marks' : List ℕ) (v : Result (Unit {0}) ℕ) : Type 0 where
  pub grows : Grows (labels s) room marks room' marks'
  pub decides : Decides s table room' marks' v

-- ---- the check

-- the answer and the room after it are those of the rules
abbrev pub CheckIs : List ℕ → List ℕ → CheckAnswer → List ℕ → Type 0
CheckIs s room r room' = checked r room' ≡ check s room

-- "the checker accepts it exactly when every body in it has a consistent typing"; 11 is given with the first body that has none
pub record Exactly (s room : List ℕ) (r : CheckAnswer) : Type 0 where
  pub sound : r ≡ Answer.Accepted → WellTyped (read s)
  pub complete : refusal s ≡ 0 → 64 * labels s ≤ length room → WellTyped (read s) → r ≡ Answer.Accepted
  pub first : (n : ℕ) → r ≡ Answer.Untyped n → FirstUntyped s n
