-- The nodes of a check: their table, their records in the lent room, and their marks.
-- A node is a labelled place; of the labels that share a place the first one's record stands for all. The record of a node, in
-- the lent room, holds what has flowed to it.
use Rattle.std.specs.Prelude.{◌≡◌, ℕ, zero, suc, ◌+◌, ◌*◌, ◌-◌, ◌≤◌, ◌<◌, Bool, true, false, cond, List, [], length, get_or, set, take, drop, eqb, Some, None}
use Rattle.std.proofs.Math.Option.{some}
use Rattle.std.specs.declared.option.Option.{Option}
use Rattle.std.proofs.Math.Seq.{paste}
use Rattle.rules.specs.Bytes.{byte, word, zeros}
use Rattle.rules.specs.Tables.{label_at, Body, body_of, body_start}
use Rattle.rules.specs.ModuleFile.{labels, code_length, refusal, read, bodies_in, labels_in}
use Rattle.rules.specs.Typing.{start_of}
use Rattle.format.specs.declared.Sections.{Sections}
use Rattle.format.specs.Layout.{Packed}
use Rattle.records.specs.Record.{lists_of, Holds}

-- c has the sections of s, a module that can be read
abbrev pub Readable : List ℕ → Sections → Type 0
Readable s c = Packed s c × (refusal s ≡ 0)

-- ---- labels

abbrev pub place_of : List ℕ → ℕ → ℕ
place_of s k = word 4 (labels_in s) (label_at k + 4)

abbrev pub owner_of : List ℕ → ℕ → Body
owner_of s k = body_of (word 4 (labels_in s) (label_at k))

-- by place the first label there, counted from 1; 0 where there is none
pub record Tabled (s table : List ℕ) : Type 0 where
  pub wide : code_length s < length table
  pub node : (q k : ℕ) → get_or table q 0 ≡ suc k → (k < labels s) × (place_of s k ≡ q)
  pub found : (k : ℕ) → k < labels s → (j : ℕ) × (get_or table (place_of s k) 0 ≡ suc j) × (j ≤ k)

-- ---- marks

-- the words that the marks have
abbrev pub Whole : List ℕ → Type 0
Whole marks = length marks ≡ 514

-- 0 where nothing has flowed to node k
abbrev pub mark_of : List ℕ → ℕ → ℕ
mark_of marks k = get_or marks k 0

-- the nodes that something has flowed to, in the order in which it did
abbrev pub listed_at : List ℕ → ℕ → ℕ
listed_at marks i = get_or marks (256 + i) 0

abbrev pub count_of : List ℕ → ℕ
count_of marks = get_or marks 512 0

-- those of them that were walked from
abbrev pub done_of : List ℕ → ℕ
done_of marks = get_or marks 513 0

-- with node k put on the list
abbrev pub appended : List ℕ → ℕ → List ℕ
appended marks k = set (set (set marks k 1) (256 + count_of marks) k) 512 (count_of marks + 1)

-- with one more that was walked from
abbrev pub advanced : List ℕ → List ℕ
advanced marks = set marks 513 (done_of marks + 1)

-- the first that was not walked from
unfoldable pub waiting_in : List ℕ → Option ℕ
waiting_in marks = cond (eqb (done_of marks) (count_of marks)) None (Some (listed_at marks (done_of marks)))

-- the nodes below n to which nothing has flowed
unfoldable pub unseen : List ℕ → ℕ → ℕ
unseen marks zero = 0
unseen marks (suc n) = cond (eqb (mark_of marks n) 0) 1 0 + unseen marks n

-- ---- records

-- the record of label k
abbrev pub record_of : List ℕ → ℕ → List ℕ
record_of room k = take 64 (drop (64 * k) room)

-- there is room for n labels, and all marks are there
pub record Fits (n : ℕ) (room marks : List ℕ) : Type 0 where
  pub room_for : 64 * n ≤ length room
  pub few : n ≤ 256
  pub whole : Whole marks

-- the record st flows to node k: it is written there if it is the first, and else compared
pub record Merged (k : ℕ) (st room marks room' marks' : List ℕ) (ok : Bool) : Type 0 where
  pub first : mark_of marks k ≡ 0 → (ok ≡ true) × (room' ≡ paste room (64 * k) st 64) × (marks' ≡ appended marks k)
  pub later : (mark_of marks k ≡ 0 → ⊥) → (room' ≡ room) × (marks' ≡ marks) × (ok ≡ true → record_of room k ≡ st) × (ok ≡ false → record_of room k ≡ st → ⊥)

-- ---- the last pass

-- what is shown of node k
unfoldable pub shown_at : List ℕ → List ℕ → ℕ → List ℕ
shown_at room marks k = cond (eqb (mark_of marks k) 0) (zeros 64) (record_of room k)

-- the node of label k
abbrev pub node_of : List ℕ → List ℕ → ℕ → ℕ
node_of s table k = get_or table (place_of s k) 0 - 1

-- the labels from i on have the records of their nodes; those below it, and what is behind the records, are as they were
pub record Finished (s table marks : List ℕ) (i : ℕ) (room room' : List ℕ) : Type 0 where
  pub shown : (k : ℕ) → i ≤ k → k < labels s → record_of room' k ≡ shown_at room marks (node_of s table k)
  pub below : (k : ℕ) → k < i → record_of room' k ≡ record_of room k
  pub rest : drop (64 * labels s) room' ≡ drop (64 * labels s) room
  pub long : length room' ≡ length room

-- ---- starts

-- st is the record of the body's start: "The start has the parameters and no operands."
pub record Seeded (s : List ℕ) (b : Body) (st : List ℕ) : Type 0 where
  pub holds : Holds st
  pub starts : start_of (read s) b ≡ some (body_start (bodies_in s) b, (lists_of st).locals)
  pub bare : (lists_of st).operands ≡ []

-- i bytes from byte `at` of the file on are copied into the local types of st
pub record Copied (s : List ℕ) (at i : ℕ) (st st' : List ℕ) : Type 0 where
  pub long : length st' ≡ length st
  pub copied : (j : ℕ) → j < i → byte st' (16 + j) ≡ byte s (at + j)
  pub before : (j : ℕ) → j < 16 → byte st' j ≡ byte st j
  pub behind : (j : ℕ) → 16 + i ≤ j → byte st' j ≡ byte st j
