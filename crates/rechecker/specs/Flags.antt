-- What the functions of this crate promise.
use Rattle.std.specs.Prelude.{◌≡◌, ℕ, zero, suc, ◌+◌, ◌-◌, ◌*◌, ◌≤◌, Bool, List, length, set}
use Rattle.rules.specs.Tables.{Module}
use Rattle.rules.specs.ModuleFile.{refusal, read}
use Rattle.rules.specs.AnswerTypes.{CheckAnswer}
use Rattle.rules.specs.AnswerTypes.{RecordingAnswer}
use Rattle.rules.specs.Recording.{flag_of, record_length, recording, check_recording, rechecked, recheck}
use Rattle.format.specs.declared.Sections.{Sections}
use Rattle.format.specs.Layout.{Packed}
use Rattle.nodes.specs.Nodes.{Tabled}
use Rattle.beside.specs.Bodies.{body_at, bit}

-- r with the bytes of n bodies from the a-th on set
unfoldable pub flagged : Module → List ℕ → ℕ → ℕ → List ℕ
flagged m r a zero = r
flagged m r a (suc n) = set (flagged m r a n) (8 + (a + n)) (flag_of m (body_at (a + n)))

-- a module that can be read, and a record with room for the bytes of the bodies from the a-th up to the z-th
pub record Lends (s : List ℕ) (c : Sections) (a z : ℕ) (r : List ℕ) : Type 0 where
  pub packed : Packed s c
  pub readable : refusal s ≡ 0
  pub order : a ≤ z
  pub few : z ≤ suc c.functions
  pub long : 8 + z ≤ length r

-- a module, its table of nodes, and room for its labels
pub record Ready (s : List ℕ) (c : Sections) (table room : List ℕ) : Type 0 where
  pub packed : Packed s c
  pub readable : refusal s ≡ 0
  pub tabled : Tabled s table
  pub enough : 64 * c.labels ≤ length room

-- a module that can be read, with room for its labels and for its record: neither 10 nor 16
pub record Recordable (s : List ℕ) (c : Sections) (room r : List ℕ) : Type 0 where
  pub packed : Packed s c
  pub readable : refusal s ≡ 0
  pub enough : 64 * c.labels ≤ length room
  pub long : record_length c.functions ≤ length r

-- r says whether the i-th body has a typing
abbrev pub Judges : List ℕ → ℕ → Bool → Type 0
Judges s i r = bit r ≡ flag_of (read s) (body_at i)

-- the bytes of the bodies from the a-th up to the z-th are set
abbrev pub Flags : List ℕ → ℕ → ℕ → List ℕ → List ℕ → Type 0
Flags s a z r r' = r' ≡ flagged (read s) r a (z - a)

-- answer, room and record after the full check are those of the rules
abbrev pub RecordingIs : List ℕ → List ℕ → List ℕ → RecordingAnswer → List ℕ → List ℕ → Type 0
RecordingIs s room r a room' r' = recording a room' r' ≡ check_recording s room r

-- answer and record after the check of one body are
abbrev pub RecheckIs : List ℕ → ℕ → List ℕ → CheckAnswer → List ℕ → Type 0
RecheckIs s f r a r' = rechecked a r' ≡ recheck s r f
