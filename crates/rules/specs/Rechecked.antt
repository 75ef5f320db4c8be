-- 02, A10: what the check of one body says of the whole module, as a statement; its proof is `rechecks` of the crate rechecks.
use Rattle.std.specs.Prelude.{◌≡◌, ◌≢◌, ℕ, suc, ◌+◌, ◌*◌, ◌≤◌, ◌<◌, List, length, take}
use Rattle.std.proofs.Math.Option.{some}
use Rattle.rules.specs.Bytes.{byte, word}
use Rattle.rules.specs.Tables.{Tables, Body, body_of, Function, module_of, constant_count, constant_at, function_count, function_at, function_of, body_start, body_end}
use Rattle.rules.specs.ModuleFile.{refusal, functions, labels, read, tables_in}
use Rattle.rules.specs.Answers.{check_number, check_body_named, check}
use Rattle.rules.specs.Demand3.{Exists}
use Rattle.rules.specs.Recording.{flag_of, record_length, index_of, flag_at, recording_number, recording_body_named, check_recording, recheck}

abbrev pub count_in : Tables → ℕ
count_in t = function_count t.bodies.edition t.bodies.functions

abbrev pub function_in : Tables → ℕ → Function
function_in t k = function_of t.bodies.edition t.bodies.functions (function_at t.bodies.edition k)

-- "other bodies, their labels the same by number and place within": body c has the same length, bytes of code and labels
pub record SameCode (t t' : Tables) (c : Body) : Type 0 where
  pub long : ℕ
  pub ends : body_end t.bodies c ≡ body_start t.bodies c + long
  pub ends' : body_end t'.bodies c ≡ body_start t'.bodies c + long
  pub bytes : (j : ℕ) → j < long → byte t.bodies.code (body_start t.bodies c + j) ≡ byte t'.bodies.code (body_start t'.bodies c + j)
  pub labels : (l r : ℕ) → (module_of t).label l ≡ some (c, body_start t.bodies c + r) → (module_of t').label l ≡ some (c, body_start t'.bodies c + r)
  pub labels' : (l r : ℕ) → (module_of t').label l ≡ some (c, body_start t'.bodies c + r) → (module_of t).label l ≡ some (c, body_start t.bodies c + r)

-- "the same edition, signatures, constant types, structures and other bodies": all but body b. A profile is not among them
-- (docs/DECISIONS.md, 235), nor is a constant's payload
pub record SameOutside (t t' : Tables) (b : Body) : Type 0 where
  pub editions : t.bodies.edition ≡ t'.bodies.edition
  pub constant_count_lem : constant_count t.constants ≡ constant_count t'.constants
  pub constant_types : (k : ℕ) → k < constant_count t.constants → byte t.constants (constant_at k) ≡ byte t'.constants (constant_at k)
  pub structures : t.bodies.structures ≡ t'.bodies.structures
  pub function_count_lem : count_in t ≡ count_in t'
  pub parameters : (k : ℕ) → k < count_in t → (function_in t k).params ≡ (function_in t' k).params
  pub results : (k : ℕ) → k < count_in t → (function_in t k).result ≡ (function_in t' k).result
  pub others : (c : Body) → index_of c < suc (count_in t) → c ≢ b → SameCode t t' c

-- "the record came from one [a full check], or from an update this holds for": it has the count, offset and length of the module's
-- record, and each body's byte says whether it has a typing
pub record Faithful (s r : List ℕ) : Type 0 where
  pub count : word 4 r 0 ≡ suc (functions s)
  pub offset : word 4 r 4 ≡ 8
  pub long : length r ≡ record_length (functions s)
  pub flags : (c : Body) → index_of c < suc (functions s) → flag_at r c ≡ flag_of (read s) c

pub record Rechecks : Type 0 where
  -- "A full check lent room for it writes it with 0 and with 11": number, body and room are the check's own, the record is faithful
  pub recorded : (s room r : List ℕ) → refusal s ≡ 0 → 64 * labels s ≤ length room → record_length (functions s) ≤ length r
      → (recording_number (check_recording s room r).answer ≡ check_number (check s room).answer)
      × (recording_body_named (check_recording s room r).answer ≡ check_body_named (check s room).answer)
      × ((check_recording s room r).room ≡ (check s room).room)
      × Faithful s (take (record_length (functions s)) (check_recording s room r).beside)
  -- "This answer is the full check's, given room, when the record came from one, or from an update this holds for, for a module with
  -- the same ..": s is the module before, s' the edited one, f the body. The record after is faithful again, so updates chain
  pub updates : (s s' r : List ℕ) (f : ℕ) → refusal s ≡ 0 → refusal s' ≡ 0 → Exists s' (body_of f) → SameOutside (tables_in s) (tables_in s') (body_of f) → Faithful s r
      → ((room : List ℕ) → 64 * labels s' ≤ length room → (recheck s' r f).answer ≡ (check s' room).answer) × Faithful s' (recheck s' r f).beside
