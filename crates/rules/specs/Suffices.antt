-- 02, A11: what a report says of runs, as a statement; its proof is `suffices` of the crate need.
use Rattle.std.specs.Prelude.{◌≡◌, ◌≢◌, ℕ, suc, ◌*◌, ◌≤◌, ◌<◌, List, ◌++◌, length, take, drop}
use Rattle.rules.specs.Bytes.{bytes}
use Rattle.rules.specs.Numbers.{output_too_short, stack_overflow}
use Rattle.rules.specs.Tables.{Body, entry, fn, body_of, body_number}
use Rattle.rules.specs.ModuleFile.{functions, read}
use Rattle.rules.specs.Stack.{Lent, capacity}
use Rattle.rules.specs.Heap.{LentHeap}
use Rattle.rules.specs.Answers.{check_number, check, run_number, scan_refusal, run_module}
use Rattle.rules.specs.Demand3.{IsAccepted, Earlier, Exists}
use Rattle.rules.specs.Need.{Needs, Recursive}
use Rattle.rules.specs.Reporting.{Unreported, ReportLoops, Reported, need_number, report_length, reporting, report_needs}

-- the body numbered n is the first from which a chain of reached calls comes back
abbrev pub FirstLooping : List ℕ → ℕ → Type 0
FirstLooping s n = (b : Body) × (body_number b ≡ n) × Exists s b × Recursive (read s) b × ((c : Body) → Earlier c b → Recursive (read s) c → ⊥)

-- where a body's two words stand in the report
abbrev pub report_at : Body → ℕ
report_at entry = 0
report_at (fn k) = 8 * suc k

-- a body's two words in the report, and that they hold its need and frames; each fits a word
pub record Shown (s report : List ℕ) (b : Body) : Type 0 where
  pub need : ℕ
  pub frames : ℕ
  pub needs : Needs (read s) b need frames
  pub need_fits : need ≤ 70176
  pub frames_fit : frames ≤ 129
  pub words : take 8 (drop (report_at b) report) ≡ bytes 4 need ++ bytes 4 frames

-- no body leads to a loop of calls
abbrev pub NoLoop : List ℕ → Type 0
NoLoop s = (b : Body) → Exists s b → Recursive (read s) b → ⊥

pub record Suffices : Type 0 where
  -- "the check's own first (its room stays as the check leaves it)"
  pub room_stays : (s room report : List ℕ) → (report_needs s room report).room ≡ (check s room).room
  pub check_first : (s room report : List ℕ) → (IsAccepted s room → ⊥)
      → (need_number (report_needs s room report).answer ≡ check_number (check s room).answer) × ((report_needs s room report).report ≡ report)
  -- "then 47 with the first body from which a chain of reached calls comes back to a body on it, exactly when there is one"
  pub loops : (s room report : List ℕ) (n : ℕ) → (report_needs s room report).answer ≡ ReportLoops n
      → IsAccepted s room × FirstLooping s n × ((report_needs s room report).report ≡ report)
  pub loops_exactly : (s room report : List ℕ) → IsAccepted s room → (b : Body) → Exists s b → Recursive (read s) b
      → (n : ℕ) × ((report_needs s room report).answer ≡ ReportLoops n)
  -- "then 16"
  pub short : (s room report : List ℕ) → IsAccepted s room → NoLoop s → length report < report_length (functions s)
      → report_needs s room report ≡ reporting (Unreported output_too_short) (check s room).room report
  -- else the report has each body's need and frames: "some path of flow reaches the need, some the frames" (`Needs`)
  pub reports : (s room report : List ℕ) → IsAccepted s room → NoLoop s → report_length (functions s) ≤ length report
      → ((report_needs s room report).answer ≡ Reported (report_length (functions s)))
      × ((b : Body) → Exists s b → Shown s (report_needs s room report).report b)
      × (drop (report_length (functions s)) (report_needs s room report).report ≡ drop (report_length (functions s)) report)
  -- "A run with that capacity or more, where frames are at most 64, never ends in 20": of the entry or any function that the host may
  -- run, on any arguments, for any scan, with any allowance and heap
  pub never : (s room : List ℕ) → IsAccepted s room → (f : ℕ) (args : Lent) (scan : ℕ) → scan_refusal s f args scan ≡ 0
      → (need frames : ℕ) → Needs (read s) (body_of f) need frames
      → (n : ℕ) (x : Lent) (y : LentHeap) → need ≤ capacity x → frames ≤ 64 → run_number (run_module s f args scan n x y).answer ≢ stack_overflow
