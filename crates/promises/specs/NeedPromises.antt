-- What the report of needs promises: answer and lent memory equal to the definition's, and what document 02 claims of it.
use Rattle.std.specs.Prelude.{◌≡◌, ◌≢◌, ℕ, ◌+◌, ◌≤◌, List}
use Rattle.rules.specs.AnswerTypes.{NeedAnswer}
use Rattle.rules.specs.AnswerTypes.{ReportUntyped, ReportLoops}
use Rattle.rules.specs.Bytes.{word}
use Rattle.rules.specs.Numbers.{done, no_typing, stack_overflow, calls_loop}
use Rattle.rules.specs.Tables.{Body, body_of}
use Rattle.rules.specs.ModuleFile.{read}
use Rattle.rules.specs.Stack.{Lent, capacity}
use Rattle.rules.specs.Heap.{LentHeap}
use Rattle.rules.specs.Answers.{run_number, scan_refusal, run_module}
use Rattle.rules.specs.Host.{need_body_after, need_written_after}
use Rattle.rules.specs.Demand3.{IsAccepted, Exists, FirstUntyped}
use Rattle.rules.specs.Need.{Recursive}
use Rattle.rules.specs.Reporting.{need_number, reporting, report_needs}
use Rattle.rules.specs.Suffices.{FirstLooping, report_at, Shown}

-- "A run with that capacity or more, where frames are at most 64, never ends in 20": of the entry or of any function that the host may
-- run, on any admitted arguments, for any scan, with any allowance and any heap, by the words of this report
abbrev pub NeverOverflows : List ℕ → List ℕ → Type 0
NeverOverflows s report =
    (f : ℕ) (args : Lent) (scan : ℕ) → scan_refusal s f args scan ≡ 0
    → (n : ℕ) (x : Lent) (y : LentHeap) → word 4 report (report_at (body_of f)) ≤ capacity x → word 4 report (report_at (body_of f) + 4) ≤ 64
    → run_number (run_module s f args scan n x y).answer ≢ stack_overflow

-- of a report of s in this room that answered this number, with these bytes after
pub record Measures (s room : List ℕ) (number : ℕ) (report' : List ℕ) : Type 0 where
  -- with 0 each body's words are its need and frames: some path of flow has them, and none has more
  pub shows : number ≡ done → (b : Body) → Exists s b → Shown s report' b
  pub never : number ≡ done → NeverOverflows s report'
  -- 47 wherever the check accepts and a chain of reached calls comes back; that it is so wherever 47 is given is `first_looping_lem`
  pub loops : IsAccepted s room → (b : Body) → Exists s b → Recursive (read s) b → number ≡ calls_loop

pub record NeedKeeps (s room report : List ℕ) (a : NeedAnswer) (room' report' : List ℕ) : Type 0 where
  -- answer, room and report are the definition's
  pub same : reporting a room' report' ≡ report_needs s room report
  pub measures : Measures s room (need_number a) report'
  -- 47 names the first body from which a chain of reached calls comes back, 11 the first without typing
  pub first_looping_lem : (n : ℕ) → a ≡ ReportLoops n → FirstLooping s n
  pub first_untyped_lem : (n : ℕ) → a ≡ ReportUntyped n → FirstUntyped s n

-- ---- the same through the C interface

pub record HostNeedKeeps (s room report : List ℕ) (body written number : ℕ) (room' report' : List ℕ) (body' written' : ℕ) : Type 0 where
  pub number_is : number ≡ need_number (report_needs s room report).answer
  pub room_is : room' ≡ (report_needs s room report).room
  pub report_is : report' ≡ (report_needs s room report).report
  pub body_is : body' ≡ need_body_after (report_needs s room report).answer body
  pub written_is : written' ≡ need_written_after (report_needs s room report).answer written
  pub measures : Measures s room number report'
  pub first_looping_lem : number ≡ calls_loop → FirstLooping s body'
  pub first_untyped_lem : number ≡ no_typing → FirstUntyped s body'
