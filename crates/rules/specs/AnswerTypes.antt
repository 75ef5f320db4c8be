-- 01, Answers by number: what each call answers, in numbers. What the code returns says the same by `Results`.
use Rattle.std.specs.Prelude.{ℕ}
use Rattle.rules.specs.declared.Tally.{Tally}

-- what a check answers: a refusal 1 to 10 by its number; 11 with the first body without typing; 0
pub data CheckAnswer : Type 0 where
  Refused : ℕ → CheckAnswer
  Untyped : ℕ → CheckAnswer
  Accepted : CheckAnswer

-- what a check that writes a record answers: a refusal by its number; 11 with the first body without typing, and 0 with the record's
-- length, where the record is written
pub data RecordingAnswer : Type 0 where
  Unrecorded : ℕ → RecordingAnswer
  RecordedUntyped : ℕ → RecordingAnswer
  Recorded : ℕ → RecordingAnswer

-- what a report of needs answers: a refusal by its number; 11 with the first body without typing; 47 with the first body from which a
-- chain of reached calls comes back; 0 with the report's length
pub data NeedAnswer : Type 0 where
  Unreported : ℕ → NeedAnswer
  ReportUntyped : ℕ → NeedAnswer
  ReportLoops : ℕ → NeedAnswer
  Reported : ℕ → NeedAnswer

-- what a run answers: a refusal 1 to 9, 12, 13 or 17 by its number; 15 or an exception by its number; 0
pub data RunAnswer : Type 0 where
  Rejected : ℕ → RunAnswer
  Stopped : ℕ → Tally → RunAnswer
  Finished : Tally → RunAnswer

-- what a writer answers: a refusal by its number; 0 with the length of what it wrote
pub data WriteAnswer : Type 0 where
  Unwritten : ℕ → WriteAnswer
  Written : ℕ → WriteAnswer

-- what a call for rows answers: 0 with all rows; else the number of the first row that did not finish, or of a refusal, with the rows
-- before it
pub record MapAnswer : Type 0 where
  pub number : ℕ
  pub rows : ℕ
