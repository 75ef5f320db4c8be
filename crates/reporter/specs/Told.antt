-- What the functions of this crate promise.
use Rattle.std.specs.Prelude.{◌≡◌, ◌⊎◌, ℕ, zero, suc, ◌*◌, ◌≤◌, ◌<◌, List, [], ◌++◌, length, get_or}
use Rattle.std.proofs.Math.Option.{none, some}
use Rattle.rules.specs.AnswerTypes.{NeedAnswer}
use Rattle.rules.specs.Bytes.{bytes}
use Rattle.rules.specs.ModuleFile.{refusal, functions, read}
use Rattle.rules.specs.Check.{bodies}
use Rattle.rules.specs.Heights.{need_of}
use Rattle.rules.specs.Reporting.{first_looping, reporting, report_with, report_needs}
use Rattle.format.specs.declared.Sections.{Sections}
use Rattle.format.specs.Layout.{Packed}
use Rattle.settle.specs.Graph.{row_of, mark_of}

-- r is the first of the n + 1 rows that loops, or n + 1
pub record FirstMarked (marks : List ℕ) (n r : ℕ) : Type 0 where
  pub up_to : r ≤ suc n
  pub before : (b : ℕ) → b < r → mark_of marks b ≡ 3 → ⊥
  pub loops : r ≤ n → mark_of marks r ≡ 3

-- the words of the first rows
unfoldable pub row_words : List ℕ → List ℕ → ℕ → List ℕ
row_words need frames zero = []
row_words need frames (suc b) = row_words need frames b ++ (bytes 4 (get_or need b 0) ++ bytes 4 (get_or frames b 0))

-- each row says what the rules find of its body: need and frames, or that it leads to a loop of calls
abbrev pub Known : List ℕ → List ℕ → List ℕ → List ℕ → Type 0
Known s marks need frames =
    (b : ℕ) → b ≤ functions s
    → ((mark_of marks b ≡ 2) × (need_of (read s) (suc (functions s)) (row_of b) ≡ some (get_or need b 0, get_or frames b 0)))
    ⊎ ((mark_of marks b ≡ 3) × (need_of (read s) (suc (functions s)) (row_of b) ≡ none))

-- answer and report of an accepted module are those of the rules
abbrev pub AcceptedIs : List ℕ → List ℕ → List ℕ → NeedAnswer → List ℕ → Type 0
AcceptedIs s room out r out' = reporting r room out' ≡ report_with s room out (first_looping (read s) (functions s) (bodies (functions s)))

-- .. of every module with n functions of which the rows say this
abbrev pub AnswerIs : ℕ → List ℕ → List ℕ → List ℕ → List ℕ → NeedAnswer → List ℕ → Type 0
AnswerIs n marks need frames out r out' = (s room : List ℕ) → functions s ≡ n → Known s marks need frames → AcceptedIs s room out r out'

-- a blank table for the calls of n functions
abbrev pub BlankRows : ℕ → List ℕ → Type 0
BlankRows n off = (128 * suc n ≤ length off) × ((j : ℕ) → get_or off j 0 ≡ 0)

-- a module that can be read, with room for its labels: not 10
pub record Checkable (s : List ℕ) (c : Sections) (room : List ℕ) : Type 0 where
  pub packed : Packed s c
  pub readable : refusal s ≡ 0
  pub enough : 64 * c.labels ≤ length room

-- answer, room and report are those of the rules
abbrev pub ReportIs : List ℕ → List ℕ → List ℕ → NeedAnswer → List ℕ → List ℕ → Type 0
ReportIs s room out r room' out' = reporting r room' out' ≡ report_needs s room out
