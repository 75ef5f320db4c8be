-- A table that is not of the paper: checks that write a record, and checks of one body beside one, with all lent memory after.
use Rattle.std.specs.Prelude.{◌≡◌, refl, ℕ, List, [], ◌∷◌, ◌++◌, set, take}
use Rattle.rules.specs.Bytes.{zeros}
use Rattle.rules.specs.Answers.{CheckAnswer, Refused, Untyped, Accepted}
use Rattle.rules.specs.Recording.{Unrecorded, RecordedUntyped, Recorded, Recording, recording, Rechecked, rechecked}
use Rattle.rules.specs.Files.{PUSH, POP, ADD, RET, function, function_for, file_in, file, file4, nines}
use Rattle.rules.specs.Samples.{w1}
use Rattle.rules.specs.Evaluate.{recording_now, recheck_now}

-- a module of three bodies: the entry with this code and a label at its start, functions 0 () to int and 1 () with this code
abbrev three : List ℕ → List ℕ → List ℕ → List ℕ
three e f g = file ((3, 5) ∷ []) (function [] 3 f ∷ function [] 0 g ∷ []) ((0xffffffff, 0) ∷ []) e

-- code that has a typing, and that has none
abbrev five : List ℕ
five = PUSH 0 ++ RET

abbrev short : List ℕ
short = POP ++ RET

abbrev good : List ℕ
good = three (PUSH 0 ++ POP) five RET

abbrev without0 : List ℕ
without0 = three (PUSH 0 ++ POP) short RET

abbrev without01 : List ℕ
without01 = three (PUSH 0 ++ POP) short short

abbrev without_entry : List ℕ
without_entry = three ADD five RET

-- a record of three bodies with these bytes
abbrev flags : ℕ → ℕ → ℕ → List ℕ
flags a b c = 3 ∷ 0 ∷ 0 ∷ 0 ∷ 8 ∷ 0 ∷ 0 ∷ 0 ∷ a ∷ b ∷ c ∷ []

-- the label's record: reached, with no locals and no operands
abbrev reached : List ℕ
reached = 1 ∷ zeros 63

-- ---- the check that writes a record

-- a module, the bytes of room and of record lent; what comes of it
pub record Row : Type 0 where
  pub module_file : List ℕ
  pub room : ℕ
  pub beside : ℕ
  pub gives : Recording

abbrev row : List ℕ → ℕ → ℕ → Recording → Row
row s n k g = record { module_file = s; room = n; beside = k; gives = g }

-- nothing was changed
abbrev unchanged : List ℕ → ℕ → ℕ → ℕ → Row
unchanged s n k e = row s n k (recording (Unrecorded e) (nines n) (nines k))

pub rows : List Row
rows =
    row good 64 11 (recording (Recorded 11) reached (flags 1 1 1))
    -- a room and a record that are longer than needed: the rest stays
    ∷ row good 65 13 (recording (Recorded 11) (reached ++ nines 1) (flags 1 1 1 ++ nines 2))
    -- 11: the record is whole, bodies after the first without typing are judged too
    ∷ row without0 64 11 (recording (RecordedUntyped 0) (zeros 64) (flags 1 0 1)) ∷ row without01 65 12 (recording (RecordedUntyped 0) (zeros 64 ++ nines 1) (flags 1 0 0 ++ nines 1))
    ∷ row without_entry 64 11 (recording (RecordedUntyped 0xffffffff) (zeros 64) (flags 0 1 1)) ∷ row (three (PUSH 0 ++ POP) five short) 64 11 (recording (RecordedUntyped 1) (zeros 64) (flags 1 1 0))
    -- 16, before 0 and before 11
    ∷ unchanged good 64 10 16 ∷ unchanged good 64 0 16 ∷ unchanged without0 64 10 16 ∷ unchanged without_entry 64 8 16
    -- 10, before 16 and before 11
    ∷ unchanged good 63 11 10 ∷ unchanged good 63 10 10 ∷ unchanged without0 63 11 10 ∷ unchanged without0 0 0 10
    -- no function; editions 1 and 4
    ∷ row (file [] [] [] []) 0 9 (recording (Recorded 9) [] (1 ∷ 0 ∷ 0 ∷ 0 ∷ 8 ∷ 0 ∷ 0 ∷ 0 ∷ 1 ∷ [])) ∷ unchanged (file [] [] [] []) 0 8 16
    ∷ row (file_in 1 [] [] [] POP) 0 9 (recording (RecordedUntyped 0xffffffff) [] (1 ∷ 0 ∷ 0 ∷ 0 ∷ 8 ∷ 0 ∷ 0 ∷ 0 ∷ 0 ∷ []))
    ∷ row (file4 [] (function_for 7 [] 0 RET ∷ []) [] [] []) 1 10 (recording (Recorded 10) (nines 1) (2 ∷ 0 ∷ 0 ∷ 0 ∷ 8 ∷ 0 ∷ 0 ∷ 0 ∷ 1 ∷ 1 ∷ []))
    ∷ []

pub computed : List Row → List Recording
unfolding recording_now
computed [] = []
computed (r ∷ rs) = recording_now r.module_file (nines r.room) (nines r.beside) ∷ computed rs

pub expected : List Row → List Recording
expected [] = []
expected (r ∷ rs) = r.gives ∷ expected rs

pub table : computed rows ≡ expected rows
unfolding computed expected rows
table = refl

-- ---- the check of one body

-- a module, the body named, the record lent; the answer, and the record after
pub record Update : Type 0 where
  pub module_file : List ℕ
  pub body : ℕ
  pub beside : List ℕ
  pub gives : Rechecked

abbrev update : List ℕ → ℕ → List ℕ → CheckAnswer → List ℕ → Update
update s f r a r' = record { module_file = s; body = f; beside = r; gives = rechecked a r' }

abbrev refused : List ℕ → ℕ → List ℕ → ℕ → Update
refused s f r e = update s f r (Refused e) r

pub updates : List Update
updates =
    update good 0xffffffff (flags 1 1 1) Accepted (flags 1 1 1) ∷ update good 1 (flags 1 1 1) Accepted (flags 1 1 1)
    -- the named body's own byte is not believed, whichever it is
    ∷ update good 0xffffffff (flags 0 1 1) Accepted (flags 1 1 1) ∷ update good 0 (flags 1 0 1) Accepted (flags 1 1 1) ∷ update good 1 (flags 1 1 0) Accepted (flags 1 1 1)
    ∷ update without_entry 0xffffffff (flags 1 1 1) (Untyped 0xffffffff) (flags 0 1 1) ∷ update without0 0 (flags 1 1 1) (Untyped 0) (flags 1 0 1) ∷ update without01 1 (flags 1 1 1) (Untyped 1) (flags 1 1 0)
    -- the others are believed, and no other byte is set: 11 names the first of them
    ∷ update good 1 (flags 1 0 1) (Untyped 0) (flags 1 0 1) ∷ update good 0 (flags 0 0 1) (Untyped 0xffffffff) (flags 0 1 1) ∷ update without01 1 (flags 1 0 1) (Untyped 0) (flags 1 0 0)
    ∷ update without01 0 (flags 1 1 0) (Untyped 0) (flags 1 0 0) ∷ update good 0xffffffff (flags 0 1 0) (Untyped 1) (flags 1 1 0) ∷ update without0 1 (flags 1 1 0) Accepted (flags 1 1 1)
    -- 12, before 45
    ∷ refused good 2 (flags 1 1 1) 12 ∷ refused good 0xfffffffe (flags 1 1 1) 12 ∷ refused good 2 [] 12 ∷ refused without0 2 (flags 2 0 1) 12
    -- 45: the length, one less and one more
    ∷ refused good 0 [] 45 ∷ refused good 0 (take 10 (flags 1 1 1)) 45 ∷ refused good 0 (flags 1 1 1 ++ (1 ∷ [])) 45 ∷ refused good 0 (take 7 (flags 1 1 1)) 45
    -- the count and the offset, one less, one more, and in their upper bytes
    ∷ refused good 0 (set (flags 1 1 1) 0 2) 45 ∷ refused good 0 (set (flags 1 1 1) 0 4) 45 ∷ refused good 0 (set (flags 1 1 1) 3 1) 45 ∷ refused good 0 (set (flags 1 1 1) 4 7) 45 ∷ refused good 0 (set (flags 1 1 1) 4 9) 45 ∷ refused good 0 (set (flags 1 1 1) 7 1) 45
    -- a byte over 1: the first, the last, the named body's own
    ∷ refused good 0 (flags 2 1 1) 45 ∷ refused good 0 (flags 1 1 2) 45 ∷ refused good 0 (flags 1 2 1) 45 ∷ refused good 1 (flags 1 1 255) 45
    -- before 11; a record of another count of functions
    ∷ refused without0 0 (flags 2 1 1) 45 ∷ refused (file [] [] [] []) 0xffffffff (flags 1 1 1) 45
    -- no function; editions 1 and 4
    ∷ update (file [] [] [] []) 0xffffffff (1 ∷ 0 ∷ 0 ∷ 0 ∷ 8 ∷ 0 ∷ 0 ∷ 0 ∷ 0 ∷ []) Accepted (1 ∷ 0 ∷ 0 ∷ 0 ∷ 8 ∷ 0 ∷ 0 ∷ 0 ∷ 1 ∷ [])
    ∷ update (file_in 1 [] [] [] POP) 0xffffffff (1 ∷ 0 ∷ 0 ∷ 0 ∷ 8 ∷ 0 ∷ 0 ∷ 0 ∷ 1 ∷ []) (Untyped 0xffffffff) (1 ∷ 0 ∷ 0 ∷ 0 ∷ 8 ∷ 0 ∷ 0 ∷ 0 ∷ 0 ∷ [])
    ∷ update (file4 [] (function_for 7 [] 0 RET ∷ []) [] [] []) 0 (2 ∷ 0 ∷ 0 ∷ 0 ∷ 8 ∷ 0 ∷ 0 ∷ 0 ∷ 1 ∷ 0 ∷ []) Accepted (2 ∷ 0 ∷ 0 ∷ 0 ∷ 8 ∷ 0 ∷ 0 ∷ 0 ∷ 1 ∷ 1 ∷ [])
    ∷ []

pub rechecks : List Update → List Rechecked
unfolding recheck_now
rechecks [] = []
rechecks (u ∷ us) = recheck_now u.module_file u.beside u.body ∷ rechecks us

pub wanted : List Update → List Rechecked
wanted [] = []
wanted (u ∷ us) = u.gives ∷ wanted us

pub update_table : rechecks updates ≡ wanted updates
unfolding rechecks wanted updates
update_table = refl

-- ---- what cannot be read: its number first, and nothing is changed

abbrev unreadable : List (List ℕ × ℕ)
unreadable =
    (take 47 w1, 1) ∷ (set w1 0 2, 2) ∷ (set w1 4 0x54, 3) ∷ (set w1 44 1, 4) ∷ (set w1 12 0x31, 5) ∷ (set w1 48 5, 6) ∷ (set w1 40 0x0a, 7)
    ∷ (file [] [] [] (6 ∷ []), 8) ∷ (file [] [] ((9, 0) ∷ []) [], 9) ∷ []

pub attempts : List (List ℕ × ℕ) → List (Recording × Rechecked)
unfolding recording_now recheck_now
attempts [] = []
attempts (r ∷ rs) = (recording_now r.0 [] (nines 1), recheck_now r.0 (nines 1) 7) ∷ attempts rs

pub refusals : List (List ℕ × ℕ) → List (Recording × Rechecked)
refusals [] = []
refusals (r ∷ rs) = (recording (Unrecorded r.1) [] (nines 1), rechecked (Refused r.1) (nines 1)) ∷ refusals rs

pub unreadable_table : attempts unreadable ≡ refusals unreadable
unfolding attempts refusals
unreadable_table = refl
