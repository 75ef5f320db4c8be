-- 02, A10: the record of which bodies have a typing, the check that writes it, and the check of one body beside it.
use Rattle.std.specs.Prelude.{ℕ, zero, suc, ◌+◌, Bool, ◌||◌, cond, List, [], ◌∷◌, ◌++◌, length, set, drop, ltb, eqb}
use Rattle.std.proofs.Math.Option.{Option, none, some}
pub use Rattle.rules.specs.AnswerTypes.{RecordingAnswer}
pub use Rattle.rules.specs.AnswerTypes.{Unrecorded, RecordedUntyped, Recorded}
use Rattle.rules.specs.Bytes.{bytes, byte, word, some_below, maybe}
use Rattle.rules.specs.Numbers.{done, no_typing, no_such_function, output_too_short, record_differs_number}
use Rattle.rules.specs.Tables.{differs, Body, entry, fn, body_of, body_number, Module}
use Rattle.rules.specs.ModuleFile.{refusal, functions, read}
use Rattle.rules.specs.Typing.{start_of}
use Rattle.rules.specs.Check.{Table, check_body, bodies}
use Rattle.rules.specs.Answers.{CheckAnswer, Refused, Untyped, Accepted, check}

-- ---- "Keep a record beside the module: 4-byte body count and offset (8), then one byte a body, entry first, 1 if it has a typing, else 0."

abbrev pub flag : Option Table → ℕ
flag none = 0
flag (some t) = 1

unfoldable pub flag_of : Module → Body → ℕ
flag_of m b = flag (check_body m b)

abbrev pub flags_of : Module → List Body → List ℕ
flags_of m [] = []
flags_of m (b ∷ bs) = flag_of m b ∷ flags_of m bs

-- of a module with n functions: the entry is a body too
unfoldable pub record_of : Module → ℕ → List ℕ
record_of m n = bytes 4 (suc n) ++ (bytes 4 8 ++ flags_of m (bodies n))

abbrev pub record_length : ℕ → ℕ
record_length n = 8 + suc n

-- "entry first"
abbrev pub index_of : Body → ℕ
index_of entry = 0
index_of (fn k) = suc k

abbrev pub flag_at : List ℕ → Body → ℕ
flag_at r b = byte r (8 + index_of b)

-- ---- what the check that writes it answers

abbrev pub recording_number : RecordingAnswer → ℕ
recording_number (Unrecorded n) = n
recording_number (RecordedUntyped b) = no_typing
recording_number (Recorded n) = done

-- 11 names a body, as every check's
abbrev pub recording_body_named : RecordingAnswer → Option ℕ
recording_body_named (Unrecorded n) = none
recording_body_named (RecordedUntyped b) = some b
recording_body_named (Recorded n) = none

-- "a writer answers 0 with the length"
abbrev pub recording_length : RecordingAnswer → Option ℕ
recording_length (Unrecorded n) = none
recording_length (RecordedUntyped b) = none
recording_length (Recorded n) = some n

-- ---- "A full check lent room for it writes it with 0 and with 11 (16, just before 11, if too short)."

-- room and record: what they hold after
pub record Recording : Type 0 where
  pub answer : RecordingAnswer
  pub room : List ℕ
  pub beside : List ℕ

abbrev pub recording : RecordingAnswer → List ℕ → List ℕ → Recording
recording a room r = record { answer = a; room = room; beside = r }

-- 16 changes nothing; else the record stands in front, "and leaves output past it unchanged"
abbrev pub recording_into : List ℕ → List ℕ → List ℕ → RecordingAnswer → Recording
recording_into s room r a =
    cond (ltb (length r) (record_length (functions s))) (recording (Unrecorded output_too_short) room r)
    (recording a (check s room).room (record_of (read s) (functions s) ++ drop (record_length (functions s)) r))

-- by the check's answer: 1 to 10 as they are, then 16, then 11 or 0
abbrev pub recording_with : List ℕ → List ℕ → List ℕ → CheckAnswer → Recording
recording_with s room r (Refused n) = recording (Unrecorded n) (check s room).room r
recording_with s room r (Untyped b) = recording_into s room r (RecordedUntyped b)
recording_with s room r Accepted = recording_into s room r (Recorded (record_length (functions s)))

-- the check of the module s in this room, which writes its record into r
unfoldable pub check_recording : List ℕ → List ℕ → List ℕ → Recording
check_recording s room r = recording_with s room r (check s room).answer

-- ---- "For a new module and a named body, check that body, set its byte alone, and answer 11 with the first body whose byte is 0, else 0"

-- "45 a count, offset or length other than this module's record has, or a byte over 1"
unfoldable pub record_differs : ℕ → List ℕ → Bool
record_differs n r =
    differs (word 4 r 0) (suc n) || differs (word 4 r 4) 8 || differs (length r) (record_length n) || some_below (suc n) (λ i. ltb 1 (byte r (8 + i)))

abbrev pub updated : Module → List ℕ → Body → List ℕ
updated m r b = set r (8 + index_of b) (flag_of m b)

abbrev pub first_zero : List ℕ → List Body → Option Body
first_zero r [] = none
first_zero r (b ∷ bs) = cond (eqb (flag_at r b) 0) (some b) (first_zero r bs)

abbrev pub answer_from : Option Body → CheckAnswer
answer_from none = Accepted
answer_from (some b) = Untyped (body_number b)

-- record: what it holds after. "write no label records": no room is lent
pub record Rechecked : Type 0 where
  pub answer : CheckAnswer
  pub beside : List ℕ

abbrev pub rechecked : CheckAnswer → List ℕ → Rechecked
rechecked a r = record { answer = a; beside = r }

abbrev pub judged_from : List ℕ → List ℕ → Rechecked
judged_from s r = rechecked (answer_from (first_zero r (bodies (functions s)))) r

-- "Refusals, after the reader's: 12 no such body; 45 .."
abbrev pub recheck_with : List ℕ → List ℕ → ℕ → ℕ → Rechecked
recheck_with s r f (suc e) = rechecked (Refused (suc e)) r
recheck_with s r f zero =
    maybe (start_of (read s) (body_of f)) (rechecked (Refused no_such_function) r)
    (λ x. cond (record_differs (functions s) r) (rechecked (Refused record_differs_number) r) (judged_from s (updated (read s) r (body_of f))))

-- the check of body f of the module s beside the record r
unfoldable pub recheck : List ℕ → List ℕ → ℕ → Rechecked
recheck s r f = recheck_with s r f (refusal s)
