-- What the code returns, in the numbers of `AnswerTypes`.
use Rattle.std.specs.Prelude.{ℕ, Ok, Err}
use Rattle.std.specs.declared.result.Result.{Result}
use Rattle.rules.specs.AnswerTypes.{CheckAnswer, RecordingAnswer, NeedAnswer, RunAnswer, Rejected, Stopped, Finished, WriteAnswer, Unwritten, Written, MapAnswer}
use Rattle.rules.specs.AnswerTypes as answers
use Rattle.rules.specs.declared.Tally.{Tally}
use Rattle.rules.specs.declared.Refusal.{Refusal}
use Rattle.rules.specs.declared.Exception.{Exception}
use Rattle.rules.specs.declared.CheckError.{CheckError}
use Rattle.rules.specs.declared.NeedError.{NeedError}
use Rattle.rules.specs.declared.RunError.{RunError}
use Rattle.rules.specs.declared.MapError.{MapError}

-- the number of a refusal, and of what stops a run
abbrev pub refusal_number : Refusal → ℕ
refusal_number Refusal.TooShort = 1
refusal_number Refusal.OtherEdition = 2
refusal_number Refusal.OtherLength = 3
refusal_number Refusal.OverLimit = 4
refusal_number Refusal.NotPacked = 5
refusal_number Refusal.BadConstant = 6
refusal_number Refusal.BadFunction = 7
refusal_number Refusal.BadCode = 8
refusal_number Refusal.BadLabel = 9
refusal_number Refusal.RoomTooShort = 10
refusal_number Refusal.NoSuchFunction = 12
refusal_number Refusal.BadArguments = 13
refusal_number Refusal.OutputTooShort = 16
refusal_number Refusal.OtherProfile = 17
refusal_number Refusal.NotInEdition3 = 18
refusal_number Refusal.LineTooLong = 40
refusal_number Refusal.NotInGrammar = 41
refusal_number Refusal.TooDeep = 42
refusal_number Refusal.TooManyOperands = 43
refusal_number Refusal.RecordDiffers = 45

abbrev pub exception_number : Exception → ℕ
exception_number Exception.AllowanceUsedUp = 15
exception_number Exception.StackOverflow = 20
exception_number Exception.StackEmpty = 21
exception_number Exception.StackDifferentType = 22
exception_number Exception.ConstantPoolOutOfRange = 23
exception_number Exception.ArithmeticDivideByZero = 24
exception_number Exception.LocalVariableOutOfRange = 25
exception_number Exception.LocalVariableInvalidIndex = 26
exception_number Exception.LabelOutOfRange = 27
exception_number Exception.FunctionOutOfRange = 28
exception_number Exception.FunctionNoRetInstruction = 29
exception_number Exception.FunctionTopOfCallStack = 30
exception_number Exception.PointerNotPointer = 31
exception_number Exception.PointerInvalidForPointer = 32
exception_number Exception.PointerUnknownAddress = 33
exception_number Exception.DoubleInvalidForDouble = 34
exception_number Exception.DoubleUnordered = 35
exception_number Exception.PointerNullPointer = 36
exception_number Exception.TypeOutOfRange = 37
exception_number Exception.FieldOutOfRange = 38
exception_number Exception.PointerNotStructure = 39
exception_number Exception.ConvertOutOfRange = 44
exception_number Exception.PointerWholeStructure = 50

-- the number of the refusal, 0 where there is none
abbrev pub refused : {T : Type 0} → Result T Refusal → ℕ
refused (Ok x) = 0
refused (Err e) = refusal_number e

-- the same of what stops a run
abbrev pub stopped_by : {T : Type 0} → Result T Exception → ℕ
stopped_by (Ok x) = 0
stopped_by (Err e) = exception_number e

-- a check's
abbrev pub check_answer : {T : Type 0} → Result T CheckError → CheckAnswer
check_answer (Ok x) = answers.Accepted
check_answer (Err (CheckError.Refused e)) = answers.Refused (refusal_number e)
check_answer (Err (CheckError.Untyped b)) = answers.Untyped b

-- of a check that writes a record
abbrev pub recording_answer : Result ℕ CheckError → RecordingAnswer
recording_answer (Ok n) = answers.Recorded n
recording_answer (Err (CheckError.Refused e)) = answers.Unrecorded (refusal_number e)
recording_answer (Err (CheckError.Untyped b)) = answers.RecordedUntyped b

-- of a report of needs; what a check says of it
abbrev pub need_answer : Result ℕ NeedError → NeedAnswer
need_answer (Ok n) = answers.Reported n
need_answer (Err (NeedError.Refused e)) = answers.Unreported (refusal_number e)
need_answer (Err (NeedError.Untyped b)) = answers.ReportUntyped b
need_answer (Err (NeedError.Loops b)) = answers.ReportLoops b

abbrev pub need_error : CheckError → NeedError
need_error (CheckError.Refused e) = NeedError.Refused e
need_error (CheckError.Untyped b) = NeedError.Untyped b

-- a run's
abbrev pub run_answer : Result Tally RunError → RunAnswer
run_answer (Ok t) = Finished t
run_answer (Err (RunError.Rejected e)) = Rejected (refusal_number e)
run_answer (Err (RunError.Stopped e t)) = Stopped (exception_number e) t

-- a writer's
abbrev pub write_answer : Result ℕ Refusal → WriteAnswer
write_answer (Ok n) = Written n
write_answer (Err e) = Unwritten (refusal_number e)

-- of a call for rows
abbrev pub map_answer : Result ℕ MapError → MapAnswer
map_answer (Ok n) = record { number = 0; rows = n }
map_answer (Err (MapError.Refused e n)) = record { number = refusal_number e; rows = n }
map_answer (Err (MapError.Stopped e n)) = record { number = exception_number e; rows = n }
