-- What the answers of this crate mean in the rules.
use Rattle.std.specs.Prelude.{ℕ, ◌+◌, ◌<◌, ◌≡◌, Bool, List, [], ◌∷◌, Ok, Err, Some, None}
use Rattle.std.proofs.Math.Option.{Option, none, some}
use Rattle.rules.specs.Bytes.{byte}
use Rattle.rules.specs.declared.Slot.{Slot}
use Rattle.rules.specs.Instructions.{ty_of}
use Rattle.rules.specs.Tables.{Bodies, bad_structures, bad_functions, bad_code, bad_labels, Function, Body, body_of, params_from, result_of, function_at, profile_at, function_of}
use Rattle.rules.specs.ModuleFile.{edition, functions_in, refusal}
use Rattle.rules.specs.Stack.{at}
use Rattle.format.specs.declared.Sections.{Sections}
use Rattle.format.specs.Layout.{sections_of}
use Rattle.rules.specs.declared.Refusal.{Refusal}
use Rattle.rules.specs.Results.{refusal_number}
use Rattle.std.specs.declared.result.Result.{Result}
use Rattle.std.specs.declared.option.Option as found
use Rattle.reader.specs.declared.entries.FunctionRecord.{FunctionRecord}
use Rattle.reader.specs.declared.entries.LabelRecord.{LabelRecord}

-- rows 8 and 9
abbrev pub code_tests : Bodies → List ℕ → List Bool
code_tests b ls = bad_code b ∷ bad_labels b ls ∷ []

-- rows 7 to 9
abbrev pub functions_tests : Bodies → List ℕ → List Bool
functions_tests b ls = bad_functions b ∷ code_tests b ls

-- row 6 of structures, and rows 7 to 9
abbrev pub bodies_tests : Bodies → List ℕ → List Bool
bodies_tests b ls = bad_structures b.structures ∷ functions_tests b ls

-- what a file that can be read is opened as, and what another is refused with
abbrev pub Opens : List ℕ → Result Sections Refusal → Type 0
Opens s (Ok c) = (refusal s ≡ 0) × (c ≡ sections_of s)
Opens s (Err e) = refusal s ≡ refusal_number e

-- ---- by number

abbrev pub slot_in : found.Option Slot → Option Slot
slot_in (Some v) = some v
slot_in None = none

-- a function record of the table s of edition e, at byte a; parameters and profile are not read
abbrev pub function_in : ℕ → List ℕ → ℕ → found.Option FunctionRecord → Option Function
function_in e s a (Some f) =
    some (record { start = f.start; end = f.end; params = params_from s (a + 10) f.params; result = result_of f.result; profile = profile_at e s a })
function_in e s a None = none

-- function k of the file s
abbrev pub function_found : List ℕ → ℕ → found.Option FunctionRecord → Option Function
function_found s k = function_in (edition s) (functions_in s) (function_at (edition s) k)

-- r is the type byte of parameter j of the function at byte a of the table s of edition e
abbrev pub ParamAt : ℕ → List ℕ → ℕ → ℕ → ℕ → Type 0
ParamAt e s a j r = (r ≡ byte s (a + 10 + j)) × (j < byte s (a + 8) → at (function_of e s a).params j ≡ some (ty_of r))

-- of function k of the file s
abbrev pub ParamIs : List ℕ → ℕ → ℕ → ℕ → Type 0
ParamIs s k = ParamAt (edition s) (functions_in s) (function_at (edition s) k)

abbrev pub label_in : found.Option LabelRecord → Option (Body × ℕ)
label_in (Some l) = some (body_of l.owner, l.place)
label_in None = none
