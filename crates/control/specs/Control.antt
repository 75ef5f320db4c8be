-- What the functions of this crate find, write and read: targets, the words of frames, registers of another frame.
use Rattle.std.specs.Prelude.{ℕ, zero, suc, ◌+◌, ◌-◌, ◌*◌, ◌<◌, cond, List, get_or, set, Some, None, Ok, Err}
use Rattle.std.proofs.Math.Option.{Option, none, some}
use Rattle.rules.specs.declared.Condition.{Condition}
use Rattle.rules.specs.declared.Instruction.TheVariants.{Branch}
use Rattle.rules.specs.Tables.{Module, Function}
use Rattle.rules.specs.Operations.{holds}
use Rattle.rules.specs.Machine.{State, Next, exec_in}
use Rattle.state.specs.State.{state_of, moved_to, Ready, Does}
use Rattle.state.specs.declared.Registers.{Registers}
use Rattle.state.specs.declared.Progress.{Progress}
use Rattle.state.specs.declared.Progress.TheVariants.{Goes, Finishes, Stops}
use Rattle.std.specs.declared.option.Option as found
use Rattle.std.specs.declared.result.Result.{Result}
use Rattle.rules.specs.declared.Exception.{Exception}

abbrev pub place_of : found.Option ℕ → Option ℕ
place_of (Some q) = some q
place_of None = none

-- ready with a capacity that the instruction does not ask for
abbrev pub Prepared : Registers → List ℕ → List ℕ → List ℕ → Type 0
Prepared r p t f = (cap : ℕ) × Ready cap r p t f

-- the code did what e says of the state, where the machine was ready
abbrev pub ActsOn : ℕ → Registers → Progress → List ℕ → List ℕ → List ℕ → List ℕ → List ℕ → List ℕ → (State → Next) → Type 0
ActsOn cap r a p t f p' t' f' e = Ready cap r p t f → Does cap r a p t f p' t' f' (e (state_of r p t f))

-- ---- branches

-- the code did what the branch on o to label l of m says
abbrev pub Branches : Condition → Progress → Registers → List ℕ → List ℕ → List ℕ → Module → ℕ → Type 0
Branches o a r p t f m l = (cap : ℕ) → ActsOn cap r a p t f p t f (exec_in m cap (Branch o l))

-- what each branch does then: it tests v, with q as its label's place, or stops
abbrev pub PoppedIs : Result (ℕ × ℕ) Exception → Registers → List ℕ → List ℕ → List ℕ → Module → ℕ → Type 0
PoppedIs (Ok (v, q)) r p t f m l =
    (0 < r.height) × ((o : Condition) → Branches o (Goes (moved_to r (cond (holds o v) q (r.place + 5)) (r.height - 1))) r p t f m l)
PoppedIs (Err e) r p t f m l = (o : Condition) → Branches o (Stops e) r p t f m l

-- ---- what a call writes

-- the words with the registers of the running frame, to go on behind a call; the rest of it lies there already
unfoldable pub saved_in : List ℕ → Registers → List ℕ
saved_in f r = set (set (set f (r.frame + 1) (r.place + 5)) (r.frame + 20) r.stop) (r.frame + 21) r.floor

-- the words with the slots of n arguments from b on as the locals of the frame from a on
unfoldable pub arguments_in : List ℕ → ℕ → ℕ → ℕ → List ℕ
arguments_in f a b zero = f
arguments_in f a b (suc n) = set (arguments_in f a b n) (a + 4 + n) (b + n)

-- the words with the frame of body k from a on, on n arguments from b on
unfoldable pub opened_in : List ℕ → ℕ → ℕ → ℕ → ℕ → List ℕ
opened_in f a k b n = arguments_in (set (set (set f a k) (a + 2) b) (a + 3) n) a b n

-- the registers of the first frame, of a body from s up to e on n arguments
abbrev pub first_at : ℕ → ℕ → ℕ → Registers
first_at s e n = record { place = s; stop = e; floor = n; frame = 0; height = n }

-- the registers at the start of a function, its frame's words from a on, its arguments under the height h
abbrev pub entered_at : Function → ℕ → ℕ → Registers
entered_at F a h = record { place = F.start; stop = F.end; floor = h; frame = a; height = h }

-- ---- what a return reads

-- the registers of the frame that waits, its words from a on, with h slots in use
abbrev pub restored_at : List ℕ → ℕ → ℕ → Registers
restored_at f a h = record { place = get_or f (a + 1) 0; stop = get_or f (a + 20) 0; floor = get_or f (a + 21) 0; frame = a; height = h }

-- past the frame at this depth, with h slots left
abbrev pub past_frame : ℕ → Registers → List ℕ → ℕ → Progress
past_frame zero r f h = Finishes (moved_to r r.place h)
past_frame (suc d) r f h = Goes (restored_at f (d * 24) h)
