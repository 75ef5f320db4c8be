-- How a run's end stands in the registers and the lent bytes.
use Rattle.std.specs.Prelude.{ℕ, ◌+◌, ◌*◌, ◌-◌, ◌≤◌, ◌<◌, ◌≡◌, Bool, true, false, ◌||◌, cond, ◌⊎◌, List, length, get_or, drop, eqb, Some, None}
use Rattle.std.proofs.Math.Option.{some}
use Rattle.rules.specs.declared.Instruction.{Instruction}
use Rattle.rules.specs.Tables.{Module}
use Rattle.rules.specs.Heap.{Heap}
use Rattle.rules.specs.Machine.{State, outcome, keeping, run}
use Rattle.soundness.specs.Framed.{heapless, with_heap}
use Rattle.soundness.specs.Started.{Fit}
use Rattle.soundness.specs.Kinds.{OfKind}
use Rattle.state.specs.State.{memory_of, state_of, Ready}
use Rattle.state.specs.declared.Registers.{Registers}
use Rattle.std.specs.declared.option.Option.{Option}
use Rattle.rules.specs.declared.Exception.{Exception}
use Rattle.rules.specs.Results.{exception_number}
use Rattle.machine.specs.declared.Ended.{Ended}

-- the number that a run ends with, 0 where it finishes
abbrev pub number_of : Option Exception → ℕ
number_of None = 0
number_of (Some e) = exception_number e

abbrev pub end_with : Option Exception → ℕ → Registers → Ended
end_with n k r = record { stop = n; rest = k; last = r }

-- at the end of a body
unfoldable pub end_at_stop : List ℕ → Registers → ℕ → Ended
end_at_stop f r k = cond (eqb (get_or f r.frame 0) 65535) (end_with None k r) (end_with (Some Exception.FunctionNoRetInstruction) k r)

-- ready in a state that a run can come to
pub record Fits (m : Module) (cap : ℕ) (r : Registers) (p t f : List ℕ) : Type 0 where
  pub ready : Ready cap r p t f
  pub fit : Fit m OfKind cap (state_of r p t f)

-- the run from the state s on n steps, over any heap, is that from these registers and bytes on the rest; k steps were counted before
pub record Resumes (m : Module) (cap n : ℕ) (s : State) (e : Ended) (p t f : List ℕ) : Type 0 where
  pub fits : Fits m cap e.last p t f
  pub same : (h : Heap) (k : ℕ) → run m cap e.rest (k + (n - e.rest)) (with_heap h (state_of e.last p t f)) ≡ run m cap n k (with_heap h s)

-- the instruction at the place needs the heap
pub record Needs (m : Module) (r : Registers) : Type 0 where
  pub instruction : Instruction
  pub found : m.code r.place ≡ some instruction
  pub needs : heapless instruction ≡ false

-- the run stands before it, with a step left
pub record Deferred (m : Module) (e : Ended) : Type 0 where
  pub more : 0 < e.rest
  pub inside : e.last.place < e.last.stop
  pub instruction : Needs m e.last

-- the numbers with which an instruction is left to who has the heap
abbrev pub left : ℕ → Bool
left n = eqb n 33 || eqb n 36 || eqb n 37

-- the run from the state s on n steps ended as e says, over any heap: its stack is in the first slots, its heap is as it was, and what lies
-- past the capacity, too. A run that met a call for which there were no words lent stands as it was before the call, with the number 20 and
-- the rest of its steps; one that met an instruction that needs the heap stands before that, with a number that says so
pub record RunsTo (m : Module) (cap n : ℕ) (s : State) (e : Ended) (p t f p' t' f' : List ℕ) : Type 0 where
  pub exact : ((number_of e.stop) ≡ 20 → 1536 ≤ length f) → left (number_of e.stop) ≡ false
      → (h : Heap) (k : ℕ) → outcome (number_of e.stop) (k + (n - e.rest)) (keeping (memory_of p' t' e.last.height) h) ≡ run m cap n k (with_heap h s)
  pub resumes : ((number_of e.stop) ≡ 20) ⊎ (left (number_of e.stop) ≡ true) → Resumes m cap n s e p' t' f'
  pub deferred : left (number_of e.stop) ≡ true → Deferred m e
  pub left : e.rest ≤ n
  pub high : e.last.height ≤ cap
  pub rest_payloads : drop (cap * 8) p' ≡ drop (cap * 8) p
  pub rest_types : drop cap t' ≡ drop cap t
  pub same_payloads : length p' ≡ length p
  pub same_types : length t' ≡ length t
  pub same_words : length f' ≡ length f
