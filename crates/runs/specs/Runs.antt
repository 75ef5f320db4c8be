-- What a run is given and what it leaves: the body that a host names, its arguments, the lent bytes.
use Rattle.std.specs.Prelude.{ℕ, ◌+◌, ◌*◌, ◌-◌, ◌≤◌, ◌<◌, ◌≡◌, Bool, false, not, ◌&&◌, ◌||◌, List, ◌++◌, eqb, length, get_or, take, drop, replicate, Some, None}
use Rattle.std.proofs.Math.Option.{none, some}
use Rattle.rules.specs.AnswerTypes.{RunAnswer}
use Rattle.rules.specs.declared.Slot.{Slot}
use Rattle.rules.specs.Instructions.{Ty, num, ptr, num_kind}
use Rattle.rules.specs.Tables.{body_of, function_at, params_from}
use Rattle.rules.specs.ModuleFile.{edition, functions, read, functions_in}
use Rattle.rules.specs.Stack.{Lent, capacity, slots_of, lent_after}
use Rattle.rules.specs.Heap.{Heap, empty_heap, LentHeap, heap_capacity, cells_after, table_after}
use Rattle.rules.specs.Machine.{Outcome, outcome, keeping, run}
use Rattle.rules.specs.Typing.{start_of, end_of}
use Rattle.rules.specs.Answers.{fits, answered, Ran, ran, run_module}
use Rattle.soundness.specs.Framed.{with_heap}
use Rattle.format.specs.declared.Sections.{Sections}
use Rattle.heap.specs.Blocks.{bare, Sane}
use Rattle.state.specs.State.{body_in, memory_of, state_of}
use Rattle.state.specs.declared.Registers.{Registers}
use Rattle.machine.specs.declared.Ended.{Ended}
use Rattle.machine.specs.Ends.{Fits, left, number_of}
use Rattle.runs.specs.declared.BodyRecord.{BodyRecord}
use Rattle.std.specs.declared.option.Option.{Option}

-- ---- lent bytes

abbrev pub lent_of : List ℕ → List ℕ → Lent
lent_of p t = record { payloads = p; types = t }

abbrev pub slots_in : List ℕ → List ℕ → ℕ
slots_in p t = capacity (lent_of p t)

-- cells c, a table of blocks b
abbrev pub lent_heap_of : List ℕ → List ℕ → LentHeap
lent_heap_of c b = record { cells = c; table = b }

abbrev pub cells_in : List ℕ → List ℕ → ℕ
cells_in c b = heap_capacity (lent_heap_of c b)

-- s with zeros from a to e
abbrev pub cleared_to : List ℕ → ℕ → ℕ → List ℕ
cleared_to s a e = take a s ++ (replicate (e - a) 0 ++ drop e s)

-- the answer of a run on the slots p and t that ends so, and the slots after it
abbrev pub ClosedAs : Outcome → List ℕ → List ℕ → List ℕ → List ℕ → RunAnswer → Type 0
ClosedAs o p t p' t' r =
    (r ≡ answered o.number (record { steps = o.steps; height = length o.memory.stack })) × (lent_of p' t' ≡ lent_after o.memory.stack (lent_of p t))

-- the same of a run that has the cells c and the table b, too, and all of them after it
abbrev pub LeavesAs : Outcome → List ℕ → List ℕ → List ℕ → List ℕ → List ℕ → List ℕ → List ℕ → List ℕ → RunAnswer → Type 0
LeavesAs o p t c b p' t' c' b' r =
    ◌≡◌ {A = Ran} (record { answer = r; stack = lent_of p' t'; heap = lent_heap_of c' b' }) (ran o (lent_of p t) (lent_heap_of c b))

-- the answer and the bytes after it are those of the rules, for body f of the file s on the arguments u, v
abbrev pub RunIs : List ℕ → ℕ → List ℕ → List ℕ → ℕ → ℕ → List ℕ → List ℕ → List ℕ → List ℕ → List ℕ → List ℕ → List ℕ → List ℕ → RunAnswer → Type 0
RunIs s f u v scan allowance p t c b p' t' c' b' r =
    ◌≡◌ {A = Ran} (record { answer = r; stack = lent_of p' t'; heap = lent_heap_of c' b' }) (run_module s f (lent_of u v) scan allowance (lent_of p t) (lent_heap_of c b))

-- ---- the lent heap

-- the cells c and the table b show n cells that no block has taken yet, whatever the structures
abbrev pub Empty : ℕ → List ℕ → List ℕ → Type 0
Empty n c b = (d : List ℕ) → Sane n bare d c b

-- they were cleared for a run
pub record Emptied (c b c' b' : List ℕ) : Type 0 where
  pub empty : Empty (cells_in c b) c' b'
  pub past_cells : drop (cells_in c b * 8) c' ≡ drop (cells_in c b * 8) c
  pub past_table : drop (cells_in c b * 24) b' ≡ drop (cells_in c b * 24) b
  pub same_cells : length c' ≡ length c
  pub same_table : length b' ≡ length b

-- ---- a run that is under way

-- on this allowance, where it stands as e says, with these words of frames; it has used no heap yet
pub record Standing (s : List ℕ) (cap : ℕ) (e : Ended) (allowance : ℕ) (p t f c b : List ℕ) : Type 0 where
  pub slots : cap ≡ slots_in p t
  pub left : e.rest ≤ allowance
  pub fits : Fits (read s) cap e.last p t f
  pub empty : Empty (cells_in c b) c b

-- its rest from these registers, over n cells, with i steps left of the allowance and k counted
abbrev pub rest_of : List ℕ → ℕ → ℕ → Registers → ℕ → ℕ → List ℕ → List ℕ → List ℕ → Outcome
rest_of s cap n r i k p t f = run (read s) cap i k (with_heap (empty_heap n) (state_of r p t f))

-- the answer and the bytes after it are those of its rest
abbrev pub RestIs : List ℕ → ℕ → Ended → ℕ → List ℕ → List ℕ → List ℕ → List ℕ → List ℕ → List ℕ → List ℕ → List ℕ → List ℕ → RunAnswer → Type 0
RestIs s cap e allowance p t f c b p' t' c' b' r = LeavesAs (rest_of s cap (cells_in c b) e.last e.rest (allowance - e.rest) p t f) p t c b p' t' c' b' r

-- the rest of a run over n cells ended as g says: the stack is in the first slots, `heap` is what the cells and the table show
pub record RunsOver (s : List ℕ) (cap n : ℕ) (r : Registers) (i : ℕ) (g : Ended) (p t f c b p' t' c' b' : List ℕ) : Type 0 where
  pub heap : Heap
  pub exact : (k : ℕ) → outcome (number_of g.stop) (k + (i - g.rest)) (keeping (memory_of p' t' g.last.height) heap) ≡ rest_of s cap n r i k p t f
  pub cells_are : c' ≡ cells_after n heap.blocks c
  pub table_is : b' ≡ table_after n heap.blocks b
  pub left : g.rest ≤ i
  pub high : g.last.height ≤ cap
  pub rest_payloads : drop (cap * 8) p' ≡ drop (cap * 8) p
  pub rest_types : drop cap t' ≡ drop cap t
  pub same_payloads : length p' ≡ length p
  pub same_types : length t' ≡ length t

-- whether a run for which few words and no heap were at hand is over
abbrev pub is_over : ℕ → Bool
is_over n = not (eqb n 20 || left n)

-- ---- arguments

-- v is a value for a parameter of this type
abbrev pub suits : Ty → Slot → Bool
suits (num τ) v = eqb v.kind (num_kind τ) && fits τ v.payload
suits (ptr g w) v = false

-- the n slots of a and b are the first of p and t, now p' and t'; the others are as they were
pub record Copied (a b p t : List ℕ) (n : ℕ) (p' t' : List ℕ) : Type 0 where
  pub slots : slots_of p' t' n ≡ slots_of a b n
  pub same_payloads : length p' ≡ length p
  pub same_types : length t' ≡ length t
  pub rest_payloads : (m : ℕ) → n ≤ m → drop (m * 8) p' ≡ drop (m * 8) p
  pub rest_types : (m : ℕ) → n ≤ m → drop m t' ≡ drop m t

-- ---- bodies

-- the file s has the body that f names
abbrev pub Named : List ℕ → ℕ → Type 0
Named s f = (f ≡ 0xffffffff → ⊥) → f < functions s

-- b is the body that the host names by f; its numbers are in range
pub record BodyIs (s : List ℕ) (c : Sections) (f : ℕ) (b : BodyRecord) : Type 0 where
  pub there : Named s f
  pub named : body_in b.body ≡ body_of f
  pub starts : start_of (read s) (body_of f) ≡ some (b.start, params_from (functions_in s) (function_at (edition s) b.body + 10) b.params)
  pub ends : end_of (read s) (body_of f) ≡ some b.end
  pub declares : 0 < b.params → b.body < c.functions
  pub few : b.params ≤ 8
  pub near : b.end ≤ 16384
  pub body_fits : b.body < 65536

abbrev pub FoundIs : List ℕ → Sections → ℕ → Option BodyRecord → Type 0
FoundIs s c f (Some b) = BodyIs s c f b
FoundIs s c f None = start_of (read s) (body_of f) ≡ none

-- ---- words of frames

-- f' begins with the words of f
abbrev pub Begins : List ℕ → List ℕ → Type 0
Begins f' f = (i : ℕ) → i < length f → get_or f' i 0 ≡ get_or f i 0
