-- 01, Demand 3, its words. The statement alone; its proof is `demand3` of the crate soundness. Every s is a file of any edition, and
-- `read s` has the rules of its own (02, A5).
use Rattle.std.specs.Prelude.{◌≡◌, ◌⊎◌, ℕ, suc, ◌+◌, ◌-◌, ◌*◌, ◌≤◌, ◌<◌, List, length, take, drop}
use Rattle.std.proofs.Math.Option.{some}
use Rattle.rules.specs.Bytes.{zeros}
use Rattle.rules.specs.Numbers.{done}
use Rattle.rules.specs.Instructions.{call}
use Rattle.rules.specs.Tables.{Body, entry, fn, body_of, body_number, Function, Module}
use Rattle.rules.specs.ModuleFile.{refusal, labels, functions, read}
use Rattle.rules.specs.Stack.{Slot, Lent, capacity, pointer_to, at}
use Rattle.rules.specs.Heap.{LentHeap, heap_capacity}
use Rattle.rules.specs.Machine.{Memory, State, goes, finishes, advance, Outcome, outcome, run}
use Rattle.rules.specs.Typing.{Lists, Typing, Consistent, WellTyped, Reached}
use Rattle.rules.specs.Check.{record_bytes}
use Rattle.rules.specs.Answers.{Untyped, check_number, check, run_number, run_refusal, scan_refusal, run_module, start_state, arguments}

-- ---- the first part: "what the checker accepts"

-- "Accepted means that the check of the whole module answers 0."
abbrev pub IsAccepted : List ℕ → List ℕ → Type 0
IsAccepted s room = check_number (check s room).answer ≡ done

abbrev pub Typable : Module → Body → Type 0
Typable m b = (T : Typing) × Consistent m b T

-- "entry first .., then functions in order"
abbrev pub Earlier : Body → Body → Type 0
Earlier entry entry = ⊥
Earlier entry (fn k) = Unit {0}
Earlier (fn j) entry = ⊥
Earlier (fn j) (fn k) = j < k

abbrev pub Exists : List ℕ → Body → Type 0
Exists s entry = Unit {0}
Exists s (fn k) = k < functions s

-- the body numbered n is the first without typing
abbrev pub FirstUntyped : List ℕ → ℕ → Type 0
FirstUntyped s n =
    (b : Body) × (body_number b ≡ n) × Exists s b × (Typable (read s) b → ⊥) × ((c : Body) → Earlier c b → Typable (read s) c)

-- the record of a label at place p of body b: of the lists that every typing gives there, or zeros where the place is not reached
abbrev pub Shows : Module → Body → ℕ → List ℕ → Type 0
Shows m b p bytes =
    ((l : Lists) × ((T : Typing) → Consistent m b T → T p ≡ some l) × (bytes ≡ record_bytes l)) ⊎ ((Reached m b p → ⊥) × (bytes ≡ zeros 64))

-- ---- the second part: "how a run can end"

-- "The four ends are outcomes 0, 15, 20 and 24." 02: "Demand 3's ends .. gain this", 35 (A2), and 44 but in edition 1 (A8); "gain, in edition 4, 33 and 36" (A6). By
-- edition; exactly these: `Ends`
pub data End : ℕ → ℕ → Type 0 where
  finished : {e : ℕ} → End e 0
  used_up : {e : ℕ} → End e 15
  overflow : {e : ℕ} → End e 20
  zero_divide_end : {e : ℕ} → End e 24
  no_order : {e : ℕ} → End e 35
  no_fit : {e : ℕ} → (e ≡ 1 → ⊥) → End e 44
  no_block : End 4 33
  null_followed : End 4 36

-- ---- the third part: "the slots below a call"

-- "A run's moments are its states at the start and after each step": k steps after s₀ it is in s. (After the `ret` that
-- finishes the host's own call there is no state left; see `Leaves`.)
pub data Moment (m : Module) (cap : ℕ) (s₀ : State) : ℕ → State → Type 0 where
  first : Moment m cap s₀ 0 s₀
  next : {k : ℕ} {s s' : State} → Moment m cap s₀ k s → advance m cap s ≡ goes s' → Moment m cap s₀ (suc k) s'

-- "A call is made when `call` counts its step": at s, right before `call`; s' is right after
pub record Call (m : Module) (cap : ℕ) (s s' : State) : Type 0 where
  pub number : ℕ
  pub callee : Function
  pub is_call : m.code s.top.place ≡ some (call number)
  pub is_callee : m.function number ≡ some callee
  pub made : advance m cap s ≡ goes s'

-- the frames that live
abbrev pub depth : State → ℕ
depth s = suc (length s.callers)

-- "its moments go from the one right after that to the one right after its `ret`, those of deeper calls included": from s on,
-- while more than d frames live, d being those at the call
pub data During (m : Module) (cap d : ℕ) (s : State) : State → Type 0 where
  called : During m cap d s s
  later : {t u : State} → During m cap d s t → d < depth t → advance m cap t ≡ goes u → During m cap d s u

-- "The called frame's first slot is parameter 0's, or the height at the call where there are no parameters": the arguments are
-- the topmost slots at the call
abbrev pub first_slot : Function → State → ℕ
first_slot F s = length s.memory.stack - length F.params

-- "a pointer argument names the slot that it points to then": an argument, a slot from b on, is a pointer to x. A heap pointer names
-- none: its payload is no slot's number (`heap_names_none` of the crate soundness)
abbrev pub Named : ℕ → List Slot → ℕ → Type 0
Named b st x = (y : ℕ) × (b ≤ y) × (at st y ≡ some (pointer_to x))

-- of the run from s₀: at every moment of every call each slot below the called frame has the type and payload that it had
-- right before `call`, unless a pointer argument of that call names it
abbrev pub Kept : Module → ℕ → State → Type 0
Kept m cap s₀ =
    (k : ℕ) (s s' t : State) → Moment m cap s₀ k s → (c : Call m cap s s') → During m cap (depth s) s' t
    → (x : ℕ) → x < first_slot c.callee s
    → (at t.memory.stack x ≡ at s.memory.stack x) ⊎ Named (first_slot c.callee s) s.memory.stack x

-- what a run from s₀ with allowance n leaves is the memory of one of its moments, with that moment's steps; or what `ret`
-- leaves when it finishes the host's own call at one of them, one step later
pub data Leaves (m : Module) (cap : ℕ) (s₀ : State) (n : ℕ) : Outcome → Type 0 where
  there : (k : ℕ) (s : State) → Moment m cap s₀ k s → k ≤ n → (e : ℕ) → Leaves m cap s₀ n (outcome e k s.memory)
  back : (k : ℕ) (s : State) → Moment m cap s₀ k s → k < n → (M : Memory) → advance m cap s ≡ finishes M → Leaves m cap s₀ n (outcome done (suc k) M)

-- ---- the three parts

pub record Demand3 : Type 0 where
  -- "Where a module can be read and the checking room is enough, the checker accepts it exactly when every body in it has a
  -- consistent typing"
  pub exact : (s room : List ℕ) → refusal s ≡ 0 → 64 * labels s ≤ length room
      → (IsAccepted s room → WellTyped (read s)) × (WellTyped (read s) → IsAccepted s room)
  -- "11 also returns the first body without typing"
  pub first_untyped_lem : (s room : List ℕ) (n : ℕ) → (check s room).answer ≡ Untyped n → FirstUntyped s n
  -- the record of each label, in the room afterwards
  pub records : (s room : List ℕ) → IsAccepted s room → (i : ℕ) (b : Body) (p : ℕ) → (read s).label i ≡ some (b, p)
      → Shows (read s) b p (take 64 (drop (64 * i) (check s room).room))
  -- "its lists are then the same in all of them, to be shown"
  pub same_lists : (m : Module) (b : Body) (p : ℕ) → Reached m b p → (T U : Typing) → Consistent m b T → Consistent m b U → T p ≡ U p
  -- "Take any accepted module, run from its entry or from any function without pointer parameters on any arguments that
  -- document 01 admits. Whatever the allowance and the lent stack, this run can only finish, use up its allowance, overflow
  -- the stack or divide by zero"; or compare with a NaN (02, A2); or, but in edition 1, convert what is out of range (A8); or, in edition 4, follow a pointer to no live block, or null (A6). (With a pointer parameter, or with arguments that are not admitted, the run is
  -- refused: 13; 17 is "no run in demand 3's sense" (A7).)
  pub ends : (s room : List ℕ) → IsAccepted s room → (f : ℕ) (args : Lent) (scan : ℕ) → scan_refusal s f args scan ≡ 0
      → (n : ℕ) (x : Lent) (y : LentHeap) → End (read s).edition (run_number (run_module s f args scan n x y).answer)
  -- "Take any call made in such a run, at whatever depth. At every moment from that call to its return, or to the run's end
  -- where it doesn't return, each slot below the called frame has the type and payload that it had at the call. The only
  -- exceptions are the slots named by that call's own pointer arguments." (A run whose arguments don't fit makes no call.)
  pub kept : (s room : List ℕ) → IsAccepted s room → (f : ℕ) (args : Lent) → run_refusal s f args ≡ 0
      → (x : Lent) (y : LentHeap) → length (arguments args) ≤ capacity x
      → Kept (read s) (capacity x) (start_state (read s) (body_of f) (arguments args) (heap_capacity y))
  -- the moments are those of `run`: it goes on from each with what is left of the allowance; and what it leaves is tied to one
  pub moments : (m : Module) (cap : ℕ) (s₀ s : State) (k : ℕ) → Moment m cap s₀ k s → (n : ℕ) → run m cap (k + n) 0 s₀ ≡ run m cap n k s
  pub leaves : (m : Module) (cap : ℕ) (s₀ : State) (n : ℕ) → Leaves m cap s₀ n (run m cap n 0 s₀)
