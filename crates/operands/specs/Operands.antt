-- What instructions that compute ask, and what their parts do.
use Rattle.std.specs.Prelude.{◌≡◌, Bool, true, List, ℕ, ◌+◌, ◌-◌, ◌*◌, ◌^◌, ◌≤◌, ◌<◌, length, Ok, Err}
use Rattle.rules.specs.Instructions.{is_pointer}
use Rattle.rules.specs.Tables.{Module}
use Rattle.rules.specs.Machine.{exec_in}
use Rattle.rules.specs.Stack.{slot_at, slots_of}
use Rattle.rules.specs.declared.Instruction.{Instruction}
use Rattle.rules.specs.declared.Instruction.TheVariants.{Two, Bump}
use Rattle.rules.specs.declared.Binary.TheVariants.{Arith}
use Rattle.rules.specs.declared.Operator.{Operator}
use Rattle.soundness.specs.Kinds.{Kinded}
use Rattle.values.specs.Values.{value_of, payload_of, slot_of}
use Rattle.values.specs.declared.Value.{Value}
use Rattle.std.specs.declared.result.Result.{Result}
use Rattle.rules.specs.declared.Exception.{Exception}
use Rattle.state.specs.Slots.{payloads_with, types_with}
use Rattle.state.specs.State.{moved_to, Acts, ActsOrDefers}
use Rattle.state.specs.declared.Registers.{Registers}
use Rattle.state.specs.declared.Progress.{Progress}
use Rattle.state.specs.declared.Progress.TheVariants.{Goes, Stops}

-- a place before the body's end, lent bytes for the slots in use, and type numbers that are types'
pub record Computable (r : Registers) (p t : List ℕ) : Type 0 where
  pub small : r.height ≤ 4096
  pub payloads : r.height * 8 ≤ length p
  pub types : r.height ≤ length t
  pub over : r.floor ≤ r.height
  pub inside : r.place < r.stop
  pub kinds : Kinded (slots_of p t r.height)

-- the code did what the rules say of i, in any module and for any capacity
abbrev pub Executes : Instruction → Registers → Progress → List ℕ → List ℕ → List ℕ → List ℕ → Type 0
Executes i r a p t p' t' = (m : Module) (cap : ℕ) → Acts cap r a p t p' t' (exec_in m cap i)

-- the same, or it left it to who has the heap
abbrev pub ExecutesOrDefers : Instruction → Registers → Progress → List ℕ → List ℕ → List ℕ → List ℕ → Type 0
ExecutesOrDefers i r a p t p' t' = (m : Module) (cap : ℕ) → ActsOrDefers cap r a p t p' t' (exec_in m cap i)

-- the code went on with h slots, x's payload written to slot i; or it stopped with x's exception
abbrev pub Puts : Registers → ℕ → ℕ → Result Value Exception → Progress → List ℕ → List ℕ → Type 0
Puts r i h (Ok v) a p p' = (a ≡ Goes (moved_to r (r.place + 1) h)) × ((p' ≡ payloads_with p i (slot_of v)) × (payload_of v < 2 ^ 64))
Puts r i h (Err e) a p p' = (a ≡ Stops e) × (p' ≡ p)

-- the type was written, too
abbrev pub Types : ℕ → Result Value Exception → List ℕ → List ℕ → Type 0
Types i (Ok v) t t' = t' ≡ types_with t i (slot_of v)
Types i (Err e) t t' = t' ≡ t

-- a and b are the values of the two top operands
pub record Both (r : Registers) (p t : List ℕ) (a b : Value) : Type 0 where
  pub has : r.floor + 2 ≤ r.height
  pub deep : a ≡ value_of (slot_at p t (r.height - 2))
  pub top : b ≡ value_of (slot_at p t (r.height - 1))

-- what `pair` finds for every operator
abbrev pub Paired : Registers → List ℕ → List ℕ → Result (Value × Value) Exception → Type 0
Paired r p t (Ok x) = Both r p t x.0 x.1
Paired r p t (Err e) = (o : Operator) → Executes (Two (Arith o)) r (Stops e) p t p t

-- the pointer on top names slot i, which holds a
pub record Points (r : Registers) (p t : List ℕ) (i : ℕ) (a : Value) : Type 0 where
  pub has : r.floor + 1 ≤ r.height
  pub pointer : is_pointer (slot_at p t (r.height - 1)).kind ≡ true
  pub slot : i ≡ (slot_at p t (r.height - 1)).payload
  pub below : i < r.height - 1
  pub held : a ≡ value_of (slot_at p t i)

-- what `find` finds, for `inc` and `dec`
abbrev pub Finds : Registers → List ℕ → List ℕ → Result (ℕ × Value) Exception → Type 0
Finds r p t (Ok x) = Points r p t x.0 x.1
Finds r p t (Err e) = (u : Bool) → ExecutesOrDefers (Bump u) r (Stops e) p t p t
