-- 02, A11: need and frames of a body, by paths of flow; chains of reached calls that come back. Nothing here computes: `Heights` does.
use Rattle.std.specs.Prelude.{◌≡◌, ◌⊎◌, ℕ, suc, ◌+◌, ◌-◌, ◌≤◌, cond, List, [], ◌∷◌, length, eqb}
use Rattle.std.proofs.Math.Option.{Option, none, some}
use Rattle.rules.specs.Bytes.{maybe}
use Rattle.rules.specs.Instructions.{Ty, Instruction, push, load, store, lea, one, two, tload, tstore, bump, jmp, branch, call, ret, null, new, delete, flea}
use Rattle.rules.specs.Tables.{Body, fn, Module}
use Rattle.rules.specs.Typing.{Lists, lists, place_flow, start_of, end_of, past}

-- ---- "paths of flow from its start, branch values ignored": every way that a typing follows is a way

-- place q with lists l is among those that can come next
abbrev pub In : ℕ → Lists → List (ℕ × Lists) → Type 0
In q l [] = ⊥
In q l (x ∷ xs) = ((x.0 ≡ q) × (x.1 ≡ l)) ⊎ In q l xs

-- the ground_level: where the operands begin, counted from the frame's first slot ("slots buried under locals counted"). After one way of flow
-- from lists l with ground_level f to lists k: the local count changes only where a `store` binds, and then every operand lies under the new ground_level
abbrev pub raised : ℕ → Lists → Lists → ℕ
raised f l k = cond (eqb (length l.locals) (length k.locals)) f (f + length l.operands)

-- the height, counted from the frame's first slot
abbrev pub height : Lists → ℕ → ℕ
height l f = f + length l.operands

-- a path of flow leads from the start of the body to place p with lists l and ground_level f
module _ (m : Module) (b : Body) where
  pub data Path : ℕ → Lists → ℕ → Type 0 where
    begins : (p : ℕ) (ts : List Ty) → start_of m b ≡ some (p, ts) → Path p (lists ts []) (length ts)
    goes_on : (p : ℕ) (l : Lists) (f : ℕ) (ns : List (ℕ × Lists)) (q : ℕ) (k : Lists) → Path p l f → place_flow m b p l ≡ some ns → In q k ns
        → Path q k (raised f l k)

-- ---- calls

abbrev pub called : Instruction → Option ℕ
called (push k) = none
called (load n) = none
called (store n) = none
called (lea n) = none
called (one o) = none
called (two o) = none
called tload = none
called tstore = none
called (bump d) = none
called (jmp l) = none
called (branch c l) = none
called (call k) = some k
called ret = none
called (null g) = none
called (new g n) = none
called delete = none
called (flea n) = none

-- the function that is called at a place of the body; none at its end, where the next body's first instruction stands
abbrev pub call_at : Module → Body → ℕ → Option ℕ
call_at m b p = cond (past p (end_of m b)) none (maybe (m.code p) none called)

-- the number of its parameters
abbrev pub arity : Module → ℕ → ℕ
arity m k = maybe (m.function k) 0 (λ F. length F.params)

-- where a call's first argument lies, counted from the caller's first slot: "at a call the callee's need counts from its first
-- argument"; where there are no parameters, the height
abbrev pub argument_at : Module → Lists → ℕ → ℕ → ℕ
argument_at m l f k = height l f - arity m k

-- a reached call of function k: some path leads to it
abbrev pub Calls : Module → Body → ℕ → Type 0
Calls m b k = (p : ℕ) × (l : Lists) × (f : ℕ) × Path m b p l f × (call_at m b p ≡ some k)

-- ---- heights and frames on paths that go into calls

-- a path from the body's start, into calls, reaches this height, counted from the body's first slot
pub data Reaches (m : Module) : Body → ℕ → Type 0 where
  here : (b : Body) (p : ℕ) (l : Lists) (f : ℕ) → Path m b p l f → Reaches m b (height l f)
  within : (b : Body) (p : ℕ) (l : Lists) (f k h : ℕ) → Path m b p l f → call_at m b p ≡ some k → Reaches m (fn k) h
      → Reaches m b (argument_at m l f k + h)

-- "frames (the most live at once on such paths, itself counted)": a path has this many live at once
pub data Stacks (m : Module) : Body → ℕ → Type 0 where
  alone : (b : Body) → Stacks m b 1
  under_it : (b : Body) (k d : ℕ) → Calls m b k → Stacks m (fn k) d → Stacks m b (suc d)

-- n is the largest number with P: some path has it, and none has more
abbrev pub Most : (ℕ → Type 0) → ℕ → Type 0
Most P n = P n × ((h : ℕ) → P h → h ≤ n)

-- "A body's need is its largest height over all paths of flow from its start"; its frames
pub record Needs (m : Module) (b : Body) (need frames : ℕ) : Type 0 where
  pub tallest : Most (Reaches m b) need
  pub deepest : Most (Stacks m b) frames

-- ---- 47: "a chain of reached calls comes back to a body on it"

pub data Chain (m : Module) : Body → Body → Type 0 where
  stay : (b : Body) → Chain m b b
  then_call : (b : Body) (k : ℕ) (c : Body) → Calls m b k → Chain m (fn k) c → Chain m b c

-- from b a chain leads to a body c, and on by one call at least to c again
abbrev pub Recursive : Module → Body → Type 0
Recursive m b = (c : Body) × (k : ℕ) × Chain m b c × Calls m c k × Chain m (fn k) c
