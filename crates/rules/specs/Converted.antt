-- 02, A7: what the conversions are to each other, and to checks and runs, as a statement; its proof is `converts` of the crate
-- soundness. Every s is a file.
use Rattle.std.specs.Prelude.{◌≡◌, ◌⊎◌, ℕ, Bool, true, List}
use Rattle.std.proofs.Math.Option.{some}
use Rattle.rules.specs.Instructions.{two, cmp}
use Rattle.rules.specs.Tables.{Body, Module}
use Rattle.rules.specs.ModuleFile.{refusal, tables_in, read}
use Rattle.rules.specs.Stack.{Lent}
use Rattle.rules.specs.Heap.{LentHeap}
use Rattle.rules.specs.Answers.{check, run_module}
use Rattle.rules.specs.Demand3.{IsAccepted}
use Rattle.rules.specs.Claims.{AreBytes}
use Rattle.rules.specs.Converting.{to_fourth, to_third, fourth, third, refusal_in, down_refusal}

-- no instruction is `cmp` or `icmp`
abbrev pub ComparesNothing : Module → Type 0
ComparesNothing m = (b : Body) (p : ℕ) (signed : Bool) → m.is_place b p ≡ true → m.code p ≡ some (two (cmp signed)) → ⊥

pub record Converts : Type 0 where
  -- what comes out can be read, and its tables are the other edition's
  pub up_read : (s : List ℕ) → refusal_in 3 s ≡ 0 → (refusal (fourth s) ≡ 0) × (tables_in (fourth s) ≡ to_fourth (tables_in s))
  pub down_read : (s : List ℕ) → down_refusal s ≡ 0 → (refusal (third s) ≡ 0) × (tables_in (third s) ≡ to_third (tables_in s))
  -- "Up then down returns the same bytes"
  pub up_down : (s : List ℕ) → AreBytes s → refusal_in 3 s ≡ 0 → (down_refusal (fourth s) ≡ 0) × (third (fourth s) ≡ s)
  -- "down then up too, wherever down is allowed"
  pub down_up : (s : List ℕ) → AreBytes s → down_refusal s ≡ 0 → (refusal_in 3 (third s) ≡ 0) × (fourth (third s) ≡ s)
  -- not of the paper: each run of what comes out, whatever the scan, answers as that of the old module and leaves the same
  pub same_run : (s : List ℕ) → refusal_in 3 s ≡ 0 → (f : ℕ) (args : Lent) (scan allowance : ℕ) (x : Lent) (y : LentHeap)
      → run_module (fourth s) f args scan allowance x y ≡ run_module s f args scan allowance x y
  -- so does its check, where the module of edition 3 is accepted, or compares nothing. (Edition 4's `cmp` and `icmp` take any two
  -- pointers, so a module to which only these deny a typing has one after: `check-table` of `Profiles`.)
  pub same_check : (s room : List ℕ) → refusal_in 3 s ≡ 0 → IsAccepted s room ⊎ ComparesNothing (read s) → check (fourth s) room ≡ check s room
