-- The run of a row: over at once, or gone on with over the heap.
use Prim.Native.Nat.{ℕ, ◌+◌, ◌-◌}
use native.Mathlib.Omega.{arith}
use mathlib.Core.Path.{◌≡◌, ap, ◌∙◌}
use mathlib.Core.Logic.{inr}
use mathlib.Core.Bool.{true, false}
use mathlib.Core.List.{List}
use lib.ListN.{length}
use Rattle.rules.specs.ModuleFile.{read}
use Rattle.rules.specs.Heap.{empty_heap}
use Rattle.rules.specs.Machine.{outcome, keeping}
use Rattle.heap.proofs.Lent.{Small}
use Rattle.state.specs.State.{memory_of, state_of}
use Rattle.state.specs.declared.Registers.{Registers}
use Rattle.machine.specs.declared.Ended.{Ended}
use Rattle.machine.specs.Ends.{number_of, left, RunsTo}
use Rattle.runs.specs.Runs.{Empty, RunsOver}
use Rattle.runs.proofs.Final.{cells_blank, table_blank}

module _ (s : List ℕ) (cap n : ℕ) (r : Registers) (i : ℕ) (e : Ended) (p t f c b p₂ t₂ f₂ : List ℕ) (d : RunsTo (read s) cap i (state_of r p t f) e p t f p₂ t₂ f₂) where
  -- without the heap
  pub over : length f ≡ 1536 → left (number_of e.stop) ≡ false → Empty n c b → Small c → Small b → RunsOver s cap n r i e p t f c b p₂ t₂ c b
  over all ends empty sc sb =
      record {
        heap = empty_heap n;
        exact = λ k. d.exact (λ q. omega arith) ends (empty_heap n) k;
        cells_are = cells_blank n c b empty sc;
        table_is = table_blank n c b empty sb;
        left = d.left;
        high = d.high;
        rest_payloads = d.rest_payloads;
        rest_types = d.rest_types;
        same_payloads = d.same_payloads;
        same_types = d.same_types;
      }

  -- what went on from there
  pub onward : left (number_of e.stop) ≡ true → (g : Ended) (p' t' c' b' : List ℕ) → RunsOver s cap n e.last e.rest g p₂ t₂ f₂ c b p' t' c' b' → RunsOver s cap n r i g p t f c b p' t' c' b'
  onward waits g p' t' c' b' u =
      record {
        heap = u.heap;
        exact = λ k. let sums : k + (i - g.rest) ≡ k + (i - e.rest) + (e.rest - g.rest) = omega (arith, d.left, u.left) in
            ap (λ (j : ℕ). outcome (number_of g.stop) j (keeping (memory_of p' t' g.last.height) u.heap)) sums
            ∙ u.exact (k + (i - e.rest)) ∙ (d.resumes (inr waits)).same (empty_heap n) k;
        cells_are = u.cells_are;
        table_is = u.table_is;
        left = omega (arith, d.left, u.left);
        high = u.high;
        rest_payloads = u.rest_payloads ∙ d.rest_payloads;
        rest_types = u.rest_types ∙ d.rest_types;
        same_payloads = u.same_payloads ∙ d.same_payloads;
        same_types = u.same_types ∙ d.same_types;
      }
