-- A run over the heap: the loop's invariant, and what each way out of a turn gives.
use Prim.Native.Nat.{ℕ, suc, ◌+◌, ◌*◌, ◌-◌, ◌≤◌, ◌<◌}
use native.Mathlib.Omega.{arith}
use mathlib.Core.Path.{◌≡◌, refl, sym, ap, ◌∙◌, subst}
use mathlib.Core.Logic.{inr}
use mathlib.Core.Bool.{true, false}
use mathlib.Core.Option.{some}
use mathlib.Core.List.{List}
use lib.ListN.{length, drop}
use Rattle.rules.specs.declared.Instruction.{Instruction}
use Rattle.rules.specs.Tables.{Module}
use Rattle.rules.specs.ModuleFile.{structures_in, read, refusal}
use Rattle.rules.specs.Heap.{Heap, empty_heap}
use Rattle.rules.specs.Machine.{State, Next, keeping, outcome, exec_in, run}
use Rattle.soundness.specs.Framed.{with_heap, onto}
use Rattle.soundness.specs.Heaps.{HeapOk}
use Rattle.soundness.specs.Started.{Fit, NextFit, fit_over, fit_heap, heap_empty}
use Rattle.soundness.specs.Kinds.{OfKind, kinds_closed}
use Rattle.soundness.specs.Placed.{step_fit}
use Rattle.heap.specs.declared.Shelf.{Shelf}
use Rattle.heap.specs.Blocks.{bare, blocks_of, heap_of, Sane}
use Rattle.heap.specs.Targets.{Plain}
use Rattle.heap.proofs.Lent.{Small, cells_left, table_left}
use Rattle.state.specs.State.{memory_of, state_of, next_of}
use Rattle.state.specs.declared.Registers.{Registers}
use Rattle.state.specs.declared.Progress.{Progress}
use Rattle.state.specs.declared.Progress.TheVariants.{Goes, Finishes, Stops}
use Rattle.machine.specs.declared.Ended.{Ended}
use Rattle.std.specs.Prelude.{Some, None}
use Rattle.std.specs.declared.option.Option.{Option}
use Rattle.rules.specs.declared.Exception.{Exception}
use Rattle.rules.specs.Results.{exception_number}
use Rattle.machine.specs.Ends.{number_of, Fits, Resumes, Deferred, left, RunsTo}
use Rattle.machine.proofs.Arms.{step_is}
use Rattle.machine.proofs.Turns.{turned, run_turn, advance_step}
use Rattle.access.specs.Access.{shelf_of, heap_in, HeapReady, Accessed}
use Rattle.runs.specs.Runs.{Empty, rest_of, RunsOver}

-- ---- one turn of `run`

-- the instruction i at the place does x
turn : (m : Module) (cap : ℕ) (s : State) (i : Instruction) → s.top.place < s.top.stop → m.code s.top.place ≡ some i → (n k : ℕ) (x : Next) → x ≡ exec_in m cap i s
    → turned m cap s n k x ≡ run m cap (suc n) k s
turn m cap s i inside found n k x e = sym (run_turn m cap s n k x (advance_step m cap s inside ∙ sym (e ∙ step_is m cap s i found)))

-- ---- the loop's invariant: r₀ is where the run stood, with n₀ steps left, p₀, t₀, f₀, c₀ and b₀ the lent words and bytes then; g are the
-- shelf's words

pub record Under (s : List ℕ) (cap n : ℕ) (r₀ : Registers) (n₀ : ℕ) (p₀ t₀ f₀ c₀ b₀ g p t f c b : List ℕ) (r : Registers) (rest : ℕ) : Type 0 where
  pub heap_ready : HeapReady n (structures_in s) g c b
  pub heap_ok : HeapOk (read s) OfKind (heap_in n (structures_in s) g c b)
  pub small_cells : Small c
  pub small_table : Small b
  pub fits : Fits (read s) cap r p t f
  pub left : rest ≤ n₀
  pub same : (k : ℕ) → run (read s) cap rest (k + (n₀ - rest)) (with_heap (heap_in n (structures_in s) g c b) (state_of r p t f)) ≡ rest_of s cap n r₀ n₀ k p₀ t₀ f₀
  pub rest_payloads : drop (cap * 8) p ≡ drop (cap * 8) p₀
  pub rest_types : drop cap t ≡ drop cap t₀
  pub rest_cells : drop (n * 8) c ≡ drop (n * 8) c₀
  pub rest_table : drop (n * 24) b ≡ drop (n * 24) b₀
  pub same_payloads : length p ≡ length p₀
  pub same_types : length t ≡ length t₀
  pub same_words : length f ≡ length f₀
  pub same_cells : length c ≡ length c₀
  pub same_table : length b ≡ length b₀

pub begins : (s : List ℕ) (cap n : ℕ) (r : Registers) (i : ℕ) (p t f c b g : List ℕ) → Plain (structures_in s) → Fits (read s) cap r p t f → Empty n c b → Small c → Small b
    → length g ≡ 4 → shelf_of g ≡ bare → Under s cap n r i p t f c b g p t f c b r i
unfolding blocks_of
begins s cap n r i p t f c b g plain fits empty sc sb four new =
    let d : List ℕ = structures_in s in
    let is : heap_in n d g c b ≡ empty_heap n = ap (λ (k : Shelf). heap_of n k d c b) new in
    record {
      heap_ready = record { four = four; plain = plain; sane = subst (λ (k : Shelf). Sane n k d c b) (sym new) (empty d) };
      heap_ok = subst (HeapOk (read s) OfKind) (sym is) (heap_empty (read s) OfKind n);
      small_cells = sc;
      small_table = sb;
      fits = fits;
      left = omega arith;
      same = λ k. let z : k + (i - i) ≡ k = omega arith in
          rw z (ap (λ (h : Heap). run (read s) cap i k (with_heap h (state_of r p t f))) is);
      rest_payloads = refl;
      rest_types = refl;
      rest_cells = refl;
      rest_table = refl;
      same_payloads = refl;
      same_types = refl;
      same_words = refl;
      same_cells = refl;
      same_table = refl;
    }

module _ (s : List ℕ) (readable : refusal s ≡ 0) (cap n : ℕ) (r₀ : Registers) (n₀ : ℕ) (p₀ t₀ f₀ c₀ b₀ g p t f c b : List ℕ) (r : Registers) (rest : ℕ)
    (u : Under s cap n r₀ n₀ p₀ t₀ f₀ c₀ b₀ g p t f c b r rest) (x : Ended) (p₂ t₂ f₂ : List ℕ)
    (d : RunsTo (read s) cap rest (state_of r p t f) x p t f p₂ t₂ f₂) where
  abbrev m : Module
  m = read s

  abbrev h : Heap
  h = heap_in n (structures_in s) g c b

  -- the run ended with the number z, on the slots p' and t' and the heap of c' and b', with this rest
  over : (z : Option Exception) (rest' : ℕ) (last : Registers) (g' p' t' c' b' : List ℕ) → HeapReady n (structures_in s) g' c' b' → Small c' → Small b'
      → ((k : ℕ) → outcome (number_of z) (k + (n₀ - rest')) (keeping (memory_of p' t' last.height) (heap_in n (structures_in s) g' c' b')) ≡ rest_of s cap n r₀ n₀ k p₀ t₀ f₀)
      → rest' ≤ n₀ → last.height ≤ cap → drop (cap * 8) p' ≡ drop (cap * 8) p₀ → drop cap t' ≡ drop cap t₀ → drop (n * 8) c' ≡ drop (n * 8) c₀
      → drop (n * 24) b' ≡ drop (n * 24) b₀ → length p' ≡ length p₀ → length t' ≡ length t₀
      → RunsOver s cap n r₀ n₀ (record { stop = z; rest = rest'; last = last }) p₀ t₀ f₀ c₀ b₀ p' t' c' b'
  over z rest' last g' p' t' c' b' ready sc sb exact le high rp rt rc rb lp lt =
      record {
        heap = heap_in n (structures_in s) g' c' b';
        exact = exact;
        cells_are = cells_left n (shelf_of g') (structures_in s) c' b' ready.sane sc c₀ rc;
        table_is = table_left n (shelf_of g') (structures_in s) c' b' ready.sane sb b₀ rb;
        left = le;
        high = high;
        rest_payloads = rp;
        rest_types = rt;
        same_payloads = lp;
        same_types = lt;
      }

  -- steps counted in all
  sums : (k : ℕ) → k + (n₀ - rest) + (rest - x.rest) ≡ k + (n₀ - x.rest)
  sums k = omega (arith, u.left, d.left)

  -- the machine has ended it
  pub ended : length f₀ ≡ 1536 → left (number_of x.stop) ≡ false → RunsOver s cap n r₀ n₀ x p₀ t₀ f₀ c₀ b₀ p₂ t₂ c b
  ended all over-it =
      over x.stop x.rest x.last g p₂ t₂ c b u.heap_ready u.small_cells u.small_table
      (λ k. ap (λ (i : ℕ). outcome (number_of x.stop) i (keeping (memory_of p₂ t₂ x.last.height) h)) (sym (sums k))
      ∙ d.exact (λ q. omega (arith, u.same_words)) over-it h (k + (n₀ - rest)) ∙ u.same k)
      (omega (arith, u.left, d.left)) d.high (d.rest_payloads ∙ u.rest_payloads) (d.rest_types ∙ u.rest_types) u.rest_cells u.rest_table
      (d.same_payloads ∙ u.same_payloads) (d.same_types ∙ u.same_types)

  -- it has left an instruction
  module _ (yes : left (number_of x.stop) ≡ true) where
    abbrev resumed : Resumes m cap rest (state_of r p t f) x p₂ t₂ f₂
    resumed = d.resumes (inr yes)

    abbrev waits : Deferred m x
    waits = d.deferred yes

    abbrev i : Instruction
    i = waits.instruction.instruction

    -- the state there
    abbrev st : State
    st = with_heap h (state_of x.last p₂ t₂ f₂)

    from_there : (k : ℕ) → run m cap x.rest (k + (n₀ - x.rest)) st ≡ rest_of s cap n r₀ n₀ k p₀ t₀ f₀
    from_there k = ap (λ (j : ℕ). run m cap x.rest j st) (sym (sums k)) ∙ resumed.same h (k + (n₀ - rest)) ∙ u.same k

    -- which was done over the heap
    module _ (a : Progress) (g' p' t' c' b' : List ℕ) (done : Accessed (exec_in m cap i) cap n x.last a (structures_in s) f₂ p₂ t₂ g c b p' t' g' c' b')
        (sc : Small c') (sb : Small b') where
      abbrev h' : Heap
      h' = heap_in n (structures_in s) g' c' b'

      more : suc (x.rest - 1) ≡ x.rest
      more = omega (arith, waits.more)

      counted : (k : ℕ) → suc (k + (n₀ - x.rest)) ≡ k + (n₀ - (x.rest - 1))
      counted k = omega (arith, waits.more, u.left, d.left)

      next_fit : NextFit m OfKind cap (onto h' (next_of a p' t' f₂))
      next_fit =
          subst (NextFit m OfKind cap) (sym (done.result ∙ step_is m cap st i waits.instruction.found))
          (step_fit s readable OfKind (kinds_closed s readable) cap st (fit_over m OfKind cap h (state_of x.last p₂ t₂ f₂) resumed.fits.fit u.heap_ok) waits.inside)

    module _ (g' p' t' c' b' : List ℕ) (sc : Small c') (sb : Small b') where
      pub goes_on : (q : Registers) → Accessed (exec_in m cap i) cap n x.last (Goes q) (structures_in s) f₂ p₂ t₂ g c b p' t' g' c' b'
          → Under s cap n r₀ n₀ p₀ t₀ f₀ c₀ b₀ g' p' t' f₂ c' b' q (x.rest - 1)
      unfolding turned
      goes_on q done =
          let fit : Fit m OfKind cap (with_heap (heap_in n (structures_in s) g' c' b') (state_of q p' t' f₂)) = next_fit (Goes q) g' p' t' c' b' done sc sb in
          record {
            heap_ready = done.heap_ready;
            heap_ok = fit_heap m OfKind cap (heap_in n (structures_in s) g' c' b') (state_of q p' t' f₂) fit;
            small_cells = sc;
            small_table = sb;
            fits = record {
              ready = done.ready;
              fit = fit_over m OfKind cap (empty_heap 0) (with_heap (heap_in n (structures_in s) g' c' b') (state_of q p' t' f₂)) fit (heap_empty m OfKind 0);
            };
            left = omega (arith, u.left, d.left);
            same = λ k. ap (λ (j : ℕ). run m cap (x.rest - 1) j (with_heap (heap_in n (structures_in s) g' c' b') (state_of q p' t' f₂))) (sym (counted (Goes q) g' p' t' c' b' done sc sb k))
                ∙ turn m cap st i waits.inside waits.instruction.found (x.rest - 1) (k + (n₀ - x.rest)) _ done.result
                ∙ ap (λ (j : ℕ). run m cap j (k + (n₀ - x.rest)) st) (more (Goes q) g' p' t' c' b' done sc sb) ∙ from_there k;
            rest_payloads = done.rest_payloads ∙ d.rest_payloads ∙ u.rest_payloads;
            rest_types = done.rest_types ∙ d.rest_types ∙ u.rest_types;
            rest_cells = done.rest_cells ∙ u.rest_cells;
            rest_table = done.rest_table ∙ u.rest_table;
            same_payloads = done.same_payloads ∙ d.same_payloads ∙ u.same_payloads;
            same_types = done.same_types ∙ d.same_types ∙ u.same_types;
            same_words = d.same_words ∙ u.same_words;
            same_cells = done.same_cells ∙ u.same_cells;
            same_table = done.same_table ∙ u.same_table;
          }

      pub returned : (q : Registers) → Accessed (exec_in m cap i) cap n x.last (Finishes q) (structures_in s) f₂ p₂ t₂ g c b p' t' g' c' b'
          → RunsOver s cap n r₀ n₀ (record { stop = None; rest = x.rest - 1; last = q }) p₀ t₀ f₀ c₀ b₀ p' t' c' b'
      unfolding turned
      returned q done =
          over None (x.rest - 1) q g' p' t' c' b' done.heap_ready sc sb
          (λ k. ap (λ (j : ℕ). outcome 0 j (keeping (memory_of p' t' q.height) (heap_in n (structures_in s) g' c' b'))) (sym (counted (Finishes q) g' p' t' c' b' done sc sb k))
          ∙ turn m cap st i waits.inside waits.instruction.found (x.rest - 1) (k + (n₀ - x.rest)) _ done.result
          ∙ ap (λ (j : ℕ). run m cap j (k + (n₀ - x.rest)) st) (more (Finishes q) g' p' t' c' b' done sc sb) ∙ from_there k)
          (omega (arith, u.left, d.left)) done.ready (done.rest_payloads ∙ d.rest_payloads ∙ u.rest_payloads) (done.rest_types ∙ d.rest_types ∙ u.rest_types)
          (done.rest_cells ∙ u.rest_cells) (done.rest_table ∙ u.rest_table) (done.same_payloads ∙ d.same_payloads ∙ u.same_payloads)
          (done.same_types ∙ d.same_types ∙ u.same_types)

      pub stopped : (z : Exception) → Accessed (exec_in m cap i) cap n x.last (Stops z) (structures_in s) f₂ p₂ t₂ g c b p' t' g' c' b'
          → RunsOver s cap n r₀ n₀ (record { stop = Some z; rest = x.rest; last = x.last }) p₀ t₀ f₀ c₀ b₀ p' t' c' b'
      unfolding turned
      stopped z done =
          over (Some z) x.rest x.last g' p' t' c' b' done.heap_ready sc sb
          (λ k. ap (λ (y : State). outcome (exception_number z) (k + (n₀ - x.rest)) y.memory) done.unchanged
          ∙ turn m cap st i waits.inside waits.instruction.found (x.rest - 1) (k + (n₀ - x.rest)) _ done.result
          ∙ ap (λ (j : ℕ). run m cap j (k + (n₀ - x.rest)) st) (more (Stops z) g' p' t' c' b' done sc sb) ∙ from_there k)
          (omega (arith, u.left, d.left)) d.high (done.rest_payloads ∙ d.rest_payloads ∙ u.rest_payloads) (done.rest_types ∙ d.rest_types ∙ u.rest_types)
          (done.rest_cells ∙ u.rest_cells) (done.rest_table ∙ u.rest_table) (done.same_payloads ∙ d.same_payloads ∙ u.same_payloads)
          (done.same_types ∙ d.same_types ∙ u.same_types)
