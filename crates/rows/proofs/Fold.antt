-- The fold over rows: what each row's run is in the rules, and how the fold goes on from it.
use Prim.Native.Nat.{ℕ, zero, suc, ◌+◌, ◌*◌, ◌-◌, ◌/◌, ◌≤◌, ◌<◌}
use native.Mathlib.Omega.{arith}
use mathlib.Core.Path.{◌≡◌, refl, sym, ap, ◌∙◌}
use mathlib.Core.Bool.{true, false}
use mathlib.Core.List.{List, [], ◌∷◌}
use lib.ListN.{length, take, drop, length-append, length-drop}
use lib.Seq.{length-take-le, take-length}
use native.Mathlib.Nat.{mul_comm, mul_assoc, suc-mul, mul-le-mul_right}
use borrow.Author.Tests.{ne_eqb, lt-leb}
use Rattle.rules.specs.AnswerTypes.{Rejected}
use Rattle.rules.specs.declared.Slot.{Slot}
use Rattle.rules.specs.declared.Tally.{Tally}
use Rattle.rules.specs.Instructions.{Ty, kind_of}
use Rattle.rules.specs.Tables.{body_of, function_at}
use Rattle.rules.specs.ModuleFile.{edition, functions_in, read, refusal}
use Rattle.rules.specs.Stack.{Lent, capacity, slots_of, lent_after}
use Rattle.rules.specs.Heap.{empty_heap, LentHeap, heap_capacity, lent_heap_after, cells_after, table_after}
use Rattle.rules.specs.Machine.{Outcome, outcome, keeping}
use Rattle.rules.specs.Answers.{run_number, top_slot, arguments, admitted, answered, made_for, other_profile, outcome_of, run_refusal, scan_refusal, Ran, ran, run_module}
use Rattle.format.specs.declared.Sections.{Sections}
use Rattle.heap.proofs.Lent.{Small}
use Rattle.state.specs.State.{memory_of}
use Rattle.state.proofs.Stack.{length_slots}
use Rattle.runs.specs.Runs.{lent_of, slots_in, lent_heap_of, cells_in, Empty, Emptied}
use Rattle.runs.proofs.Final.{cells_blank, table_blank, stack_of, heap_past, heap_of_lem}
use Rattle.rules.specs.AnswerTypes.{MapAnswer}
use Rattle.rows.specs.declared.RowEnd.{RowEnd}
use Rattle.rules.specs.Mapping.{types_of, params_of, row_of, with_value, mapped, map_rows, run_row}
use Rattle.machine.specs.Ends.{number_of}
use Rattle.rows.specs.Rows.{param_types, low_ints, value_in, answer_of, left, Admits, Stage, RowIs, Mappable, RowsAre}
use Rattle.rows.proofs.Types.{types_shown, admits_low}
use Rattle.rows.proofs.Cleared.{again, capacity_after, value_is, past_cells, past_table}

number_is : (n : ℕ) (t : Tally) → run_number (answered n t) ≡ n
number_is zero t = refl
number_is (suc n) t = refl

-- ---- one row's run, which the rules give as `ran o`, and the rows after it

module _ (run : ℕ → Lent → LentHeap → Ran) (o : Outcome) (i : ℕ) (x : Lent) (y : LentHeap) (is : run i x y ≡ ran o x y) where
  -- it did not finish
  pub stops : (k : ℕ) (out : List ℕ) → (o.number ≡ 0 → ⊥) → map_rows run (suc k) i out x y ≡ mapped o.number i out (lent_after o.memory.stack x) (lent_heap_after o.memory.heap y)
  unfolding map_rows
  stops k out n =
      let t : Tally = record { steps = o.steps; height = length o.memory.stack } in
      rw is (rw (number_is o.number t, ne_eqb o.number 0 n) refl)

  -- it finished
  pub goes : (k : ℕ) (out : List ℕ) → o.number ≡ 0
      → map_rows run (suc k) i out x y
      ≡ map_rows run k (suc i) (with_value out i (top_slot (lent_after o.memory.stack x) (length o.memory.stack))) (lent_after o.memory.stack x) (lent_heap_after o.memory.heap y)
  unfolding map_rows
  goes k out e = rw is (rw e refl)

-- a row that is refused ends the fold too
pub refused : (run : ℕ → Lent → LentHeap → Ran) (i : ℕ) (x : Lent) (y : LentHeap) (n : ℕ) → (n ≡ 0 → ⊥) → run i x y ≡ record { answer = Rejected n; stack = x; heap = y }
    → (k : ℕ) (out : List ℕ) → map_rows run (suc k) i out x y ≡ mapped n i out x y
unfolding map_rows
refused run i x y n h is k out = rw is (rw (ne_eqb n 0 h) refl)

pub no_rows : (run : ℕ → Lent → LentHeap → Ran) (i : ℕ) (out : List ℕ) (x : Lent) (y : LentHeap) → map_rows run 0 i out x y ≡ mapped 0 i out x y
unfolding map_rows
no_rows run i out x y = refl

-- the fold on what was lent and on what was left is the same where its first row's run is
pub alike : (run : ℕ → Lent → LentHeap → Ran) (i k : ℕ) (out : List ℕ) (x x' : Lent) (y y' : LentHeap) → run i x' y' ≡ run i x y → map_rows run (suc k) i out x' y' ≡ map_rows run (suc k) i out x y
unfolding map_rows
alike run i k out x x' y y' e = rw e refl

-- ---- the rows of a function that takes them

-- type bytes have one for each
length_types : (ts : List Ty) → length (types_of ts) ≡ length ts
length_types [] = refl
length_types (t ∷ ts) = length-append (types_of ts) (kind_of t ∷ []) ∙ rw (length_types ts) (omega arith)

module _ (s : List ℕ) (readable : refusal s ≡ 0) (l : Sections) (f start end : ℕ) (b args out : List ℕ) (M : Mappable s l f start end b args out) where
  -- bytes of a row
  abbrev width : ℕ
  width = length b * 8

  abbrev rows : ℕ
  rows = length out / 8

  abbrev row : ℕ → List ℕ
  row i = take width (drop (i * width) args)

  params_are : params_of (read s) (body_of f) ≡ param_types s f (length b)
  params_are = rw M.body.starts refl

  types_are : b ≡ types_of (param_types s f (length b))
  types_are = sym (take-length b) ∙ types_shown (functions_in s) (function_at (edition s) f + 10) b (length b) (omega arith) M.numbers M.types

  row_is : (i : ℕ) → row_of (params_of (read s) (body_of f)) args i ≡ lent_of (row i) b
  row_is i =
      let count : length (param_types s f (length b)) ≡ length b = sym (length_types (param_types s f (length b))) ∙ ap length (sym types_are) in
      let v : 8 * length b ≡ width = omega arith in
      let u : width * i ≡ i * width = mul_comm width i in
      rw params_are (rw count (rw (v, u, ← types_are) refl))

  -- rows lie inside
  whole_rows : rows * width ≡ length args
  whole_rows =
      let e : length out ≡ rows * 8 = omega (arith, M.whole) in
      let c : rows * 8 * length b ≡ rows * (8 * length b) = mul_assoc rows 8 (length b) in
      let d : 8 * length b ≡ width = omega arith in
      ap (λ (x : ℕ). rows * x) (sym d) ∙ sym c ∙ ap (λ (x : ℕ). x * length b) (sym e) ∙ mul_comm (length out) (length b) ∙ sym M.same

  pub inside : (i : ℕ) → i < rows → i * width + width ≤ length args
  inside i h =
      let q : suc i * width ≤ rows * width = mul-le-mul_right width h in
      let e : suc i * width ≡ i * width + width = suc-mul i width in
      omega (arith, whole_rows)

  pub length_row : (i : ℕ) → i < rows → length (row i) ≡ width
  length_row i h = length-take-le width (drop (i * width) args) (let d : length (drop (i * width) args) ≡ length args - i * width = length-drop (i * width) args in omega (arith, inside i h))

  low_admits : (i : ℕ) → i < rows → low_ints (row i) b (length b) ≡ admitted (param_types s f (length b)) (lent_of (row i) b)
  low_admits i h = admits_low (functions_in s) (function_at (edition s) f + 10) b (row i) (length b) M.numbers M.types refl (length_row i h)

  pub admits : (i : ℕ) → i < rows → low_ints (row i) b (length b) ≡ true → Admits s l f start end (row i) b
  admits i h low = record { body = M.body; admits = sym (low_admits i h) ∙ low }

  module _ (allowance scan : ℕ) (same : other_profile (made_for (read s) (body_of f)) scan ≡ false) where
    abbrev run : ℕ → Lent → LentHeap → Ran
    run = run_row s f scan args allowance

    -- what the rules give of a row
    runs_as : (i : ℕ) → i < rows → low_ints (row i) b (length b) ≡ true → (cap n : ℕ) (x : Lent) (y : LentHeap) → capacity x ≡ cap → heap_capacity y ≡ n
        → run i x y ≡ ran (outcome_of (read s) (body_of f) (arguments (lent_of (row i) b)) allowance cap n) x y
    unfolding run_module run_refusal scan_refusal
    runs_as i h low cap n x y ex ey =
        let fit : admitted (param_types s f (length b)) (lent_of (row i) b) ≡ true = sym (low_admits i h) ∙ low in
        rw (row_is i) (rw (readable, M.body.starts, fit, same, ex, ey) refl)

    rejects : (i : ℕ) → i < rows → low_ints (row i) b (length b) ≡ false → (x : Lent) (y : LentHeap) → run i x y ≡ record { answer = Rejected 13; stack = x; heap = y }
    unfolding run_module run_refusal scan_refusal
    rejects i h low x y =
        let misfit : admitted (param_types s f (length b)) (lent_of (row i) b) ≡ false = sym (low_admits i h) ∙ low in
        rw (row_is i) (rw (readable, M.body.starts, misfit) refl)

pub row_next : (i w : ℕ) → (i + 1) * w ≡ i * w + w
row_next i w = let z : i + 1 ≡ suc i = omega arith in ap (λ (x : ℕ). x * w) z ∙ suc-mul i w

-- ---- the loop: p₀, t₀, c₀ and h₀ were lent

-- i rows are done, of which the next one is admitted; the outputs are `out` now, the slots p and t, and no block stands in the cells c and the table h
pub record Going (s : List ℕ) (f : ℕ) (b args out₀ : List ℕ) (allowance : ℕ) (p₀ t₀ c₀ h₀ : List ℕ) (i at : ℕ) (out p t c h : List ℕ) : Type 0 where
  pub below : i < length out₀ / 8
  pub at_is : at ≡ i * (length b * 8)
  pub low : low_ints (take (length b * 8) (drop (i * (length b * 8)) args)) b (length b) ≡ true
  pub rest : (scan : ℕ) → other_profile (made_for (read s) (body_of f)) scan ≡ false
      → map_rows (run_row s f scan args allowance) (length out₀ / 8) 0 out₀ (lent_of p₀ t₀) (lent_heap_of c₀ h₀)
      ≡ map_rows (run_row s f scan args allowance) (length out₀ / 8 - i) i out (lent_of p₀ t₀) (lent_heap_of c₀ h₀)
  pub same_out : length out ≡ length out₀
  pub same_payloads : length p ≡ length p₀
  pub same_types : length t ≡ length t₀
  pub rest_payloads : drop (slots_in p₀ t₀ * 8) p ≡ drop (slots_in p₀ t₀ * 8) p₀
  pub rest_types : drop (slots_in p₀ t₀) t ≡ drop (slots_in p₀ t₀) t₀
  pub clear : Emptied c₀ h₀ c h

module _ (s : List ℕ) (readable : refusal s ≡ 0) (l : Sections) (f start end : ℕ) (b args out₀ : List ℕ) (M : Mappable s l f start end b args out₀) (allowance : ℕ) (p₀ t₀ c₀ h₀ : List ℕ) where
  abbrev cap : ℕ
  cap = slots_in p₀ t₀

  abbrev size : ℕ
  size = cells_in c₀ h₀

  abbrev At : ℕ → ℕ → List ℕ → List ℕ → List ℕ → List ℕ → List ℕ → Type 0
  At i at out p t c h = Going s f b args out₀ allowance p₀ t₀ c₀ h₀ i at out p t c h

  pub begins : low_ints (take (length b * 8) args) b (length b) ≡ true → Empty size c₀ h₀ → At 0 0 out₀ p₀ t₀ c₀ h₀
  begins low empty =
      record {
        below = omega (arith, M.whole, M.one);
        at_is = let z : 0 * (length b * 8) ≡ 0 = omega arith in sym z;
        low = let z : 0 * (length b * 8) ≡ 0 = omega arith in rw z low;
        rest = λ scan same. let z : length out₀ / 8 - 0 ≡ length out₀ / 8 = omega arith in rw z refl;
        same_out = refl;
        same_payloads = refl;
        same_types = refl;
        rest_payloads = refl;
        rest_types = refl;
        clear = record { empty = empty; past_cells = refl; past_table = refl; same_cells = refl; same_table = refl };
      }

  module _ (i at : ℕ) (out p t c h : List ℕ) (G : At i at out p t c h) where
    -- the slice of the row
    pub slice_is : take (at + length b * 8 - at) (drop at args) ≡ row s readable l f start end b args out₀ M i
    slice_is = let z : at + length b * 8 - at ≡ length b * 8 = omega arith in rw (z, G.at_is) refl

    -- and of the next one
    pub next_is : take (at + length b * 8 + length b * 8 - (at + length b * 8)) (drop (at + length b * 8) args) ≡ row s readable l f start end b args out₀ M (i + 1)
    next_is =
        let z : at + length b * 8 + length b * 8 - (at + length b * 8) ≡ length b * 8 = omega arith in
        let u : at + length b * 8 ≡ (i + 1) * (length b * 8) = ap (λ (x : ℕ). x + length b * 8) G.at_is ∙ sym (row_next i (length b * 8)) in
        rw (z, u) refl

    pub stage : length b ≤ cap → Stage cap size b p t c h
    stage enough = record { slots = rw (G.same_payloads, G.same_types) refl; fit = enough; empty = G.clear.empty }

    -- its run ended as g says
    module _ (a : List ℕ) (ea : a ≡ row s readable l f start end b args out₀ M i) (g : RowEnd) (p' t' c' h' : List ℕ) (R : RowIs s f a b allowance cap size g p t c h p' t' c' h')
        (small : Small p') (lc : length c' ≡ length c) (lh : length h' ≡ length h) where
      abbrev height : ℕ
      height = g.ended.last.height

      abbrev st : List Slot
      st = slots_of p' t' height

      abbrev o : Outcome
      o = outcome (number_of g.ended.stop) (allowance - g.ended.rest) (keeping (memory_of p' t' height) R.heap)

      abbrev x₀ : Lent
      x₀ = lent_of p₀ t₀

      abbrev y₀ : LentHeap
      y₀ = lent_heap_of c₀ h₀

      lp : length p' ≡ length p₀
      lp = R.same_payloads ∙ G.same_payloads

      lt : length t' ≡ length t₀
      lt = R.same_types ∙ G.same_types

      dp : drop (cap * 8) p' ≡ drop (cap * 8) p₀
      dp = R.rest_payloads ∙ G.rest_payloads

      dt : drop cap t' ≡ drop cap t₀
      dt = R.rest_types ∙ G.rest_types

      pub same_cap : cap ≡ slots_in p' t'
      same_cap = rw (lp, lt) refl

      -- the cells and the table after it
      heap_left : lent_heap_of c' h' ≡ lent_heap_after R.heap y₀
      heap_left =
          let e : lent_heap_after R.heap (lent_heap_of c h) ≡ lent_heap_after R.heap y₀ = ap (λ (r : Ran). r.heap) (heap_of_lem o x₀ c₀ h₀ c h G.clear) in
          let z : cells_in c h ≡ size = rw (G.clear.same_cells, G.clear.same_table) refl in
          (λ j. record { cells = (R.cells_are ∙ ap (λ (n : ℕ). cells_after n R.heap.blocks c) (sym z)) j; table = (R.table_is ∙ ap (λ (n : ℕ). table_after n R.heap.blocks h) (sym z)) j }) ∙ e

      past_c : drop (size * 8) c' ≡ drop (size * 8) c₀
      past_c = past_cells size R.heap.blocks c c' R.cells_are lc (omega (arith, G.clear.same_cells)) ∙ G.clear.past_cells

      past_h : drop (size * 24) h' ≡ drop (size * 24) h₀
      past_h = past_table size R.heap.blocks h h' R.table_is lh (omega (arith, G.clear.same_table)) ∙ G.clear.past_table

      same_c : length c' ≡ length c₀
      same_c = lc ∙ G.clear.same_cells

      same_h : length h' ≡ length h₀
      same_h = lh ∙ G.clear.same_table

      -- the slots after they are cleared to p'' and t''
      slots_left : (p'' t'' : List ℕ) → lent_of p'' t'' ≡ lent_after st (lent_of p' t') → lent_of p'' t'' ≡ lent_after st x₀
      slots_left p'' t'' e = e ∙ ap (λ (r : Ran). r.stack) (stack_of o p₀ t₀ p' t' y₀ cap refl lp lt dp dt)

      more : length out₀ / 8 - i ≡ suc (length out₀ / 8 - i - 1)
      more = omega (arith, G.below)

      module _ (scan : ℕ) (same : other_profile (made_for (read s) (body_of f)) scan ≡ false) where
        abbrev each : ℕ → Lent → LentHeap → Ran
        each = run_row s f scan args allowance

        ran_so : each i x₀ y₀ ≡ ran o x₀ y₀
        ran_so =
            runs_as s readable l f start end b args out₀ M allowance scan same i G.below G.low cap size x₀ y₀ refl refl
            ∙ ap (λ (u : List ℕ). ran (outcome_of (read s) (body_of f) (arguments (lent_of u b)) allowance cap size) x₀ y₀) (sym ea)
            ∙ ap (λ (u : Outcome). ran u x₀ y₀) (sym R.exact)

        from_here : map_rows each (length out₀ / 8) 0 out₀ x₀ y₀ ≡ map_rows each (suc (length out₀ / 8 - i - 1)) i out x₀ y₀
        from_here = G.rest scan same ∙ ap (λ (k : ℕ). map_rows each k i out x₀ y₀) more

        -- with the row's value
        valued : (number_of g.ended.stop) ≡ 0 → map_rows each (length out₀ / 8) 0 out₀ x₀ y₀ ≡ map_rows each (length out₀ / 8 - i - 1) (suc i) (value_in out i p' height) (lent_after st x₀) (lent_heap_after R.heap y₀)
        valued e =
            from_here ∙ goes each o i x₀ y₀ ran_so (length out₀ / 8 - i - 1) out e
            ∙ ap (λ (u : List ℕ). map_rows each (length out₀ / 8 - i - 1) (suc i) u (lent_after st x₀) (lent_heap_after R.heap y₀))
            (ap (λ (k : ℕ). with_value out i (top_slot (lent_after st x₀) k)) (length_slots p' t' height)
            ∙ value_is p' t' small height cap same_cap R.high p₀ t₀ lp lt dp dt out i)

      -- it did not finish
      pub ends_not : ((number_of g.ended.stop) ≡ 0 → ⊥) → (p'' t'' : List ℕ) → lent_of p'' t'' ≡ lent_after st (lent_of p' t')
          → RowsAre s f args out₀ allowance p₀ t₀ c₀ h₀ out p'' t'' c' h' (answer_of (number_of g.ended.stop) i)
      ends_not n p'' t'' e scan same =
          (λ j. record { answer = answer_of (number_of g.ended.stop) i; output = out; stack = slots_left p'' t'' e j; heap = heap_left j })
          ∙ sym (stops (each scan same) o i x₀ y₀ (ran_so scan same) (length out₀ / 8 - i - 1) out n) ∙ sym (from_here scan same)

      -- it finished; the outputs are out' now
      module _ (done : (number_of g.ended.stop) ≡ 0) (out' : List ℕ) (eo : out' ≡ value_in out i p' height) where
        closing : (n k : ℕ) (p'' t'' : List ℕ) → lent_of p'' t'' ≡ lent_after st (lent_of p' t') → left (answer_of n k) out' p'' t'' c' h' ≡ mapped n k out' (lent_after st x₀) (lent_heap_after R.heap y₀)
        closing n k p'' t'' e = λ j. record { answer = answer_of n k; output = out'; stack = slots_left p'' t'' e j; heap = heap_left j }

        on : (scan : ℕ) (same : other_profile (made_for (read s) (body_of f)) scan ≡ false)
            → map_rows (each scan same) (length out₀ / 8) 0 out₀ x₀ y₀ ≡ map_rows (each scan same) (length out₀ / 8 - i - 1) (i + 1) out' (lent_after st x₀) (lent_heap_after R.heap y₀)
        on scan same =
            let z : suc i ≡ i + 1 = omega arith in
            valued scan same done ∙ ap (λ (u : List ℕ). map_rows (each scan same) (length out₀ / 8 - i - 1) (suc i) u (lent_after st x₀) (lent_heap_after R.heap y₀)) (sym eo)
            ∙ ap (λ (k : ℕ). map_rows (each scan same) (length out₀ / 8 - i - 1) k out' (lent_after st x₀) (lent_heap_after R.heap y₀)) z

        -- it was the last
        pub ends_last : i + 1 ≡ length out₀ / 8 → (p'' t'' : List ℕ) → lent_of p'' t'' ≡ lent_after st (lent_of p' t') → RowsAre s f args out₀ allowance p₀ t₀ c₀ h₀ out' p'' t'' c' h' (answer_of 0 (i + 1))
        ends_last last p'' t'' e scan same =
            let z : length out₀ / 8 - i - 1 ≡ 0 = omega arith in
            closing 0 (i + 1) p'' t'' e ∙ sym (no_rows (each scan same) (i + 1) out' (lent_after st x₀) (lent_heap_after R.heap y₀))
            ∙ ap (λ (k : ℕ). map_rows (each scan same) k (i + 1) out' (lent_after st x₀) (lent_heap_after R.heap y₀)) (sym z) ∙ sym (on scan same)

        -- there is one more
        module _ (another : i + 1 < length out₀ / 8) where
          left_over : length out₀ / 8 - i - 1 ≡ suc (length out₀ / 8 - i - 2)
          left_over = omega arith

          -- which is refused
          pub ends_13 : low_ints (row s readable l f start end b args out₀ M (i + 1)) b (length b) ≡ false → (p'' t'' : List ℕ) → lent_of p'' t'' ≡ lent_after st (lent_of p' t')
              → RowsAre s f args out₀ allowance p₀ t₀ c₀ h₀ out' p'' t'' c' h' (answer_of 13 (i + 1))
          ends_13 low p'' t'' e scan same =
              closing 13 (i + 1) p'' t'' e
              ∙ sym (refused (each scan same) (i + 1) (lent_after st x₀) (lent_heap_after R.heap y₀) 13 (λ z. absurd (omega arith))
              (rejects s readable l f start end b args out₀ M allowance scan same (i + 1) another low (lent_after st x₀) (lent_heap_after R.heap y₀)) (length out₀ / 8 - i - 2) out')
              ∙ ap (λ (k : ℕ). map_rows (each scan same) k (i + 1) out' (lent_after st x₀) (lent_heap_after R.heap y₀)) (sym left_over) ∙ sym (on scan same)

          -- which is admitted, the heap being cleared to c'' and h''
          pub goes_on : low_ints (row s readable l f start end b args out₀ M (i + 1)) b (length b) ≡ true → length out' ≡ length out₀ → (c'' h'' : List ℕ) → Emptied c₀ h₀ c'' h''
              → At (i + 1) (at + length b * 8) out' p' t' c'' h''
          goes_on low long c'' h'' clear =
              record {
                below = another;
                at_is = ap (λ (u : ℕ). u + length b * 8) G.at_is ∙ sym (row_next i (length b * 8));
                low = low;
                rest = λ scan same. on scan same ∙ ap (λ (k : ℕ). map_rows (each scan same) k (i + 1) out' (lent_after st x₀) (lent_heap_after R.heap y₀)) left_over
                    ∙ alike (each scan same) (i + 1) (length out₀ / 8 - i - 2) out' x₀ (lent_after st x₀) y₀ (lent_heap_after R.heap y₀) (same_run scan same)
                    ∙ ap (λ (k : ℕ). map_rows (each scan same) k (i + 1) out' x₀ y₀) counted;
                same_out = long;
                same_payloads = lp;
                same_types = lt;
                rest_payloads = dp;
                rest_types = dt;
                clear = clear;
              }
            where
              counted : suc (length out₀ / 8 - i - 2) ≡ length out₀ / 8 - (i + 1)
              counted = omega arith

              same_run : (scan : ℕ) (same : other_profile (made_for (read s) (body_of f)) scan ≡ false) → each scan same (i + 1) (lent_after st x₀) (lent_heap_after R.heap y₀) ≡ each scan same (i + 1) x₀ y₀
              same_run scan same =
                  let o₂ : Outcome = outcome_of (read s) (body_of f) (arguments (lent_of (row s readable l f start end b args out₀ M (i + 1)) b)) allowance cap size in
                  let so : (x : Lent) (y : LentHeap) → capacity x ≡ cap → heap_capacity y ≡ size → each scan same (i + 1) x y ≡ ran o₂ x y =
                  runs_as s readable l f start end b args out₀ M allowance scan same (i + 1) another low cap size in
                  let z : heap_capacity (lent_heap_of c' h') ≡ size = rw (same_c, same_h) refl in
                  so (lent_after st x₀) (lent_heap_after R.heap y₀) (capacity_after p' t' small height cap same_cap R.high p₀ t₀ lp lt dp dt) (ap heap_capacity (sym heap_left) ∙ z)
                  ∙ again p' t' small height cap same_cap R.high p₀ t₀ lp lt dp dt o₂ (lent_heap_after R.heap y₀)
                  ∙ ap (ran o₂ x₀) (sym heap_left) ∙ heap_past o₂ x₀ c₀ h₀ c' h' same_c same_h past_c past_h
                  ∙ sym (so x₀ y₀ refl refl)

      -- the heap for the next row: as it was, or cleared
      pub unused_clear : g.used ≡ false → Emptied c₀ h₀ c' h'
      unused_clear e =
          let q = R.unused e in
          record {
            empty = rw (q.0, q.1) G.clear.empty;
            past_cells = past_c;
            past_table = past_h;
            same_cells = same_c;
            same_table = same_h;
          }

      pub used_clear : (c'' h'' : List ℕ) → Emptied c' h' c'' h'' → Emptied c₀ h₀ c'' h''
      used_clear c'' h'' e =
          let z : cells_in c' h' ≡ size = rw (same_c, same_h) refl in
          record {
            empty = rw z at e.empty;
            past_cells = (rw z at e.past_cells) ∙ past_c;
            past_table = (rw z at e.past_table) ∙ past_h;
            same_cells = e.same_cells ∙ same_c;
            same_table = e.same_table ∙ same_h;
          }

-- ---- before the loop: no row was run, and the heap was cleared

module _ (s : List ℕ) (readable : refusal s ≡ 0) (l : Sections) (f start end : ℕ) (b args out : List ℕ) (M : Mappable s l f start end b args out) (allowance : ℕ) (p t c h : List ℕ) where
  first_row : 0 < length out / 8
  first_row = omega (arith, M.whole, M.one)

  some_rows : length out / 8 ≡ suc (length out / 8 - 1)
  some_rows = omega (arith, first_row)

  pub row_0 : take (length b * 8) args ≡ row s readable l f start end b args out M 0
  row_0 = let z : 0 * (length b * 8) ≡ 0 = omega arith in rw z refl

  pub inside_0 : length b * 8 ≤ length args
  inside_0 = let z : 0 * (length b * 8) ≡ 0 = omega arith in omega (arith, z, inside s readable l f start end b args out M 0 first_row)

  -- the first row is refused
  pub first_13 : low_ints (take (length b * 8) args) b (length b) ≡ false → RowsAre s f args out allowance p t c h out p t c h (answer_of 13 0)
  first_13 low scan same =
      sym (refused (run_row s f scan args allowance) 0 (lent_of p t) (lent_heap_of c h) 13 (λ z. absurd (omega arith))
      (rejects s readable l f start end b args out M allowance scan same 0 first_row (ap (λ (u : List ℕ). low_ints u b (length b)) (sym row_0) ∙ low) (lent_of p t) (lent_heap_of c h)) (length out / 8 - 1) out)
      ∙ ap (λ (k : ℕ). map_rows (run_row s f scan args allowance) k 0 out (lent_of p t) (lent_heap_of c h)) (sym some_rows)

  module _ (low : low_ints (take (length b * 8) args) b (length b) ≡ true) (c₁ h₁ : List ℕ) (clear : Emptied c h c₁ h₁) where
    low_0 : low_ints (row s readable l f start end b args out M 0) b (length b) ≡ true
    low_0 = ap (λ (u : List ℕ). low_ints u b (length b)) (sym row_0) ∙ low

    same_size : cells_in c₁ h₁ ≡ cells_in c h
    same_size = rw (clear.same_cells, clear.same_table) refl

    pub still_empty : Empty (cells_in c₁ h₁) c₁ h₁
    still_empty = rw same_size clear.empty

    -- the rest of the call on what was cleared
    pub on_cleared : (out' p' t' c' h' : List ℕ) (r : MapAnswer) → RowsAre s f args out allowance p t c₁ h₁ out' p' t' c' h' r → RowsAre s f args out allowance p t c h out' p' t' c' h' r
    on_cleared out' p' t' c' h' r is scan same =
        let each : ℕ → Lent → LentHeap → Ran = run_row s f scan args allowance in
        let o : Outcome = outcome_of (read s) (body_of f) (arguments (lent_of (row s readable l f start end b args out M 0) b)) allowance (slots_in p t) (cells_in c h) in
        let so : (y : LentHeap) → heap_capacity y ≡ cells_in c h → each 0 (lent_of p t) y ≡ ran o (lent_of p t) y =
        λ y e. runs_as s readable l f start end b args out M allowance scan same 0 first_row low_0 (slots_in p t) (cells_in c h) (lent_of p t) y refl e in
        is scan same
        ∙ ap (λ (k : ℕ). map_rows each k 0 out (lent_of p t) (lent_heap_of c₁ h₁)) some_rows
        ∙ alike each 0 (length out / 8 - 1) out (lent_of p t) (lent_of p t) (lent_heap_of c h) (lent_heap_of c₁ h₁)
        (so (lent_heap_of c₁ h₁) same_size ∙ heap_of_lem o (lent_of p t) c h c₁ h₁ clear ∙ sym (so (lent_heap_of c h) refl))
        ∙ ap (λ (k : ℕ). map_rows each k 0 out (lent_of p t) (lent_heap_of c h)) (sym some_rows)

    -- the arguments don't fit
    pub first_20 : slots_in p t < length b → Small c₁ → Small h₁ → (p'' t'' : List ℕ) → lent_of p'' t'' ≡ lent_after (slots_of p t 0) (lent_of p t)
        → RowsAre s f args out allowance p t c h out p'' t'' c₁ h₁ (answer_of 20 0)
    unfolding outcome_of slots_of
    first_20 less sc sh p'' t'' e scan same =
        let each : ℕ → Lent → LentHeap → Ran = run_row s f scan args allowance in
        let n : ℕ = cells_in c h in
        let o : Outcome = outcome 20 0 (record { stack = []; heap = empty_heap n }) in
        let count : length (arguments (lent_of (row s readable l f start end b args out M 0) b)) ≡ length b = length_slots (row s readable l f start end b args out M 0) b (length b) in
        let is : outcome_of (read s) (body_of f) (arguments (lent_of (row s readable l f start end b args out M 0) b)) allowance (slots_in p t) n ≡ o =
        rw (count, lt-leb (length b) (slots_in p t) less) refl in
        let so : each 0 (lent_of p t) (lent_heap_of c h) ≡ ran o (lent_of p t) (lent_heap_of c h) =
        runs_as s readable l f start end b args out M allowance scan same 0 first_row low_0 (slots_in p t) n (lent_of p t) (lent_heap_of c h) refl refl ∙ ap (λ (u : Outcome). ran u (lent_of p t) (lent_heap_of c h)) is in
        let blank : lent_heap_of c₁ h₁ ≡ lent_heap_after (empty_heap n) (lent_heap_of c₁ h₁) =
        λ j. record { cells = cells_blank (cells_in c₁ h₁) c₁ h₁ still_empty sc j; table = table_blank (cells_in c₁ h₁) c₁ h₁ still_empty sh j } in
        let gone : lent_heap_of c₁ h₁ ≡ lent_heap_after (empty_heap n) (lent_heap_of c h) = blank ∙ ap (λ (r : Ran). r.heap) (heap_of_lem o (lent_of p t) c h c₁ h₁ clear) in
        (λ j. record { answer = answer_of 20 0; output = out; stack = e j; heap = gone j })
        ∙ sym (stops each o 0 (lent_of p t) (lent_heap_of c h) so (length out / 8 - 1) out (λ z. absurd (omega arith)))
        ∙ ap (λ (k : ℕ). map_rows each k 0 out (lent_of p t) (lent_heap_of c h)) (sym some_rows)
