-- What the paper says of every run: `claims`.
use Rattle.std.specs.Prelude.{◌≡◌, refl, ℕ, ◌≤◌, List, length, leb}
use Rattle.std.proofs.Common.{sym, arith}
use Rattle.std.proofs.Math.Path.{subst}
use Rattle.soundness.specs.Names.{int, Slot}
use Rattle.rules.specs.Tables.{body_of}
use Rattle.rules.specs.ModuleFile.{read, tables_in}
use Rattle.rules.specs.Stack.{Lent, capacity}
use Rattle.rules.specs.Heap.{LentHeap, heap_capacity, Heap}
use Rattle.rules.specs.Machine.{State, Outcome}
use Rattle.rules.specs.Answers.{arguments, run_refusal, scan_refusal, start_state, outcome_of, run_number, run_module}
use Rattle.rules.specs.Claims.{RunEnd, raised, AreBytes, MomentOf, Each, SlotsNarrow, CellsNarrow, Claims}
use Rattle.rules.specs.Demand3.{Leaves}
use Rattle.soundness.specs.Tests.{decide, leb_is}
use Rattle.soundness.specs.Readable.{Orderly, orderly, cut_from}
use Rattle.soundness.specs.Cutting.{good_file}
use Rattle.soundness.specs.Started.{All, all_at, Closed, Fit, has_instruction, moment_fit, left_fit, run_range}
use Rattle.soundness.specs.Layout.{each_map}
use Rattle.soundness.specs.Heaps.{CellsOk, HeapOk, packing_keeps}
use Rattle.soundness.specs.Narrow.{Narrow, narrow_closed}
use Rattle.soundness.specs.Begun.{start_fit}
use Rattle.soundness.specs.Whole.{run_readable, started, scan_started, answered_number}
use Rattle.soundness.specs.Returned.{returned}

module _ (s : List ℕ) (f : ℕ) (args : Lent) (e : run_refusal s f args ≡ 0) where
  abbrev P : Slot → Type 0
  P = Narrow (AreBytes s)

  O : Orderly (read s)
  O = orderly (tables_in s) (good_file s (run_readable s f args e))

  C : Closed (read s) P
  C = narrow_closed s (run_readable s f args e)

  start : (cap n : ℕ) → length (arguments args) ≤ cap → Fit (read s) P cap (start_state (read s) (body_of f) (arguments args) n)
  start = start_fit s (run_readable s f args e) (body_of f) (arguments args) (started s f args e)

  at_moment : (cap : ℕ) (t : State) → MomentOf s f args cap t → Fit (read s) P cap t
  at_moment cap t h = moment_fit (read s) O P C cap (start cap h.1 h.2) h.3

  ends : (scan : ℕ) → scan_refusal s f args scan ≡ 0 → (n : ℕ) (x : Lent) (y : LentHeap) → RunEnd (run_number (run_module s f args scan n x y).answer)
  unfolding outcome_of
  ends scan h n x y =
      subst RunEnd (sym (answered_number s f args scan h n x y))
      (decide (leb (length (arguments args)) (capacity x))
      (λ z. rw z (run_range (read s) O P C (capacity x) n 0 (start_state (read s) (body_of f) (arguments args) (heap_capacity y)) (start (capacity x) (heap_capacity y) (leb_is (length (arguments args)) (capacity x) z))))
      (λ z. rw z (raised 20 (omega arith) (omega arith))))

  narrow_slots : AreBytes s → (st : List Slot) → All P st → SlotsNarrow st
  narrow_slots B st a y v q k = all_at P st a y v q B k

  narrow_cells : AreBytes s → (h : Heap) → HeapOk (read s) P h → Each (CellsNarrow (read s)) h.blocks
  narrow_cells B h H = each_map (CellsOk (read s) P) (CellsNarrow (read s)) (λ b c i q. c i int q B refl) h.blocks H.cells

  narrow_left : AreBytes s → (cap : ℕ) → length (arguments args) ≤ cap → (n k : ℕ) (o : Outcome) → Leaves (read s) cap (start_state (read s) (body_of f) (arguments args) n) k o
      → SlotsNarrow o.memory.stack × Each (CellsNarrow (read s)) o.memory.heap.blocks
  narrow_left B cap l n k o h = let x = left_fit (read s) O P C cap (start cap n l) h in (narrow_slots B o.memory.stack x.0, narrow_cells B o.memory.heap x.1)

pub claims : Claims
claims =
    record {
      answers = λ s f args scan h. ends s f args (scan_started s f args scan h) scan h;
      found = λ s f args e cap t h q. let x = has_instruction (read s) (O s f args e) (P s f args e) (C s f args e) cap t (at_moment s f args e cap t h) q in (x.0, x.1);
      locals_live = λ s f args e cap t h. let I = at_moment s f args e cap t h in (I.frames.1, I.frames.0.below);
      floors = λ s f args e cap t h. (at_moment s f args e cap t h).frames.0.floor_is;
      bounded = λ s f args e cap t h. let I = at_moment s f args e cap t h in (I.depth, I.height, I.frames.0.few);
      ints_narrow = λ s B f args e cap t h. narrow_slots s f args e B t.memory.stack (at_moment s f args e cap t h).slots;
      cells_narrow = λ s B f args e cap t h. narrow_cells s f args e B t.memory.heap (at_moment s f args e cap t h).heap;
      left_narrow = λ s B f args e cap l n k o h. narrow_left s f args e B cap l n k o h;
      heap_laid = λ s f args e cap t h. (at_moment s f args e cap t h).heap.places;
      returned = returned;
      packing_keeps = packing_keeps;
      cut_from = cut_from;
    }
