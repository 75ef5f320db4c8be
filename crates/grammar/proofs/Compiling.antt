-- 02, A4: a formula line has one reading, its module passes the checker, and a run of it gives the reading's value, or 24.
use Rattle.std.specs.Prelude.{◌≡◌, ℕ, ◌≤◌, ◌<◌, false, cond, List, [], ◌∷◌, length, take, drop, ltb}
use Rattle.std.proofs.Math.Path.{refl}
use Rattle.std.proofs.Common.{sym, ap, subst, arith}
use Rattle.std.proofs.Math.Option.{Option, none, some}
use Rattle.std.proofs.Math.Seq.{take-append_seam}
use Rattle.soundness.specs.Names.{int, Untyped, Accepted, WriteAnswer, Unwritten, Written}
use Rattle.rules.specs.Bytes.{number, bytes, word}
use Rattle.rules.specs.Numbers.{output_too_short, line_too_long, not_in_grammar, too_deep, too_many_operands}
use Rattle.rules.specs.Tables.{module_of}
use Rattle.rules.specs.ModuleFile.{labels, tables_in, refusal, read}
use Rattle.rules.specs.Writing.{file_of}
use Rattle.rules.specs.Stack.{slot, Lent, capacity, slot_at, slots_of, payload_bytes, type_bytes, payloads_after, types_after, lent_after}
use Rattle.rules.specs.Instructions.{num}
use Rattle.rules.specs.Heap.{LentHeap, heap_capacity}
use Rattle.rules.specs.Machine.{Outcome, run}
use Rattle.rules.specs.Answers.{check, top_slot, arguments, run_refusal, scan_refusal, outcome_of, ran, run_module}
use Rattle.rules.specs.Demand3.{IsAccepted}
use Rattle.rules.specs.Grammar.{Tree, Line, depth}
use Rattle.rules.specs.Reading.{reading}
use Rattle.rules.specs.Formula.{need, formula_tables, value, compiling, formula}
use Rattle.rules.specs.Compiled.{parameters, three_ints, GivesValue, Compiles}
use Rattle.memory.proofs.Words.{number_bytes}
use Rattle.soundness.specs.Tests.{decide, ltb_is, ltb_isnt, ltb_yes, ltb_no, leb_yes}
use Rattle.soundness.specs.Cutting.{labels_length}
use Rattle.soundness.specs.Saves.{file_readable}
use Rattle.grammar.specs.Unique.{line_reads, unique}
use Rattle.grammar.specs.Derived.{reading_spells}
use Rattle.grammar.specs.Proper.{Proper, spells_proper, count, postfix_count, spells_count}
use Rattle.grammar.specs.Evaluated.{here, three, three_small, Fits, value_fits, Ends, code_runs}
use Rattle.grammar.specs.Typed.{locals, Holds}
use Rattle.grammar.specs.Needed.{check_is}
use Rattle.grammar.proofs.Held.{tables_good, holds}

-- ---- three ints as arguments

arguments_are : (r g b : ℕ) → r < 4294967296 → g < 4294967296 → b < 4294967296 → arguments (three_ints r g b) ≡ three r g b
unfolding slots_of slot_at word
arguments_are r g b hr hg hb =
    let r' : number (bytes 8 r) ≡ r = number_bytes 8 r (omega arith) in
    let g' : number (bytes 8 g) ≡ g = number_bytes 8 g (omega arith) in
    let b' : number (bytes 8 b) ≡ b = number_bytes 8 b (omega arith) in
    rw (r', g', b') refl

-- the slot that a run left
top_is : (v : ℕ) (x : Lent) → v < 4294967296 → 1 ≤ capacity x → top_slot (lent_after (slot 3 v ∷ []) x) 1 ≡ some (slot 3 v)
unfolding slot_at payloads_after types_after payload_bytes type_bytes word
top_is v x h c = ap (λ (k : ℕ). some (slot 3 k)) (number_bytes 8 v (omega arith))

-- an int's value fits, so that its payload is the value
gives : (v : Option ℕ) → Fits v → (x : Lent) (y : LentHeap) → 1 ≤ capacity x → (n : ℕ) (o : Outcome) → Ends n v o → GivesValue v (ran o x y)
gives none f x y c n o d = rw d.2 refl
gives (some k) f x y c n o d = (rw d.1 refl, rw d.1 (top_is k x f c))

-- ---- the file of a tree of at most 256 instructions

abbrev pub file_for : Tree → List ℕ
file_for t = file_of (formula_tables t)

module _ (t : Tree) (w : Proper t) (few : count t ≤ 256) where
  readable : (refusal (file_for t) ≡ 0) × (tables_in (file_for t) ≡ formula_tables t)
  readable = file_readable (formula_tables t) (tables_good t w few)

  file_holds : Holds (read (file_for t)) t
  file_holds = subst (λ x. Holds (module_of x) t) (sym readable.1) (holds t w few)

  no_labels : labels (file_for t) ≡ 0
  no_labels = omega (arith, labels_length (file_for t) readable.0, ap (λ x. length x.labels) readable.1)

  -- in any room
  tree_checked : (room : List ℕ) → (check (file_for t) room).answer ≡ cond (ltb 32 (need t)) (Untyped 0) Accepted
  tree_checked room = check_is (file_for t) t file_holds w readable.0 room (rw no_labels (omega arith))

  tree_accepted : need t ≤ 32 → (room : List ℕ) → IsAccepted (file_for t) room
  tree_accepted n room = rw (tree_checked room, ltb_no 32 (need t) n) refl

  module _ (r g b : ℕ) (hr : r < 4294967296) (hg : g < 4294967296) (hb : b < 4294967296) where
    started : run_refusal (file_for t) 0 (three_ints r g b) ≡ 0
    unfolding run_refusal
    started =
        rw (readable.0, file_holds.is_function, arguments_are r g b hr hg hb, ltb_yes r 4294967296 hr, ltb_yes g 4294967296 hg, ltb_yes b 4294967296 hb) refl

    -- for any scan
    scanned : (scan : ℕ) → scan_refusal (file_for t) 0 (three_ints r g b) scan ≡ 0
    unfolding scan_refusal
    scanned scan = rw (started, file_holds.is_function) refl

    ran_is : (scan A : ℕ) (x : Lent) (y : LentHeap) → 3 ≤ capacity x
        → run_module (file_for t) 0 (three_ints r g b) scan A x y ≡ ran (run (read (file_for t)) (capacity x) A 0 (here (heap_capacity y) file_holds.stop 0 (three r g b))) x y
    unfolding run_module outcome_of
    ran_is scan A x y c = rw (scanned scan, arguments_are r g b hr hg hb, leb_yes 3 (capacity x) c, file_holds.is_function) refl

    tree_gives : need t ≤ 32 → (scan A : ℕ) (x : Lent) (y : LentHeap) → 257 ≤ A → 35 ≤ capacity x
        → GivesValue (value (parameters r g b) t) (run_module (file_for t) 0 (three_ints r g b) scan A x y)
    tree_gives n scan A x y l c =
        let h : Holds (read (file_for t)) t = file_holds in
        rw (ran_is scan A x y (omega arith))
        (gives (value (parameters r g b) t) (value_fits (parameters r g b) (three_small r g b hr hg hb) t w) x y (omega arith) (heap_capacity y) (run (read (file_for t)) (capacity x) A 0 (here (heap_capacity y) h.stop 0 (three r g b)))
        (code_runs (read (file_for t)) (capacity x) (heap_capacity y) h.stop (record { start = 0; end = h.stop; params = locals; result = some (num int); profile = 0 }) h.is_function refl r g b hr hg hb t A w h.laid h.pool (omega arith) (omega (arith, postfix_count t 0))))

-- ---- lines

-- a line that is compiled: it is in the grammar, needs at most 32 operands, and the output begins with its file
pub record CompiledAs (line out : List ℕ) (n : ℕ) : Type 0 where
  tree : Tree
  derived : Line line tree
  narrow : need tree ≤ 32
  few : count tree ≤ 256
  file : take n (formula line out).output ≡ file_for tree

-- what the answer tells of the line; the refusals but 43 are 16, 40, 41 and 42
pub data Answered (line out : List ℕ) : WriteAnswer → Type 0 where
  refused : (k : ℕ) → 0 < k → k < too_many_operands → Answered line out (Unwritten k)
  overfull : (t : Tree) → Line line t → length line ≤ 256 → 32 < need t → Answered line out (Unwritten too_many_operands)
  compiled : (n : ℕ) → CompiledAs line out n → Answered line out (Written n)

pub answered : (line out : List ℕ) → Answered line out (formula line out).answer
unfolding formula
answered line out = decide (ltb 256 (length line)) (λ z. rw z (refused line_too_long (omega arith) (omega arith))) (λ z. rw z (go (reading line) refl z))
  where
    go : (x : Option Tree) → reading line ≡ x → ltb 256 (length line) ≡ false → Answered line out (compiling x out).answer
    go none q z = refused not_in_grammar (omega arith) (omega arith)
    go (some t) q z =
        let h : Line line t = reading_spells line t q in
        let short : length line ≤ 256 = ltb_isnt 256 (length line) z in
        decide (ltb 16 (depth t)) (λ d. rw d (refused too_deep (omega arith) (omega arith)))
        (λ d. decide (ltb 32 (need t)) (λ k. rw (d, k) (overfull t h short (ltb_is 32 (need t) k)))
        (λ k. decide (ltb (length out) (length (file_for t))) (λ l. rw (d, k, l) (refused output_too_short (omega arith) (omega arith)))
        (λ l.
        rw (d, k, l)
        (compiled (length (file_for t))
        (record {
          tree = t;
          derived = h;
          narrow = ltb_isnt 32 (need t) k;
          few = omega (arith, spells_count h);
          file = rw (z, q, d, k, l) (take-append_seam (file_for t) (drop (length (file_for t)) out));
        })))))

compiled_as : (line out : List ℕ) (n : ℕ) → (formula line out).answer ≡ Written n → CompiledAs line out n
compiled_as line out n e = go (answered line out) e
  where
    go : {a : WriteAnswer} → Answered line out a → a ≡ Written n → CompiledAs line out n
    go (refused k l u) q = absurd (let z : ◌≡◌ {A = ℕ} 0 1 = cc in omega arith)
    go (overfull t d l k) q = absurd (let z : ◌≡◌ {A = ℕ} 0 1 = cc in omega arith)
    go (compiled n' c) q = let z : n' ≡ n = cc in subst (CompiledAs line out) z c

pub compiles : Compiles
compiles =
    record {
      derived = reading_spells;
      read = λ s t d. line_reads d;
      unique = λ s t u a b. unique a b;
      unique_within = λ d s t u a b. unique a.line b.line;
      needed = λ line t d l room. tree_checked t (spells_proper d) (omega (arith, spells_count d)) room;
      accepted = λ line out n e room. let c = compiled_as line out n e in rw c.file (tree_accepted c.tree (spells_proper c.derived) c.few c.narrow room);
      gives = λ line out n e r g b hr hg hb scan A x y l k.
          let c = compiled_as line out n e in
          rw c.file (c.tree, c.derived, tree_gives c.tree (spells_proper c.derived) c.few r g b hr hg hb c.narrow scan A x y l k);
    }
