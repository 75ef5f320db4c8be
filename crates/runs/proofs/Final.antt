-- The bytes that a run leaves: those of the slots that it holds, zeros up to the capacity, and the untouched rest.
use Prim.Native.Nat.{ℕ, zero, suc, ◌+◌, ◌*◌, ◌-◌, ◌≤◌, ◌<◌}
use native.Mathlib.Omega.{arith}
use mathlib.Core.Path.{◌≡◌, refl, sym, ap, ◌∙◌}
use mathlib.Core.List.{List, [], ◌∷◌, ◌++◌}
use lib.ListN.{length, take, drop, get_or, replicate, length-drop}
use lib.Seq.{take-add, length-take-le, take-suc, drop-drop}
use Rattle.rules.specs.declared.Exception.{Exception}
use Rattle.rules.specs.declared.Tally.{Tally}
use Rattle.rules.specs.Results.{exception_number}
use Rattle.rules.specs.AnswerTypes.{RunAnswer}
use Rattle.rules.specs.AnswerTypes.{Stopped, Finished}
use Rattle.rules.specs.Stack.{Lent, slot_at, slots_of, payload_bytes, type_bytes, payloads_after, types_after}
use Rattle.rules.specs.Heap.{empty_heap, LentHeap, cells_after, table_after}
use Rattle.rules.specs.Machine.{Outcome, outcome}
use Rattle.rules.specs.Answers.{answered, ran}
use Rattle.memory.proofs.Copies.{word_bytes}
use Rattle.heap.specs.Blocks.{bare, blocks_of}
use Rattle.heap.specs.Changes.{Makes}
use Rattle.heap.proofs.Lent.{Small, cells_shown, table_shown}
use Rattle.state.specs.State.{memory_of}
use Rattle.state.proofs.Stack.{length_slots}
use Rattle.runs.specs.Runs.{lent_of, slots_in, lent_heap_of, cells_in, cleared_to, ClosedAs, LeavesAs, Empty, Emptied}

module _ (p t : List ℕ) (small : (i : ℕ) → get_or p i 0 < 256) where
  -- the memory's first bytes are those of its slots
  payloads_held : (n : ℕ) → n * 8 ≤ length p → take (n * 8) p ≡ payload_bytes (slots_of p t n)
  unfolding slots_of payload_bytes slot_at
  payloads_held zero h = refl
  payloads_held (suc n) h =
      let e : suc n * 8 ≡ n * 8 + 8 = omega arith in
      rw (e, take-add (n * 8) 8 p) (rw (payloads_held n (omega arith), word_bytes p small 8 (n * 8) (omega arith)) refl)

  types_held : (n : ℕ) → n ≤ length t → take n t ≡ type_bytes (slots_of p t n)
  unfolding slots_of slot_at type_bytes
  types_held zero h = refl
  types_held (suc n) h = take-suc t n 0 h ∙ ap (λ (l : List ℕ). l ++ (get_or t n 0 ∷ [])) (types_held n (omega arith))

  -- after the slots from the height h to the capacity are cleared, the bytes are the definition's
  payloads_after_lem : (cap h : ℕ) → h ≤ cap → cap * 8 ≤ length p → cleared_to p (h * 8) (cap * 8) ≡ payloads_after cap (slots_of p t h) p
  unfolding payloads_after
  payloads_after_lem cap h l k = let d : cap * 8 - h * 8 ≡ (cap - h) * 8 = omega arith in rw (d, payloads_held h (omega arith), length_slots p t h) refl

  types_after_lem : (cap h : ℕ) → h ≤ cap → cap ≤ length t → cleared_to t h cap ≡ types_after cap (slots_of p t h) t
  unfolding types_after
  types_after_lem cap h l k = rw (types_held h (omega arith), length_slots p t h) refl

-- ---- capacity

module _ (p t : List ℕ) where
  pub capacity_payloads : slots_in p t * 8 ≤ length p
  capacity_payloads = omega arith

  pub capacity_types : slots_in p t ≤ length t
  capacity_types = omega arith

  pub capacity_most : slots_in p t ≤ 4096
  capacity_most = omega arith

-- ---- the answer of a run that ends with h slots in p and t, cleared to p' and t'

module _ (p t p' t' : List ℕ) (small : (i : ℕ) → get_or p i 0 < 256) (n k h cap : ℕ) (ec : cap ≡ slots_in p t) (l : h ≤ cap)
    (ep : p' ≡ cleared_to p (h * 8) (cap * 8)) (et : t' ≡ cleared_to t h cap) where
  abbrev ending : Outcome
  ending = outcome n k (memory_of p t h)

  pub leaves : (r : RunAnswer) → r ≡ answered n (record { steps = k; height = h }) → ClosedAs ending p t p' t' r
  leaves r er =
      let a : p' ≡ payloads_after (slots_in p t) (slots_of p t h) p =
      ep ∙ payloads_after_lem p t small cap h l (omega (arith, capacity_payloads p t)) ∙ ap (λ c. payloads_after c (slots_of p t h) p) ec in
      let b : t' ≡ types_after (slots_in p t) (slots_of p t h) t =
      et ∙ types_after_lem p t small cap h l (omega (arith, capacity_types p t)) ∙ ap (λ c. types_after c (slots_of p t h) t) ec in
      (er ∙ ap (λ j. answered n (record { steps = k; height = j })) (sym (length_slots p t h)), λ i. record { payloads = a i; types = b i })

  pub finished : n ≡ 0 → ClosedAs ending p t p' t' (Finished (record { steps = k; height = h }))
  finished e = leaves _ (rw e refl)

-- what ends with another number than 0 is stopped
pub stopped : (n : ℕ) (t : Tally) → (n ≡ 0 → ⊥) → Stopped n t ≡ answered n t
stopped zero t e = absurd (e refl)
stopped (suc n) t e = refl

-- no exception's number is 0
pub exception_some : (e : Exception) → exception_number e ≡ 0 → ⊥
exception_some e z = grind arith

-- ---- the lent heap

-- with the slots
pub joined : (o : Outcome) (p t c b p' t' c' b' : List ℕ) (r : RunAnswer) → ClosedAs o p t p' t' r → c' ≡ cells_after (cells_in c b) o.memory.heap.blocks c
    → b' ≡ table_after (cells_in c b) o.memory.heap.blocks b → LeavesAs o p t c b p' t' c' b' r
joined o p t c b p' t' c' b' r x ec eb = λ i. record { answer = x.0 i; stack = x.1 i; heap = record { cells = ec i; table = eb i } }

-- that no block was taken from
module _ (n : ℕ) (c b : List ℕ) (empty : Empty n c b) where
  pub cells_blank : Small c → c ≡ cells_after n [] c
  unfolding blocks_of
  cells_blank small = cells_shown n bare [] c b (empty []) small

  pub table_blank : Small b → b ≡ table_after n [] b
  unfolding blocks_of
  table_blank small = table_shown n bare [] c b (empty []) small

pub emptied : (n : ℕ) (c b c' b' : List ℕ) → n ≡ cells_in c b → ((d : List ℕ) → Makes n bare d c b c' b' (empty_heap n)) → Emptied c b c' b'
emptied n c b c' b' e m =
    record {
      empty = rw (← e) (λ d. (m d).sane);
      past_cells = rw (← e) (m []).past_cells;
      past_table = rw (← e) (m []).past_table;
      same_cells = (m []).same_cells;
      same_table = (m []).same_table;
    }

-- ---- what a run leaves depends on the capacities and on what lies past them

pub stack_of : (o : Outcome) (p t p' t' : List ℕ) (y : LentHeap) (cap : ℕ) → cap ≡ slots_in p t → length p' ≡ length p → length t' ≡ length t
    → drop (cap * 8) p' ≡ drop (cap * 8) p → drop cap t' ≡ drop cap t → ran o (lent_of p' t') y ≡ ran o (lent_of p t) y
unfolding payloads_after types_after
stack_of o p t p' t' y cap ec lp lt dp dt = rw (lp, lt, ← ec, dp, dt) refl

pub heap_past : (o : Outcome) (x : Lent) (c b c' b' : List ℕ) → length c' ≡ length c → length b' ≡ length b → drop (cells_in c b * 8) c' ≡ drop (cells_in c b * 8) c
    → drop (cells_in c b * 24) b' ≡ drop (cells_in c b * 24) b → ran o x (lent_heap_of c' b') ≡ ran o x (lent_heap_of c b)
unfolding cells_after table_after
heap_past o x c b c' b' lc lb dc db =
    let n : ℕ = cells_in c b in
    let u : 8 * n ≡ n * 8 = omega arith in
    let v : 24 * n ≡ n * 24 = omega arith in
    let same : cells_in c' b' ≡ n = rw (lc, lb) refl in
    rw same (rw (u, v, dc, db) refl)

pub heap_of_lem : (o : Outcome) (x : Lent) (c b c' b' : List ℕ) → Emptied c b c' b' → ran o x (lent_heap_of c' b') ≡ ran o x (lent_heap_of c b)
heap_of_lem o x c b c' b' e = heap_past o x c b c' b' e.same_cells e.same_table e.past_cells e.past_table

-- ---- clearing

-- a part of a slice cleared
pub cleared : (s ys : List ℕ) (a e : ℕ) → a ≤ e → e ≤ length s → ys ≡ replicate (length (take (e - a) (drop a s))) 0
    → take a s ++ (ys ++ drop (e - a) (drop a s)) ≡ cleared_to s a e
cleared s ys a e h g q =
    let l : length (take (e - a) (drop a s)) ≡ e - a = length-take-le (e - a) (drop a s) (simp length-drop (omega arith)) in
    let k : a + (e - a) ≡ e = omega arith in
    rw (q, l, drop-drop, k)
