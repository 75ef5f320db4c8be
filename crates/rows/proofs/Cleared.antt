-- Slots that are cleared from the height to the capacity, and a heap that a run left: lengths, what lies past them, the value under the
-- height.
use Prim.Native.Nat.{ℕ, zero, suc, ◌+◌, ◌*◌, ◌-◌, ◌≤◌, ◌<◌}
use native.Mathlib.Omega.{arith}
use mathlib.Core.Path.{◌≡◌, refl, sym, ap, ◌∙◌}
use mathlib.Core.List.{List, [], ◌++◌, append_assoc}
use lib.ListN.{length, take, drop, replicate, length-append, length-drop, length-replicate, take-append-drop}
use lib.Seq.{length-take-le, drop_at}
use Rattle.rules.specs.Bytes.{word, written, zeros}
use Rattle.rules.specs.Stack.{Lent, capacity, slot_at, slots_of, lent_after}
use Rattle.rules.specs.Heap.{Block, empty_heap, LentHeap, cells_after, table_after, entries, cell_bytes}
use Rattle.rules.specs.Machine.{Outcome, outcome}
use Rattle.rules.specs.Answers.{top_slot, Ran, ran}
use Rattle.memory.proofs.Words.{word_front}
use Rattle.heap.proofs.Lent.{Small}
use Rattle.runs.specs.Runs.{lent_of, slots_in, lent_heap_of, cleared_to}
use Rattle.runs.proofs.Final.{capacity_payloads, capacity_types, finished, stack_of}
use Rattle.rules.specs.Mapping.{with_value}
use Rattle.rows.specs.Rows.{value_in}

module _ (s : List ℕ) (a e : ℕ) (h : a ≤ e) (l : e ≤ length s) where
  front : length (take a s) ≡ a
  front = length-take-le a s (omega arith)

  blank : length {A = ℕ} (replicate (e - a) 0) ≡ e - a
  blank = length-replicate (e - a) 0

  pub length_cleared : length (cleared_to s a e) ≡ length s
  length_cleared = simp (length-append, length-drop) (omega (arith, front, blank))

  pub drop_cleared : drop e (cleared_to s a e) ≡ drop e s
  drop_cleared =
      ap (drop e) (sym (append_assoc (take a s) (replicate (e - a) 0) (drop e s)))
      ∙ drop_at (take a s ++ replicate (e - a) 0) (drop e s) e (length-append (take a s) (replicate (e - a) 0) ∙ omega (arith, front, blank))

  -- a number below a is as it was
  pub word_cleared : (n j : ℕ) → j + n ≤ a → word n (cleared_to s a e) j ≡ word n s j
  word_cleared n j k =
      let m : j + n ≤ length (take a s) = omega (arith, front) in
      word_front n (take a s) (replicate (e - a) 0 ++ drop e s) j m ∙ sym (word_front n (take a s) (drop a s) j m) ∙ ap (λ (x : List ℕ). word n x j) (take-append-drop a s)

-- ---- what a run leaves of the slots p and t, of which the first h are in use

module _ (p t : List ℕ) (small : Small p) (h cap : ℕ) (ec : cap ≡ slots_in p t) (l : h ≤ cap) where
  abbrev pc : List ℕ
  pc = cleared_to p (h * 8) (cap * 8)

  abbrev tc : List ℕ
  tc = cleared_to t h cap

  closed : lent_of pc tc ≡ lent_after (slots_of p t h) (lent_of p t)
  closed = (finished p t pc tc small 0 0 h cap ec l refl refl refl).1

  long_payloads : cap * 8 ≤ length p
  long_payloads = omega (arith, capacity_payloads p t)

  long_types : cap ≤ length t
  long_types = omega (arith, capacity_types p t)

  -- the slots p₀ and t₀ that were lent have the same size, and the same lies past the capacity
  module _ (p₀ t₀ : List ℕ) (lp : length p ≡ length p₀) (lt : length t ≡ length t₀) (dp : drop (cap * 8) p ≡ drop (cap * 8) p₀) (dt : drop cap t ≡ drop cap t₀) where
    first : cap ≡ slots_in p₀ t₀
    first = ec ∙ rw (lp, lt) refl

    pub after_is : lent_after (slots_of p t h) (lent_of p₀ t₀) ≡ lent_of pc tc
    after_is =
        let o : Outcome = outcome 0 0 (record { stack = slots_of p t h; heap = empty_heap 0 }) in
        sym (ap (λ (r : Ran). r.stack) (stack_of o p₀ t₀ p t (lent_heap_of [] []) cap first lp lt dp dt)) ∙ sym closed

    -- another run leaves the same of what was left as of what was lent
    pub again : (o : Outcome) (y : LentHeap) → ran o (lent_after (slots_of p t h) (lent_of p₀ t₀)) y ≡ ran o (lent_of p₀ t₀) y
    again o y =
        ap (λ (x : Lent). ran o x y) after_is
        ∙ stack_of o p₀ t₀ pc tc y cap first
        (length_cleared p (h * 8) (cap * 8) (omega arith) long_payloads ∙ lp) (length_cleared t h cap l long_types ∙ lt)
        (drop_cleared p (h * 8) (cap * 8) (omega arith) long_payloads ∙ dp) (drop_cleared t h cap l long_types ∙ dt)

    pub capacity_after : capacity (lent_after (slots_of p t h) (lent_of p₀ t₀)) ≡ cap
    capacity_after =
        ap capacity after_is ∙ rw (length_cleared p (h * 8) (cap * 8) (omega arith) long_payloads, length_cleared t h cap l long_types) (sym ec)

    -- the value under the height
    pub value_is : (out : List ℕ) (i : ℕ) → with_value out i (top_slot (lent_after (slots_of p t h) (lent_of p₀ t₀)) h) ≡ value_in out i p h
    unfolding slot_at
    value_is out i = rw after_is (go h (omega arith))
      where
        go : (k : ℕ) → k ≤ h → with_value out i (top_slot (lent_of pc tc) k) ≡ value_in out i p k
        go zero m = refl
        go (suc k) m =
            let z : 8 * i ≡ i * 8 = omega arith in
            rw (z, word_cleared p (h * 8) (cap * 8) (omega arith) long_payloads 8 (k * 8) (omega arith)) refl

-- ---- what it leaves of n cells c and of a table b

module _ (n : ℕ) (bs : List Block) where
  tail_same : (x s : List ℕ) (a : ℕ) (s' : List ℕ) → s' ≡ x ++ drop a s → length s' ≡ length s → a ≤ length s → drop a s' ≡ drop a s
  tail_same x s a s' e l h =
      let k : length x ≡ a = let q : length s' ≡ length x + length (drop a s) = ap length e ∙ length-append x (drop a s) in omega (arith, q, l, length-drop a s) in
      ap (drop a) e ∙ drop_at x (drop a s) a k

  pub past_cells : (c c' : List ℕ) → c' ≡ cells_after n bs c → length c' ≡ length c → n * 8 ≤ length c → drop (n * 8) c' ≡ drop (n * 8) c
  unfolding cells_after
  past_cells c c' e l h = let z : 8 * n ≡ n * 8 = omega arith in tail_same (cell_bytes bs n) c (n * 8) c' (rw z at e) l h

  pub past_table : (b b' : List ℕ) → b' ≡ table_after n bs b → length b' ≡ length b → n * 24 ≤ length b → drop (n * 24) b' ≡ drop (n * 24) b
  unfolding table_after
  past_table b b' e l h =
      let z : 24 * n ≡ n * 24 = omega arith in
      tail_same (entries bs ++ zeros (24 * (n - length bs))) b (n * 24) b' ((rw z at e) ∙ sym (append_assoc (entries bs) (zeros (24 * (n - length bs))) (drop (n * 24) b))) l h

-- ---- the value that was put

pub value_put : (out : List ℕ) (i : ℕ) (p : List ℕ) (h v : ℕ) (out' : List ℕ) → 0 < h → v ≡ word 8 p ((h - 1) * 8) → out' ≡ written 8 out (i * 8) v → out' ≡ value_in out i p h
value_put out i p zero v out' l ev e = absurd (omega arith)
value_put out i p (suc h) v out' l ev e = let z : suc h - 1 ≡ h = omega arith in e ∙ ap (written 8 out (i * 8)) (ev ∙ ap (λ (j : ℕ). word 8 p (j * 8)) z)

pub value_none : (out : List ℕ) (i : ℕ) (p : List ℕ) (h : ℕ) → h ≤ 0 → out ≡ value_in out i p h
value_none out i p zero l = refl
value_none out i p (suc h) l = absurd (omega arith)
