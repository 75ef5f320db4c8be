-- A run that goes on with more words: they begin with the few, so the state is the same; and what the run from it leaves.
use Prim.Native.Nat.{ℕ, ◌+◌, ◌*◌, ◌-◌, ◌≤◌, ◌<◌}
use native.Mathlib.Omega.{arith}
use mathlib.Core.Path.{◌≡◌, refl, ap, ◌∙◌, subst}
use mathlib.Core.Logic.{◌⊎◌, ⊎_elim}
use mathlib.Core.Bool.{true, false}
use mathlib.Core.List.{List}
use lib.ListN.{length, take, drop, get_or, set}
use lib.Seq.{get_or-set_same, get_or-set_other}
use Rattle.rules.specs.AnswerTypes.{RunAnswer}
use Rattle.rules.specs.Tables.{Module}
use Rattle.rules.specs.ModuleFile.{edition, code_at, read, refusal}
use Rattle.rules.specs.Heap.{Heap, empty_heap}
use Rattle.rules.specs.Machine.{State, Outcome, outcome, keeping, run}
use Rattle.rules.specs.Answers.{ran}
use Rattle.soundness.specs.Framed.{with_heap}
use Rattle.soundness.specs.Translated.{InKeys}
use Rattle.keys.specs.Keys.{Keyed}
use Rattle.keys.proofs.Files.{code_part, first_keyed}
use Rattle.state.specs.State.{depth_of, memory_of, state_of, Ready}
use Rattle.state.specs.declared.Registers.{Registers}
use Rattle.state.proofs.Stack.{split_lt}
use Rattle.state.proofs.Locals.{Alike, locals_same, callers_alike, waiting_alike}
use Rattle.machine.specs.declared.Ended.{Ended}
use Rattle.machine.specs.Ends.{number_of, Fits, left, RunsTo}
use Rattle.heap.proofs.Lent.{Small}
use Rattle.runs.specs.Runs.{lent_of, slots_in, lent_heap_of, cells_in, ClosedAs, LeavesAs, Empty, Standing, rest_of, RestIs, RunsOver, Begins}
use Rattle.runs.proofs.Final.{joined, cells_blank, table_blank, stack_of}

-- ---- edition 1's code

-- translated from the file's part from a on
pub lent_old : (s : List ℕ) → refusal s ≡ 0 → (a : ℕ) → a ≡ code_at s → edition s ≡ 1 → {own : List ℕ} → InKeys 1 (take (length s - a) (drop a s)) own → Keyed s own 0
lent_old s readable a at e {own} k = first_keyed s readable a at e own (subst (λ (code : List ℕ). InKeys 1 code own) (code_part s a) k)

-- ---- words copied

pub copied_more : (to from : List ℕ) (i : ℕ) → ((j : ℕ) → j < i → get_or to j 0 ≡ get_or from j 0) → i < length to
    → (j : ℕ) → j < i + 1 → get_or (set to i (get_or from i 0)) j 0 ≡ get_or from j 0
copied_more to from i s h j l =
    ⊎_elim
    (λ (k : j < i). get_or-set_other to i j (get_or from i 0) 0 (λ e. omega arith) ∙ s j k)
    (λ (k : i ≤ j). let e : j ≡ i = omega arith in rw e (get_or-set_same to i (get_or from i 0) 0 h))
    (split_lt j i)

-- ---- the state in more words

module _ {cap : ℕ} {r : Registers} {p t f : List ℕ} (f' : List ℕ) (k : Ready cap r p t f) (b : Begins f' f) where
  below : Alike f' f (depth_of r * 24)
  below i l = b i (omega (arith, k.words, k.whole))

  pub state_longer : state_of r p t f' ≡ state_of r p t f
  state_longer =
      rw (
        b r.frame (omega (arith, k.words)),
        b (r.frame + 2) (omega (arith, k.words)),
        b (r.frame + 3) (omega (arith, k.words)),
        locals_same f' f r.frame (get_or f (r.frame + 3) 0) (λ i l. b (r.frame + 4 + i) (omega (arith, k.words, k.few))),
        callers_alike f' f (depth_of r) _ k.waiting below,
      ) refl

  ready_longer : length f ≤ length f' → length f' ≤ 1536 → Ready cap r p t f'
  ready_longer longer most =
      record {
        small = k.small;
        payloads = k.payloads;
        types = k.types;
        most = most;
        words = omega (arith, k.words);
        whole = k.whole;
        high = k.high;
        over = k.over;
        low = rw (b (r.frame + 2) (omega (arith, k.words))) k.low;
        few = rw (b (r.frame + 3) (omega (arith, k.words))) k.few;
        near = k.near;
        waiting = rw (b (r.frame + 2) (omega (arith, k.words))) (waiting_alike f' f (depth_of r) _ below k.waiting);
      }

fits_longer : {m : Module} {cap : ℕ} {r : Registers} {p t f : List ℕ} (f' : List ℕ) → Fits m cap r p t f → Begins f' f → length f ≤ length f' → length f' ≤ 1536
    → Fits m cap r p t f'
fits_longer f' k b longer most = record { ready = ready_longer f' k.ready b longer most; fit = rw (state_longer f' k.ready b) k.fit }

-- so the rest of the run is the same
pub rest_longer : {s : List ℕ} {cap a : ℕ} {e : Ended} {p t f c b : List ℕ} (f' : List ℕ) {p' t' c' b' : List ℕ} {x : RunAnswer} → Standing s cap e a p t f c b → Begins f' f
    → RestIs s cap e a p t f' c b p' t' c' b' x → RestIs s cap e a p t f c b p' t' c' b' x
rest_longer {s} {cap} {a} {e} {p} {t} {f} {c} {b} f' k begins left =
    left
    ∙ ap (λ (st : State). ran (run (read s) cap e.rest (a - e.rest) (with_heap (empty_heap (cells_in c b)) st)) (lent_of p t) (lent_heap_of c b)) (state_longer f' k.fits.ready begins)

pub stands_longer : {s : List ℕ} {cap a : ℕ} {e : Ended} {p t f c b : List ℕ} (f' : List ℕ) → Standing s cap e a p t f c b → Begins f' f → length f' ≡ 1536
    → Standing s cap e a p t f' c b
stands_longer f' k begins all =
    record { slots = k.slots; left = k.left; fits = fits_longer f' k.fits begins (omega (arith, k.fits.ready.most)) (omega arith); empty = k.empty }

-- ---- what a run leaves: n steps from these registers and bytes, of which it ended as e without the heap

module _ (m : Module) (cap n : ℕ) (r : Registers) (p t f : List ℕ) (e : Ended) (p₂ t₂ f₂ : List ℕ) (ec : cap ≡ slots_in p t)
    (d : RunsTo m cap n (state_of r p t f) e p t f p₂ t₂ f₂) where
  pub still : cap ≡ slots_in p₂ t₂
  still = rw (d.same_payloads, d.same_types) ec

  module _ (c b p' t' c' b' : List ℕ) (x : RunAnswer) where
    abbrev over : State → State
    over s = with_heap (empty_heap (cells_in c b)) s

    -- what was left of p₂ and t₂ was left of p and t
    back : (o u : Outcome) → o ≡ u → LeavesAs o p₂ t₂ c b p' t' c' b' x → LeavesAs u p t c b p' t' c' b' x
    back o u q left =
        left ∙ stack_of o p t p₂ t₂ (lent_heap_of c b) cap ec d.same_payloads d.same_types d.rest_payloads d.rest_types
        ∙ ap (λ (y : Outcome). ran y (lent_of p t) (lent_heap_of c b)) q

    -- the run has gone on
    pub closed_deeper : (k j : ℕ) → j ≡ k + (n - e.rest) → ((number_of e.stop) ≡ 20) ⊎ (left (number_of e.stop) ≡ true)
        → LeavesAs (run m cap e.rest j (over (state_of e.last p₂ t₂ f₂))) p₂ t₂ c b p' t' c' b' x
        → LeavesAs (run m cap n k (over (state_of r p t f))) p t c b p' t' c' b' x
    closed_deeper k j z full =
        back _ _ (ap (λ (i : ℕ). run m cap e.rest i (over (state_of e.last p₂ t₂ f₂))) z ∙ (d.resumes full).same (empty_heap (cells_in c b)) k)

  -- the run is over, k steps counted before and j in all
  pub closed_over : (c b p' t' : List ℕ) (x : RunAnswer) → Empty (cells_in c b) c b → Small c → Small b
      → (k j : ℕ) → j ≡ k + (n - e.rest) → ((number_of e.stop) ≡ 20 → 1536 ≤ length f) → left (number_of e.stop) ≡ false
      → ClosedAs (outcome (number_of e.stop) j (memory_of p₂ t₂ e.last.height)) p₂ t₂ p' t' x
      → LeavesAs (run m cap n k (with_heap (empty_heap (cells_in c b)) (state_of r p t f))) p t c b p' t' c b x
  closed_over c b p' t' x empty sc sb k j z all over-it closed =
      let h : Heap = empty_heap (cells_in c b) in
      let o : Outcome = outcome (number_of e.stop) j (keeping (memory_of p₂ t₂ e.last.height) h) in
      back c b p' t' c b x o _ (ap (λ (i : ℕ). outcome (number_of e.stop) i (keeping (memory_of p₂ t₂ e.last.height) h)) z ∙ d.exact all over-it h k)
      (joined o p₂ t₂ c b p' t' c b x closed (cells_blank (cells_in c b) c b empty sc) (table_blank (cells_in c b) c b empty sb))

-- over the heap
pub finished_over : (s : List ℕ) (cap n : ℕ) (e g : Ended) (a : ℕ) (p t f c b p₂ t₂ c' b' : List ℕ) → cap ≡ slots_in p t → n ≡ cells_in c b → e.rest ≤ a
    → RunsOver s cap n e.last e.rest g p t f c b p₂ t₂ c' b' → (p' t' : List ℕ) (x : RunAnswer) → ClosedAs (outcome (number_of g.stop) (a - g.rest) (memory_of p₂ t₂ g.last.height)) p₂ t₂ p' t' x
    → RestIs s cap e a p t f c b p' t' c' b' x
finished_over s cap n e g a p t f c b p₂ t₂ c' b' ec en le d p' t' x closed =
    let k : ℕ = a - e.rest in
    let z : a - g.rest ≡ k + (e.rest - g.rest) = omega (arith, d.left) in
    let o : Outcome = outcome (number_of g.stop) (a - g.rest) (keeping (memory_of p₂ t₂ g.last.height) d.heap) in
    joined o p₂ t₂ c b p' t' c' b' x closed (rw en at d.cells_are) (rw en at d.table_is)
    ∙ stack_of o p t p₂ t₂ (lent_heap_of c b) cap ec d.same_payloads d.same_types d.rest_payloads d.rest_types
    ∙ ap (λ (y : Outcome). ran y (lent_of p t) (lent_heap_of c b))
    (ap (λ (i : ℕ). outcome (number_of g.stop) i (keeping (memory_of p₂ t₂ g.last.height) d.heap)) z ∙ d.exact k ∙ ap (λ (i : ℕ). rest_of s cap i e.last e.rest k p t f) en)
