-- From what was done to the stack and what was made of the heap to what the instruction does over both.
use Prim.Native.Nat.{ℕ}
use native.Mathlib.Omega.{arith}
use mathlib.Core.Path.{◌≡◌, refl, sym, ap, ◌∙◌, subst}
use mathlib.Core.Bool.{Bool}
use mathlib.Core.List.{List, [], ◌∷◌}
use lib.ListN.{length, set}
use Rattle.rules.specs.declared.Exception.{Exception}
use Rattle.rules.specs.Results.{exception_number}
use Rattle.rules.specs.declared.Slot.{Slot}
use Rattle.rules.specs.Heap.{Heap}
use Rattle.rules.specs.Machine.{State, Next, stops}
use Rattle.soundness.specs.Framed.{with_heap, onto}
use Rattle.state.specs.State.{state_of, Ready, Unchanged, Does, DoesOver}
use Rattle.state.specs.declared.Registers.{Registers}
use Rattle.state.specs.declared.Progress.{Progress}
use Rattle.state.specs.declared.Progress.TheVariants.{Goes, Finishes, Stops}
use Rattle.state.proofs.Outcomes.{stopping}
use Rattle.heap.specs.declared.Shelf.{Shelf}
use Rattle.heap.specs.declared.Grant.{Grant}
use Rattle.heap.specs.Blocks.{heap_of}
use Rattle.heap.specs.Changes.{Makes}
use Rattle.heap.specs.Grants.{Gives, source}
use Rattle.heap.proofs.Collected.{unmade}
use Rattle.access.specs.Access.{shelf_of, heap_in, HeapReady, Accessed}

-- ---- the shelf's words

-- all four written
pub shelf_kept : (g : List ℕ) (k : Shelf) → length g ≡ 4
    → (shelf_of (set (set (set (set g 0 k.count) 1 k.next) 2 k.low) 3 k.top) ≡ k)
    × (length (set (set (set (set g 0 k.count) 1 k.next) 2 k.low) 3 k.top) ≡ 4)
shelf_kept [] k e = absurd (omega (arith, e))
shelf_kept (x ∷ []) k e = absurd (omega (arith, e))
shelf_kept (x ∷ y ∷ []) k e = absurd (omega (arith, e))
shelf_kept (x ∷ y ∷ z ∷ []) k e = absurd (omega (arith, e))
shelf_kept (x ∷ y ∷ z ∷ w ∷ l) k e = (refl, e)

-- ---- what is given of the heap

-- of so many cells, from the shelf in g
pub given_at_lem : (g : List ℕ) (u : Bool) (w m : ℕ) (st : List Slot) {size n : ℕ} {k : Shelf} {a : Grant} {d c b c' b' : List ℕ} → k ≡ shelf_of g → w ≡ m
    → Gives size d c b c' b' (source u w st (heap_of size k d c b)) u n a → Gives size d c b c' b' (source u m st (heap_in size d g c b)) u n a
given_at_lem g u w m st {size} {n} {k} {a} {d} {c} {b} {c'} {b'} ek ew x =
    subst (λ (z : ℕ). Gives size d c b c' b' (source u z st (heap_in size d g c b)) u n a) ew
    (subst (λ (z : Shelf). Gives size d c b c' b' (source u w st (heap_of size z d c b)) u n a) ek x)

-- ---- what is done

-- a run that stops has its heap
abbrev pub Kept : Progress → Heap → Heap → Type 0
Kept (Goes q) h h' = Unit {0}
Kept (Finishes q) h h' = Unit {0}
Kept (Stops n) h h' = h' ≡ h

kept : (a : Progress) (h : Heap) → Kept a h h
kept (Goes q) h = tt
kept (Finishes q) h = tt
kept (Stops n) h = refl

still : (a : Progress) (s s' : State) (h h₁ h' : Heap) → Unchanged a s s' → h₁ ≡ h' → Kept a h h' → Unchanged a (with_heap h s) (with_heap h₁ s')
still (Goes q) s s' h h₁ h' u e v = tt
still (Finishes q) s s' h h₁ h' u e v = tt
still (Stops n) s s' h h₁ h' u e v = ap (with_heap h₁) u ∙ ap (λ (z : Heap). with_heap z s) (e ∙ v)

module _ (e : State → Next) (cap size : ℕ) (r : Registers) (d f p t g c b : List ℕ) (k : Ready cap r p t f) (o : HeapReady size d g c b) where
  -- the heap, and the state over it
  abbrev pub before : Heap
  before = heap_in size d g c b

  abbrev pub state : State
  state = with_heap before (state_of r p t f)

  pub accessed : (a : Progress) (p' t' g' c' b' : List ℕ) (x : Next) (h' : Heap) → Does cap r a p t f p' t' f x → Makes size (shelf_of g') d c b c' b' h' → length g' ≡ 4
      → onto h' x ≡ e state → Kept a before h' → Accessed e cap size r a d f p t g c b p' t' g' c' b'
  accessed a p' t' g' c' b' x h' does makes four is left =
      record {
        result = ap (onto (heap_in size d g' c' b')) does.result ∙ ap (λ (z : Heap). onto z x) makes.heap ∙ is;
        unchanged = still a (state_of r p t f) (state_of r p' t' f) before (heap_in size d g' c' b') h' does.unchanged makes.heap left;
        ready = does.ready;
        heap_ready = record { four = four; plain = o.plain; sane = makes.sane };
        rest_payloads = does.rest_payloads;
        rest_types = does.rest_types;
        rest_cells = makes.past_cells;
        rest_table = makes.past_table;
        same_payloads = does.same_payloads;
        same_types = does.same_types;
        same_cells = makes.same_cells;
        same_table = makes.same_table;
      }

  -- the heap is as it was
  pub stacked : (a : Progress) (p' t' : List ℕ) (x : Next) → Does cap r a p t f p' t' f x → onto before x ≡ e state → Accessed e cap size r a d f p t g c b p' t' g c b
  stacked a p' t' x does is =
      accessed a p' t' g c b x before does
      (unmade o.sane)
      o.four is (kept a before)

  pub stopped : (n : Exception) → e state ≡ stops (exception_number n) → Accessed e cap size r (Stops n) d f p t g c b p t g c b
  stopped n q = stacked (Stops n) p t (stops (exception_number n)) (stopping cap r p t f k n (stops (exception_number n)) refl) (sym q)

  -- over every heap the same
  pub framed : (a : Progress) (p' t' : List ℕ) → DoesOver cap r a p t f p' t' f e → Accessed e cap size r a d f p t g c b p' t' g c b
  framed a p' t' x = stacked a p' t' (e (state_of r p t f)) x.0 (sym (x.1 before))
