-- What the search for a free run answers.
use Prim.Native.Nat.{ℕ, suc, ◌+◌, ◌≤◌, ◌<◌, max}
use native.Mathlib.Omega.{arith}
use mathlib.Core.Path.{◌≡◌, sym, ◌∙◌}
use mathlib.Core.Bool.{false}
use mathlib.Core.Logic.{◌⊎◌, inr, ⊎_elim}
use mathlib.Core.List.{List}
use lib.ListN.{get_or}
use Rattle.rules.specs.Heap.{free, lowest_run}
use Rattle.heap.specs.declared.Entry.{Entry}
use Rattle.heap.specs.declared.Shelf.{Shelf}
use Rattle.std.specs.Prelude.{Some, None}
use Rattle.std.specs.declared.option.Option.{Option}
use Rattle.heap.specs.Blocks.{cell_in, entry_at, width_in, heap_of, end_of, Sane}
use Rattle.heap.specs.Rooms.{Filled, Marked, Gap, Risen, Finds}
use Rattle.heap.proofs.Stores.{split_lt}
use Rattle.heap.proofs.Runs.{lowest_none, lowest_some, free_is, free_past, free_not, run_apart}

pub end_below : (w : ℕ → ℕ) (E : ℕ → Entry) (i : ℕ) (e : Entry) (n s : ℕ) → e ≡ E i → n ≡ w e.listed → end_of w (E i) ≤ s → e.first + n ≤ s
end_below w E i e n s ee en h = rw (en, ee) h

module _ (size : ℕ) (k : Shelf) (d p t : List ℕ) (n : ℕ) (s : Sane size k d p t) (h : 1 ≤ n) where
  not_below : (j : ℕ) → j < k.low → free (heap_of size k d p t) n j ≡ false
  not_below j l = free_not (width_in d) (cell_in p) (entry_at t) size k.count k.next n j h (λ f. s.laid.full j l (f j (omega arith) (omega arith)))

  -- no cell below top is free
  module _ (e : k.low ≡ k.top) where
    pub fast_none : size < k.top + n → Finds size k d p t n None
    unfolding lowest_run
    fast_none o =
        record {
          is = sym (lowest_none size _ (λ j l. ⊎_elim
              (λ (a : j < k.low). not_below j a)
              (λ (a : k.low ≤ j). free_past (width_in d) (cell_in p) (entry_at t) size k.count k.next n j (omega arith))
              (split_lt j k.low)));
          fits = tt;
        }

    pub fast_some : k.top + n ≤ size → Finds size k d p t n (Some (record { first = k.top; low = k.top + n; top = k.top + n }))
    unfolding lowest_run
    fast_some o =
        record {
          is = sym (lowest_some size _ k.top (omega arith)
              (free_is (width_in d) (cell_in p) (entry_at t) size k.count k.next n k.top o (λ i l. inr (s.laid.inside i l)))
              (λ j l. not_below j (omega arith)));
          fits = record {
            inside = o;
            alone = λ i l. inr (s.laid.inside i l);
            full = λ x l out f. ⊎_elim (λ (a : x < k.top). s.laid.full x (omega arith) f) (λ (a : k.top + n ≤ x). absurd (omega arith)) out;
            low_top = omega arith;
            over = omega arith;
            end = omega arith;
            top_size = o;
          };
        }

  -- by marks
  module _ (u : List ℕ) (m : Marked u (width_in d) (entry_at t) k.count) where
    not_blocked : (b : ℕ) → b + n ≤ size → (((x : ℕ) → b ≤ x → x < b + n → get_or u x 0 ≡ 0) → ⊥) → free (heap_of size k d p t) n b ≡ false
    not_blocked b l o =
        free_not (width_in d) (cell_in p) (entry_at t) size k.count k.next n b h (λ f. o (λ x a c. m.used x (omega (arith, s.small)) (f x a c)))

    pub slow_none : Gap u k.low size n None → Finds size k d p t n None
    unfolding lowest_run
    slow_none g =
        record {
          is = sym (lowest_none size _ (λ j l. ⊎_elim
              (λ (a : j < k.low). not_below j a)
              (λ (a : k.low ≤ j). ⊎_elim
              (λ (b : j + n < suc size). not_blocked j (omega arith) (g j a (omega arith)))
              (λ (b : suc size ≤ j + n). free_past (width_in d) (cell_in p) (entry_at t) size k.count k.next n j (omega arith))
              (split_lt (j + n) (suc size)))
              (split_lt j k.low)));
          fits = tt;
        }

    pub slow_some : (c : ℕ) (v : List ℕ) (low top : ℕ) → Gap u k.low size n (Some c) → Filled v u c (c + n)
        → top ≡ max k.top (c + n) → Risen v k.low top low → Finds size k d p t n (Some (record { first = c; low = low; top = top }))
    unfolding lowest_run
    slow_some c v low top g f tops r =
        record {
          is = sym (lowest_some size _ c (omega (arith, g.1)) (free_is (width_in d) (cell_in p) (entry_at t) size k.count k.next n c g.1 alone)
              (λ j l. ⊎_elim (λ (a : j < k.low). not_below j a) (λ (a : k.low ≤ j). not_blocked j (omega (arith, g.1)) (g.3 j a l)) (split_lt j k.low)));
          fits = record {
            inside = g.1;
            alone = alone;
            full = λ x l out fr. ⊎_elim
                (λ (a : x < k.low). s.laid.full x a fr)
                (λ (a : k.low ≤ x). r.used x a l (f.other x out ∙ m.used x (omega (arith, r.to, s.small, top_size)) fr))
                (split_lt x k.low);
            low_top = r.to;
            over = omega arith;
            end = omega arith;
            top_size = top_size;
          };
        }
      where
        top_size : top ≤ size
        top_size = omega (arith, s.laid.top_size, g.1)

        alone : (i : ℕ) → i < k.count → (c + n ≤ (entry_at t i).first) ⊎ (end_of (width_in d) (entry_at t i) ≤ c)
        alone = run_apart (width_in d) (cell_in p) (entry_at t) size k.count k.next n c s.laid.wide (λ x a b. m.free x (omega (arith, g.1, s.small)) (g.2 x a b)) h

  -- an answer by its case
  pub gap_at : (u : List ℕ) (f : Option ℕ) (c : ℕ) → Gap u k.low size n f → f ≡ Some c → Gap u k.low size n (Some c)
  gap_at u f c g e = rw e at g

  pub gap_nothing : (u : List ℕ) (f : Option ℕ) → Gap u k.low size n f → f ≡ None → Gap u k.low size n None
  gap_nothing u f g e = rw e at g

  pub tops_below : (c top : ℕ) → c + n ≤ size → top ≡ max k.top (c + n) → (k.low ≤ top) × (top ≤ 4096)
  tops_below c top l o = (omega (arith, s.laid.low_top), omega (arith, s.laid.top_size, s.small))
