-- What an instruction's outcome comes to, for each kind of change that instructions make to registers and memory.
use Prim.Native.Nat.{ℕ, suc, ◌+◌, ◌*◌, ◌-◌, ◌^◌, ◌≤◌, ◌<◌}
use native.Mathlib.Omega.{arith}
use mathlib.Core.Path.{◌≡◌, refl, sym, ap, ◌∙◌}
use mathlib.Core.List.{List, ◌∷◌}
use lib.ListN.{length, get_or, drop, length-set}
use lib.Seq.{drop-set-lt}
use Rattle.rules.specs.declared.Slot.{Slot}
use Rattle.rules.specs.declared.Exception.{Exception}
use Rattle.rules.specs.Results.{exception_number}
use Rattle.rules.specs.Stack.{slots_of, put}
use Rattle.rules.specs.Heap.{Heap, empty_heap}
use Rattle.rules.specs.Machine.{State, goto, bind, becomes, Next, goes, stops, finishes}
use Rattle.soundness.specs.Framed.{with_heap, onto}
use Rattle.memory.proofs.Words.{drop_written, length_written}
use Rattle.state.specs.Slots.{payloads_with, types_with}
use Rattle.state.specs.State.{callers_of, depth_of, top_of, state_of, moved_to, bound_to, bound_in, Ready, Does, SameOver, DoesOver, Defers}
use Rattle.state.specs.declared.Registers.{Registers}
use Rattle.state.specs.declared.Progress.TheVariants.{Goes, Stops}
use Rattle.state.proofs.Stack.{slots_push, slots_put}
use Rattle.state.proofs.Locals.{Alike, callers_alike, waiting_alike, length_bound, bound_alike, bound_count, bound_locals}

-- the state at another place, with another stack
abbrev pub shifted : State → ℕ → List Slot → Next
shifted s q st = becomes s.memory st (goto q s.top) s.callers

-- what does the same over every heap, y but for the heap
pub over_every : (e : State → Next) (s : State) (y : Next) → ((g : Heap) → e (with_heap g s) ≡ onto g y) → SameOver e s
over_every e s y q g = q g ∙ sym (ap (onto g) (q s.memory.heap) ∙ twice y)
  where
    twice : (x : Next) → onto g (onto s.memory.heap x) ≡ onto g x
    twice (goes s') = refl
    twice (stops n) = refl
    twice (finishes M) = refl

-- left to who has the heap
pub deferring : (p t : List ℕ) → Defers (Stops Exception.PointerUnknownAddress) p t p t
deferring p t = record { stops_with = refl; keeps_payloads = refl; keeps_types = refl }

pub ready_moved : {cap : ℕ} {r : Registers} {p t f p' t' : List ℕ} (q h : ℕ) → Ready cap r p t f → length p' ≡ length p → length t' ≡ length t
    → h ≤ cap → r.floor ≤ h → Ready cap (moved_to r q h) p' t' f
ready_moved q h k ep et le fl =
    record {
      small = k.small;
      payloads = omega (arith, k.payloads);
      types = omega (arith, k.types);
      most = k.most;
      words = k.words;
      whole = k.whole;
      high = le;
      over = fl;
      low = k.low;
      few = k.few;
      near = k.near;
      waiting = k.waiting;
    }

module _ (cap : ℕ) (r : Registers) (p t f : List ℕ) (k : Ready cap r p t f) where
  -- nothing changes, and the run is over with e
  pub stopping : (e : Exception) (x : Next) → x ≡ stops (exception_number e) → Does cap r (Stops e) p t f p t f x
  stopping e x q =
      record { result = sym q; unchanged = refl; ready = k; rest_payloads = refl; rest_types = refl; same_payloads = refl; same_types = refl }

  -- over every heap
  pub stopping_over : (n : Exception) (e : State → Next) → ((g : Heap) → e (with_heap g (state_of r p t f)) ≡ stops (exception_number n))
      → DoesOver cap r (Stops n) p t f p t f e
  stopping_over n e q = (stopping n _ (q (empty_heap 0)), over_every e (state_of r p t f) (stops (exception_number n)) q)

  -- the place changes, and the stack loses its top slots down to h
  pub dropping : (q h : ℕ) (x : Next) → h ≤ r.height → r.floor ≤ h → x ≡ shifted (state_of r p t f) q (slots_of p t h)
      → Does cap r (Goes (moved_to r q h)) p t f p t f x
  dropping q h x le fl is =
      record {
        result = sym is;
        unchanged = tt;
        ready = ready_moved q h k refl refl (omega (arith, k.high)) fl;
        rest_payloads = refl;
        rest_types = refl;
        same_payloads = refl;
        same_types = refl;
      }

  -- v is written to slot i
  module _ (v : Slot) (i : ℕ) (p' t' : List ℕ) (ep : p' ≡ payloads_with p i v) (et : t' ≡ types_with t i v) (fits : v.payload < 2 ^ 64) (below : i < cap) where
    room_payloads : i * 8 + 8 ≤ length p
    room_payloads = omega (arith, k.payloads)

    room_types : i < length t
    room_types = omega (arith, k.types)

    pub lengths : (length p' ≡ length p) × (length t' ≡ length t)
    unfolding payloads_with types_with
    lengths = (ap length ep ∙ length_written 8 p (i * 8) v.payload room_payloads, ap length et ∙ length-set t i v.kind)

    rests : (drop (cap * 8) p' ≡ drop (cap * 8) p) × (drop cap t' ≡ drop cap t)
    unfolding payloads_with types_with
    rests = (
      ap (drop (cap * 8)) ep ∙ drop_written 8 p (i * 8) v.payload (cap * 8) room_payloads (omega arith),
      ap (drop cap) et ∙ drop-set-lt cap t i v.kind below,
    )

    writing : (q h : ℕ) (x : Next) → h ≤ cap → r.floor ≤ h → x ≡ shifted (state_of r p t f) q (slots_of p' t' h)
        → Does cap r (Goes (moved_to r q h)) p t f p' t' f x
    writing q h x le fl is =
        record {
          result = sym is;
          unchanged = tt;
          ready = ready_moved q h k lengths.0 lengths.1 le fl;
          rest_payloads = rests.0;
          rest_types = rests.1;
          same_payloads = lengths.0;
          same_types = lengths.1;
        }

    -- and becomes the top
    pub topping : (q : ℕ) (x : Next) → r.floor ≤ i + 1 → x ≡ shifted (state_of r p t f) q (v ∷ slots_of p t i)
        → Does cap r (Goes (moved_to r q (i + 1))) p t f p' t' f x
    topping q x fl is =
        writing q (i + 1) x (omega arith) fl
        (is ∙ ap (shifted (state_of r p t f) q) (sym (rw (ep, et) (slots_push p t i v room_payloads room_types fits))))

    -- in what is left of the stack, h slots
    pub putting : (q h : ℕ) (x : Next) → i < h → h ≤ r.height → r.floor ≤ h → x ≡ shifted (state_of r p t f) q (put (slots_of p t h) i v)
        → Does cap r (Goes (moved_to r q h)) p t f p' t' f x
    putting q h x lt le fl is =
        writing q h x (omega (arith, k.high)) fl
        (is ∙ ap (shifted (state_of r p t f) q) (sym (rw (ep, et) (slots_put p t i v room_payloads room_types fits h lt))))

  -- the top becomes the local n, the next one
  module _ (n : ℕ) (next : n ≡ get_or f (r.frame + 3) 0) (few : n < 16) (has : r.floor + 1 ≤ r.height) where
    abbrev f' : List ℕ
    f' = bound_in f r.frame n (r.height - 1)

    below : Alike f' f (r.frame + 3)
    below = bound_alike f r.frame n (r.height - 1)

    waits : Alike f' f (depth_of r * 24)
    waits i l = below i (omega (arith, k.whole))

    pub binding : (q : ℕ) (x : Next)
        → x ≡ becomes (state_of r p t f).memory (slots_of p t r.height) (bind (r.height - 1) (goto q (top_of r f))) (callers_of f (depth_of r))
        → Does cap r (Goes (bound_to r q)) p t f p t f' x
    binding q x is =
        let up : suc (r.height - 1) ≡ r.height = omega arith in
        record {
          result = sym (is ∙ rw (
            below r.frame (omega arith),
            below (r.frame + 2) (omega arith),
            bound_count f r.frame n (r.height - 1) few k.words,
            bound_locals f r.frame n (r.height - 1) few k.words,
            callers_alike f' f (depth_of r) _ k.waiting waits,
            next,
            up,
          ) refl);
          unchanged = tt;
          ready = record {
            small = k.small;
            payloads = k.payloads;
            types = k.types;
            most = omega (arith, length_bound f r.frame n (r.height - 1), k.most);
            words = omega (arith, length_bound f r.frame n (r.height - 1), k.words);
            whole = k.whole;
            high = k.high;
            over = omega arith;
            low = rw (below (r.frame + 2) (omega arith)) (omega (arith, k.low));
            few = rw (bound_count f r.frame n (r.height - 1) few k.words) (omega arith);
            near = k.near;
            waiting = rw (below (r.frame + 2) (omega arith)) (waiting_alike f' f (depth_of r) _ waits k.waiting);
          };
          rest_payloads = refl;
          rest_types = refl;
          same_payloads = refl;
          same_types = refl;
        }
