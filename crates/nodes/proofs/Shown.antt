-- The last pass, label by label.
use Prim.Native.Nat.{ℕ, suc, ◌+◌, ◌*◌, ◌-◌, ◌≤◌, ◌<◌}
use mathlib.Core.Path.{◌≡◌, refl, ap, ◌∙◌, sym}
use mathlib.Core.Logic.{◌≢◌}
use native.Mathlib.Omega.{arith}
use mathlib.Core.Bool.{cond}
use mathlib.Core.List.{List}
use lib.ListN.{length, get_or, drop, replicate, length-replicate}
use lib.Seq.{paste, length-paste}
use lib.Dec.{eqb}
use Rattle.rules.specs.ModuleFile.{labels}
use Rattle.soundness.specs.Tests.{decide, eqb_is, eqb_isnt, eqb_other}
use Rattle.nodes.specs.Nodes.{place_of, Tabled, record_of, mark_of, Fits, shown_at, Finished}
use Rattle.nodes.proofs.Copies.{length_part, drop_past, part_kept, part_same, record_other}

-- ---- one label

pub shows_none : (room marks : List ℕ) (k : ℕ) → mark_of marks k ≡ 0 → shown_at room marks k ≡ replicate 64 0
unfolding shown_at
shows_none room marks k e = rw e refl

pub shows_record : (room marks : List ℕ) (k : ℕ) → (mark_of marks k ≡ 0 → ⊥) → shown_at room marks k ≡ record_of room k
unfolding shown_at
shows_record room marks k n = rw (eqb_other (mark_of marks k) 0 n) refl

pub settled_none : (room marks : List ℕ) (i k : ℕ) (room' : List ℕ) → mark_of marks k ≡ 0 → room' ≡ paste room (64 * i) (replicate 64 0) 64
    → room' ≡ paste room (64 * i) (shown_at room marks k) 64
settled_none room marks i k room' e h = h ∙ ap (λ (x : List ℕ). paste room (64 * i) x 64) (sym (shows_none room marks k e))

pub settled_record : (room marks : List ℕ) (i k : ℕ) (st room' : List ℕ) → (mark_of marks k ≡ 0 → ⊥) → st ≡ record_of room k → room' ≡ paste room (64 * i) st 64
    → room' ≡ paste room (64 * i) (shown_at room marks k) 64
settled_record room marks i k st room' n e h = h ∙ ap (λ (x : List ℕ). paste room (64 * i) x 64) (e ∙ sym (shows_record room marks k n))

-- a node keeps its own record
pub settled_own : (room marks : List ℕ) (i k : ℕ) → 64 * i + 64 ≤ length room → (mark_of marks k ≡ 0 → ⊥) → k ≡ i → room ≡ paste room (64 * i) (shown_at room marks k) 64
settled_own room marks i k h n e =
    let q : shown_at room marks k ≡ record_of room i = shows_record room marks k n ∙ ap (record_of room) e in
    sym (ap (λ (x : List ℕ). paste room (64 * i) x 64) q ∙ part_kept room (record_of room i) (64 * i) h (length_part room (64 * i) h) refl)

shown_long : (room marks : List ℕ) (k : ℕ) → 64 * k + 64 ≤ length room → length (shown_at room marks k) ≡ 64
shown_long room marks k h =
    decide (eqb (mark_of marks k) 0) (λ y. ap length (shows_none room marks k (eqb_is (mark_of marks k) 0 y)) ∙ length-replicate {A = ℕ} 64 0)
    (λ y. ap length (shows_record room marks k (eqb_isnt (mark_of marks k) 0 y)) ∙ length_part room (64 * k) h)

-- what is shown depends on the record alone
shown_kept : (room room' marks : List ℕ) (k : ℕ) → record_of room' k ≡ record_of room k → shown_at room' marks k ≡ shown_at room marks k
unfolding shown_at
shown_kept room room' marks k e = ap (λ (x : List ℕ). cond (eqb (mark_of marks k) 0) (replicate 64 0) x) e

-- ---- the loop

module _ (s table : List ℕ) (t : Tabled s table) (marks room₀ : List ℕ) (f : Fits (labels s) room₀ marks) where
  pub finish_first : (n : ℕ) → n ≡ labels s → Finished s table marks n room₀ room₀
  finish_first n e = record { shown = λ k h l. absurd (omega arith); below = λ k h. refl; rest = refl; long = refl }

  -- the node of a label has no higher number
  pub node_below : (k v : ℕ) → k < labels s → v ≡ get_or table (place_of s k) 0 → (0 < v) × (v - 1 ≤ k)
  node_below k v h e =
      let x : (j : ℕ) × (get_or table (place_of s k) 0 ≡ suc j) × (j ≤ k) = t.found k h in
      let y : get_or table (place_of s k) 0 ≡ suc x.0 = x.1 in
      let z : x.0 ≤ k = x.2 in (omega arith, omega arith)

  module _ (i : ℕ) (room : List ℕ) (positive : 0 < i) (few : i ≤ labels s) (d : Finished s table marks i room₀ room) (v : ℕ) (node_is : v ≡ get_or table (place_of s (i - 1)) 0) where
    abbrev k : ℕ
    k = v - 1

    below_here : v - 1 ≤ i - 1
    below_here = (node_below (i - 1) v (omega arith) node_is).1

    here_fits : 64 * (i - 1) + 64 ≤ length room
    here_fits = let x : length room ≡ length room₀ = d.long in let y : 64 * labels s ≤ length room₀ = f.room_for in omega arith

    pub settle_fits : (64 * (i - 1) + 64 ≤ length room) × (v - 1 ≤ i - 1) × (v - 1 < 256)
    settle_fits = let y : labels s ≤ 256 = f.few in let z : v - 1 ≤ i - 1 = below_here in (here_fits, z, omega arith)

    shown_here : shown_at room marks (v - 1) ≡ shown_at room₀ marks (v - 1)
    shown_here = let z : v - 1 ≤ i - 1 = below_here in shown_kept room₀ room marks (v - 1) (d.below (v - 1) (omega arith))

    long_here : length (shown_at room marks (v - 1)) ≡ 64
    long_here = let z : v - 1 ≤ i - 1 = below_here in let h : 64 * (i - 1) + 64 ≤ length room = here_fits in shown_long room marks (v - 1) (omega arith)

    pub finish_on : (room' : List ℕ) → room' ≡ paste room (64 * (i - 1)) (shown_at room marks (v - 1)) 64 → Finished s table marks (i - 1) room₀ room'
    finish_on room' e =
        record {
          shown = λ j l h. decide (eqb j (i - 1))
              (λ y. let q : j ≡ i - 1 = eqb_is j (i - 1) y in
              ap (record_of room') q ∙ ap (λ (x : List ℕ). record_of x (i - 1)) e ∙ part_same room (shown_at room marks (v - 1)) (64 * (i - 1)) here_fits long_here ∙ shown_here
              ∙ ap (λ (x : ℕ). shown_at room₀ marks (x - 1)) (node_is ∙ ap (λ (x : ℕ). get_or table (place_of s x) 0) (sym q)))
              (λ y. let n : j ≢ i - 1 = eqb_isnt j (i - 1) y in
              ap (λ (x : List ℕ). record_of x j) e ∙ record_other room (shown_at room marks (v - 1)) (i - 1) j here_fits long_here n ∙ d.shown j (omega arith) h);
          below = λ j l. ap (λ (x : List ℕ). record_of x j) e
              ∙ record_other room (shown_at room marks (v - 1)) (i - 1) j here_fits long_here (λ q. omega arith) ∙ d.below j (omega arith);
          rest = ap (drop (64 * labels s)) e ∙ drop_past room (shown_at room marks (v - 1)) (64 * (i - 1)) here_fits long_here (64 * labels s) (omega arith) ∙ d.rest;
          long = ap length e ∙ length-paste room (64 * (i - 1)) (shown_at room marks (v - 1)) 64 here_fits (let z : length (shown_at room marks (v - 1)) ≡ 64 = long_here in omega arith) ∙ d.long;
        }
