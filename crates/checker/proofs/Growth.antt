-- Room and marks that grow: what was recorded stays recorded, and what was walked stays walked.
use Prim.Native.Nat.{ℕ, ◌*◌, ◌≤◌, ◌<◌}
use mathlib.Core.Path.{◌≡◌, refl, ap, ◌∙◌}
use native.Mathlib.Omega.{arith}
use mathlib.Core.List.{List}
use lib.ListN.{length}
use Rattle.rules.specs.Tables.{Body, body_end}
use Rattle.rules.specs.ModuleFile.{labels, read, bodies_in}
use Rattle.rules.specs.Typing.{Lists}
use Rattle.soundness.specs.Walks.{goes_map, walked_map}
use Rattle.records.specs.Record.{lists_of}
use Rattle.nodes.specs.Nodes.{Tabled, record_of, mark_of, count_of, Fits}
use Rattle.checker.specs.Work.{Grows, Recorded, Passed, WalkedIn, GoesIn}

pub grows_refl : (n : ℕ) (room marks : List ℕ) → Grows n room marks room marks
grows_refl n room marks = record { rest = refl; long = refl; many = refl; kept = λ k h m. (refl, m); more = omega arith; order = λ i h. refl }

pub grows_trans : (n : ℕ) (a x b y c z : List ℕ) → Grows n a x b y → Grows n b y c z → Grows n a x c z
grows_trans n a x b y c z g h =
    record {
      rest = h.rest ∙ g.rest;
      long = h.long ∙ g.long;
      many = h.many ∙ g.many;
      kept = λ k l m.
          let p : (record_of b k ≡ record_of a k) × (0 < mark_of y k) = g.kept k l m in
          let q : (record_of c k ≡ record_of b k) × (0 < mark_of z k) = h.kept k l p.1 in (q.0 ∙ p.0, q.1);
      more = let u : count_of x ≤ count_of y = g.more in let v : count_of y ≤ count_of z = h.more in omega arith;
      order = λ i l. let u : count_of x ≤ count_of y = g.more in h.order i (omega arith) ∙ g.order i l;
    }

pub fits_grows : (n : ℕ) (a x b y : List ℕ) → Fits n a x → Grows n a x b y → Fits n b y
fits_grows n a x b y f g =
    let u : length b ≡ length a = g.long in
    let p : 64 * n ≤ length a = f.room_for in record { room_for = omega arith; few = f.few; whole = g.many ∙ f.whole }

module _ (s table : List ℕ) (t : Tabled s table) (room marks room' marks' : List ℕ) (g : Grows (labels s) room marks room' marks') where
  pub recorded_grows : (b : Body) (q : ℕ) (l : Lists) → Recorded s table room marks b q l → Recorded s table room' marks' b q l
  recorded_grows b q l r =
      let k : ℕ = r.2 in
      let n : k < labels s = (t.node q k r.3).0 in
      let x : (record_of room' k ≡ record_of room k) × (0 < mark_of marks' k) = g.kept k n r.4 in
      (r.0, r.1, k, r.3, x.1, ap lists_of x.0 ∙ r.5)

  pub goes_grows : (b : Body) (ns : List (ℕ × Lists)) → GoesIn s table room marks b ns → GoesIn s table room' marks' b ns
  goes_grows b ns w = goes_map (read s) b (Passed table (body_end (bodies_in s) b)) (Recorded s table room marks b) (Recorded s table room' marks' b) (recorded_grows b) ns w

  pub walked_grows : (b : Body) (p : ℕ) (l : Lists) → WalkedIn s table room marks b p l → WalkedIn s table room' marks' b p l
  walked_grows b p l w = walked_map (read s) b (Passed table (body_end (bodies_in s) b)) (Recorded s table room marks b) (Recorded s table room' marks' b) (recorded_grows b) p l w
