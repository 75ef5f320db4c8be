-- A walk from a node that waits.
use mathlib.Core.Path.{◌≡◌, sym, ap, ◌∙◌, subst}
use Prim.Native.Nat.{ℕ, ◌+◌, ◌*◌, ◌≤◌, ◌<◌}
use native.Mathlib.Omega.{arith}
use mathlib.Core.Bool.{true}
use mathlib.Core.List.{List}
use lib.ListN.{length, get_or, set}
use Rattle.rules.specs.Tables.{body_of}
use Rattle.rules.specs.ModuleFile.{labels, read, tables_in}
use Rattle.format.specs.declared.Sections.{Sections}
use Rattle.soundness.specs.Readable.{orderly}
use Rattle.soundness.specs.Cutting.{good_file}
use Rattle.nodes.specs.Nodes.{place_of, owner_of}
use Rattle.nodes.proofs.Numbering.{label_at}
use Rattle.rules.specs.Need.{Path}
use Rattle.need.specs.Grounds.{ground_bound}
use Rattle.tracks.specs.Walks.{mark_of, ground_of, Ready, Climbing, Standing}
use Rattle.tracks.specs.Loop.{Finished}
use Rattle.climb.specs.Waits.{Roomy}
use Rattle.tracks.specs.Visits.{Shown, Visited, visit_again, visit_done}

module _ (s : List ℕ) (c : Sections) (table : List ℕ) (owner : ℕ) (R : Ready s c table owner) (M G Q : List ℕ) (x : ℕ) (C : Climbing s table (body_of owner) M G Q x) where
  -- the nodes that wait have a record
  pub roomy : (room : List ℕ) → Shown s room → Roomy room M
  roomy room h n w = let u : n < labels s = C.numbered n (omega arith) in let v : 64 * labels s ≤ length room = h.enough in omega arith

  pub numbered : (k : ℕ) → mark_of M k ≡ 1 → k < c.labels
  numbered k w = let u : k < labels s = C.numbered k (omega arith) in let v : c.labels ≡ labels s = R.packed.labels_is in omega arith

  pub low_grounds : (n : ℕ) → mark_of M n ≡ 1 → ground_of G n ≤ 512
  low_grounds n w = let p = C.paths n (omega arith) (C.mine n w) in ground_bound (read s) (body_of owner) _ (R.typed.consistent (body_of owner)) (place_of s n) p.0 (ground_of G n) p.1

  -- where the walk stands
  pub stands : (room : List ℕ) → Shown s room → (k : ℕ) → mark_of M k ≡ 1 → (p u f v : ℕ) → p ≡ place_of s k → u ≡ get_or room (64 * k + 1) 0 → f ≡ ground_of G k → v ≡ get_or room (64 * k + 2) 0
      → Standing s table (body_of owner) p u f (f + v)
  stands room h k w p u f v a d e g =
      let q = C.paths k (omega arith) (C.mine k w) in
      let n : k < labels s = C.numbered k (omega arith) in
      let path : Path (read s) (owner_of s k) (place_of s k) q.0 (ground_of G k) = subst (λ b. Path (read s) b (place_of s k) q.0 (ground_of G k)) (sym (C.mine k w)) q.1 in
      let y = h.lengths k n q.0 (ground_of G k) path in
      subst (λ p. Standing s table (body_of owner) p u f (f + v)) (sym a)
      (record {
        given = q.0;
        path = subst (Path (read s) (body_of owner) (place_of s k) q.0) (sym e) q.1;
        place = subst (λ b. (read s).is_place b (place_of s k) ≡ true) (C.mine k w) ((orderly (tables_in s) (good_file s R.readable)).lands k (owner_of s k) (place_of s k) (label_at s R.readable k n));
        locals_is = sym (d ∙ y.0);
        height_is = ap (λ z. f + z) (g ∙ y.1);
      })

  -- what is left of it
  module _ (k : ℕ) (w : mark_of M k ≡ 1) (p f : ℕ) (a : p ≡ place_of s k) (e : f ≡ ground_of G k) (M₁ G₁ Q₁ : List ℕ) (x₁ : ℕ) (F : Finished s table (body_of owner) p f M G Q x M₁ G₁ Q₁ x₁) where
    F' : Finished s table (body_of owner) (place_of s k) (ground_of G k) M G Q x M₁ G₁ Q₁ x₁
    F' = subst (λ p. Finished s table (body_of owner) p (ground_of G k) M G Q x M₁ G₁ Q₁ x₁) a (subst (λ f. Finished s table (body_of owner) p f M G Q x M₁ G₁ Q₁ x₁) e F)

    low₁ : (n : ℕ) → mark_of M₁ n ≡ 1 → ground_of G₁ n ≤ 512
    low₁ n v = let q = F.climbing.paths n (omega arith) (F.climbing.mine n v) in ground_bound (read s) (body_of owner) _ (R.typed.consistent (body_of owner)) (place_of s n) q.0 (ground_of G₁ n) q.1

    pub done : (g : ℕ) → g ≡ ground_of G₁ k → g ≡ f → Visited s table (body_of owner) M G Q x (set M₁ k 2) G₁ Q₁ x₁
    done g d z = visit_done s table (body_of owner) M G Q x C k w M₁ G₁ Q₁ x₁ F' low₁ (sym d ∙ z ∙ e)

    pub again : (g : ℕ) → g ≡ ground_of G₁ k → (g ≡ f → ⊥) → Visited s table (body_of owner) M G Q x M₁ G₁ Q₁ x₁
    again g d z = visit_again s table (body_of owner) M G Q x C k w M₁ G₁ Q₁ x₁ F' low₁ (λ y. z (d ∙ y ∙ sym e))
