-- Signatures, notes, labels: what the code reads is what the module has.
use mathlib.Core.Path.{◌≡◌, refl, sym, ap, ◌∙◌, subst}
use mathlib.Core.Logic.{◌≢◌}
use Prim.Native.Nat.{ℕ, suc, ◌+◌, ◌-◌, ◌≤◌, ◌<◌}
use native.Mathlib.Omega.{arith}
use mathlib.Core.Bool.{cond}
use mathlib.Core.Option.{Option, none, some}
use mathlib.Core.List.{List, []}
use lib.ListN.{length, get_or, set, length-set}
use lib.Dec.{ltb, eqb}
use borrow.Author.Tests.{eq-eqb, ne_eqb}
use Rattle.rules.specs.Instructions.{Ty, ty_of}
use Rattle.rules.specs.Tables.{Body, body_of, Function, function_at, result_of, label_count}
use Rattle.rules.specs.ModuleFile.{edition, refusal, labels, code_length, read, functions_in, labels_in, tables_in}
use Rattle.format.specs.declared.Sections.{Sections}
use Rattle.format.specs.Layout.{Packed}
use Rattle.reader.specs.declared.entries.FunctionRecord.{FunctionRecord}
use Rattle.reader.specs.declared.entries.LabelRecord.{LabelRecord}
use Rattle.reader.specs.Answers.{function_found, label_in}
use Rattle.soundness.specs.Tests.{decide, some_inj, eqb_is, eqb_isnt, ltb_yes, ltb_no}
use Rattle.soundness.specs.Readable.{params_length, label_is}
use Rattle.soundness.specs.Cutting.{good_file, label_count_lem}
use Rattle.nodes.specs.Nodes.{place_of, owner_of, Tabled}
use Rattle.nodes.proofs.Numbering.{label_at, label_in_code}
use Rattle.tracks.specs.Plans.{result_slots}
use Rattle.tracks.specs.Walks.{offset_of, Arrived}
use Rattle.tracks.specs.Leads.{noted}
use Rattle.climb.specs.declared.walk.Spot.{Spot}
use Rattle.std.specs.Prelude.{Some, None}
use Rattle.climb.specs.Turns.{spot, CallIs, JumpIs, OtherIs}

-- ---- signatures

module _ (s : List ℕ) (k : ℕ) (g : FunctionRecord) (is : function_found s k (Some g) ≡ (read s).function k) (F : Function) (e : (read s).function k ≡ some F) where
  same : function_found s k (Some g) ≡ some F
  same = is ∙ e

  pub slots_params : g.params ≡ length F.params
  slots_params =
      sym (params_length (functions_in s) (function_at (edition s) k + 10) g.params) ∙ ap (λ (o : Option Function). length (params_of o)) same
    where
      params_of : Option Function → List Ty
      params_of none = []
      params_of (some F) = F.params

  pub result_is : result_of g.result ≡ F.result
  result_is = ap result_of_lem same
    where
      result_of_lem : Option Function → Option Ty
      result_of_lem none = none
      result_of_lem (some F) = F.result

  pub slots_none : g.result ≡ 0 → 0 ≡ result_slots F.result
  slots_none z = ap result_slots (sym (ap (λ x. cond x none (some (ty_of g.result))) (eq-eqb g.result 0 z)) ∙ result_is)

  pub slots_one : (g.result ≡ 0 → ⊥) → 1 ≡ result_slots F.result
  slots_one n = ap result_slots (sym (ap (λ x. cond x none (some (ty_of g.result))) (ne_eqb g.result 0 n)) ∙ result_is)

-- ---- notes

pub note_larger : (row : List ℕ) (k x u : ℕ) → u ≡ offset_of row k → u < x → set row k x ≡ noted row k x
note_larger row k x u e h = rw (ltb_yes (offset_of row k) x (omega arith)) refl

pub note_kept : (row : List ℕ) (k x u : ℕ) → u ≡ offset_of row k → x ≤ u → row ≡ noted row k x
note_kept row k x u e h = rw (ltb_no (offset_of row k) x (omega arith)) refl

pub noted_long : (row : List ℕ) (k x : ℕ) → length (noted row k x) ≡ length row
noted_long row k x = decide (ltb (offset_of row k) x) (λ y. rw y (length-set row k x)) (λ y. rw y refl)

-- ---- calls

pub few_results : (r : Option Ty) → result_slots r ≤ 1
few_results none = omega arith
few_results (some t) = omega arith

pub call_is : (s : List ℕ) (k : ℕ) (p : Spot) (row row' : List ℕ) (u v : ℕ) → ((F : Function) → (read s).function k ≡ some F → (u ≡ length F.params) × (v ≡ result_slots F.result))
    → row' ≡ noted row k (p.height - u + 1) → CallIs s k p row (spot (p.at + 5) p.locals p.ground_level (p.height - u + v)) row'
call_is s k p row row' u v f e F q =
    let x : (u ≡ length F.params) × (v ≡ result_slots F.result) = f F q in (
      ap (λ y. spot (p.at + 5) p.locals p.ground_level (p.height - y + v)) x.0 ∙ ap (λ y. spot (p.at + 5) p.locals p.ground_level (p.height - length F.params + y)) x.1,
      e ∙ ap (λ y. noted row k (p.height - y + 1)) x.0,
    )

-- ---- labels

module _ (s : List ℕ) (c : Sections) (packed : Packed s c) (readable : refusal s ≡ 0) (table : List ℕ) (tabled : Tabled s table) (k : ℕ) where
  pub label_node : (b : Body) (p : ℕ) → (read s).label k ≡ some (b, p) → (p < length table) × (n : ℕ) × (get_or table p 0 ≡ suc n) × (n < 256)
  label_node b p q =
      let h : k < label_count (labels_in s) = (label_is (tables_in s) (good_file s readable) k b p q).0 in
      let l : label_count (labels_in s) ≡ labels s = label_count_lem s readable in
      let i : k < labels s = omega arith in
      let e : place_of s k ≡ p = ap (λ (x : Body × ℕ). x.1) (some_inj (owner_of s k, place_of s k) (b, p) (sym (label_at s readable k i) ∙ q)) in
      let u : place_of s k < code_length s = label_in_code s readable k i in
      let w : code_length s < length table = tabled.wide in
      let j : (j : ℕ) × (get_or table (place_of s k) 0 ≡ suc j) × (j ≤ k) = tabled.found k i in
      let m : c.labels ≤ 256 = packed.few_labels in
      let o : c.labels ≡ labels s = packed.labels_is in
      let v : j.0 ≤ k = j.2 in
      (omega arith, j.0, ap (λ x. get_or table x 0) (sym e) ∙ j.1, omega arith)

  -- the label that was found
  pub found_label : (l : LabelRecord) → label_in (Some l) ≡ (read s).label k → (b : Body) (p : ℕ) → (read s).label k ≡ some (b, p) → p ≡ l.place
  found_label l f b p q = ap (λ (x : Body × ℕ). x.1) (some_inj (b, p) (body_of l.owner, l.place) (sym q ∙ sym f))

  pub node_value : (l : LabelRecord) → label_in (Some l) ≡ (read s).label k → (v : ℕ) → v ≡ get_or table l.place 0 → ((b : Body) × (p : ℕ) × ((read s).label k ≡ some (b, p))) → (1 ≤ v) × (v - 1 < 256)
  node_value l f v e x =
      let n : (x.1 < length table) × (n : ℕ) × (get_or table x.1 0 ≡ suc n) × (n < 256) = label_node x.0 x.1 x.2 in
      let z : x.1 ≡ l.place = found_label l f x.0 x.1 x.2 in
      let w : v ≡ suc n.1 = e ∙ ap (λ y. get_or table y 0) (sym z) ∙ n.2 in
      let u : n.1 < 256 = n.3 in (omega arith, omega arith)

  pub jump_is : (l : LabelRecord) → label_in (Some l) ≡ (read s).label k → (v ground_level : ℕ) → v ≡ get_or table l.place 0 → (marks grounds marks' grounds' : List ℕ)
      → Arrived (v - 1) ground_level marks grounds marks' grounds' → JumpIs s table k ground_level marks grounds marks' grounds'
  jump_is l f v ground_level e marks grounds marks' grounds' a b p q =
      let n : (p < length table) × (n : ℕ) × (get_or table p 0 ≡ suc n) × (n < 256) = label_node b p q in
      let z : p ≡ l.place = found_label l f b p q in
      let w : v ≡ suc n.1 = e ∙ ap (λ x. get_or table x 0) (sym z) ∙ n.2 in
      let u : v - 1 ≡ n.1 = omega arith in
      (n.1, n.2, subst (λ x. Arrived x ground_level marks grounds marks' grounds') u a)

-- ---- an instruction of number x, whose word is w; n is w, as it was read

module _ (s table : List ℕ) (w x : ℕ) (p : Spot) (row marks grounds : List ℕ) where
  pub other_stops : x ≡ 20 → OtherIs s table w x p row marks grounds None row marks grounds
  other_stops e =
      record {
        stores = λ z. absurd (omega arith);
        jumps = λ z. absurd (omega arith);
        forks = λ z. absurd (omega arith);
        calls = λ z. absurd (omega arith);
        stops = λ z. (refl, refl, refl, refl);
      }

  pub other_stores : x ≡ 16 → (n : ℕ) → n ≡ w → (q : Spot)
      → (n < p.locals → q ≡ spot (p.at + 5) p.locals p.ground_level (p.height - 1)) × (p.locals ≤ n → q ≡ spot (p.at + 5) (p.locals + 1) p.height p.height)
      → OtherIs s table w x p row marks grounds (Some q) row marks grounds
  other_stores e n d q f =
      record {
        stores = λ z. ((λ h. ap Some (f.0 (omega arith))), (λ h. ap Some (f.1 (omega arith))), refl, refl, refl);
        jumps = λ z. absurd (omega arith);
        forks = λ z. absurd (omega arith);
        calls = λ z. absurd (omega arith);
        stops = λ z. absurd (omega arith);
      }

  pub other_calls : x ≡ 19 → (n : ℕ) → n ≡ w → (q : Spot) (row' : List ℕ) → CallIs s n p row q row' → OtherIs s table w x p row marks grounds (Some q) row' marks grounds
  other_calls e n d q row' f =
      record {
        stores = λ z. absurd (omega arith);
        jumps = λ z. absurd (omega arith);
        forks = λ z. absurd (omega arith);
        calls = λ z. ((λ F h. let y = subst (λ k. CallIs s k p row q row') d f F h in (ap Some y.0, y.1)), refl, refl);
        stops = λ z. absurd (omega arith);
      }

  pub other_jumps : x ≡ 17 → (n : ℕ) → n ≡ w → (marks' grounds' : List ℕ) → JumpIs s table n p.ground_level marks grounds marks' grounds' → OtherIs s table w x p row marks grounds None row marks' grounds'
  other_jumps e n d marks' grounds' f =
      record {
        stores = λ z. absurd (omega arith);
        jumps = λ z. (refl, refl, subst (λ k. JumpIs s table k p.ground_level marks grounds marks' grounds') d f);
        forks = λ z. absurd (omega arith);
        calls = λ z. absurd (omega arith);
        stops = λ z. absurd (omega arith);
      }

  pub other_forks : x ≡ 18 → (n : ℕ) → n ≡ w → (marks' grounds' : List ℕ) → JumpIs s table n p.ground_level marks grounds marks' grounds'
      → OtherIs s table w x p row marks grounds (Some (spot (p.at + 5) p.locals p.ground_level (p.height - 1))) row marks' grounds'
  other_forks e n d marks' grounds' f =
      record {
        stores = λ z. absurd (omega arith);
        jumps = λ z. absurd (omega arith);
        forks = λ z. (refl, refl, subst (λ k. JumpIs s table k p.ground_level marks grounds marks' grounds') d f);
        calls = λ z. absurd (omega arith);
        stops = λ z. absurd (omega arith);
      }

-- a jump or a branch
pub either : {A : Type 0} (x : ℕ) → 16 ≤ x → x ≤ 20 → (x ≡ 20 → ⊥) → (x ≡ 16 → ⊥) → (x ≡ 19 → ⊥) → (x ≡ 17 → A) → (x ≡ 18 → A) → A
either x l u a b d f g = decide (eqb x 17) (λ y. f (eqb_is x 17 y)) (λ y. g (let z : x ≢ 17 = eqb_isnt x 17 y in omega arith))
