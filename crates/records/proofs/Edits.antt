-- Records after a change of their bytes: what `push`, `pop`, `retype`, `empty` and `bind` leave.
use mathlib.Core.Path.{◌≡◌, refl, sym, ap, subst, ◌∙◌}
use mathlib.Core.Logic.{◌⊎◌, inl, inr, ⊎_elim}
use Prim.Native.Nat.{ℕ, suc, ◌+◌, ◌-◌, ◌≤◌, ◌<◌}
use native.Mathlib.Omega.{arith}
use native.Mathlib.Numerals.{add-one}
use mathlib.Core.Bool.{Bool, true, false}
use mathlib.Core.List.{List, [], ◌∷◌}
use lib.ListN.{length, set, length-set}
use lib.Seq.{get_or-set_same, get_or-set_other, set-get_or}
use lib.Dec.{eqb}
use borrow.Author.Tests.{eqb-true, eqb-false}
use Rattle.rules.specs.Bytes.{byte}
use Rattle.rules.specs.Instructions.{ty_of}
use Rattle.rules.specs.Tables.{params_from}
use Rattle.rules.specs.Typing.{Lists, lists}
use Rattle.records.specs.Record.{lists_of, IsType, Holds, Pushed, Popped}
use Rattle.records.specs.Families.{Retyped, Emptied, Bound}
use Rattle.records.specs.Laws.{same_types}

either : {P : Type 0} (i j : ℕ) → (i ≡ j → P) → ((i ≡ j → ⊥) → P) → P
either {P} i j f g = go (eqb i j) refl
  where
    go : (x : Bool) → eqb i j ≡ x → P
    go true e = f (eqb-true i j e)
    go false e = g (eqb-false i j e)

-- ---- a record has two lists

-- one of them: byte c is its count, at most b; its types stand from byte a on
record Part (c a b : ℕ) (r : List ℕ) : Type 0 where
  few : byte r c ≤ b
  types : (i : ℕ) → i < byte r c → IsType (byte r (a + i))
  rest : (i : ℕ) → byte r c ≤ i → i < b → byte r (a + i) ≡ 0

locals_part : (r : List ℕ) → Holds r → Part 1 16 16 r
locals_part r h = record { few = h.few_locals; types = h.local_types; rest = h.local_rest }

operands_part : (r : List ℕ) → Holds r → Part 2 32 32 r
operands_part r h = record { few = h.few_operands; types = h.operand_types; rest = h.operand_rest }

-- r' has every byte of r but those of one list
abbrev Elsewhere : ℕ → ℕ → ℕ → List ℕ → List ℕ → Type 0
Elsewhere c a b r r' = (i : ℕ) → i < 64 → (i ≡ c → ⊥) → (i < a) ⊎ (a + b ≤ i) → byte r' i ≡ byte r i

module _ (r r' : List ℕ) (c a b : ℕ) where
  part_kept : byte r' c ≡ byte r c → ((i : ℕ) → i < b → byte r' (a + i) ≡ byte r (a + i)) → Part c a b r → Part c a b r'
  part_kept count same p =
      record {
        few = let k = p.few in omega arith;
        types = λ i l. rw (same i (let k = p.few in omega arith)) (p.types i (omega arith));
        rest = λ i l m. same i m ∙ p.rest i (omega arith) m;
      }

  list_kept : byte r' c ≡ byte r c → ((i : ℕ) → i < b → byte r' (a + i) ≡ byte r (a + i)) → Part c a b r
      → params_from r' a (byte r' c) ≡ params_from r a (byte r c)
  list_kept count same p =
      ap (params_from r' a) count ∙ same_types r' r a (byte r c) (λ i l. same i (let k = p.few in omega arith))

holds_of : (r r' : List ℕ) → Holds r → length r' ≡ 64 → ((i : ℕ) → i < 16 → (i ≡ 1 → ⊥) → (i ≡ 2 → ⊥) → byte r' i ≡ byte r i)
    → Part 1 16 16 r' → Part 2 32 32 r' → Holds r'
holds_of r r' h long same l o =
    record {
      long = long;
      given = same 0 (omega arith) (λ p. omega arith) (λ p. omega arith) ∙ h.given;
      few_locals = l.few;
      few_operands = o.few;
      gap = λ i a b. same i b (λ p. omega arith) (λ p. omega arith) ∙ h.gap i a b;
      local_types = l.types;
      local_rest = l.rest;
      operand_types = o.types;
      operand_rest = o.rest;
    }

-- the operands changed
module _ (r r' : List ℕ) (h : Holds r) (long : length r' ≡ 64) (kept : Elsewhere 2 32 32 r r') where
  count : byte r' 1 ≡ byte r 1
  count = kept 1 (omega arith) (λ p. omega arith) (inl (omega arith))

  types : (i : ℕ) → i < 16 → byte r' (16 + i) ≡ byte r (16 + i)
  types i l = kept (16 + i) (omega arith) (λ p. omega arith) (inl (omega arith))

  operands_holds : Part 2 32 32 r' → Holds r'
  operands_holds =
      holds_of r r' h long (λ i a p q. kept i (omega arith) q (inl (omega arith))) (part_kept r r' 1 16 16 count types (locals_part r h))

  operands_locals : (lists_of r').locals ≡ (lists_of r).locals
  operands_locals = list_kept r r' 1 16 16 count types (locals_part r h)

-- the locals changed
module _ (r r' : List ℕ) (h : Holds r) (long : length r' ≡ 64) (kept : Elsewhere 1 16 16 r r') where
  height : byte r' 2 ≡ byte r 2
  height = kept 2 (omega arith) (λ p. omega arith) (inl (omega arith))

  above : (i : ℕ) → i < 32 → byte r' (32 + i) ≡ byte r (32 + i)
  above i l = kept (32 + i) (omega arith) (λ p. omega arith) (inr (omega arith))

  locals_holds : Part 1 16 16 r' → Holds r'
  locals_holds p =
      holds_of r r' h long (λ i a p q. kept i (omega arith) p (inl (omega arith))) p (part_kept r r' 2 32 32 height above (operands_part r h))

  locals_operands : (lists_of r').operands ≡ (lists_of r).operands
  locals_operands = list_kept r r' 2 32 32 height above (operands_part r h)

-- ---- one type of a list written, and the list's count

abbrev edited : ℕ → ℕ → List ℕ → ℕ → ℕ → ℕ → List ℕ
edited c a r k t n = set (set r (a + k) t) c n

module _ (c a b : ℕ) (r : List ℕ) (long : length r ≡ 64) (k t n : ℕ) (before : c < a) (inside : a + b ≤ 64) (fits : k < b) where
  edited_long : length (edited c a r k t n) ≡ 64
  edited_long = length-set (set r (a + k) t) c n ∙ length-set r (a + k) t ∙ long

  edited_count : byte (edited c a r k t n) c ≡ n
  edited_count =
      let l : length (set r (a + k) t) ≡ 64 = length-set r (a + k) t ∙ long in
      get_or-set_same (set r (a + k) t) c n 0 (omega arith)

  edited_here : byte (edited c a r k t n) (a + k) ≡ t
  edited_here =
      get_or-set_other (set r (a + k) t) c (a + k) n 0 (λ p. omega arith) ∙ get_or-set_same r (a + k) t 0 (omega arith)

  edited_else : (i : ℕ) → (i ≡ c → ⊥) → (i ≡ a + k → ⊥) → byte (edited c a r k t n) i ≡ byte r i
  edited_else i p q = get_or-set_other (set r (a + k) t) c i n 0 p ∙ get_or-set_other r (a + k) i t 0 q

  edited_under : (i : ℕ) → (i ≡ k → ⊥) → byte (edited c a r k t n) (a + i) ≡ byte r (a + i)
  edited_under i p = edited_else (a + i) (λ e. omega arith) (λ e. p (omega arith))

  edited_kept : Elsewhere c a b r (edited c a r k t n)
  edited_kept i l p = ⊎_elim (λ x. edited_else i p (λ e. omega arith)) (λ x. edited_else i p (λ e. omega arith))

  -- a type t on top of the k types under it
  module _ (p : Part c a b r) (least : k ≤ byte r c) (most : byte r c ≤ suc k) (count : n ≡ suc k) (is : IsType t) where
    topped : Part c a b (edited c a r k t n)
    topped =
        let e = edited_count in
        record {
          few = omega arith;
          types = λ i l. either i k (λ z. rw (z, edited_here) is) (λ z. rw (edited_under i z) (p.types i (omega arith)));
          rest = λ i l m. edited_under i (λ z. omega arith) ∙ p.rest i (omega arith) m;
        }

    topped_list : params_from (edited c a r k t n) a (byte (edited c a r k t n) c) ≡ ty_of t ∷ params_from r a k
    topped_list =
        let s = edited c a r k t n in
        let e : byte s c ≡ suc k = edited_count ∙ count in
        let low : params_from s a k ≡ params_from r a k = same_types s r a k (λ i l. edited_under i (λ z. omega arith)) in
        let top : ty_of (byte s (a + k)) ≡ ty_of t = ap ty_of edited_here in
        ap (params_from s a) e ∙ (cc)

  -- without its top type
  module _ (p : Part c a b r) (some : suc k ≡ byte r c) (count : n ≡ k) (is : t ≡ 0) where
    untopped : Part c a b (edited c a r k t n)
    untopped =
        let e = edited_count in
        record {
          few = omega arith;
          types = λ i l. rw (edited_under i (λ z. omega arith)) (p.types i (omega arith));
          rest = λ i l m. either i k (λ z. rw (z, edited_here) is) (λ z. edited_under i z ∙ p.rest i (omega arith) m);
        }

    untopped_list : params_from (edited c a r k t n) a (byte (edited c a r k t n) c) ≡ params_from r a k
    untopped_list =
        let s = edited c a r k t n in
        ap (params_from s a) (edited_count ∙ count) ∙ same_types s r a k (λ i l. edited_under i (λ z. omega arith))

-- ---- push and retype

module _ (r : List ℕ) (h : Holds r) (k t n : ℕ) (fits : k < 32) (least : k ≤ byte r 2) (most : byte r 2 ≤ suc k) (count : n ≡ suc k) (is : IsType t) where
  topped_holds : Holds (edited 2 32 r k t n)
  topped_holds =
      operands_holds r (edited 2 32 r k t n) h (edited_long 2 32 32 r h.long k t n (omega arith) (omega arith) fits)
      (edited_kept 2 32 32 r h.long k t n (omega arith) (omega arith) fits)
      (topped 2 32 32 r h.long k t n (omega arith) (omega arith) fits (operands_part r h) least most count is)

  topped_shows : lists_of (edited 2 32 r k t n) ≡ lists (lists_of r).locals (ty_of t ∷ params_from r 32 k)
  topped_shows =
      let s = edited 2 32 r k t n in
      let loc : (lists_of s).locals ≡ (lists_of r).locals =
      operands_locals r s h (edited_long 2 32 32 r h.long k t n (omega arith) (omega arith) fits)
      (edited_kept 2 32 32 r h.long k t n (omega arith) (omega arith) fits) in
      let ops : (lists_of s).operands ≡ ty_of t ∷ params_from r 32 k =
      topped_list 2 32 32 r h.long k t n (omega arith) (omega arith) fits (operands_part r h) least most count is in
      cc

module _ (r : List ℕ) (n t : ℕ) (h : Holds r) where
  pub pushed : byte r 2 < 32 → IsType t → n ≡ byte r 2 → Pushed r t (set (set r (32 + n) t) 2 (n + 1))
  pushed few is count =
      record {
        holds = topped_holds r h n t (n + 1) (omega arith) (omega arith) (omega arith) (omega arith) is;
        count = edited_count 2 32 32 r h.long n t (n + 1) (omega arith) (omega arith) (omega arith) ∙ add-one n ∙ ap suc count;
        shows = topped_shows r h n t (n + 1) (omega arith) (omega arith) (omega arith) (omega arith) is
            ∙ ap (λ (k : ℕ). lists (lists_of r).locals (ty_of t ∷ params_from r 32 k)) count;
      }

  -- the count is as it would be written anew
  pub retyped : 0 < byte r 2 → IsType t → n ≡ byte r 2 → Retyped r t (set r (31 + n) t)
  retyped some is count =
      let f = h.few_operands in
      let k = n - 1 in
      let e : 31 + n ≡ 32 + k = omega arith in
      let same : byte (set r (32 + k) t) 2 ≡ n = get_or-set_other r (32 + k) 2 t 0 (λ p. omega arith) ∙ sym count in
      let z : edited 2 32 r k t n ≡ set r (31 + n) t =
      ap (set (set r (32 + k) t) 2) (sym same) ∙ set-get_or (set r (32 + k) t) 2 0 ∙ ap (λ (i : ℕ). set r i t) (sym e) in
      record {
        holds = subst Holds z (topped_holds r h k t n (omega arith) (omega arith) (omega arith) (omega arith) is);
        shows = λ j c. let w : k ≡ j = omega arith in
            ap lists_of (sym z) ∙ topped_shows r h k t n (omega arith) (omega arith) (omega arith) (omega arith) is
            ∙ ap (λ (i : ℕ). lists (lists_of r).locals (ty_of t ∷ params_from r 32 i)) w;
      }

-- ---- pop

module _ (r : List ℕ) (n : ℕ) (h : Holds r) (some : 0 < byte r 2) (count : n ≡ byte r 2) where
  pub popped : Popped r (set (set r (31 + n) 0) 2 (n - 1))
  popped =
      let f = h.few_operands in
      let k = n - 1 in
      let e : 32 + k ≡ 31 + n = omega arith in
      subst (λ (i : ℕ). Popped r (set (set r i 0) 2 k)) e (under_top k (omega arith))
    where
      under_top : (k : ℕ) → suc k ≡ byte r 2 → Popped r (edited 2 32 r k 0 k)
      under_top k is =
          let f = h.few_operands in
          let s = edited 2 32 r k 0 k in
          let fits : k < 32 = omega arith in
          let c : byte s 2 ≡ k = edited_count 2 32 32 r h.long k 0 k (omega arith) (omega arith) fits in
          let long : length s ≡ 64 = edited_long 2 32 32 r h.long k 0 k (omega arith) (omega arith) fits in
          let kept = edited_kept 2 32 32 r h.long k 0 k (omega arith) (omega arith) fits in
          let loc : (lists_of s).locals ≡ (lists_of r).locals = operands_locals r s h long kept in
          let ops : (lists_of s).operands ≡ params_from r 32 (byte s 2) =
          untopped_list 2 32 32 r h.long k 0 k (omega arith) (omega arith) fits (operands_part r h) is refl refl ∙ ap (params_from r 32) (sym c) in
          record {
            holds = operands_holds r s h long kept (untopped 2 32 32 r h.long k 0 k (omega arith) (omega arith) fits (operands_part r h) is refl refl);
            count = sym is ∙ ap suc (sym c);
            shows = cc;
            under = λ i a. edited_under 2 32 32 r h.long k 0 k (omega arith) (omega arith) fits i (λ p. omega arith);
          }

-- ---- empty

-- the operands from n on are 0
pub record Emptying (r r' : List ℕ) (n : ℕ) : Type 0 where
  pub long : length r' ≡ 64
  pub few : n ≤ 32
  pub kept : (i : ℕ) → i < 32 → byte r' i ≡ byte r i
  pub rest : (i : ℕ) → n ≤ i → i < 32 → byte r' (32 + i) ≡ 0

module _ (r : List ℕ) (n : ℕ) where
  pub empty_ends : (r' : List ℕ) → Holds r → Emptying r r' n → n ≤ 0 → Emptied r (set r' 2 0)
  empty_ends r' h v l =
      let g = v.long in
      let s = set r' 2 0 in
      let c : byte s 2 ≡ 0 = get_or-set_same r' 2 0 0 (omega arith) in
      let long : length s ≡ 64 = length-set r' 2 0 ∙ g in
      let kept : Elsewhere 2 32 32 r s = λ i a p. ⊎_elim (λ x. get_or-set_other r' 2 i 0 0 p ∙ v.kept i x) (λ x. absurd (omega arith)) in
      let loc : (lists_of s).locals ≡ (lists_of r).locals = operands_locals r s h long kept in
      let ops : (lists_of s).operands ≡ [] = ap (params_from s 32) c in
      record {
        holds = operands_holds r s h long kept
            (record {
              few = omega arith;
              types = λ i a. absurd (omega arith);
              rest = λ i a b. get_or-set_other r' 2 (32 + i) 0 0 (λ p. omega arith) ∙ v.rest i (omega arith) b;
            });
        count = kept 1 (omega arith) (λ p. omega arith) (inl (omega arith));
        shows = cc;
      }

-- ---- bind

module _ (r s : List ℕ) (n t : ℕ) (v : Emptied r s) (few : byte r 1 < 16) (is : IsType t) (count : n ≡ byte s 1) where
  pub binds : Bound r t (set (set s (16 + n) t) 1 (n + 1))
  binds =
      let e = v.count in
      let h = v.holds in
      let l = edited 1 16 s n t (n + 1) in
      let fits : n < 16 = omega arith in
      let long : length l ≡ 64 = edited_long 1 16 16 s h.long n t (n + 1) (omega arith) (omega arith) fits in
      let kept = edited_kept 1 16 16 s h.long n t (n + 1) (omega arith) (omega arith) fits in
      let loc : (lists_of l).locals ≡ ty_of t ∷ (lists_of r).locals =
      topped_list 1 16 16 s h.long n t (n + 1) (omega arith) (omega arith) fits (locals_part s h) (omega arith) (omega arith) (omega arith) is
      ∙ ap (λ (k : ℕ). ty_of t ∷ params_from s 16 k) count ∙ ap (λ (x : Lists). ty_of t ∷ x.locals) v.shows in
      let ops : (lists_of l).operands ≡ [] = locals_operands s l h long kept ∙ ap (λ (x : Lists). x.operands) v.shows in
      record {
        holds = locals_holds s l h long kept
            (topped 1 16 16 s h.long n t (n + 1) (omega arith) (omega arith) fits (locals_part s h) (omega arith) (omega arith) (omega arith) is);
        shows = cc;
      }
