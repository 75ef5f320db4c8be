-- A body that stands elsewhere in another module of the same edition, with the same code, labels by number and place within, signatures, constant types and structures, has a typing there too.
use Rattle.std.specs.Prelude.{◌≡◌, refl, ℕ, ◌+◌, ◌-◌, ◌≤◌, ◌<◌, Bool, true, false, cond, ◌&&◌, List, [], ◌∷◌, ◌++◌, length, leb, ltb, eqb}
use Rattle.std.proofs.Common.{sym, ◌∙◌, subst}
use Rattle.std.proofs.Math.Path.{ap}
use native.Mathlib.Omega.{arith}
use Rattle.std.proofs.Math.Option.{Option, none, some}
use Rattle.soundness.specs.Names.{Slot, Num, int, Instruction, push, load, store, lea, one, two, tload, tstore, bump, jmp, branch, call, ret, null, new, delete, flea}
use Rattle.rules.specs.Bytes.{maybe}
use Rattle.rules.specs.Instructions.{void, cell, struct, Ty, num, ptr, kind_of, num_of, eq_ty, size}
use Rattle.rules.specs.Tables.{Body, entry, fn, Function, Module}
use Rattle.rules.specs.Heap.{Shape, single, fields, shape_of, pointee_in}
use Rattle.rules.specs.Stack.{at}
use Rattle.rules.specs.Operations.{refuse, class1, class2}
use Rattle.rules.specs.Machine.{owned, own}
use Rattle.rules.specs.Typing.{Lists, lists, Flow, to, operand, as_fields, as_num, agree, only, strip, with_result, judge_ret, judge, judge_at, gives1, gives2, Typing, Flows, Gives, end_flow, place_flow, start_of, StartOk, end_of, Consistent}
use Rattle.rules.specs.Demand3.{Typable}
use Rattle.soundness.specs.Tests.{decide, none_some, some_inj, leb_is, leb_isnt, leb_yes}
use Rattle.soundness.specs.Exact.{start_given}

-- ---- what a flow that goes somewhere says

module _ (K : ℕ → Lists → Type 0) where
  need : {A : Type 0} (o : Option A) (k : A → Flow) → Flows K (maybe o none k) → (a : A) × (o ≡ some a) × Flows K (k a)
  need none k h = absurd h
  need (some a) k h = (a, refl, h)

  need_only : (b : Bool) (w : Flow) → Flows K (only b w) → (b ≡ true) × Flows K w
  need_only true w h = (refl, h)
  need_only false w h = absurd h

  need_no : {A : Type 0} (o : Option A) (w : Flow) → Flows K (maybe o w (λ e. none)) → (o ≡ none) × Flows K w
  need_no none w h = (refl, h)
  need_no (some a) w h = absurd h

-- ---- two modules

-- "same edition, signatures, constant types, structures". Profiles are not among them.
pub record SameTables (m m' : Module) : Type 0 where
  pub editions : m.edition ≡ m'.edition
  pub structures : (k : ℕ) → m.structure k ≡ m'.structure k
  pub constants : (k : ℕ) (c : Slot) → m.constant k ≡ some c → (c' : Slot) × (m'.constant k ≡ some c') × (c'.kind ≡ c.kind)
  pub functions : (k : ℕ) (F : Function) → m.function k ≡ some F → (F' : Function) × (m'.function k ≡ some F') × (F'.params ≡ F.params) × (F'.result ≡ F.result)

-- "other bodies, their labels the same by number and place within": body c, which starts at `from` in m and at `onto` in m'
pub record SameBody (m m' : Module) (c : Body) : Type 0 where
  pub from : ℕ
  pub onto : ℕ
  pub long : ℕ
  pub params : List Ty
  pub starts : start_of m c ≡ some (from, params)
  pub starts' : start_of m' c ≡ some (onto, params)
  pub ends : end_of m c ≡ some (from + long)
  pub ends' : end_of m' c ≡ some (onto + long)
  pub code : (r : ℕ) → r < long → m.is_place c (from + r) ≡ true → m.code (from + r) ≡ m'.code (onto + r)
  pub places : (r : ℕ) → r ≤ long → m.is_place c (from + r) ≡ true → m'.is_place c (onto + r) ≡ true
  pub within : (r : ℕ) → m.is_place c (from + r) ≡ true → r ≤ long
  pub extent : onto + long ≤ m'.extent
  pub labels : (l q : ℕ) → owned c (m.label l) ≡ some q → (r : ℕ) × (q ≡ from + r) × (owned c (m'.label l) ≡ some (onto + r))

module _ (m m' : Module) (c : Body) (S : SameTables m m') (B : SameBody m m' c) (T : Typing) where
  same_shape : (n : ℕ) → shape_of m n ≡ shape_of m' n
  unfolding shape_of
  same_shape n = ap (λ (o : Option (List Num)). maybe (num_of n) (maybe o none (λ fs. some (fields fs))) (λ τ. some (single τ))) (S.structures n)

  -- the typing, moved
  pub there : Typing
  there q = cond (leb B.onto q) (T (B.from + (q - B.onto))) none

  there_at : (r : ℕ) → there (B.onto + r) ≡ T (B.from + r)
  unfolding there
  there_at r = let z : (B.onto + r) - B.onto ≡ r = omega arith in rw (leb_yes B.onto (B.onto + r) (omega arith)) (ap (λ i. T (B.from + i)) z)

  there_from : (q : ℕ) (l : Lists) → there q ≡ some l → (r : ℕ) × (q ≡ B.onto + r) × (T (B.from + r) ≡ some l)
  unfolding there
  there_from q l e =
      decide (leb B.onto q) (λ y. let z : B.onto ≤ q = leb_is B.onto q y in (q - B.onto, omega arith, rw y at e)) (λ y. none_some (rw y at e))

  -- from place + r in m to the same place in m'
  moved : (r : ℕ) (l : Lists) → Gives T (B.from + r) l → Gives there (B.onto + r) l
  moved r l e = there_at r ∙ e

  moved_to : (q : ℕ) (r : ℕ) (l : Lists) → q ≡ B.from + r → Gives T q l → Gives there (B.onto + r) l
  moved_to q r l z e = moved r l (ap T (sym z) ∙ e)

  module _ (r : ℕ) where
    -- one way on, and the other flows
    on : (L O : List Ty) → Flows (Gives T) (to (B.from + r) L O) → Flows (Gives there) (to (B.onto + r) L O)
    on L O h = (moved r (lists L O) h.0, tt)

    same_judge : (i : Instruction) (L O : List Ty) → Flows (Gives T) (judge m c i (B.from + r) L O) → Flows (Gives there) (judge m' c i (B.onto + r) L O)
    same_judge (push k) L O h =
        let x : (a : Slot) × (m.constant k ≡ some a) × Flows (Gives T) (maybe (num_of a.kind) none (λ τ. to (B.from + r) L (num τ ∷ O))) =
        need (Gives T) (m.constant k) (λ a. maybe (num_of a.kind) none (λ τ. to (B.from + r) L (num τ ∷ O))) h in
        let y : (τ : Num) × (num_of x.0.kind ≡ some τ) × Flows (Gives T) (to (B.from + r) L (num τ ∷ O)) = need (Gives T) (num_of x.0.kind) (λ τ. to (B.from + r) L (num τ ∷ O)) x.2 in
        let z : (c' : Slot) × (m'.constant k ≡ some c') × (c'.kind ≡ x.0.kind) = S.constants k x.0 x.1 in
        rw z.1 (rw (ap num_of z.2 ∙ y.1) (on L (num y.0 ∷ O) y.2))
    same_judge (load n) L O h =
        let x : (t : Ty) × (at L n ≡ some t) × Flows (Gives T) (to (B.from + r) L (t ∷ O)) = need (Gives T) (at L n) (λ t. to (B.from + r) L (t ∷ O)) h in
        rw x.1 (on L (x.0 ∷ O) x.2)
    same_judge (store n) L O h = go (at L n) O h
      where
        go : (o : Option Ty) (O : List Ty) → Flows (Gives T) (maybe o (operand O (λ t O'. only (eqb n (length L) && ltb n 16) (to (B.from + r) (t ∷ L) []))) (λ u. operand O (λ t O'. only (eq_ty t u) (to (B.from + r) L O'))))
            → Flows (Gives there) (maybe o (operand O (λ t O'. only (eqb n (length L) && ltb n 16) (to (B.onto + r) (t ∷ L) []))) (λ u. operand O (λ t O'. only (eq_ty t u) (to (B.onto + r) L O'))))
        go none [] z = absurd z
        go none (t ∷ O) z =
            let x : ((eqb n (length L) && ltb n 16) ≡ true) × Flows (Gives T) (to (B.from + r) (t ∷ L) []) = need_only (Gives T) (eqb n (length L) && ltb n 16) (to (B.from + r) (t ∷ L) []) z in rw x.0 (on (t ∷ L) [] x.1)
        go (some u) [] z = absurd z
        go (some u) (t ∷ O) z =
            let x : (eq_ty t u ≡ true) × Flows (Gives T) (to (B.from + r) L O) = need_only (Gives T) (eq_ty t u) (to (B.from + r) L O) z in rw x.0 (on L O x.1)
    same_judge (lea n) L O h =
        let x : (t : Ty) × (at L n ≡ some t) × Flows (Gives T) (as_num t (λ τ. to (B.from + r) L (ptr false (cell τ) ∷ O))) = need (Gives T) (at L n) (λ t. as_num t (λ τ. to (B.from + r) L (ptr false (cell τ) ∷ O))) h in
        rw x.1 (go x.0 x.2)
      where
        go : (t : Ty) → Flows (Gives T) (as_num t (λ τ. to (B.from + r) L (ptr false (cell τ) ∷ O))) → Flows (Gives there) (as_num t (λ τ. to (B.onto + r) L (ptr false (cell τ) ∷ O)))
        go (num τ) z = on L (ptr false (cell τ) ∷ O) z
        go (ptr g w) z = absurd z
    same_judge (one o) L [] h = absurd h
    same_judge (one o) L (t ∷ O) h =
        let x : (refuse (class1 o) (kind_of t) (kind_of t) ≡ none) × Flows (Gives T) (to (B.from + r) L (gives1 o t ++ O)) = need_no (Gives T) (refuse (class1 o) (kind_of t) (kind_of t)) (to (B.from + r) L (gives1 o t ++ O)) h in
        rw x.0 (on L (gives1 o t ++ O) x.1)
    same_judge (two o) L [] h = absurd h
    same_judge (two o) L (t ∷ []) h = absurd h
    same_judge (two o) L (t ∷ u ∷ O) h =
        let x : (agree m.edition o t u ≡ true) × Flows (Gives T) (maybe (refuse (class2 o) (kind_of u) (kind_of t)) (to (B.from + r) L (gives2 o t ++ O)) (λ e. none)) =
        need_only (Gives T) (agree m.edition o t u) (maybe (refuse (class2 o) (kind_of u) (kind_of t)) (to (B.from + r) L (gives2 o t ++ O)) (λ e. none)) h in
        let y : (refuse (class2 o) (kind_of u) (kind_of t) ≡ none) × Flows (Gives T) (to (B.from + r) L (gives2 o t ++ O)) =
        need_no (Gives T) (refuse (class2 o) (kind_of u) (kind_of t)) (to (B.from + r) L (gives2 o t ++ O)) x.1 in
        let z : agree m'.edition o t u ≡ true = ap (λ e. agree e o t u) (sym S.editions) ∙ x.0 in
        rw z (rw y.0 (on L (gives2 o t ++ O) y.1))
    same_judge tload L [] h = absurd h
    same_judge tload L (num τ ∷ O) h = absurd h
    same_judge tload L (ptr g void ∷ O) h = absurd h
    same_judge tload L (ptr g (cell τ) ∷ O) h = on L (num τ ∷ O) h
    same_judge tload L (ptr g (struct n) ∷ O) h = absurd h
    same_judge tstore L [] h = absurd h
    same_judge tstore L (t ∷ []) h = absurd h
    same_judge tstore L (t ∷ num τ ∷ O) h = absurd h
    same_judge tstore L (t ∷ ptr g void ∷ O) h = absurd h
    same_judge tstore L (t ∷ ptr g (cell τ) ∷ O) h =
        let x : (eq_ty t (num τ) ≡ true) × Flows (Gives T) (to (B.from + r) L O) = need_only (Gives T) (eq_ty t (num τ)) (to (B.from + r) L O) h in rw x.0 (on L O x.1)
    same_judge tstore L (t ∷ ptr g (struct n) ∷ O) h = absurd h
    same_judge (bump d) L [] h = absurd h
    same_judge (bump d) L (num τ ∷ O) h = absurd h
    same_judge (bump d) L (ptr g void ∷ O) h = absurd h
    same_judge (bump d) L (ptr g (cell τ) ∷ O) h = on L O h
    same_judge (bump d) L (ptr g (struct n) ∷ O) h = absurd h
    same_judge (null g) L O h = on L (ptr g void ∷ O) h
    same_judge (new g n) L O h =
        let x : (z : Shape) × (shape_of m n ≡ some z) × Flows (Gives T) (to (B.from + r) L (ptr g (pointee_in n z) ∷ O)) = need (Gives T) (shape_of m n) (λ z. to (B.from + r) L (ptr g (pointee_in n z) ∷ O)) h in
        rw (sym (same_shape n) ∙ x.1) (on L (ptr g (pointee_in n x.0) ∷ O) x.2)
    same_judge delete L [] h = absurd h
    same_judge delete L (num τ ∷ O) h = absurd h
    same_judge delete L (ptr false w ∷ O) h = on L O h
    same_judge delete L (ptr true w ∷ O) h = absurd h
    same_judge (flea n) L [] h = absurd h
    same_judge (flea n) L (num τ ∷ O) h = absurd h
    same_judge (flea n) L (ptr g void ∷ O) h = absurd h
    same_judge (flea n) L (ptr g (cell τ) ∷ O) h = absurd h
    same_judge (flea n) L (ptr g (struct k) ∷ O) h =
        let x : (z : Shape) × (shape_of m k ≡ some z) × Flows (Gives T) (as_fields z (λ fs. maybe (at fs n) none (λ τ. to (B.from + r) L (ptr g (cell τ) ∷ O)))) =
        need (Gives T) (shape_of m k) (λ z. as_fields z (λ fs. maybe (at fs n) none (λ τ. to (B.from + r) L (ptr g (cell τ) ∷ O)))) h in
        rw (sym (same_shape k) ∙ x.1) (go x.0 x.2)
      where
        go : (z : Shape) → Flows (Gives T) (as_fields z (λ fs. maybe (at fs n) none (λ τ. to (B.from + r) L (ptr g (cell τ) ∷ O))))
            → Flows (Gives there) (as_fields z (λ fs. maybe (at fs n) none (λ τ. to (B.onto + r) L (ptr g (cell τ) ∷ O))))
        go (single τ) w = absurd w
        go (fields fs) w =
            let y : (τ : Num) × (at fs n ≡ some τ) × Flows (Gives T) (to (B.from + r) L (ptr g (cell τ) ∷ O)) = need (Gives T) (at fs n) (λ τ. to (B.from + r) L (ptr g (cell τ) ∷ O)) w in
            rw y.1 (on L (ptr g (cell y.0) ∷ O) y.2)
    same_judge (jmp l) L O h =
        let x : (q : ℕ) × (owned c (m.label l) ≡ some q) × Flows (Gives T) (to q L O) = need (Gives T) (owned c (m.label l)) (λ p. to p L O) h in
        let y : (j : ℕ) × (x.0 ≡ B.from + j) × (owned c (m'.label l) ≡ some (B.onto + j)) = B.labels l x.0 x.1 in
        rw y.2 (moved_to x.0 y.0 (lists L O) y.1 x.2.0, tt)
    same_judge (branch k l) L O h =
        let x : (q : ℕ) × (owned c (m.label l) ≡ some q) × Flows (Gives T) (operand O (λ t O'. only (eq_ty t (num int)) (some ((q, lists L O') ∷ (B.from + r, lists L O') ∷ [])))) =
        need (Gives T) (owned c (m.label l)) (λ p. operand O (λ t O'. only (eq_ty t (num int)) (some ((p, lists L O') ∷ (B.from + r, lists L O') ∷ [])))) h in
        let y : (j : ℕ) × (x.0 ≡ B.from + j) × (owned c (m'.label l) ≡ some (B.onto + j)) = B.labels l x.0 x.1 in
        rw y.2 (go x.0 y.0 y.1 O x.2)
      where
        go : (q j : ℕ) → q ≡ B.from + j → (O : List Ty) → Flows (Gives T) (operand O (λ t O'. only (eq_ty t (num int)) (some ((q, lists L O') ∷ (B.from + r, lists L O') ∷ []))))
            → Flows (Gives there) (operand O (λ t O'. only (eq_ty t (num int)) (some ((B.onto + j, lists L O') ∷ (B.onto + r, lists L O') ∷ []))))
        go q j z [] w = absurd w
        go q j z (t ∷ O) w =
            let x : (eq_ty t (num int) ≡ true) × Flows (Gives T) (some ((q, lists L O) ∷ (B.from + r, lists L O) ∷ [])) = need_only (Gives T) (eq_ty t (num int)) (some ((q, lists L O) ∷ (B.from + r, lists L O) ∷ [])) w in
            rw x.0 (moved_to q j (lists L O) z x.1.0, (moved r (lists L O) x.1.1.0, tt))
    same_judge (call k) L O h =
        let x : (F : Function) × (m.function k ≡ some F) × Flows (Gives T) (strip F.params O (λ O'. to (B.from + r) L (with_result F.result O'))) =
        need (Gives T) (m.function k) (λ F. strip F.params O (λ O'. to (B.from + r) L (with_result F.result O'))) h in
        let y : (F' : Function) × (m'.function k ≡ some F') × (F'.params ≡ x.0.params) × (F'.result ≡ x.0.result) = S.functions k x.0 x.1 in
        rw y.1 (rw (y.2, y.3) (go x.0.params O x.0.result x.2))
      where
        go : (ps O : List Ty) (ρ : Option Ty) → Flows (Gives T) (strip ps O (λ O'. to (B.from + r) L (with_result ρ O'))) → Flows (Gives there) (strip ps O (λ O'. to (B.onto + r) L (with_result ρ O')))
        go [] O ρ z = on L (with_result ρ O) z
        go (p ∷ ps) [] ρ z = absurd z
        go (p ∷ ps) (t ∷ O) ρ z =
            let x : (eq_ty t p ≡ true) × Flows (Gives T) (strip ps O (λ O'. to (B.from + r) L (with_result ρ O'))) = need_only (Gives T) (eq_ty t p) (strip ps O (λ O'. to (B.from + r) L (with_result ρ O'))) z in
            rw x.0 (go ps O ρ x.1)
    same_judge ret L O h = go c h
      where
        done : (ρ : Option Ty) (O : List Ty) → Flows (Gives T) (judge_ret ρ O) → Flows (Gives there) (judge_ret ρ O)
        done none O z = tt
        done (some τ) [] z = absurd z
        done (some τ) (t ∷ O) z = let x : (eq_ty t τ ≡ true) × Flows (Gives T) (some []) = need_only (Gives T) (eq_ty t τ) (some []) z in rw x.0 tt

        go : (b : Body) → Flows (Gives T) (maybe (own m b) none (λ F. judge_ret F.result O)) → Flows (Gives there) (maybe (own m' b) none (λ F. judge_ret F.result O))
        go entry z = absurd z
        go (fn k) z =
            let x : (F : Function) × (m.function k ≡ some F) × Flows (Gives T) (judge_ret F.result O) = need (Gives T) (m.function k) (λ F. judge_ret F.result O) z in
            let y : (F' : Function) × (m'.function k ≡ some F') × (F'.params ≡ x.0.params) × (F'.result ≡ x.0.result) = S.functions k x.0 x.1 in
            rw y.1 (rw y.3 (done x.0.result O x.2))

  -- a place and its instruction
  same_place : (r : ℕ) → r ≤ B.long → m.is_place c (B.from + r) ≡ true → (l : Lists) → Flows (Gives T) (place_flow m c (B.from + r) l) → Flows (Gives there) (place_flow m' c (B.onto + r) l)
  same_place r h i₀ l e = rw B.ends' (go (leb B.long r) refl (rw B.ends at e))
    where
      shift : (a n : ℕ) → leb (a + n) (a + r) ≡ leb n r
      shift a n =
          decide (leb n r) (λ y. let z : n ≤ r = leb_is n r y in leb_yes (a + n) (a + r) (omega arith) ∙ sym y)
          (λ y. let z : r < n = leb_isnt n r y in decide (leb (a + n) (a + r)) (λ w. let v : a + n ≤ a + r = leb_is (a + n) (a + r) w in absurd (omega arith)) (λ w. w ∙ sym y))

      at_end_lem : (b : Body) → Flows (Gives T) (end_flow b) → Flows (Gives there) (end_flow b)
      at_end_lem entry z = tt
      at_end_lem (fn k) z = absurd z

      on_code : (o : Option Instruction) → Flows (Gives T) (maybe o none (λ i. judge m c i (B.from + r + size i) l.locals l.operands))
          → Flows (Gives there) (maybe o none (λ i. judge m' c i (B.onto + r + size i) l.locals l.operands))
      on_code none z = absurd z
      on_code (some i) z =
          let u : B.from + r + size i ≡ B.from + (r + size i) = omega arith in
          let v : B.onto + (r + size i) ≡ B.onto + r + size i = omega arith in
          subst (λ q. Flows (Gives there) (judge m' c i q l.locals l.operands)) v
          (same_judge (r + size i) i l.locals l.operands (subst (λ q. Flows (Gives T) (judge m c i q l.locals l.operands)) u z))

      go : (b : Bool) → leb B.long r ≡ b → Flows (Gives T) (cond (leb (B.from + B.long) (B.from + r)) (end_flow c) (judge_at m c (B.from + r) l))
          → Flows (Gives there) (cond (leb (B.onto + B.long) (B.onto + r)) (end_flow c) (judge_at m' c (B.onto + r) l))
      go true q z = rw (shift B.onto B.long ∙ q) (at_end_lem c (rw (shift B.from B.long ∙ q) at z))
      go false q z =
          rw (shift B.onto B.long ∙ q)
          (subst (λ o. Flows (Gives there) (maybe o none (λ i. judge m' c i (B.onto + r + size i) l.locals l.operands))) (B.code r (leb_isnt B.long r q) i₀)
          (on_code (m.code (B.from + r)) (rw (shift B.from B.long ∙ q) at z)))

  pub moved_consistent : Consistent m c T → Consistent m' c there
  moved_consistent C =
      record {
        starts = begin (start_of m' c) B.starts';
        few = λ p l e. C.few (B.from + (there_from p l e).0) l (there_from p l e).2;
        inside = λ p l e. inner p l (there_from p l e);
        flows = λ p l e. flow p l (there_from p l e);
      }
    where
      begin : (o : Option (ℕ × List Ty)) → o ≡ some (B.onto, B.params) → StartOk there o
      begin none q = none_some q
      begin (some x) q =
          let w : x ≡ (B.onto, B.params) = some_inj x (B.onto, B.params) q in
          let z : B.onto + 0 ≡ B.onto = omega arith in
          let y : B.from ≡ B.from + 0 = omega arith in
          subst (λ (v : ℕ × List Ty). there v.0 ≡ some (lists v.1 [])) (sym w)
          (ap there (sym z) ∙ there_at 0 ∙ ap T (sym y) ∙ start_given T (start_of m c) C.starts B.from B.params B.starts)

      inner : (p : ℕ) (l : Lists) → ((r : ℕ) × (p ≡ B.onto + r) × (T (B.from + r) ≡ some l)) → (p ≤ m'.extent) × (m'.is_place c p ≡ true)
      inner p l x =
          let i : m.is_place c (B.from + x.0) ≡ true = (C.inside (B.from + x.0) l x.2).1 in
          let k : x.0 ≤ B.long = B.within x.0 i in
          let e : B.onto + B.long ≤ m'.extent = B.extent in
          let q : p ≡ B.onto + x.0 = x.1 in (omega arith, ap (m'.is_place c) q ∙ B.places x.0 k i)

      flow : (p : ℕ) (l : Lists) → ((r : ℕ) × (p ≡ B.onto + r) × (T (B.from + r) ≡ some l)) → Flows (Gives there) (place_flow m' c p l)
      flow p l x =
          let i : m.is_place c (B.from + x.0) ≡ true = (C.inside (B.from + x.0) l x.2).1 in
          subst (λ q. Flows (Gives there) (place_flow m' c q l)) (sym x.1) (same_place x.0 (B.within x.0 i) i l (C.flows (B.from + x.0) l x.2))

pub moved_typable : (m m' : Module) (c : Body) → SameTables m m' → SameBody m m' c → Typable m c → Typable m' c
moved_typable m m' c S B t = (there m m' c S B t.0, moved_consistent m m' c S B t.0 t.1)
