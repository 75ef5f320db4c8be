-- 02, A7: the check of what went up is that of the old module, where that is accepted, or compares nothing.
use Rattle.std.specs.Prelude.{◌≡◌, ◌⊎◌, Bool, true, false, ◌&&◌, ◌||◌, cond, length, get_or, set, replicate, ltb, eqb}
use Rattle.std.proofs.Math.Path.{refl, ap}
use Rattle.std.proofs.Common.{sym, ap₂, ◌∙◌}
use Rattle.std.proofs.Math.Logic.{inl, inr}
use Prim.Native.Nat.{ℕ, zero, suc, ◌+◌, ◌*◌}
use Rattle.std.proofs.Math.Option.{Option, none, some}
use mathlib.Core.List.{List, [], ◌∷◌, ◌++◌}
use Rattle.soundness.specs.Names.{Instruction, push, load, store, lea, one, two, tload, tstore, bump, jmp, branch, call, ret, null, new, delete, flea, swap, arith, cmp, Refused}
use Rattle.rules.specs.Bytes.{maybe}
use Rattle.rules.specs.Instructions.{Ty, eq_ty, size}
use Rattle.rules.specs.Tables.{Tables, Body, Module, function_count, label_count}
use Rattle.rules.specs.ModuleFile.{edition, labels, functions, tables_in, read, functions_in}
use Rattle.rules.specs.Heap.{shape_of}
use Rattle.rules.specs.Typing.{Lists, WellTyped, Flow, both_pointers, only, judge, start_of, end_of, past, end_flow, place_flow}
use Rattle.rules.specs.Check.{Table, Worklist, Visit, known, wrong, new as more, visit, small, allowed, eq_lists, solve, start_work, check_body, bodies, first_untyped, label_record, label_records, given_at, record_at}
use Rattle.rules.specs.Answers.{check, judged, Checked, checked}
use Rattle.rules.specs.Numbers.{room_too_short}
use Rattle.rules.specs.Writing.{table_refusal}
use Rattle.rules.specs.Demand3.{IsAccepted}
use Rattle.rules.specs.Converting.{fourth, refusal_in}
use Rattle.rules.specs.Converted.{ComparesNothing}
use Rattle.soundness.specs.Tests.{decide, none_some, false_true, and_both}
use Rattle.soundness.specs.Cutting.{label_count_lem, function_count_lem}
use Rattle.soundness.specs.Exact.{check_complete}
use Rattle.soundness.specs.Whole.{accepted_typed}
use Rattle.editions.specs.Conversions.{up_count, up_records, up_pair, up_read}
use Rattle.editions.specs.Paired.{pair_counts}
use Rattle.editions.specs.SameRuns.{same_own, same_start, same_end}
use Rattle.editions.specs.Recoded.{recoded, new_code, old_readable, old_good, old_edition, recoded_is, same_instruction}

-- ---- one instruction, in edition 4

-- what follows in the first follows in the second too
abbrev Follows : Flow → Flow → Type 0
Follows x y = (ns : Worklist) → x ≡ some ns → y ≡ some ns

module _ (m : Module) (c : ℕ → Option Instruction) (b : Body) where
  abbrev m' : Module
  m' = recoded m 4 c

  -- it is `cmp` or `icmp`, or it is judged alike
  abbrev JudgedAlike : Instruction → Type 0
  JudgedAlike i = ((s : Bool) × (i ≡ two (cmp s))) ⊎ ((q : ℕ) (L O : List Ty) → judge m' b i q L O ≡ judge m b i q L O)

  judge_alike : (i : Instruction) → JudgedAlike i
  unfolding shape_of
  judge_alike (push k) = inr (λ q L O. refl)
  judge_alike (load k) = inr (λ q L O. refl)
  judge_alike (store k) = inr (λ q L O. refl)
  judge_alike (lea k) = inr (λ q L O. refl)
  judge_alike (one o) = inr (λ q L O. refl)
  judge_alike (two swap) = inr (λ q L O. refl)
  judge_alike (two (arith o)) = inr (λ q L O. refl)
  judge_alike (two (cmp s)) = inl (s, refl)
  judge_alike tload = inr (λ q L O. refl)
  judge_alike tstore = inr (λ q L O. refl)
  judge_alike (bump u) = inr (λ q L O. refl)
  judge_alike (jmp l) = inr (λ q L O. refl)
  judge_alike (branch d l) = inr (λ q L O. refl)
  judge_alike (call k) = inr (λ q L O. refl)
  judge_alike ret = inr (λ q L O. rw (same_own m 4 c b))
  judge_alike (null g) = inr (λ q L O. refl)
  judge_alike (new g k) = inr (λ q L O. refl)
  judge_alike delete = inr (λ q L O. refl)
  judge_alike (flea k) = inr (λ q L O. refl)

  -- edition 4 compares more
  compares_more : (x y z : Bool) → (x || (y && z)) ≡ true → (x || z) ≡ true
  compares_more true y z h = refl
  compares_more false true z h = h
  compares_more false false z h = false_true h

  -- a test that holds more often lets more follow
  only_follows : (x y : Bool) (k : Flow) → (x ≡ true → y ≡ true) → Follows (only x k) (only y k)
  only_follows true y k f ns h = rw (f refl) h
  only_follows false y k f ns h = none_some h

  -- what `cmp` leaves in any edition it leaves in edition 4
  compare_follows : (s : Bool) (q : ℕ) (L O : List Ty) → Follows (judge m b (two (cmp s)) q L O) (judge m' b (two (cmp s)) q L O)
  compare_follows s q L [] ns h = none_some h
  compare_follows s q L (t ∷ []) ns h = none_some h
  compare_follows s q L (t ∷ (u ∷ O)) ns h =
      only_follows (eq_ty t u || (eqb m.edition 4 && both_pointers t u)) (eq_ty t u || both_pointers t u) _
      (compares_more (eq_ty t u) (eqb m.edition 4) (both_pointers t u)) ns h

  -- so does every instruction
  judge_follows : (i : Instruction) (q : ℕ) (L O : List Ty) → Follows (judge m b i q L O) (judge m' b i q L O)
  judge_follows i q L O ns h = go (judge_alike i)
    where
      go : JudgedAlike i → judge m' b i q L O ≡ some ns
      go (inl x) = rw x.1 (compare_follows x.0 q L O ns (rw x.1 at h))
      go (inr f) = f q L O ∙ h

  -- every other one is judged alike
  judge_same : (i : Instruction) → ((s : Bool) → i ≡ two (cmp s) → ⊥) → (q : ℕ) (L O : List Ty) → judge m' b i q L O ≡ judge m b i q L O
  judge_same i n q L O = go (judge_alike i)
    where
      go : JudgedAlike i → judge m' b i q L O ≡ judge m b i q L O
      go (inl x) = absurd (n x.0 x.1)
      go (inr f) = f q L O

  -- ---- one place

  -- the flow from an instruction, if there is one, in one of the two modules
  abbrev flow_from : Module → ℕ → Lists → Option Instruction → Flow
  flow_from x p l o = maybe o none (λ i. judge x b i (p + size i) l.locals l.operands)

  module _ (same : (p : ℕ) → m.is_place b p ≡ true → c p ≡ m.code p) where
    -- the flow from a place, with the old code
    flow_with : (p : ℕ) (l : Lists) → m.is_place b p ≡ true → place_flow m' b p l ≡ cond (past p (end_of m b)) (end_flow b) (flow_from m' p l (m.code p))
    flow_with p l i = rw (same_end m 4 c b, same p i)

    -- nothing, or the same
    flow_follows : (p : ℕ) (l : Lists) → m.is_place b p ≡ true → (place_flow m b p l ≡ none) ⊎ (place_flow m' b p l ≡ place_flow m b p l)
    flow_follows p l i = go (place_flow m b p l) refl
      where
        at : (o : Option Instruction) → Follows (flow_from m p l o) (flow_from m' p l o)
        at none ns h = none_some h
        at (some i) ns h = judge_follows i (p + size i) l.locals l.operands ns h

        on : (e : Bool) (x y : Flow) → Follows x y → Follows (cond e (end_flow b) x) (cond e (end_flow b) y)
        on true x y f ns h = h
        on false x y f ns h = f ns h

        go : (x : Flow) → place_flow m b p l ≡ x → (x ≡ none) ⊎ (place_flow m' b p l ≡ x)
        go none q = inl refl
        go (some ns) q = inr (flow_with p l i ∙ on (past p (end_of m b)) _ _ (at (m.code p)) ns q)

    -- the same, where nothing is compared
    flow_same : ComparesNothing m → (p : ℕ) (l : Lists) → m.is_place b p ≡ true → place_flow m' b p l ≡ place_flow m b p l
    flow_same nothing p l i = flow_with p l i ∙ ap (λ (x : Flow). cond (past p (end_of m b)) (end_flow b) x) (at (m.code p) refl)
      where
        at : (o : Option Instruction) → m.code p ≡ o → flow_from m' p l o ≡ flow_from m p l o
        at none q = refl
        at (some j) q = judge_same j (λ s z. nothing b p s i (q ∙ ap (λ (k : Instruction). some k) z)) (p + size j) l.locals l.operands

    -- ---- visits

    -- lists that flow to a place, with what follows from there
    abbrev visited : Table → ℕ → Lists → Flow → Visit
    visited tab p l x =
        maybe (get_or tab p none) (cond (ltb p (length tab) && allowed m b p l) (maybe x wrong (λ ns. more ns)) wrong) (λ k. cond (eq_lists k l) known wrong)

    -- only at a place is it asked what follows
    asked : (tab : Table) (p : ℕ) (l : Lists) → (m.is_place b p ≡ true → place_flow m' b p l ≡ place_flow m b p l)
        → visit m' b tab p l ≡ visit m b tab p l
    asked tab p l f =
        decide (ltb p (length tab) && allowed m b p l)
        (λ y. let z : allowed m b p l ≡ true = (and_both (ltb p (length tab)) (allowed m b p l) y).1 in
        ap (visited tab p l) (f (and_both (m.is_place b p) (small l) z).0))
        (λ y. rw y)

    -- the same, where nothing is compared
    visit_same : ComparesNothing m → (tab : Table) (p : ℕ) (l : Lists) → visit m' b tab p l ≡ visit m b tab p l
    visit_same nothing tab p l = asked tab p l (flow_same nothing p l)

    -- wrong, or the same
    visit_follows : (tab : Table) (p : ℕ) (l : Lists) → (visit m b tab p l ≡ wrong) ⊎ (visit m' b tab p l ≡ visit m b tab p l)
    visit_follows tab p l =
        decide (m.is_place b p) (λ y. go (flow_follows p l y) (get_or tab p none) refl)
        (λ y. inr (asked tab p l (λ i. false_true (sym y ∙ i))))
      where
        go : (place_flow m b p l ≡ none) ⊎ (place_flow m' b p l ≡ place_flow m b p l) → (o : Option Lists) → get_or tab p none ≡ o
            → (visit m b tab p l ≡ wrong) ⊎ (visit m' b tab p l ≡ visit m b tab p l)
        go (inr q) o e = inr (asked tab p l (λ i. q))
        go (inl q) (some k) e = inr (rw e refl)
        go (inl q) none e = inl (ap (visited tab p l) q ∙ rw e (decide (ltb p (length tab) && allowed m b p l) (λ y. rw y) (λ y. rw y)))

    -- ---- the whole body

    -- what a visit leads to
    onward : Module → ℕ → Table → ℕ × Lists → Worklist → Visit → Option Table
    onward x n tab w work v =
        elim v [ known ↦ solve x b n tab work | more ns ↦ solve x b n (set tab w.0 (some w.1)) (ns ++ work) | wrong ↦ none ]

    solve_same : ComparesNothing m → (n : ℕ) (tab : Table) (work : Worklist) → solve m' b n tab work ≡ solve m b n tab work
    unfolding solve onward
    solve_same nothing zero tab work = refl
    solve_same nothing (suc n) tab [] = refl
    solve_same nothing (suc n) tab (x ∷ work) =
        ap (onward m' n tab x work) (visit_same nothing tab x.0 x.1) ∙ go (visit m b tab x.0 x.1) (λ tab' work'. solve_same nothing n tab' work')
      where
        go : (v : Visit) → ((tab' : Table) (work' : Worklist) → solve m' b n tab' work' ≡ solve m b n tab' work')
            → onward m' n tab x work v ≡ onward m n tab x work v
        go known ih = ih tab work
        go (more ns) ih = ih (set tab x.0 (some x.1)) (ns ++ work)
        go wrong ih = refl

    -- a table that is found in any edition is found in edition 4
    solve_follows : (n : ℕ) (tab : Table) (work : Worklist) (out : Table) → solve m b n tab work ≡ some out → solve m' b n tab work ≡ some out
    unfolding solve onward
    solve_follows zero tab work out h = none_some h
    solve_follows (suc n) tab [] out h = h
    solve_follows (suc n) tab (x ∷ work) out h = go (visit_follows tab x.0 x.1) (λ tab' work' h'. solve_follows n tab' work' out h')
      where
        Later : Type 0
        Later = (tab' : Table) (work' : Worklist) → solve m b n tab' work' ≡ some out → solve m' b n tab' work' ≡ some out

        on : (v : Visit) → Later → onward m n tab x work v ≡ some out → onward m' n tab x work v ≡ some out
        on known ih q = ih tab work q
        on (more ns) ih q = ih (set tab x.0 (some x.1)) (ns ++ work) q
        on wrong ih q = none_some q

        go : (visit m b tab x.0 x.1 ≡ wrong) ⊎ (visit m' b tab x.0 x.1 ≡ visit m b tab x.0 x.1) → Later
            → onward m' n tab x work (visit m' b tab x.0 x.1) ≡ some out
        go (inl q) ih = none_some (sym (ap (onward m n tab x work) q) ∙ h)
        go (inr q) ih = ap (onward m' n tab x work) q ∙ on (visit m b tab x.0 x.1) ih h

    -- the table of the body: the same, where nothing is compared, or where there is one
    body_same : ComparesNothing m → check_body m' b ≡ check_body m b
    unfolding check_body
    body_same nothing =
        rw (same_start m 4 c b) (solve_same nothing (3 + 2 * (1 + m.extent)) (replicate (1 + m.extent) none) (start_work (start_of m b)))

    body_follows : (out : Table) → check_body m b ≡ some out → check_body m' b ≡ some out
    unfolding check_body
    body_follows out h =
        rw (same_start m 4 c b) (solve_follows (3 + 2 * (1 + m.extent)) (replicate (1 + m.extent) none) (start_work (start_of m b)) out h)

-- ---- the module, where every body has the same table

module _ (m : Module) (c : ℕ → Option Instruction) (alike : (b : Body) → check_body (recoded m 4 c) b ≡ check_body m b) where
  -- the first body without one
  first_same : (bs : List Body) → first_untyped (recoded m 4 c) bs ≡ first_untyped m bs
  unfolding first_untyped
  first_same [] = refl
  first_same (b ∷ bs) = ap on (alike b) ∙ go (check_body m b) (first_same bs)
    where
      on : Option Table → Option Body
      on o = elim o [ none ↦ some b | some t ↦ first_untyped (recoded m 4 c) bs ]

      go : (o : Option Table) → first_untyped (recoded m 4 c) bs ≡ first_untyped m bs
          → ◌≡◌ {A = Option Body} (on o) (elim o [ none ↦ some b | some t ↦ first_untyped m bs ])
      go none ih = refl
      go (some t) ih = ih

  -- the record of a label, and those of the first n
  record_same : (o : Option (Body × ℕ)) → label_record (recoded m 4 c) o ≡ label_record m o
  unfolding label_record
  record_same none = refl
  record_same (some x) = ap (λ (t : Option Table). record_at (given_at t x.1)) (alike x.0)

  records_same : (n : ℕ) → label_records (recoded m 4 c) n ≡ label_records m n
  unfolding label_records
  records_same zero = refl
  records_same (suc n) = rw (records_same n, record_same (m.label n))

-- ---- of files

module _ (s : List ℕ) (h : refusal_in 3 s ≡ 0) where
  -- every body has the same table
  bodies_alike : (room : List ℕ) → IsAccepted s room ⊎ ComparesNothing (read s) → (b : Body)
      → check_body (recoded (read s) 4 (new_code s)) b ≡ check_body (read s) b
  bodies_alike room (inl a) b =
      let w : WellTyped (read s) = accepted_typed s room a in
      let x = check_complete (read s) b (w.typing b) (w.consistent b) in
      body_follows (read s) (new_code s) b (same_instruction s h b) x.0 x.1 ∙ sym x.1
  bodies_alike room (inr n) b = body_same (read s) (new_code s) b (same_instruction s h b) n

  -- the header's counts
  same_label_count : labels (fourth s) ≡ labels s
  same_label_count =
      sym (label_count_lem (fourth s) (up_read s h).0) ∙ ap (λ (t : Tables). label_count t.labels) (up_read s h).1 ∙ label_count_lem s (old_readable s h)

  same_function_count : functions (fourth s) ≡ functions s
  same_function_count =
      let t : Tables = tables_in s in
      let e : table_refusal t ≡ 0 = old_good s h in
      let q : edition s ≡ 3 = old_edition s h in
      sym (function_count_lem (fourth s) (up_read s h).0)
      ∙ ap (λ (x : Tables). function_count x.bodies.edition x.bodies.functions) (up_read s h).1
      ∙ (pair_counts (up_count t e q) (functions_in s) (up_records t e q) (up_pair t e q)).1
      ∙ ap (λ (k : ℕ). function_count k (functions_in s)) (sym q)
      ∙ function_count_lem s (old_readable s h)

  module _ (room : List ℕ) (a : IsAccepted s room ⊎ ComparesNothing (read s)) where
    -- the first body without typing
    same_first : first_untyped (read (fourth s)) (bodies (functions (fourth s))) ≡ first_untyped (read s) (bodies (functions s))
    same_first =
        ap₂ (λ (m : Module) (n : ℕ). first_untyped m (bodies n)) (recoded_is s h) same_function_count
        ∙ first_same (read s) (new_code s) (bodies_alike room a) (bodies (functions s))

    -- the records of all labels
    same_records : label_records (read (fourth s)) (labels (fourth s)) ≡ label_records (read s) (labels s)
    same_records =
        ap₂ (λ (m : Module) (n : ℕ). label_records m n) (recoded_is s h) same_label_count
        ∙ records_same (read s) (new_code s) (bodies_alike room a) (labels s)

    -- what is answered and written
    same_judged : (o : Option Body) → judged (fourth s) room o ≡ judged s room o
    same_judged (some b) = rw same_label_count
    same_judged none = rw (same_records, same_label_count)

-- the check of what comes out answers as that of the old module, where this is accepted or compares nothing, and writes the same
pub same_check : (s room : List ℕ) → refusal_in 3 s ≡ 0 → IsAccepted s room ⊎ ComparesNothing (read s) → check (fourth s) room ≡ check s room
unfolding check
same_check s room h a =
    rw ((up_read s h).0, old_readable s h)
    (ap₂ (λ (n : ℕ) (x : Checked). cond (ltb (length room) (64 * n)) (checked (Refused room_too_short) room) x) (same_label_count s h)
    (ap (judged (fourth s) room) (same_first s h room a) ∙ same_judged s h room a (first_untyped (read s) (bodies (functions s)))))
