-- What an instruction does to the height, with what a typing's flow from it leaves: by lengths alone. By its number in a table of keys.
use Rattle.std.specs.Prelude.{◌≡◌, refl, ◌≢◌, ℕ, zero, suc, ◌+◌, ◌≤◌, ◌<◌, Bool, true, false, ◌&&◌, List, [], ◌∷◌, ◌++◌, length, get_or, ltb, eqb}
use Rattle.std.proofs.Common.{sym, subst, arith}
use Rattle.std.proofs.Math.Option.{Option, none, some}
use Rattle.soundness.specs.Names.{int, Unary, pop, copy, neg, complement, convert, count, Binary, swap, arith as arithmetic, cmp, Condition, Instruction, push, load, store, lea, one, two, tload, tstore, bump, jmp, branch, call, ret, null, new, delete, flea}
use Rattle.rules.specs.Bytes.{maybe}
use Rattle.rules.specs.Instructions.{void, cell, Ty, num, ptr, kind_of, num_of, eq_ty, size, Opcode, absent, bare, wide, opcode_of, instruction_of}
use Rattle.rules.specs.Tables.{Body, Function, Module}
use Rattle.rules.specs.Stack.{at}
use Rattle.rules.specs.Heap.{shape_of, pointee_in}
use Rattle.rules.specs.Operations.{class1, class2, refuse}
use Rattle.rules.specs.Machine.{owned, own}
use Rattle.rules.specs.Typing.{Lists, lists, Flow, to, operand, only, agree, strip, with_result, judge, gives1, gives2}
use Rattle.soundness.specs.Numbering.{key_table}
use Rattle.soundness.specs.Tests.{decide, none_some, some_inj, eqb_is, eqb_isnt}
use Rattle.soundness.specs.Exact.{by_maybe, by_no, by_only, by_ptr, by_num, by_unmanaged, by_struct, by_fields, by_ret}

-- ---- plans

-- falls d: it goes on to the next place, with d operands more than it had, less 2
pub data Plan : Type 0 where
  falls : ℕ → Plan
  stores : ℕ → Plan
  jumps : ℕ → Plan
  forks : ℕ → Plan
  calls : ℕ → Plan
  stops : Plan

abbrev pub plan1 : Unary → Plan
plan1 pop = falls 1
plan1 copy = falls 3
plan1 neg = falls 2
plan1 complement = falls 2
plan1 (convert r τ) = falls 2
plan1 (count u) = falls 2

abbrev pub plan2 : Binary → Plan
plan2 swap = falls 2
plan2 (arithmetic o) = falls 1
plan2 (cmp s) = falls 1

abbrev pub plan_of : Instruction → Plan
plan_of (push k) = falls 3
plan_of (load n) = falls 3
plan_of (store n) = stores n
plan_of (lea n) = falls 3
plan_of (one o) = plan1 o
plan_of (two o) = plan2 o
plan_of tload = falls 2
plan_of tstore = falls 0
plan_of (bump d) = falls 1
plan_of (jmp l) = jumps l
plan_of (branch c l) = forks l
plan_of (call k) = calls k
plan_of ret = stops
plan_of (null g) = falls 3
plan_of (new g n) = falls 3
plan_of delete = falls 1
plan_of (flea n) = falls 2

-- how many slots a result takes
abbrev pub result_slots : Option Ty → ℕ
result_slots none = 0
result_slots (some t) = 1

-- ---- what a flow leaves

module _ (m : Module) (b : Body) (q : ℕ) (L O : List Ty) where
  abbrev pub Leaves : Plan → List (ℕ × Lists) → Type 0
  Leaves (falls d) ns = (P : List Ty) × (ns ≡ (q, lists L P) ∷ []) × (length P + 2 ≡ length O + d)
  Leaves (stores n) ns =
      (n < length L → (P : List Ty) × (ns ≡ (q, lists L P) ∷ []) × (suc (length P) ≡ length O))
      × (length L ≤ n → (t : Ty) × (ns ≡ (q, lists (t ∷ L) []) ∷ []))
  Leaves (jumps l) ns = (p : ℕ) × (owned b (m.label l) ≡ some p) × (ns ≡ (p, lists L O) ∷ [])
  Leaves (forks l) ns = (p : ℕ) × (owned b (m.label l) ≡ some p) × (P : List Ty) × (ns ≡ (p, lists L P) ∷ (q, lists L P) ∷ []) × (suc (length P) ≡ length O)
  Leaves (calls k) ns =
      (F : Function) × (m.function k ≡ some F) × (P : List Ty) × (ns ≡ (q, lists L P) ∷ []) × (length P + length F.params ≡ length O + result_slots F.result)
      × (length F.params ≤ length O)
  Leaves stops ns = ns ≡ []

  abbrev pub Follows : Plan → Flow → Type 0
  Follows x none = Unit {0}
  Follows x (some ns) = Leaves x ns

at_none : {A : Type 0} (xs : List A) (n : ℕ) → at xs n ≡ none → n < length xs → ⊥
at_none [] n e h = omega arith
at_none (x ∷ xs) n e h =
    decide (eqb n (length xs)) (λ y. none_some (sym (rw y at e))) (λ y. at_none xs n (rw y at e) (let z : n ≢ length xs = eqb_isnt n (length xs) y in omega arith))

at_some : {A : Type 0} (xs : List A) (n : ℕ) (a : A) → at xs n ≡ some a → length xs ≤ n → ⊥
at_some [] n a e h = none_some e
at_some (x ∷ xs) n a e h = decide (eqb n (length xs)) (λ y. let z : n ≡ length xs = eqb_is n (length xs) y in omega arith) (λ y. at_some xs n a (rw y at e) (omega arith))

module _ (m : Module) (b : Body) (q : ℕ) (L : List Ty) where
  abbrev Fl : List Ty → Plan → Flow → Type 0
  Fl O x w = Follows m b q L O x w

  gives1_follows : (o : Unary) (t : Ty) (O : List Ty) → Fl (t ∷ O) (plan1 o) (to q L (gives1 o t ++ O))
  gives1_follows pop t O = (O, refl, omega arith)
  gives1_follows copy t O = (t ∷ t ∷ O, refl, omega arith)
  gives1_follows neg t O = (t ∷ O, refl, omega arith)
  gives1_follows complement t O = (t ∷ O, refl, omega arith)
  gives1_follows (convert r τ) t O = (num τ ∷ O, refl, omega arith)
  gives1_follows (count u) t O = (t ∷ O, refl, omega arith)

  gives2_follows : (o : Binary) (t u : Ty) (O : List Ty) → Fl (t ∷ u ∷ O) (plan2 o) (to q L (gives2 o t ++ O))
  gives2_follows swap t u O = (t ∷ t ∷ O, refl, omega arith)
  gives2_follows (arithmetic o) t u O = (t ∷ O, refl, omega arith)
  gives2_follows (cmp s) t u O = (num int ∷ O, refl, omega arith)

  pub judge_follows : (i : Instruction) (O : List Ty) → Fl O (plan_of i) (judge m b i q L O)
  judge_follows (push k) O = by_maybe (Fl O (falls 3)) tt (m.constant k) _ (λ c u. by_maybe (Fl O (falls 3)) tt (num_of c.kind) _ (λ τ v. (num τ ∷ O, refl, omega arith)))
  judge_follows (load n) O = by_maybe (Fl O (falls 3)) tt (at L n) _ (λ t u. (t ∷ O, refl, omega arith))
  judge_follows (store n) O = go (at L n) refl O
    where
      go : (o : Option Ty) → at L n ≡ o → (O : List Ty)
          → Fl O (stores n) (maybe o (operand O (λ t O'. only (eqb n (length L) && ltb n 16) (to q (t ∷ L) []))) (λ u. operand O (λ t O'. only (eq_ty t u) (to q L O'))))
      go none e [] = tt
      go none e (t ∷ O) = by_only (Fl (t ∷ O) (stores n)) tt (eqb n (length L) && ltb n 16) _ ((λ h. absurd (at_none L n e h)), λ h. (t, refl))
      go (some u) e [] = tt
      go (some u) e (t ∷ O) = by_only (Fl (t ∷ O) (stores n)) tt (eq_ty t u) _ ((λ h. (O, refl, refl)), λ h. absurd (at_some L n u e h))
  judge_follows (lea n) O = by_maybe (Fl O (falls 3)) tt (at L n) _ (λ t u. by_num (Fl O (falls 3)) tt t _ (λ τ. (ptr false (cell τ) ∷ O, refl, omega arith)))
  judge_follows (one o) [] = tt
  judge_follows (one o) (t ∷ O) = by_no (Fl (t ∷ O) (plan1 o)) tt (refuse (class1 o) (kind_of t) (kind_of t)) _ (gives1_follows o t O)
  judge_follows (two o) [] = tt
  judge_follows (two o) (t ∷ []) = tt
  judge_follows (two o) (t ∷ u ∷ O) =
      by_only (Fl (t ∷ u ∷ O) (plan2 o)) tt (agree m.edition o t u) _ (by_no (Fl (t ∷ u ∷ O) (plan2 o)) tt (refuse (class2 o) (kind_of u) (kind_of t)) _ (gives2_follows o t u O))
  judge_follows tload [] = tt
  judge_follows tload (t ∷ O) = by_ptr (Fl (t ∷ O) (falls 2)) tt t _ (λ τ. (num τ ∷ O, refl, omega arith))
  judge_follows tstore [] = tt
  judge_follows tstore (t ∷ []) = tt
  judge_follows tstore (t ∷ u ∷ O) = by_ptr (Fl (t ∷ u ∷ O) (falls 0)) tt u _ (λ τ. by_only (Fl (t ∷ u ∷ O) (falls 0)) tt (eq_ty t (num τ)) _ (O, refl, omega arith))
  judge_follows (bump d) [] = tt
  judge_follows (bump d) (t ∷ O) = by_ptr (Fl (t ∷ O) (falls 1)) tt t _ (λ τ. (O, refl, omega arith))
  judge_follows (jmp l) O = by_maybe (Fl O (jumps l)) tt (owned b (m.label l)) _ (λ p e. (p, e, refl))
  judge_follows (branch c l) O = by_maybe (Fl O (forks l)) tt (owned b (m.label l)) _ (λ p e. go p e O)
    where
      go : (p : ℕ) → owned b (m.label l) ≡ some p → (O : List Ty)
          → Fl O (forks l) (operand O (λ t O'. only (eq_ty t (num int)) (some ((p, lists L O') ∷ (q, lists L O') ∷ []))))
      go p e [] = tt
      go p e (t ∷ O) = by_only (Fl (t ∷ O) (forks l)) tt (eq_ty t (num int)) _ (p, e, O, refl, refl)
  judge_follows (call k) O = by_maybe (Fl O (calls k)) tt (m.function k) _ (λ F e. go F e F.params O [] (omega arith) (omega arith))
    where
      result : (r : Option Ty) (P : List Ty) → length (with_result r P) ≡ length P + result_slots r
      result none P = omega arith
      result (some t) P = omega arith

      -- ds have been taken from the operands, as many as the parameters before ps
      go : (F : Function) → m.function k ≡ some F → (ps O' ds : List Ty) → length ds + length ps ≡ length F.params
          → length O ≡ length ds + length O'
          → Fl O (calls k) (strip ps O' (λ P. to q L (with_result F.result P)))
      go F e [] O' ds n l =
          let r : length (with_result F.result O') ≡ length O' + result_slots F.result = result F.result O' in
          (F, e, with_result F.result O', refl, omega arith, omega arith)
      go F e (p ∷ ps) [] ds n l = tt
      go F e (p ∷ ps) (t ∷ O') ds n l = by_only (Fl O (calls k)) tt (eq_ty t p) _ (go F e ps O' (t ∷ ds) (omega arith) (omega arith))
  judge_follows ret O = by_maybe (Fl O stops) tt (own m b) _ (λ F u. by_ret (Fl O stops) tt refl F.result O)
  judge_follows (null g) O = (ptr g void ∷ O, refl, omega arith)
  judge_follows (new g n) O = by_maybe (Fl O (falls 3)) tt (shape_of m n) _ (λ z u. (ptr g (pointee_in n z) ∷ O, refl, omega arith))
  judge_follows delete [] = tt
  judge_follows delete (t ∷ O) = by_unmanaged (Fl (t ∷ O) (falls 1)) tt t _ (O, refl, omega arith)
  judge_follows (flea n) [] = tt
  judge_follows (flea n) (t ∷ O) =
      by_struct (Fl (t ∷ O) (falls 2)) tt t _
      (λ g k. by_maybe (Fl (t ∷ O) (falls 2)) tt (shape_of m k) _ (λ z u. by_fields (Fl (t ∷ O) (falls 2)) tt z _ (λ fs. by_maybe (Fl (t ∷ O) (falls 2)) tt (at fs n) _ (λ τ v. (ptr g (cell τ) ∷ O, refl, omega arith)))))

-- ---- numbers of the table

-- x is the number of an instruction i, whose word is w
pub data Means : ℕ → ℕ → Instruction → Type 0 where
  narrow : (d w : ℕ) (i : Instruction) → plan_of i ≡ falls d → size i ≡ 1 → d < 8 → Means d w i
  broad : (d w : ℕ) (i : Instruction) → plan_of i ≡ falls d → size i ≡ 5 → d < 8 → Means (8 + d) w i
  storing : (w : ℕ) → Means 16 w (store w)
  jumping : (w : ℕ) → Means 17 w (jmp w)
  forking : (c : Condition) (w : ℕ) → Means 18 w (branch c w)
  calling : (w : ℕ) → Means 19 w (call w)
  returning : (w : ℕ) → Means 20 w ret

abbrev pub effects : List ℕ
effects =
    20 ∷ 11 ∷ 1 ∷ 11 ∷ 16 ∷ 11 ∷ 10 ∷ 2 ∷ 0 ∷ 3 ∷ 2 ∷ 1 ∷ 1 ∷ 1 ∷ 1 ∷ 1 ∷ 1 ∷ 1 ∷ 1 ∷ 2 ∷ 1 ∷ 1 ∷ 1 ∷ 1 ∷ 1 ∷ 2 ∷ 1 ∷ 1 ∷ 1 ∷ 1 ∷ 1 ∷ 1 ∷ 17 ∷ 18 ∷ 18 ∷ 18 ∷ 18 ∷ 18 ∷ 18 ∷ 19 ∷ 20 ∷ 2 ∷ 2 ∷ 2 ∷ 2 ∷ 2 ∷ 2 ∷ 2 ∷ 3 ∷ 11 ∷ 1 ∷ 3 ∷ 11 ∷ []

-- the number of a key
abbrev pub effect_at : ℕ → ℕ
effect_at b = get_or effects b 20

abbrev Row : Opcode → ℕ → Type 0
Row absent x = Unit {0}
Row (bare i) x = (w : ℕ) → Means x w i
Row (wide f) x = (w : ℕ) → Means x w (f w)

abbrev Rows : List Opcode → List ℕ → Type 0
Rows [] xs = Unit {0}
Rows (o ∷ os) [] = ⊥
Rows (o ∷ os) (x ∷ xs) = Row o x × Rows os xs

all_rows : Rows key_table effects
all_rows =
    (tt, ((λ w. broad 3 w _ refl refl (omega arith)), ((λ w. narrow 1 w _ refl refl (omega arith)), ((λ w. broad 3 w _ refl refl (omega arith)), ((λ w. storing w), ((λ w. broad 3 w _ refl refl (omega arith)), ((λ w. broad 2 w _ refl refl (omega arith)), ((λ w. narrow 2 w _ refl refl (omega arith)), ((λ w. narrow 0 w _ refl refl (omega arith)), ((λ w. narrow 3 w _ refl refl (omega arith)), ((λ w. narrow 2 w _ refl refl (omega arith)), ((λ w. narrow 1 w _ refl refl (omega arith)), ((λ w. narrow 1 w _ refl refl (omega arith)), ((λ w. narrow 1 w _ refl refl (omega arith)), ((λ w. narrow 1 w _ refl refl (omega arith)), ((λ w. narrow 1 w _ refl refl (omega arith)), ((λ w. narrow 1 w _ refl refl (omega arith)), ((λ w. narrow 1 w _ refl refl (omega arith)), ((λ w. narrow 1 w _ refl refl (omega arith)), ((λ w. narrow 2 w _ refl refl (omega arith)), ((λ w. narrow 1 w _ refl refl (omega arith)), ((λ w. narrow 1 w _ refl refl (omega arith)), ((λ w. narrow 1 w _ refl refl (omega arith)), ((λ w. narrow 1 w _ refl refl (omega arith)), ((λ w. narrow 1 w _ refl refl (omega arith)), ((λ w. narrow 2 w _ refl refl (omega arith)), ((λ w. narrow 1 w _ refl refl (omega arith)), ((λ w. narrow 1 w _ refl refl (omega arith)), ((λ w. narrow 1 w _ refl refl (omega arith)), ((λ w. narrow 1 w _ refl refl (omega arith)), ((λ w. narrow 1 w _ refl refl (omega arith)), ((λ w. narrow 1 w _ refl refl (omega arith)), ((λ w. jumping w), ((λ w. forking _ w), ((λ w. forking _ w), ((λ w. forking _ w), ((λ w. forking _ w), ((λ w. forking _ w), ((λ w. forking _ w), ((λ w. calling w), ((λ w. returning w), ((λ w. narrow 2 w _ refl refl (omega arith)), ((λ w. narrow 2 w _ refl refl (omega arith)), ((λ w. narrow 2 w _ refl refl (omega arith)), ((λ w. narrow 2 w _ refl refl (omega arith)), ((λ w. narrow 2 w _ refl refl (omega arith)), ((λ w. narrow 2 w _ refl refl (omega arith)), ((λ w. narrow 2 w _ refl refl (omega arith)), ((λ w. narrow 3 w _ refl refl (omega arith)), ((λ w. broad 3 w _ refl refl (omega arith)), ((λ w. narrow 1 w _ refl refl (omega arith)), ((λ w. narrow 3 w _ refl refl (omega arith)), ((λ w. broad 3 w _ refl refl (omega arith)), tt)))))))))))))))))))))))))))))))))))))))))))))))))))))

rows_at : (os : List Opcode) (xs : List ℕ) → Rows os xs → (b : ℕ) → Row (opcode_of os b) (get_or xs b 20)
rows_at [] xs r b = tt
rows_at (o ∷ os) [] r b = absurd r
rows_at (o ∷ os) (x ∷ xs) r zero = r.0
rows_at (o ∷ os) (x ∷ xs) r (suc b) = rows_at os xs r.1 b

pub means_at : (b w : ℕ) (i : Instruction) → instruction_of (opcode_of key_table b) w ≡ some i → Means (effect_at b) w i
means_at b w i e = go (opcode_of key_table b) (rows_at key_table effects all_rows b) e
  where
    go : (o : Opcode) → Row o (effect_at b) → instruction_of o w ≡ some i → Means (effect_at b) w i
    go absent r f = none_some f
    go (bare j) r f = subst (Means (effect_at b) w) (some_inj j i f) (r w)
    go (wide g) r f = subst (Means (effect_at b) w) (some_inj (g w) i f) (r w)

-- every key in a list has this number
abbrev pub all_are : ℕ → List ℕ → Bool
all_are x [] = true
all_are x (k ∷ ks) = eqb (effect_at k) x && all_are x ks
