-- A module that holds the code of a tree, run on three ints: it gives the tree's value, or 24.
use Rattle.std.specs.Prelude.{◌≡◌, length, leb, eqb}
use Rattle.std.proofs.Math.Path.{refl}
use Rattle.std.proofs.Common.{◌∙◌, div-le_self, length-append}
use Prim.Native.Nat.{ℕ, zero, suc, ◌+◌, ◌-◌, ◌%◌, ◌≤◌, ◌<◌}
use native.Mathlib.Omega.{arith}
use Rattle.std.proofs.Math.Option.{Option, none, some}
use mathlib.Core.List.{List, [], ◌∷◌, ◌++◌}
use Rattle.rules.specs.Bytes.{maybe}
use Rattle.rules.specs.Words.{neg_of}
use Rattle.soundness.specs.Names.{Slot, Instruction, push, load, one, two, ret, neg, arith as arithmetic, int}
use Rattle.rules.specs.Instructions.{num, size}
use Rattle.rules.specs.Heap.{empty_heap}
use Rattle.rules.specs.Tables.{fn, Function, Module}
use Rattle.rules.specs.Stack.{slot, at, under}
use Rattle.rules.specs.Operations.{on_words, computed, zero_divide, negated}
use Rattle.rules.specs.Machine.{State, opened, goes, stops, finishes, exec, exec_in, step, advance, run, Outcome, outcome}
use Rattle.rules.specs.Demand3.{Moment, first, next}
use Rattle.soundness.specs.Tests.{decide, leb_yes, leb_is, ltb_no}
use Rattle.soundness.specs.Slots.{at_up}
use Rattle.soundness.specs.Runs.{run_moment}
use Rattle.rules.specs.Grammar.{Sign, plus, dash, star, slash, Tree, number, name, minus, both, group}
use Rattle.rules.specs.Formula.{need, numbers, Step, negate, operate, answer, postfix, steps, applied, value}
use Rattle.rules.specs.Compiled.{parameters}
use Rattle.grammar.specs.Proper.{Proper, need_some}
use Rattle.grammar.specs.Coded.{operator, after, after_append, Laid, laid_left, laid_right, Pool, pool_left, pool_right}

-- ---- values fit 32 bits

abbrev pub Small : (ℕ → ℕ) → Type 0
Small env = (i : ℕ) → i < 3 → env i < 4294967296

-- the value, if there is one
abbrev pub Fits : Option ℕ → Type 0
Fits none = Unit {0}
Fits (some v) = v < 4294967296

applied_fits : (o : Sign) (a b : ℕ) → a < 4294967296 → Fits (applied o a b)
applied_fits plus a b h = omega arith
applied_fits dash a b h = omega arith
applied_fits star a b h = omega arith
applied_fits slash a b h = decide (eqb b 0) (λ z. rw z tt) (λ z. rw z (omega (arith, div-le_self a b)))

pub value_fits : (env : ℕ → ℕ) → Small env → (t : Tree) → Proper t → Fits (value env t)
value_fits env s (number n) h = h
value_fits env s (name i) h = s i h
value_fits env s (minus t) h = go (value env t)
  where
    go : (x : Option ℕ) → Fits (maybe x none (λ a. some (neg_of 32 a)))
    go none = tt
    go (some a) = omega arith
value_fits env s (both o t u) h = go (value env t) (value env u) (value_fits env s t h.0)
  where
    go : (x y : Option ℕ) → Fits x → Fits (maybe x none (λ a. maybe y none (λ b. applied o a b)))
    go none y f = tt
    go (some a) none f = tt
    go (some a) (some b) f = applied_fits o a b f
value_fits env s (group t) h = value_fits env s t h

-- ---- one instruction

-- in the function, at place p, with this stack and an empty heap of so many cells
abbrev pub here : ℕ → ℕ → ℕ → List Slot → State
here cells e p st = record { memory = record { stack = st; heap = empty_heap cells }; top = opened (fn 0) p e 0 3; callers = [] }

module _ (m : Module) (cap cells e : ℕ) where
  advance_is : (p : ℕ) (st : List Slot) (i : Instruction) → p < e → m.code p ≡ some i
      → advance m cap (here cells e p st) ≡ exec m cap (record { stack = st; heap = empty_heap cells }) i st (opened (fn 0) (p + size i) e 0 3) []
  unfolding advance step exec_in
  advance_is p st i h c = decide (leb e p) (λ z. absurd (omega (arith, leb_is e p z))) (λ z. rw (z, c) refl)

  push_goes : (p k n : ℕ) (st : List Slot) → p < e → m.code p ≡ some (push k) → m.constant k ≡ some (slot 3 n) → length st < cap
      → advance m cap (here cells e p st) ≡ goes (here cells e (p + 5) (slot 3 n ∷ st))
  push_goes p k n st h c q l = advance_is p st (push k) h c ∙ rw (q, leb_yes (suc (length st)) cap l) refl

  load_goes : (p i : ℕ) (v : Slot) (st : List Slot) → i < 3 → p < e → m.code p ≡ some (load i) → at st i ≡ some v → length st < cap
      → advance m cap (here cells e p st) ≡ goes (here cells e (p + 5) (v ∷ st))
  load_goes p i v st b h c q l = advance_is p st (load i) h c ∙ rw (own i b, q, leb_yes (suc (length st)) cap l) refl
    where
      own : (i : ℕ) → i < 3 → at (2 ∷ 1 ∷ 0 ∷ []) i ≡ some i
      own zero b = refl
      own (suc zero) b = refl
      own (suc (suc zero)) b = refl
      own (suc (suc (suc i))) b = absurd (omega arith)

  neg_goes : (p a : ℕ) (st : List Slot) → p < e → m.code p ≡ some (one neg) → a < 4294967296 → 3 ≤ length st → length st < cap
      → advance m cap (here cells e p (slot 3 a ∷ st)) ≡ goes (here cells e (p + 1) (slot 3 (neg_of 32 a) ∷ st))
  unfolding negated
  neg_goes p a st h c b f l =
      let q : a % 4294967296 ≡ a = omega arith in
      advance_is p (slot 3 a ∷ st) (one neg) h c ∙ rw (leb_yes 3 (length st) f, leb_yes (suc (length st)) cap l, q) refl

  -- a is the deeper operand
  two_is : (p a b : ℕ) (o : Sign) (st : List Slot) → p < e → m.code p ≡ some (two (arithmetic (operator o))) → a < 4294967296 → b < 4294967296 → 3 ≤ length st → length st < cap
      → advance m cap (here cells e p (slot 3 b ∷ slot 3 a ∷ st)) ≡ maybe (applied o a b) (stops 24) (λ v. goes (here cells e (p + 1) (slot 3 v ∷ st)))
  unfolding computed zero_divide on_words
  two_is p a b o st h c x y f l = advance_is p (slot 3 b ∷ slot 3 a ∷ st) (two (arithmetic (operator o))) h c ∙ go o (omega arith) (omega arith) (omega arith)
    where
      go : (o : Sign) → a % 4294967296 ≡ a → b % 4294967296 ≡ b → 3 ≤ suc (length st)
          → exec m cap (record { stack = slot 3 b ∷ slot 3 a ∷ st; heap = empty_heap cells }) (two (arithmetic (operator o))) (slot 3 b ∷ slot 3 a ∷ st) (opened (fn 0) (p + 1) e 0 3) []
          ≡ maybe (applied o a b) (stops 24) (λ v. goes (here cells e (p + 1) (slot 3 v ∷ st)))
      go plus q q' f' = rw (leb_yes 3 (suc (length st)) f', leb_yes 3 (length st) f, leb_yes (suc (length st)) cap l, q, q') refl
      go dash q q' f' = rw (leb_yes 3 (suc (length st)) f', leb_yes 3 (length st) f, leb_yes (suc (length st)) cap l, q, q') refl
      go star q q' f' = rw (leb_yes 3 (suc (length st)) f', leb_yes 3 (length st) f, leb_yes (suc (length st)) cap l, q, q') refl
      go slash q q' f' =
          decide (eqb b 0) (λ z. rw (leb_yes 3 (suc (length st)) f', leb_yes 3 (length st) f, q', z) refl)
          (λ z. rw (leb_yes 3 (suc (length st)) f', leb_yes 3 (length st) f, q', z, leb_yes (suc (length st)) cap l, q) refl)

-- ---- the code of a tree

module _ (m : Module) (cap cells e : ℕ) (s₀ : State) (env : ℕ → ℕ) (small : Small env) where
  -- from moment j on, n instructions further on: the value on top of the stack at place p, or a quotient by zero on the way
  abbrev Reaches : ℕ → ℕ → ℕ → List Slot → Option ℕ → Type 0
  Reaches j n p st none = (i : ℕ) × (s : State) × Moment m cap s₀ i s × (advance m cap s ≡ stops 24) × (i < j + n)
  Reaches j n p st (some v) = Moment m cap s₀ (j + n) (here cells e p (slot 3 v ∷ st))

  -- the arguments lie below
  abbrev Below : List Slot → Type 0
  Below st = (3 ≤ length st) × ((i : ℕ) → i < 3 → at st i ≡ some (slot 3 (env i)))

  below_up : (v : Slot) (st : List Slot) → Below st → Below (v ∷ st)
  below_up v st h = (omega (arith, h.0), λ i l. at_up v st i (slot 3 (env i)) (h.1 i l))

  moved : (j k : ℕ) (s : State) → j ≡ k → Moment m cap s₀ j s → Moment m cap s₀ k s
  moved j k s q h = rw q at h

  later : (j n n' p p' : ℕ) (st st' : List Slot) → n ≤ n' → Reaches j n p st none → Reaches j n' p' st' none
  later j n n' p p' st st' l h = (h.0, h.1, h.2, h.3, omega (arith, h.4))

  minus_runs : (j n p : ℕ) (st : List Slot) (x : Option ℕ) → Fits x → Laid m e p (negate ∷ []) → Below st → length st < cap → Reaches j n p st x
      → Reaches j (n + 1) (p + 1) st (maybe x none (λ a. some (neg_of 32 a)))
  minus_runs j n p st none y c b l r = later j n (n + 1) p (p + 1) st st (omega arith) r
  minus_runs j n p st (some a) y c b l r = moved (suc (j + n)) (j + (n + 1)) _ (omega arith) (next r (neg_goes m cap cells e p a st c.0 c.1 y b.0 l))

  operate_runs : (o : Sign) (j p a b : ℕ) (st : List Slot) → a < 4294967296 → b < 4294967296 → Laid m e p (operate o ∷ []) → Below st → length st < cap
      → Moment m cap s₀ j (here cells e p (slot 3 b ∷ slot 3 a ∷ st)) → (v : Option ℕ) → applied o a b ≡ v → Reaches j 1 (p + 1) st v
  operate_runs o j p a b st ha hb c w l r none q =
      (j, here cells e p (slot 3 b ∷ slot 3 a ∷ st), r, two_is m cap cells e p a b o st c.0 c.1 ha hb w.0 l ∙ rw q refl, omega arith)
  operate_runs o j p a b st ha hb c w l r (some v) q =
      moved (suc j) (j + 1) _ (omega arith) (next r (two_is m cap cells e p a b o st c.0 c.1 ha hb w.0 l ∙ rw q refl))

  both_runs : (o : Sign) (j n n' p p' : ℕ) (st : List Slot) (x y : Option ℕ) → Fits x → Fits y → Laid m e p' (operate o ∷ []) → Below st → length st < cap → Reaches j n p st x
      → ((a : ℕ) → Moment m cap s₀ (j + n) (here cells e p (slot 3 a ∷ st)) → Reaches (j + n) n' p' (slot 3 a ∷ st) y)
      → Reaches j (n + (n' + 1)) (p' + 1) st (maybe x none (λ a. maybe y none (λ b. applied o a b)))
  both_runs o j n n' p p' st none y hx hy c b l r f = later j n (n + (n' + 1)) p (p' + 1) st st (omega arith) r
  both_runs o j n n' p p' st (some a) none hx hy c b l r f =
      let z : Reaches (j + n) n' p' (slot 3 a ∷ st) none = f a r in (z.0, z.1, z.2, z.3, omega (arith, z.4))
  both_runs o j n n' p p' st (some a) (some d) hx hy c b l r f =
      shifted (applied o a d) (operate_runs o (j + n + n') p' a d st hx hy c b l (f a r) (applied o a d) refl)
    where
      shifted : (v : Option ℕ) → Reaches (j + n + n') 1 (p' + 1) st v → Reaches j (n + (n' + 1)) (p' + 1) st v
      shifted none z = (z.0, z.1, z.2, z.3, omega (arith, z.4))
      shifted (some v) z = moved (j + n + n' + 1) (j + (n + (n' + 1))) _ (omega arith) z

  tree_runs : (t : Tree) (k p j : ℕ) (st : List Slot) → Proper t → Laid m e p (postfix k t) → Pool m k (numbers t) → Moment m cap s₀ j (here cells e p st) → Below st → length st + need t ≤ cap
      → Reaches j (length (postfix k t)) (after p (postfix k t)) st (value env t)
  tree_runs (number n) k p j st w c q h b l =
      moved (suc j) (j + 1) _ (omega arith) (next h (push_goes m cap cells e p k n st c.0 c.1 q.0 (omega arith)))
  tree_runs (name i) k p j st w c q h b l =
      moved (suc j) (j + 1) _ (omega arith) (next h (load_goes m cap cells e p i (slot 3 (env i)) st w c.0 c.1 (b.1 i w) (omega arith)))
  tree_runs (minus t) k p j st w c q h b l =
      rw (length-append (postfix k t) (negate ∷ []), after_append p (postfix k t) (negate ∷ []))
      (minus_runs j (length (postfix k t)) (after p (postfix k t)) st (value env t) (value_fits env small t w) (laid_right m e p (postfix k t) (negate ∷ []) c) b (omega (arith, need_some t))
      (tree_runs t k p j st w (laid_left m e p (postfix k t) (negate ∷ []) c) q h b l))
  tree_runs (both o t u) k p j st w c q h b l =
      let k' : ℕ = k + length (numbers t) in
      let js : List Step = postfix k' u in
      let c' : Laid m e (after p (postfix k t)) (js ++ (operate o ∷ [])) = laid_right m e p (postfix k t) (js ++ (operate o ∷ [])) c in
      rw (length-append (postfix k t) (js ++ (operate o ∷ [])), length-append js (operate o ∷ []), after_append p (postfix k t) (js ++ (operate o ∷ [])), after_append (after p (postfix k t)) js (operate o ∷ []))
      (both_runs o j (length (postfix k t)) (length js) (after p (postfix k t)) (after (after p (postfix k t)) js) st (value env t) (value env u)
      (value_fits env small t w.0) (value_fits env small u w.1) (laid_right m e (after p (postfix k t)) js (operate o ∷ []) c') b (omega (arith, need_some t))
      (tree_runs t k p j st w.0 (laid_left m e p (postfix k t) (js ++ (operate o ∷ [])) c) (pool_left m k (numbers t) (numbers u) q) h b (omega arith))
      (λ a r. tree_runs u k' (after p (postfix k t)) (j + length (postfix k t)) (slot 3 a ∷ st) w.1 (laid_left m e (after p (postfix k t)) js (operate o ∷ []) c') (pool_right m k (numbers t) (numbers u) q) r (below_up (slot 3 a) st b) (omega arith)))
  tree_runs (group t) k p j st w c q h b l = tree_runs t k p j st w c q h b l

-- ---- the whole run

-- the arguments, topmost first
abbrev pub three : ℕ → ℕ → ℕ → List Slot
three r g b = slot 3 b ∷ slot 3 g ∷ slot 3 r ∷ []

pub three_small : (r g b : ℕ) → r < 4294967296 → g < 4294967296 → b < 4294967296 → Small (parameters r g b)
three_small r g b hr hg hb zero h = hr
three_small r g b hr hg hb (suc zero) h = hg
three_small r g b hr hg hb (suc (suc i)) h = hb

under_none : (st : List Slot) → under 0 st ≡ []
under_none [] = refl
under_none (v ∷ st) = rw (ltb_no (length st) 0 (omega arith)) (under_none st)

-- how a run ends: with the value alone, or with 24
abbrev pub Ends : ℕ → Option ℕ → Outcome → Type 0
Ends cells none o = (i : ℕ) × (s : State) × (o ≡ outcome 24 i s.memory)
Ends cells (some v) o = (i : ℕ) × (o ≡ outcome 0 i (record { stack = slot 3 v ∷ []; heap = empty_heap cells }))

module _ (m : Module) (cap cells e : ℕ) (F : Function) (is_function : m.function 0 ≡ some F) (gives-int : F.result ≡ some (num int)) where
  ret_finishes : (p v : ℕ) (st : List Slot) → p < e → m.code p ≡ some ret → 3 ≤ length st → advance m cap (here cells e p (slot 3 v ∷ st)) ≡ finishes (record { stack = slot 3 v ∷ []; heap = empty_heap cells })
  ret_finishes p v st h c l =
      advance_is m cap cells e p (slot 3 v ∷ st) ret h c ∙ rw (is_function, gives-int, leb_yes 3 (length st) l, ltb_no (length st) 0 (omega arith), under_none st) refl

  run_stops : (n k : ℕ) (s : State) (x : ℕ) → advance m cap s ≡ stops x → run m cap (suc n) k s ≡ outcome x k s.memory
  unfolding run
  run_stops n k s x h = rw (h, run) refl

  run_finishes : (n k : ℕ) (s : State) (v : ℕ) → advance m cap s ≡ finishes (record { stack = slot 3 v ∷ []; heap = empty_heap cells }) → run m cap (suc n) k s ≡ outcome 0 (suc k) (record { stack = slot 3 v ∷ []; heap = empty_heap cells })
  unfolding run
  run_finishes n k s v h = rw (h, run) refl

  module _ (r g b : ℕ) (hr : r < 4294967296) (hg : g < 4294967296) (hb : b < 4294967296) where
    below : (3 ≤ length (three r g b)) × ((i : ℕ) → i < 3 → at (three r g b) i ≡ some (slot 3 (parameters r g b i)))
    below = (omega arith, args)
      where
        args : (i : ℕ) → i < 3 → at (three r g b) i ≡ some (slot 3 (parameters r g b i))
        args zero h = refl
        args (suc zero) h = refl
        args (suc (suc zero)) h = refl
        args (suc (suc (suc i))) h = absurd (omega arith)

    ended : (n A : ℕ) (x : Option ℕ) → suc n ≤ A → (p : ℕ) → Laid m e p (answer ∷ []) → Reaches m cap cells e (here cells e 0 (three r g b)) (parameters r g b) (three_small r g b hr hg hb) 0 n p (three r g b) x → Ends cells x (run m cap A 0 (here cells e 0 (three r g b)))
    ended n A none l p c h =
        let q : A ≡ h.0 + suc (A - suc h.0) = omega (arith, h.4) in
        (h.0, h.1, rw q (run_moment m cap (here cells e 0 (three r g b)) h.2 (suc (A - suc h.0)) ∙ run_stops (A - suc h.0) h.0 h.1 24 h.3))
    ended n A (some v) l p c h =
        let z : Moment m cap (here cells e 0 (three r g b)) n (here cells e p (slot 3 v ∷ three r g b)) = moved m cap cells e (here cells e 0 (three r g b)) (parameters r g b) (three_small r g b hr hg hb) (0 + n) n _ (omega arith) h in
        let q : A ≡ n + suc (A - suc n) = omega arith in
        (suc n, rw q (run_moment m cap (here cells e 0 (three r g b)) z (suc (A - suc n)) ∙ run_finishes (A - suc n) n (here cells e p (slot 3 v ∷ three r g b)) v (ret_finishes p v (three r g b) c.0 c.1 (omega arith))))

    -- a run of the tree's code on three ints, with room for its operands and allowance for its instructions
    pub code_runs : (t : Tree) (A : ℕ) → Proper t → Laid m e 0 (steps t) → Pool m 0 (numbers t) → 3 + need t ≤ cap → suc (length (postfix 0 t)) ≤ A
        → Ends cells (value (parameters r g b) t) (run m cap A 0 (here cells e 0 (three r g b)))
    code_runs t A w c q l a =
        ended (length (postfix 0 t)) A (value (parameters r g b) t) a (after 0 (postfix 0 t)) (laid_right m e 0 (postfix 0 t) (answer ∷ []) c)
        (tree_runs m cap cells e (here cells e 0 (three r g b)) (parameters r g b) (three_small r g b hr hg hb) t 0 0 0 (three r g b) w (laid_left m e 0 (postfix 0 t) (answer ∷ []) c) q first below l)
