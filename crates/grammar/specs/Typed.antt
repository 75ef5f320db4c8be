-- A module that holds the code of a tree that needs at most 32 operands is well typed.
use Rattle.std.specs.Prelude.{◌≡◌, refl, ◌⊎◌, ℕ, zero, suc, ◌+◌, ◌-◌, ◌≤◌, ◌<◌, Bool, true, false, cond, List, [], ◌∷◌, ◌++◌, length, replicate, leb, eqb}
use Rattle.std.proofs.Common.{sym, ap, ◌∙◌, subst, inl, inr, arith, append_assoc}
use Rattle.std.proofs.Math.Option.{none, some}
use Rattle.std.proofs.lemmas.List.{length-replicate}
use Rattle.soundness.specs.Names.{two, arith as arithmetic, int}
use Rattle.rules.specs.Instructions.{Ty, num, size}
use Rattle.rules.specs.Tables.{Body, entry, fn, Module}
use Rattle.rules.specs.Stack.{slot, at}
use Rattle.rules.specs.Typing.{Lists, lists, judge, place_flow, Typing, Flows, Gives, Consistent, WellTyped}
use Rattle.soundness.specs.Walks.{size_some}
use Rattle.soundness.specs.Tests.{decide, none_some, some_inj, leb_is, eqb_is, eqb_other, eqb_same}
use Rattle.rules.specs.Grammar.{Sign, plus, dash, star, slash, Tree, number, name, minus, both, group}
use Rattle.rules.specs.Formula.{need, numbers, Step, constant, parameter, negate, operate, answer, postfix, steps}
use Rattle.grammar.specs.Proper.{Proper, need_some}
use Rattle.grammar.specs.Coded.{operator, instruction, Laid, Pool, pool_left, pool_right}

abbrev pub locals : List Ty
locals = num int ∷ num int ∷ num int ∷ []

-- a module that holds a tree: its code in function 0, its numbers as constants, and nothing else
pub record Holds (m : Module) (t : Tree) : Type 0 where
  pub stop : ℕ
  pub laid : Laid m stop 0 (steps t)
  pub pool : Pool m 0 (numbers t)
  pub is_function : m.function 0 ≡ some (record { start = 0; end = stop; params = locals; result = some (num int); profile = 0 })
  pub no_other : (k : ℕ) → m.function (suc k) ≡ none
  pub entry_ends : m.entry_end ≡ 0
  pub entry_place : m.is_place entry 0 ≡ true
  pub in_code : stop ≤ m.extent

-- ---- the lists at each place

abbrev pub operands : ℕ → List Ty
operands d = replicate d (num int)

-- the operands after an instruction
abbrev left : Step → ℕ → ℕ
left (constant k) d = suc d
left (parameter i) d = suc d
left negate d = d
left (operate o) d = d - 1
left answer d = d

-- the lists at each of these instructions, from place p and d operands on
unfoldable given : ℕ → ℕ → List Step → Typing
given p d [] q = none
given p d (i ∷ is) q = cond (eqb q p) (some (lists locals (operands d))) (given (p + size (instruction i)) (left i d) is q)

given_here : (p d : ℕ) (i : Step) (is : List Step) → given p d (i ∷ is) p ≡ some (lists locals (operands d))
unfolding given
given_here p d i is = rw (eqb_same p) refl

given_later : (p d : ℕ) (i : Step) (is : List Step) (q : ℕ) → eqb q p ≡ false → given p d (i ∷ is) q ≡ given (p + size (instruction i)) (left i d) is q
unfolding given
given_later p d i is q e = rw e refl

given_none : (p d q : ℕ) → given p d [] q ≡ none
unfolding given
given_none p d q = refl

module _ (m : Module) where
  -- from d operands on these instructions find their operands, never more than 32, and end in `ret`
  abbrev Typed : ℕ → List Step → Type 0
  Typed d [] = ⊥
  Typed d (constant k ∷ is) = (d ≤ 32) × ((n : ℕ) × (m.constant k ≡ some (slot 3 n))) × Typed (suc d) is
  Typed d (parameter i ∷ is) = (d ≤ 32) × (i < 3) × Typed (suc d) is
  Typed d (negate ∷ is) = (d ≤ 32) × (1 ≤ d) × Typed d is
  Typed d (operate o ∷ is) = (d ≤ 32) × (2 ≤ d) × Typed (d - 1) is
  Typed d (answer ∷ is) = (d ≤ 32) × (1 ≤ d) × (is ≡ [])

  typed_32 : (d : ℕ) (is : List Step) → Typed d is → d ≤ 32
  typed_32 d [] h = absurd h
  typed_32 d (constant k ∷ is) h = h.0
  typed_32 d (parameter i ∷ is) h = h.0
  typed_32 d (negate ∷ is) h = h.0
  typed_32 d (operate o ∷ is) h = h.0
  typed_32 d (answer ∷ is) h = h.0

  tree_typed : (t : Tree) (k d : ℕ) (is : List Step) → Proper t → Pool m k (numbers t) → d + need t ≤ 32 → Typed (suc d) is → Typed d (postfix k t ++ is)
  tree_typed (number n) k d is w q l h = (omega arith, (n, q.0), h)
  tree_typed (name i) k d is w q l h = (omega arith, w, h)
  tree_typed (minus t) k d is w q l h =
      rw (append_assoc (postfix k t) (negate ∷ []) is) (tree_typed t k d (negate ∷ is) w q l (typed_32 (suc d) is h, omega arith, h))
  tree_typed (both o t u) k d is w q l h =
      let js : List Step = postfix (k + length (numbers t)) u in
      let h' : Typed (suc (suc d)) (operate o ∷ is) = (two_more u (omega arith), omega arith, let z : suc (suc d) - 1 ≡ suc d = omega arith in rw z h) in
      rw (append_assoc (postfix k t) (js ++ (operate o ∷ [])) is, append_assoc js (operate o ∷ []) is)
      (tree_typed t k d (js ++ (operate o ∷ is)) w.0 (pool_left m k (numbers t) (numbers u) q) (omega arith)
      (tree_typed u (k + length (numbers t)) (suc d) (operate o ∷ is) w.1 (pool_right m k (numbers t) (numbers u) q) (omega arith) h'))
    where
      two_more : (u : Tree) → suc d + need u ≤ 32 → suc (suc d) ≤ 32
      two_more u l = omega (arith, need_some u)
  tree_typed (group t) k d is w q l h = tree_typed t k d is w q l h

-- ---- the entry, of no instruction

abbrev pub empty : Typing
empty p = cond (eqb p 0) (some (lists [] [])) none

empty_is : (p : ℕ) (l : Lists) → empty p ≡ some l → (p ≡ 0) × (l ≡ lists [] [])
empty_is p l e = decide (eqb p 0) (λ z. (eqb_is p 0 z, some_inj l (lists [] []) (sym e ∙ rw z refl))) (λ z. none_some (rw z at e))

-- ---- a module that holds a tree

pub loads : (i : ℕ) → i < 3 → at locals i ≡ some (num int)
loads zero h = refl
loads (suc zero) h = refl
loads (suc (suc zero)) h = refl
loads (suc (suc (suc i))) h = absurd (omega arith)

module _ (m : Module) (t : Tree) (held : Holds m t) where
  pub judged_by : (p : ℕ) (i : Step) (l : Lists) → p < held.stop → m.code p ≡ some (instruction i)
      → place_flow m (fn 0) p l ≡ judge m (fn 0) (instruction i) (p + size (instruction i)) l.locals l.operands
  judged_by p i l h c = rw held.is_function (decide (leb held.stop p) (λ z. absurd (omega (arith, leb_is held.stop p z))) (λ z. rw (z, c) refl))

  pub entry_consistent : Consistent m entry empty
  entry_consistent = record {
    starts = refl;
    few = λ p l e. rw (empty_is p l e).1 (omega arith, omega arith);
    inside = λ p l e. rw (empty_is p l e).0 (omega arith, held.entry_place);
    flows = λ p l e. rw ((empty_is p l e).0, held.entry_ends) tt;
  }

module _ (m : Module) (t : Tree) (held : Holds m t) (w : Proper t) (n : need t ≤ 32) where
  abbrev code_typing : Typing
  code_typing = given 0 0 (steps t)

  -- the place after an instruction has the operands that it leaves
  abbrev Next : ℕ → ℕ → List Step → Type 0
  Next p d is = Typed m d is → code_typing p ≡ some (lists locals (operands d))

  step_flows : (p d : ℕ) (i : Step) (is : List Step) → Typed m d (i ∷ is) → Next (p + size (instruction i)) (left i d) is
      → Flows (Gives code_typing) (judge m (fn 0) (instruction i) (p + size (instruction i)) locals (operands d))
  step_flows p d (constant k) is h f = rw h.1.1 (f h.2, tt)
  step_flows p d (parameter i) is h f = rw (loads i h.1) (f h.2, tt)
  step_flows p zero negate is h f = absurd (omega (arith, h.1))
  step_flows p (suc d) negate is h f = (f h.2, tt)
  step_flows p zero (operate o) is h f = absurd (omega (arith, h.1))
  step_flows p (suc zero) (operate o) is h f = absurd (omega (arith, h.1))
  step_flows p (suc (suc d)) (operate o) is h f = let z : suc (suc d) - 1 ≡ suc d = omega arith in signs o (rw z at (f h.2))
    where
      signs : (o : Sign) → code_typing (p + 1) ≡ some (lists locals (operands (suc d))) → Flows (Gives code_typing) (judge m (fn 0) (two (arithmetic (operator o))) (p + 1) locals (operands (suc (suc d))))
      signs plus x = (x, tt)
      signs dash x = (x, tt)
      signs star x = (x, tt)
      signs slash x = (x, tt)
  step_flows p zero answer is h f = absurd (omega (arith, h.1))
  step_flows p (suc d) answer is h f = rw held.is_function tt

  rest_typed : (d : ℕ) (i : Step) (is : List Step) → Typed m d (i ∷ is) → (is ≡ []) ⊎ Typed m (left i d) is
  rest_typed d (constant k) is h = inr h.2
  rest_typed d (parameter i) is h = inr h.2
  rest_typed d negate is h = inr h.2
  rest_typed d (operate o) is h = inr h.2
  rest_typed d answer is h = inl h.2

  -- the typing is what these instructions give, from place p on
  abbrev Agrees : ℕ → ℕ → List Step → Type 0
  Agrees p d is = (q : ℕ) → p ≤ q → code_typing q ≡ given p d is q

  -- at a typed place stands one of the instructions, and the typing goes on as they do
  record Found (q : ℕ) (l : Lists) : Type 0 where
    count : ℕ
    at_it : Step
    behind : List Step
    shown : l ≡ lists locals (operands count)
    typed : Typed m count (at_it ∷ behind)
    laid : Laid m held.stop q (at_it ∷ behind)
    agrees : Agrees q count (at_it ∷ behind)

  find : (p d : ℕ) (is : List Step) → (is ≡ []) ⊎ Typed m d is → Laid m held.stop p is → Agrees p d is → (q : ℕ) (l : Lists) → given p d is q ≡ some l → Found q l
  find p d [] h c a q l g = none_some (sym (given_none p d q) ∙ g)
  find p d (i ∷ is) (inl z) c a q l g = absurd (let y : suc (length is) ≡ 0 = ap length z in omega arith)
  find p d (i ∷ is) (inr h) c a q l g = go (eqb q p) refl (find (p + size (instruction i)) (left i d) is (rest_typed d i is h) c.3 on q l)
    where
      on : Agrees (p + size (instruction i)) (left i d) is
      on q' v = a q' (omega arith) ∙ given_later p d i is q' (eqb_other q' p (λ y. let u : 0 < size (instruction i) = size_some (instruction i) in omega arith))

      go : (b : Bool) → eqb q p ≡ b → (given (p + size (instruction i)) (left i d) is q ≡ some l → Found q l) → Found q l
      go true y k =
          let z : p ≡ q = sym (eqb_is q p y) in
          subst (λ x. Found x l) z
          (record { count = d; at_it = i; behind = is; shown = some_inj l (lists locals (operands d)) (sym g ∙ ap (λ x. given p d (i ∷ is) x) (sym z) ∙ given_here p d i is); typed = h; laid = c; agrees = a })
      go false y k = k (sym (given_later p d i is q y) ∙ g)

  next_given : (p d : ℕ) (i : Step) (is : List Step) → Agrees p d (i ∷ is) → Next (p + size (instruction i)) (left i d) is
  next_given p d i [] a h = absurd h
  next_given p d i (j ∷ is) a h =
      let u : 0 < size (instruction i) = size_some (instruction i) in
      a (p + size (instruction i)) (omega arith) ∙ given_later p d i (j ∷ is) (p + size (instruction i)) (eqb_other (p + size (instruction i)) p (λ y. omega arith)) ∙ given_here (p + size (instruction i)) (left i d) j is

  found_flows : (q : ℕ) (l : Lists) → Found q l → Flows (Gives code_typing) (place_flow m (fn 0) q l)
  found_flows q l f =
      rw (judged_by m t held q f.at_it l f.laid.0 f.laid.1, f.shown)
      (step_flows q f.count f.at_it f.behind f.typed (next_given q f.count f.at_it f.behind f.agrees))

  code_typed : Typed m 0 (steps t)
  code_typed = tree_typed m t 0 0 (answer ∷ []) w held.pool (omega arith) (omega arith, omega arith, refl)

  found : (p : ℕ) (l : Lists) → code_typing p ≡ some l → Found p l
  found p l e = find 0 0 (steps t) (inr code_typed) held.laid (λ q v. refl) p l e

  starts_typed : (is : List Step) → Typed m 0 is → given 0 0 is 0 ≡ some (lists locals [])
  starts_typed [] y = absurd y
  starts_typed (i ∷ is) y = given_here 0 0 i is

  code_consistent : Consistent m (fn 0) code_typing
  code_consistent = record {
    starts = rw held.is_function (starts_typed (steps t) code_typed);
    few = λ p l e.
        let f = found p l e in
        rw f.shown (omega arith, rw (length-replicate f.count (num int)) (typed_32 m f.count (f.at_it ∷ f.behind) f.typed));
    inside = λ p l e. let f = found p l e in (omega (arith, f.laid.0, held.in_code), f.laid.2);
    flows = λ p l e. found_flows p l (found p l e);
  }

  other_consistent : (k : ℕ) → Consistent m (fn (suc k)) (λ p. none)
  other_consistent k = record { starts = rw (held.no_other k) tt; few = λ p l e. none_some e; inside = λ p l e. none_some e; flows = λ p l e. none_some e }

  abbrev typings : Body → Typing
  typings entry = empty
  typings (fn zero) = code_typing
  typings (fn (suc k)) = λ p. none

  pub well_typed : WellTyped m
  well_typed = record { typing = typings; consistent = all }
    where
      all : (b : Body) → Consistent m b (typings b)
      all entry = entry_consistent m t held
      all (fn zero) = code_consistent
      all (fn (suc k)) = other_consistent k
