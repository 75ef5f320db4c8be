-- A tree whose code has a typing needs at most 32 operands; so the check of a file that holds a tree answers by its need.
use Rattle.std.specs.Prelude.{◌≡◌, ℕ, zero, suc, ◌+◌, ◌*◌, ◌≤◌, ◌<◌, List, [], ◌∷◌, ◌++◌, length, ltb}
use Rattle.std.proofs.Math.Path.{refl, ap}
use Rattle.std.proofs.Common.{sym, subst, ◌∙◌, arith}
use Rattle.std.proofs.Math.Bool.{cond}
use Rattle.std.proofs.Math.Option.{Option, none, some}
use Rattle.std.proofs.lemmas.List.{length-replicate}
use Rattle.soundness.specs.Names.{int, Untyped, Accepted}
use Rattle.rules.specs.Instructions.{num, size}
use Rattle.rules.specs.Tables.{Body, entry, fn, body_number, Module}
use Rattle.rules.specs.ModuleFile.{labels, functions, refusal, read}
use Rattle.rules.specs.Typing.{lists, judge, Typing, Flows, Gives, Consistent, WellTyped}
use Rattle.rules.specs.Check.{bodies, first_untyped}
use Rattle.rules.specs.Answers.{check_number, Checked, judged, check}
use Rattle.rules.specs.Demand3.{Typable, Earlier, FirstUntyped}
use Rattle.rules.specs.Grammar.{Sign, plus, dash, star, slash, Tree, number, name, minus, both, group}
use Rattle.rules.specs.Formula.{need, numbers, Step, constant, parameter, negate, operate, answer, postfix}
use Rattle.soundness.specs.Tests.{decide, ltb_no, ltb_is, ltb_isnt}
use Rattle.soundness.specs.Whole.{demand3}
use Rattle.grammar.specs.Proper.{Proper}
use Rattle.grammar.specs.Coded.{instruction, after, after_append, Laid, laid_left, laid_right, Pool, pool_left, pool_right}
use Rattle.grammar.specs.Typed.{locals, operands, Holds, empty, loads, judged_by, entry_consistent, well_typed}

-- ---- any typing of the code

module _ (m : Module) (whole : Tree) (held : Holds m whole) (T : Typing) (typed : Consistent m (fn 0) T) where
  -- the typing gives d ints at place p
  abbrev Holding : ℕ → ℕ → Type 0
  Holding p d = T p ≡ some (lists locals (operands d))

  at_most_32 : (p d : ℕ) → Holding p d → d ≤ 32
  at_most_32 p d h = rw (length-replicate d (num int)) at (typed.few p (lists locals (operands d)) h).1

  -- what follows an instruction has the lists that it leaves
  follows : (p d : ℕ) (i : Step) (is : List Step) → Laid m held.stop p (i ∷ is) → Holding p d
      → Flows (Gives T) (judge m (fn 0) (instruction i) (p + size (instruction i)) locals (operands d))
  follows p d i is c h =
      subst (Flows (Gives T)) (judged_by m whole held p i (lists locals (operands d)) c.0 c.1) (typed.flows p (lists locals (operands d)) h)

  after_sign : (o : Sign) (p d : ℕ) → Laid m held.stop p (operate o ∷ []) → Holding p (suc (suc d)) → Holding (p + 1) (suc d)
  after_sign plus p d c h = (follows p (suc (suc d)) (operate plus) [] c h).0
  after_sign dash p d c h = (follows p (suc (suc d)) (operate dash) [] c h).0
  after_sign star p d c h = (follows p (suc (suc d)) (operate star) [] c h).0
  after_sign slash p d c h = (follows p (suc (suc d)) (operate slash) [] c h).0

  -- over the code of a tree: one operand more, and on the way as many as it needs
  over : (t : Tree) (k p d : ℕ) → Proper t → Laid m held.stop p (postfix k t) → Pool m k (numbers t) → Holding p d
      → (d + need t ≤ 32) × Holding (after p (postfix k t)) (suc d)
  over (number n) k p d w c q h =
      let y : Holding (p + 5) (suc d) = (rw q.0 at (follows p d (constant k) [] c h)).0 in (omega (arith, at_most_32 (p + 5) (suc d) y), y)
  over (name i) k p d w c q h =
      let y : Holding (p + 5) (suc d) = (rw (loads i w) at (follows p d (parameter i) [] c h)).0 in (omega (arith, at_most_32 (p + 5) (suc d) y), y)
  over (minus t) k p d w c q h =
      let x = over t k p d w (laid_left m held.stop p (postfix k t) (negate ∷ []) c) q h in
      (x.0, rw (after_append p (postfix k t) (negate ∷ [])) (follows (after p (postfix k t)) (suc d) negate [] (laid_right m held.stop p (postfix k t) (negate ∷ []) c) x.1).0)
  over (both o t u) k p d w c q h =
      let js : List Step = postfix (k + length (numbers t)) u in
      let p' : ℕ = after p (postfix k t) in
      let c' : Laid m held.stop p' (js ++ (operate o ∷ [])) = laid_right m held.stop p (postfix k t) (js ++ (operate o ∷ [])) c in
      let x = over t k p d w.0 (laid_left m held.stop p (postfix k t) (js ++ (operate o ∷ [])) c) (pool_left m k (numbers t) (numbers u) q) h in
      let y = over u (k + length (numbers t)) p' (suc d) w.1 (laid_left m held.stop p' js (operate o ∷ []) c') (pool_right m k (numbers t) (numbers u) q) x.1 in
      let z : Holding (after p (postfix k (both o t u))) (suc d) = rw (after_append p (postfix k t) (js ++ (operate o ∷ [])), after_append p' js (operate o ∷ []))
      (after_sign o (after p' js) d (laid_right m held.stop p' js (operate o ∷ []) c') y.1) in
      (omega (arith, x.0, y.0), z)
  over (group t) k p d w c q h = over t k p d w c q h

  pub needs_few : Proper whole → need whole ≤ 32
  needs_few w =
      omega (arith, (over whole 0 0 0 w (laid_left m held.stop 0 (postfix 0 whole) (answer ∷ []) held.laid) held.pool (rw held.is_function at typed.starts)).0)

-- ---- the check of a file that holds a tree, in a room that is enough

module _ (s : List ℕ) (t : Tree) (held : Holds (read s) t) (w : Proper t) (readable : refusal s ≡ 0) (room : List ℕ) (enough : 64 * labels s ≤ length room) where
  typable : Typable (read s) (fn 0) → need t ≤ 32
  typable x = needs_few (read s) t held x.0 x.1 w

  -- the entry has a typing, so the function is the first without
  function_0 : 32 < need t → (n : ℕ) → FirstUntyped s n → n ≡ 0
  function_0 l n f = go f.0 f.1 f.3 f.4
    where
      go : (b : Body) → body_number b ≡ n → (Typable (read s) b → ⊥) → ((c : Body) → Earlier c b → Typable (read s) c) → n ≡ 0
      go entry e u v = absurd (u (empty, entry_consistent (read s) t held))
      go (fn zero) e u v = sym e
      go (fn (suc k)) e u v = absurd (omega (arith, typable (v (fn 0) (omega arith))))

  pub check_is : (check s room).answer ≡ cond (ltb 32 (need t)) (Untyped 0) Accepted
  unfolding check
  check_is = go (first_untyped (read s) (bodies (functions s))) (rw (readable, ltb_no (length room) (64 * labels s) enough) refl)
    where
      go : (o : Option Body) → check s room ≡ judged s room o → (check s room).answer ≡ cond (ltb 32 (need t)) (Untyped 0) Accepted
      go none e =
          let x : WellTyped (read s) = (demand3.exact s room readable enough).0 (ap (λ (c : Checked). check_number c.answer) e) in
          ap (λ (c : Checked). c.answer) e ∙ rw (ltb_no 32 (need t) (typable (x.typing (fn 0), x.consistent (fn 0)))) refl
      go (some b) e =
          let a : (check s room).answer ≡ Untyped (body_number b) = ap (λ (c : Checked). c.answer) e in
          decide (ltb 32 (need t)) (λ z. rw z (a ∙ ap Untyped (function_0 (ltb_is 32 (need t) z) (body_number b) (demand3.first_untyped_lem s room (body_number b) a))))
          (λ z. let y : check_number (check s room).answer ≡ 0 = (demand3.exact s room readable enough).1 (well_typed (read s) t held w (ltb_isnt 32 (need t) z)) in absurd (omega (arith, ap check_number a)))
