-- Where operands begin on paths of flow: it only grows, with the local count; so it is at most 512, and a table of the largest at each place is exact.
use Rattle.std.specs.Prelude.{◌≡◌, refl, ◌⊎◌, ℕ, suc, ◌+◌, ◌*◌, ◌≤◌, ◌<◌, Bool, true, false, cond, ◌&&◌, List, [], ◌∷◌, length, ltb, eqb}
use Rattle.std.proofs.Common.{sym, ap, ◌∙◌, subst, inl, inr, arith}
use Rattle.std.proofs.Math.Option.{Option, none, some}
use Rattle.soundness.specs.Names.{int, Instruction, push, load, store, lea, one, two, tload, tstore, bump, jmp, branch, call, ret, null, new, delete, flea}
use Rattle.rules.specs.Bytes.{maybe}
use Rattle.rules.specs.Instructions.{Ty, num, kind_of, num_of, eq_ty, size}
use Rattle.rules.specs.Tables.{Body, entry, fn, Module}
use Rattle.rules.specs.Stack.{at}
use Rattle.rules.specs.Heap.{shape_of}
use Rattle.rules.specs.Operations.{refuse, class1, class2}
use Rattle.rules.specs.Machine.{owned, own}
use Rattle.rules.specs.Typing.{Lists, lists, Flow, to, operand, agree, only, judge, judge_at, Typing, AllNext, end_flow, place_flow, start_of, end_of, past, Consistent}
use Rattle.soundness.specs.Tests.{decide, eqb_is, eqb_isnt}
use Rattle.soundness.specs.Exact.{In}
use Rattle.soundness.specs.Exact.{by_maybe, by_no, by_operand, by_only, by_ptr, by_num, by_unmanaged, by_struct, by_fields, by_strip, by_ret}
use Rattle.rules.specs.Need.{raised, height, Path, begins, goes_on}
use Rattle.need.specs.Safe.{path_given}

-- ---- the local count along one way of flow

-- lists k after lists with locals L: the same locals, or one more
abbrev Grown : List Ty → Lists → Type 0
Grown L k = (k.locals ≡ L) ⊎ ((t : Ty) × (k.locals ≡ t ∷ L))

abbrev Grows : List Ty → Flow → Type 0
Grows L none = Unit {0}
Grows L (some ns) = AllNext (λ q k. Grown L k) ns

module _ (m : Module) (b : Body) where
  judge_grows : (i : Instruction) (q : ℕ) (L O : List Ty) → Grows L (judge m b i q L O)
  judge_grows (push k) q L O = by_maybe (Grows L) tt (m.constant k) _ (λ c u. by_maybe (Grows L) tt (num_of c.kind) _ (λ τ v. (inl refl, tt)))
  judge_grows (load n) q L O = by_maybe (Grows L) tt (at L n) _ (λ t u. (inl refl, tt))
  judge_grows (store n) q L O = go (at L n)
    where
      go : (o : Option Ty) → Grows L (maybe o (operand O (λ t O'. only (eqb n (length L) && ltb n 16) (to q (t ∷ L) []))) (λ u. operand O (λ t O'. only (eq_ty t u) (to q L O'))))
      go none = by_operand (Grows L) tt O _ (λ t O'. by_only (Grows L) tt (eqb n (length L) && ltb n 16) _ (inr (t, refl), tt))
      go (some u) = by_operand (Grows L) tt O _ (λ t O'. by_only (Grows L) tt (eq_ty t u) _ (inl refl, tt))
  judge_grows (lea n) q L O = by_maybe (Grows L) tt (at L n) _ (λ t u. by_num (Grows L) tt t _ (λ τ. (inl refl, tt)))
  judge_grows (one o) q L O = by_operand (Grows L) tt O _ (λ t O'. by_no (Grows L) tt (refuse (class1 o) (kind_of t) (kind_of t)) _ (inl refl, tt))
  judge_grows (two o) q L O =
      by_operand (Grows L) tt O _
      (λ t O'. by_operand (Grows L) tt O' _ (λ u O''. by_only (Grows L) tt (agree m.edition o t u) _ (by_no (Grows L) tt (refuse (class2 o) (kind_of u) (kind_of t)) _ (inl refl, tt))))
  judge_grows tload q L O = by_operand (Grows L) tt O _ (λ t O'. by_ptr (Grows L) tt t _ (λ τ. (inl refl, tt)))
  judge_grows tstore q L O =
      by_operand (Grows L) tt O _ (λ t O'. by_operand (Grows L) tt O' _ (λ u O''. by_ptr (Grows L) tt u _ (λ τ. by_only (Grows L) tt (eq_ty t (num τ)) _ (inl refl, tt))))
  judge_grows (bump d) q L O = by_operand (Grows L) tt O _ (λ t O'. by_ptr (Grows L) tt t _ (λ τ. (inl refl, tt)))
  judge_grows (jmp l) q L O = by_maybe (Grows L) tt (owned b (m.label l)) _ (λ p e. (inl refl, tt))
  judge_grows (branch c l) q L O =
      by_maybe (Grows L) tt (owned b (m.label l)) _
      (λ p e. by_operand (Grows L) tt O _ (λ t O'. by_only (Grows L) tt (eq_ty t (num int)) _ (inl refl, (inl refl, tt))))
  judge_grows (call k) q L O = by_maybe (Grows L) tt (m.function k) _ (λ F u. by_strip (Grows L) tt F.params O _ (λ O'. (inl refl, tt)))
  judge_grows ret q L O = by_maybe (Grows L) tt (own m b) _ (λ F u. by_ret (Grows L) tt tt F.result O)
  judge_grows (null g) q L O = (inl refl, tt)
  judge_grows (new g n) q L O = by_maybe (Grows L) tt (shape_of m n) _ (λ z u. (inl refl, tt))
  judge_grows delete q L O = by_operand (Grows L) tt O _ (λ t O'. by_unmanaged (Grows L) tt t _ (inl refl, tt))
  judge_grows (flea n) q L O =
      by_operand (Grows L) tt O _
      (λ t O'. by_struct (Grows L) tt t _
      (λ g k. by_maybe (Grows L) tt (shape_of m k) _ (λ z u. by_fields (Grows L) tt z _ (λ fs. by_maybe (Grows L) tt (at fs n) _ (λ τ v. (inl refl, tt))))))

  place_grows : (p : ℕ) (l : Lists) → Grows l.locals (place_flow m b p l)
  place_grows p l = go (past p (end_of m b))
    where
      at_end_lem : (c : Body) → Grows l.locals (end_flow c)
      at_end_lem entry = tt
      at_end_lem (fn k) = tt

      go : (e : Bool) → Grows l.locals (cond e (end_flow b) (judge_at m b p l))
      go true = at_end_lem b
      go false = by_maybe (Grows l.locals) tt (m.code p) _ (λ i e. judge_grows i (p + size i) l.locals l.operands)

  pub grown : (p : ℕ) (l : Lists) (ns : List (ℕ × Lists)) (q : ℕ) (k : Lists) → place_flow m b p l ≡ some ns → In q k ns
      → (length k.locals ≡ length l.locals) ⊎ (length k.locals ≡ suc (length l.locals))
  grown p l ns q k e i = go (pick ns i (subst (Grows l.locals) e (place_grows p l)))
    where
      pick : (xs : List (ℕ × Lists)) → In q k xs → AllNext (λ q k. Grown l.locals k) xs → Grown l.locals k
      pick [] i h = absurd i
      pick (x ∷ xs) (inl z) h = subst (Grown l.locals) z.1 h.0
      pick (x ∷ xs) (inr z) h = pick xs z h.1

      go : Grown l.locals k → (length k.locals ≡ length l.locals) ⊎ (length k.locals ≡ suc (length l.locals))
      go (inl z) = inl (ap length z)
      go (inr z) = inr (ap length z.1)

  -- ---- from one place to the next, the ground_level stays with the local count, or both rise

  abbrev pub Onward : Lists → ℕ → Lists → ℕ → Type 0
  Onward l f k g = ((length k.locals ≡ length l.locals) × (g ≡ f)) ⊎ ((length l.locals < length k.locals) × (f ≤ g))

  pub onward : (p : ℕ) (l : Lists) (f : ℕ) (ns : List (ℕ × Lists)) (q : ℕ) (k : Lists) → place_flow m b p l ≡ some ns → In q k ns → Onward l f k (raised f l k)
  onward p l f ns q k e i = go (grown p l ns q k e i)
    where
      go : (length k.locals ≡ length l.locals) ⊎ (length k.locals ≡ suc (length l.locals)) → Onward l f k (raised f l k)
      go (inl z) = decide (eqb (length l.locals) (length k.locals)) (λ y. inl (z, rw y refl)) (λ y. absurd (eqb_isnt (length l.locals) (length k.locals) y (sym z)))
      go (inr z) =
          decide (eqb (length l.locals) (length k.locals)) (λ y. let w : length l.locals ≡ length k.locals = eqb_is (length l.locals) (length k.locals) y in absurd (omega arith))
          (λ y. inr ((omega arith), rw y (omega arith)))

  pub onward_twice : (l : Lists) (f : ℕ) (k : Lists) (g : ℕ) (j : Lists) (h : ℕ) → Onward l f k g → Onward k g j h → Onward l f j h
  onward_twice l f k g j h (inl a) (inl c) = inl (c.0 ∙ a.0, c.1 ∙ a.1)
  onward_twice l f k g j h (inl a) (inr c) = let x : length k.locals ≡ length l.locals = a.0 in let y : g ≡ f = a.1 in inr (omega arith)
  onward_twice l f k g j h (inr a) (inl c) = let x : length j.locals ≡ length k.locals = c.0 in let y : h ≡ g = c.1 in inr (omega arith)
  onward_twice l f k g j h (inr a) (inr c) = inr (omega arith)

  -- ---- a bound: 32 slots for each local

  pub ground_low : (T : Typing) → Consistent m b T → (p : ℕ) (l : Lists) (f : ℕ) → Path m b p l f → f ≤ 32 * length l.locals
  ground_low T c _ _ _ (begins p ts e) = omega arith
  ground_low T c _ _ _ (goes_on p l f ns q k r e i) =
      step f l k (ground_low T c p l f r) (c.few p l (path_given m b T c p l f r)).1 (grown p l ns q k e i)
    where
      step : (f : ℕ) (l k : Lists) → f ≤ 32 * length l.locals → length l.operands ≤ 32
          → (length k.locals ≡ length l.locals) ⊎ (length k.locals ≡ suc (length l.locals)) → raised f l k ≤ 32 * length k.locals
      step f l k low few (inl z) =
          let w : length l.locals ≡ length k.locals = sym z in
          decide (eqb (length l.locals) (length k.locals)) (λ y. rw y (omega arith)) (λ y. absurd (eqb_isnt (length l.locals) (length k.locals) y w))
      step f l k low few (inr z) = decide (eqb (length l.locals) (length k.locals)) (λ y. rw y (omega arith)) (λ y. rw y (omega arith))

  pub ground_bound : (T : Typing) → Consistent m b T → (p : ℕ) (l : Lists) (f : ℕ) → Path m b p l f → f ≤ 512
  ground_bound T c p l f r =
      let x : f ≤ 32 * length l.locals = ground_low T c p l f r in let y : length l.locals ≤ 16 = (c.few p l (path_given m b T c p l f r)).0 in omega arith

  -- a body's own heights: at most 544
  pub height_bound : (T : Typing) → Consistent m b T → (p : ℕ) (l : Lists) (f : ℕ) → Path m b p l f → height l f ≤ 544
  height_bound T c p l f r =
      let x : f ≤ 512 = ground_bound T c p l f r in let y : length l.operands ≤ 32 = (c.few p l (path_given m b T c p l f r)).1 in omega arith

  -- ---- the largest ground_level

  pub raised_grows : (f g : ℕ) (l k : Lists) → f ≤ g → raised f l k ≤ raised g l k
  raised_grows f g l k h = decide (eqb (length l.locals) (length k.locals)) (λ y. rw y h) (λ y. rw y (omega arith))

  -- S: places with lists and a ground_level, such that what flows from one comes to one with as much ground_level or more
  pub record Tops (S : ℕ → Lists → ℕ → Type 0) : Type 0 where
    pub on_paths : (p : ℕ) (l : Lists) (f : ℕ) → S p l f → Path m b p l f
    pub starts : (p : ℕ) (ts : List Ty) → start_of m b ≡ some (p, ts) → (f : ℕ) × S p (lists ts []) f × (length ts ≤ f)
    pub flows : (p : ℕ) (l : Lists) (f : ℕ) (ns : List (ℕ × Lists)) (q : ℕ) (k : Lists) → S p l f → place_flow m b p l ≡ some ns → In q k ns
        → (g : ℕ) × S q k g × (raised f l k ≤ g)

  pub topmost : (S : ℕ → Lists → ℕ → Type 0) → Tops S → (p : ℕ) (l : Lists) (f : ℕ) → Path m b p l f → (g : ℕ) × S p l g × (f ≤ g)
  topmost S t _ _ _ (begins p ts e) = t.starts p ts e
  topmost S t _ _ _ (goes_on p l f ns q k r e i) = go (topmost S t p l f r)
    where
      go : ((g : ℕ) × S p l g × (f ≤ g)) → (g : ℕ) × S q k g × (raised f l k ≤ g)
      go x =
          let y : (g : ℕ) × S q k g × (raised x.0 l k ≤ g) = t.flows p l x.0 ns q k x.1 e i in
          let z : raised f l k ≤ raised x.0 l k = raised_grows f x.0 l k x.2 in
          let w : raised x.0 l k ≤ y.0 = y.2 in (y.0, y.1, omega arith)
