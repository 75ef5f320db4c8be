-- Needs over the call graph: what one body adds to its callees' needs, and 47, the bodies from which a chain of calls comes back.
use Rattle.std.specs.Prelude.{◌≡◌, ◌⊎◌, Bool, true, false, length, get_or, set, replicate, eqb}
use Rattle.std.proofs.Math.Path.{refl, ap}
use Rattle.std.proofs.Common.{sym, ◌∙◌, subst, inl, inr, arith, length-set, get_or-set_other}
use Prim.Native.Nat.{ℕ, zero, suc, ◌+◌, ◌≤◌, ◌<◌}
use Rattle.std.proofs.Math.Option.{some}
use mathlib.Core.List.{List, [], ◌∷◌}
use Rattle.std.proofs.lemmas.List.{length-replicate}
use Rattle.rules.specs.Tables.{Body, fn, Module}
use Rattle.rules.specs.Typing.{Lists}
use Rattle.soundness.specs.Tests.{decide, eqb_is, eqb_isnt, false_true}
use Rattle.rules.specs.Need.{height, Path, call_at, argument_at, Calls, Reaches, here, within, Stacks, alone, under_it, Most, Needs, Chain, stay, then_call, Recursive}

-- ---- the largest of all is one

pub most_once : (P : ℕ → Type 0) (a c : ℕ) → Most P a → Most P c → a ≡ c
most_once P a c x y = let u : a ≤ c = y.1 a x.0 in let v : c ≤ a = x.1 c y.0 in omega arith

pub needs_once : (m : Module) (b : Body) (n d n' d' : ℕ) → Needs m b n d → Needs m b n' d' → (n ≡ n') × (d ≡ d')
needs_once m b n d n' d' x y = (most_once (Reaches m b) n n' x.tallest y.tallest, most_once (Stacks m b) d d' x.deepest y.deepest)

-- ---- one body, from its own heights and the needs of what it calls

module _ (m : Module) (b : Body) where
  -- own: the body's largest own height. offset k: 0 where no path comes to a call of k, else one more than where the first argument
  -- lies at most.
  pub record Summed (own : ℕ) (offset : ℕ → ℕ) : Type 0 where
    pub own_most : Most (λ h. (p : ℕ) × (l : Lists) × (f : ℕ) × Path m b p l f × (h ≡ height l f)) own
    pub offset_some : (k a : ℕ) → offset k ≡ suc a → (p : ℕ) × (l : Lists) × (f : ℕ) × Path m b p l f × (call_at m b p ≡ some k) × (a ≡ argument_at m l f k)
    pub offset_most : (p : ℕ) (l : Lists) (f k : ℕ) → Path m b p l f → call_at m b p ≡ some k → argument_at m l f k < offset k

  -- x is the largest of own and of the first argument's slot plus the need, over all callees; y is one more than the largest frames
  pub record Joins (own : ℕ) (offset need frames : ℕ → ℕ) (x y : ℕ) : Type 0 where
    pub over_own : own ≤ x
    pub over_calls : (k a : ℕ) → offset k ≡ suc a → (a + need k ≤ x) × (frames k < y)
    pub some_height : (x ≡ own) ⊎ ((k : ℕ) × (a : ℕ) × (offset k ≡ suc a) × (x ≡ a + need k))
    pub some_frames : (y ≡ 1) ⊎ ((k : ℕ) × (a : ℕ) × (offset k ≡ suc a) × (y ≡ suc (frames k)))

  has_offset : (o : ℕ) (x : ℕ) → x < o → (a : ℕ) × (o ≡ suc a) × (x ≤ a)
  has_offset zero x h = absurd (omega arith)
  has_offset (suc a) x h = (a, refl, omega arith)

  pub settles : (own : ℕ) (offset need frames : ℕ → ℕ) (x y : ℕ) → Summed own offset → Joins own offset need frames x y
      → ((k a : ℕ) → offset k ≡ suc a → Needs m (fn k) (need k) (frames k)) → Needs m b x y
  settles own offset need frames x y S J N =
      record {
        tallest = (tall J.some_height, λ h r. below b refl h r);
        deepest = (deep J.some_frames, λ d r. under b refl d r);
      }
    where
      callee : (p : ℕ) (l : Lists) (f k : ℕ) → Path m b p l f → call_at m b p ≡ some k → (a : ℕ) × (offset k ≡ suc a) × (argument_at m l f k ≤ a)
      callee p l f k r c = has_offset (offset k) (argument_at m l f k) (S.offset_most p l f k r c)

      -- upper bounds
      below : (c : Body) → c ≡ b → (h : ℕ) → Reaches m c h → h ≤ x
      below _ e _ (here c p l f r) =
          let u : height l f ≤ own = S.own_most.1 (height l f) (p, l, f, subst (λ z. Path m z p l f) e r, refl) in let v : own ≤ x = J.over_own in omega arith
      below _ e _ (within c p l f k h r a t) =
          let o : (a : ℕ) × (offset k ≡ suc a) × (argument_at m l f k ≤ a) = callee p l f k (subst (λ z. Path m z p l f) e r) (subst (λ z. call_at m z p ≡ some k) e a) in
          let u : h ≤ need k = (N k o.0 o.1).tallest.1 h t in
          let v : (o.0 + need k ≤ x) × (frames k < y) = J.over_calls k o.0 o.1 in
          let w : argument_at m l f k ≤ o.0 = o.2 in omega arith

      one_frame : 1 ≤ y
      one_frame = go J.some_frames
        where
          go : (y ≡ 1) ⊎ ((k : ℕ) × (a : ℕ) × (offset k ≡ suc a) × (y ≡ suc (frames k))) → 1 ≤ y
          go (inl e) = omega arith
          go (inr z) = let e : y ≡ suc (frames z.0) = z.3 in omega arith

      under : (c : Body) → c ≡ b → (d : ℕ) → Stacks m c d → d ≤ y
      under _ e _ (alone c) = one_frame
      under _ e _ (under_it c k d z t) =
          let o : (a : ℕ) × (offset k ≡ suc a) × (argument_at m z.1 z.2 k ≤ a) =
          callee z.0 z.1 z.2 k (subst (λ w. Path m w z.0 z.1 z.2) e z.3) (subst (λ w. call_at m w z.0 ≡ some k) e z.4) in
          let u : d ≤ frames k = (N k o.0 o.1).deepest.1 d t in
          let v : (o.0 + need k ≤ x) × (frames k < y) = J.over_calls k o.0 o.1 in
          let w : frames k < y = v.1 in omega arith

      -- some path reaches them
      tall : (x ≡ own) ⊎ ((k : ℕ) × (a : ℕ) × (offset k ≡ suc a) × (x ≡ a + need k)) → Reaches m b x
      tall (inl e) =
          let z : (p : ℕ) × (l : Lists) × (f : ℕ) × Path m b p l f × (own ≡ height l f) = S.own_most.0 in
          subst (Reaches m b) (sym (e ∙ z.4)) (here b z.0 z.1 z.2 z.3)
      tall (inr z) =
          let w : (p : ℕ) × (l : Lists) × (f : ℕ) × Path m b p l f × (call_at m b p ≡ some z.0) × (z.1 ≡ argument_at m l f z.0) = S.offset_some z.0 z.1 z.2 in
          subst (Reaches m b) (sym (z.3 ∙ ap (λ v. v + need z.0) w.5))
          (within b w.0 w.1 w.2 z.0 (need z.0) w.3 w.4 (N z.0 z.1 z.2).tallest.0)

      deep : (y ≡ 1) ⊎ ((k : ℕ) × (a : ℕ) × (offset k ≡ suc a) × (y ≡ suc (frames k))) → Stacks m b y
      deep (inl e) = subst (Stacks m b) (sym e) (alone b)
      deep (inr z) =
          let w : (p : ℕ) × (l : Lists) × (f : ℕ) × Path m b p l f × (call_at m b p ≡ some z.0) × (z.1 ≡ argument_at m l f z.0) = S.offset_some z.0 z.1 z.2 in
          subst (Stacks m b) (sym z.3) (under_it b z.0 (frames z.0) (w.0, w.1, w.2, w.3, w.4) (N z.0 z.1 z.2).deepest.0)

-- ---- long chains

module _ (m : Module) where
  -- n calls, one in the other, from b on
  abbrev pub Long : ℕ → Body → Type 0
  Long zero b = Unit {0}
  Long (suc n) b = (k : ℕ) × Calls m b k × Long n (fn k)

  long_less : (n : ℕ) (b : Body) → Long (suc n) b → Long n b
  long_less zero b h = tt
  long_less (suc n) b h = (h.0, h.1, long_less n (fn h.0) h.2)

  long_chain : (n : ℕ) (b c : Body) → Chain m b c → Long n c → Long n b
  long_chain n _ _ (stay b) h = h
  long_chain n _ _ (then_call b k c x r) h = long_less n b (k, x, long_chain n (fn k) c r h)

  pub recursive_long : (n : ℕ) (b : Body) → Recursive m b → Long n b
  recursive_long n b r = long_chain n b r.0 r.2 (cycle n)
    where
      cycle : (n : ℕ) → Long n r.0
      cycle zero = tt
      cycle (suc n) = (r.1, r.3, long_chain n (fn r.1) r.0 r.4 (cycle n))

  pub long_stacks : (n : ℕ) (b : Body) → Long n b → Stacks m b (suc n)
  long_stacks zero b h = alone b
  long_stacks (suc n) b h = under_it b h.0 (suc n) h.1 (long_stacks n (fn h.0) h.2)

  -- a body with a need is on no chain that comes back
  pub needs_not_recursive : (b : Body) (n d : ℕ) → Needs m b n d → Recursive m b → ⊥
  needs_not_recursive b n d N r = let h : suc d ≤ d = N.deepest.1 (suc d) (long_stacks d b (recursive_long d b r)) in omega arith

  chain_call : (b c : Body) (k : ℕ) → Chain m b c → Calls m c k → Chain m b (fn k)
  chain_call _ _ k (stay b) x = then_call b k (fn k) x (stay (fn k))
  chain_call _ _ k (then_call b j c y r) x = then_call b j (fn k) y (chain_call (fn j) c k r x)

  later_recursive : (b : Body) (k : ℕ) → Calls m b k → Recursive m (fn k) → Recursive m b
  later_recursive b k x r = (r.0, r.1, then_call b k r.0 x r.2, r.3, r.4)

  -- ---- the pigeonhole: functions called so far are marked, those unmarked get fewer

  free : List Bool → ℕ
  free [] = zero
  free (true ∷ t) = free t
  free (false ∷ t) = suc (free t)

  free_set : (t : List Bool) (k : ℕ) → k < length t → get_or t k false ≡ false → suc (free (set t k true)) ≡ free t
  unfolding free
  free_set [] k h e = absurd (omega arith)
  free_set (true ∷ t) zero h e = false_true (sym e)
  free_set (false ∷ t) zero h e = refl
  free_set (true ∷ t) (suc k) h e = free_set t k (omega arith) e
  free_set (false ∷ t) (suc k) h e = ap suc (free_set t k (omega arith) e)

  free_all : (n : ℕ) → free (replicate n false) ≡ n
  unfolding free
  free_all zero = refl
  free_all (suc n) = ap suc (free_all n)

  unmarked : (n k : ℕ) → get_or (replicate n false) k false ≡ true → ⊥
  unmarked zero k e = false_true e
  unmarked (suc n) zero e = false_true e
  unmarked (suc n) (suc k) e = unmarked n k e

  module _ (N : ℕ) (bounded : (b : Body) (k : ℕ) → Calls m b k → k < N) where
    repeats : (n : ℕ) (t : List Bool) (b : Body) → length t ≡ N → free t < n → ((k : ℕ) → get_or t k false ≡ true → Chain m (fn k) b) → Long n b → Recursive m b
    repeats zero t b l f back h = absurd (omega arith)
    repeats (suc n) t b l f back h = go (get_or t h.0 false) refl (λ t' l' f' back'. repeats n t' (fn h.0) l' f' back' h.2)
      where
        k : ℕ
        k = h.0

        inside : h.0 < length t
        inside = let z : h.0 < N = bounded b h.0 h.1 in omega arith

        back_on : get_or t h.0 false ≡ false → (j : ℕ) → get_or (set t h.0 true) j false ≡ true → Chain m (fn j) (fn h.0)
        back_on e j q =
            decide (eqb j h.0) (λ y. subst (λ z. Chain m (fn z) (fn h.0)) (sym (eqb_is j h.0 y)) (stay (fn h.0)))
            (λ y. chain_call (fn j) b h.0 (back j (sym (get_or-set_other t h.0 j true false (eqb_isnt j h.0 y)) ∙ q)) h.1)

        go : (v : Bool) → get_or t h.0 false ≡ v
            → ((t' : List Bool) → length t' ≡ N → free t' < n → ((k : ℕ) → get_or t' k false ≡ true → Chain m (fn k) (fn h.0)) → Recursive m (fn h.0))
            → Recursive m b
        go true e ih = (b, h.0, stay b, h.1, back h.0 e)
        go false e ih =
            let w : suc (free (set t h.0 true)) ≡ free t = free_set t h.0 inside e in
            later_recursive b h.0 h.1 (ih (set t h.0 true) (length-set t h.0 true ∙ l) (omega arith) (back_on e))

    -- N + 1 calls, one in the other, come back to a function on the way
    pub long_recursive : (b : Body) → Long (suc N) b → Recursive m b
    long_recursive b h =
        let w : free (replicate N false) ≡ N = free_all N in
        repeats (suc N) (replicate N false) b (length-replicate N false) (omega arith) (λ k e. absurd (unmarked N k e)) h

    -- 47 for an algorithm that settles bodies whose callees are settled: where each body that is left calls one that is left, each is recursive
    pub stuck_recursive : (T : Body → Type 0) → ((b : Body) → T b → (k : ℕ) × Calls m b k × T (fn k)) → (b : Body) → T b → Recursive m b
    stuck_recursive T on b t = long_recursive b (long (suc N) b t)
      where
        long : (n : ℕ) (b : Body) → T b → Long n b
        long zero b t = tt
        long (suc n) b t = let x : (k : ℕ) × Calls m b k × T (fn k) = on b t in (x.0, x.1, long n (fn x.0) x.2)
