-- The contract of an algorithm that keeps the largest ground_level at labelled places only, R, and walks from each straight on through the others, U.
-- It may walk a place again when its ground_level rises; in the order `Before` it never has to.
use Rattle.std.specs.Prelude.{◌≡◌, ◌⊎◌, ℕ, suc, ◌+◌, ◌-◌, ◌≤◌, ◌<◌, List, [], ◌∷◌, length}
use Rattle.std.proofs.Common.{sym, ◌∙◌, subst, inl, inr, arith}
use Rattle.std.proofs.Math.Option.{some}
use Rattle.rules.specs.Instructions.{Ty}
use Rattle.rules.specs.Tables.{Body, Module}
use Rattle.rules.specs.Typing.{Lists, lists, place_flow, start_of}
use Rattle.soundness.specs.Tests.{some_inj}
use Rattle.soundness.specs.Exact.{In}
use Rattle.rules.specs.Need.{raised, height, Path, begins, goes_on, call_at, argument_at}
use Rattle.need.specs.Grounds.{Onward, Tops, topmost}
use Rattle.need.specs.Settle.{Summed}

-- W: what has been noted of a place with lists and a ground_level
module _ (m : Module) (b : Body) (U : ℕ → Type 0) (R W : ℕ → Lists → ℕ → Type 0) where
  -- each of these places, to which lists l with ground_level f flow, is recorded with its lists and as much ground_level or more, or is passed and goes on so
  pub data Goes : Lists → ℕ → List (ℕ × Lists) → Type 0 where
    ends : (l : Lists) (f : ℕ) → Goes l f []
    meets : (l : Lists) (f q : ℕ) (k : Lists) (g : ℕ) (ns : List (ℕ × Lists)) → R q k g → raised f l k ≤ g → Goes l f ns → Goes l f ((q, k) ∷ ns)
    passes : (l : Lists) (f q : ℕ) (k : Lists) (ms ns : List (ℕ × Lists)) → U q → W q k (raised f l k) → place_flow m b q k ≡ some ms → Goes k (raised f l k) ms → Goes l f ns
        → Goes l f ((q, k) ∷ ns)

  pub record Walked (p : ℕ) (l : Lists) (f : ℕ) : Type 0 where
    pub noted : W p l f
    pub next : List (ℕ × Lists)
    pub flow : place_flow m b p l ≡ some next
    pub goes : Goes l f next

  -- when no labelled place waits for a walk, and the start was walked from
  pub record Climbed : Type 0 where
    pub on_paths : (q : ℕ) (k : Lists) (g : ℕ) → R q k g → Path m b q k g
    pub closed : (q : ℕ) (k : Lists) (g : ℕ) → R q k g → Walked q k g
    pub started : (p : ℕ) (ts : List Ty) → start_of m b ≡ some (p, ts)
        → ((g : ℕ) × R p (lists ts []) g × (length ts ≤ g)) ⊎ (U p × Walked p (lists ts []) (length ts))

  data Seen : ℕ → Lists → ℕ → Type 0 where
    from_start : (p : ℕ) (ts : List Ty) → start_of m b ≡ some (p, ts) → Walked p (lists ts []) (length ts) → Seen p (lists ts []) (length ts)
    at_node : (q : ℕ) (k : Lists) (g : ℕ) → R q k g → Seen q k g
    falls : (p : ℕ) (l : Lists) (f : ℕ) (ns : List (ℕ × Lists)) (q : ℕ) (k : Lists) → Seen p l f → place_flow m b p l ≡ some ns → In q k ns → Walked q k (raised f l k)
        → Seen q k (raised f l k)

  -- what a way meets
  abbrev Met : ℕ → Lists → ℕ → Type 0
  Met q k f = ((g : ℕ) × R q k g × (f ≤ g)) ⊎ Walked q k f

  met : (l : Lists) (f : ℕ) (ns : List (ℕ × Lists)) → Goes l f ns → (q : ℕ) (k : Lists) → In q k ns → Met q k (raised f l k)
  met _ _ _ (ends l f) q k i = absurd i
  met _ _ _ (meets l f p j g ns r h n) q k (inl z) =
      inl (g, subst (λ x. R x k g) z.0 (subst (λ x. R p x g) z.1 r), subst (λ x. raised f l x ≤ g) z.1 h)
  met _ _ _ (meets l f p j g ns r h n) q k (inr z) = met l f ns n q k z
  met _ _ _ (passes l f p j ms ns u v e g n) q k (inl z) =
      inr (subst (λ x. Walked x k (raised f l k)) z.0 (subst (λ x. Walked p x (raised f l x)) z.1 (record { noted = v; next = ms; flow = e; goes = g })))
  met _ _ _ (passes l f p j ms ns u v e g n) q k (inr z) = met l f ns n q k z

  module _ (c : Climbed) where
    seen_walked : (p : ℕ) (l : Lists) (f : ℕ) → Seen p l f → Walked p l f
    seen_walked _ _ _ (from_start p ts e w) = w
    seen_walked _ _ _ (at_node q k g r) = c.closed q k g r
    seen_walked _ _ _ (falls p l f ns q k s e i w) = w

    seen_path : (p : ℕ) (l : Lists) (f : ℕ) → Seen p l f → Path m b p l f
    seen_path _ _ _ (from_start p ts e w) = begins p ts e
    seen_path _ _ _ (at_node q k g r) = c.on_paths q k g r
    seen_path _ _ _ (falls p l f ns q k s e i w) = goes_on p l f ns q k (seen_path p l f s) e i

    seen_tops : Tops m b Seen
    seen_tops = record { on_paths = seen_path; starts = λ p ts e. start p ts e (c.started p ts e); flows = λ p l f ns q k s e i. next p l f ns q k s e i (seen_walked p l f s) }
      where
        start : (p : ℕ) (ts : List Ty) → start_of m b ≡ some (p, ts) → ((g : ℕ) × R p (lists ts []) g × (length ts ≤ g)) ⊎ (U p × Walked p (lists ts []) (length ts))
            → (f : ℕ) × Seen p (lists ts []) f × (length ts ≤ f)
        start p ts e (inl x) = (x.0, at_node p (lists ts []) x.0 x.1, x.2)
        start p ts e (inr x) = (length ts, from_start p ts e x.1, omega arith)

        next : (p : ℕ) (l : Lists) (f : ℕ) (ns : List (ℕ × Lists)) (q : ℕ) (k : Lists) → Seen p l f → place_flow m b p l ≡ some ns → In q k ns → Walked p l f
            → (g : ℕ) × Seen q k g × (raised f l k ≤ g)
        next p l f ns q k s e i w = go (met l f ns (subst (Goes l f) (some_inj w.next ns (sym w.flow ∙ e)) w.goes) q k i)
          where
            go : Met q k (raised f l k) → (g : ℕ) × Seen q k g × (raised f l k ≤ g)
            go (inl x) = (x.0, at_node q k x.0 x.1, x.2)
            go (inr x) = (raised f l k, falls p l f ns q k s e i x, omega arith)

    -- of every path something as high or higher was noted
    pub noted_all : (p : ℕ) (l : Lists) (f : ℕ) → Path m b p l f → (g : ℕ) × (f ≤ g) × W p l g
    noted_all p l f r =
        let x : (g : ℕ) × Seen p l g × (f ≤ g) = topmost m b Seen seen_tops p l f r in (x.0, x.2, (seen_walked p l x.0 x.1).noted)

-- ---- what the walks note: the largest height, and for each callee where its first argument lies at most

module _ (m : Module) (b : Body) where
  pub record Notes (own : ℕ) (offset : ℕ → ℕ) (p : ℕ) (l : Lists) (f : ℕ) : Type 0 where
    pub fits : height l f ≤ own
    pub calls : (k : ℕ) → call_at m b p ≡ some k → argument_at m l f k < offset k

  pub summed : (own : ℕ) (offset : ℕ → ℕ) (U : ℕ → Type 0) (R : ℕ → Lists → ℕ → Type 0) → Climbed m b U R (Notes own offset)
      → ((p : ℕ) × (l : Lists) × (f : ℕ) × Path m b p l f × (own ≡ height l f))
      → ((k a : ℕ) → offset k ≡ suc a → (p : ℕ) × (l : Lists) × (f : ℕ) × Path m b p l f × (call_at m b p ≡ some k) × (a ≡ argument_at m l f k))
      → Summed m b own offset
  summed own offset U R c at_own at-calls =
      record {
        own_most = (
          at_own,
          λ h z.
              let n : (g : ℕ) × (z.2 ≤ g) × Notes own offset z.0 z.1 g = noted_all m b U R (Notes own offset) c z.0 z.1 z.2 z.3 in
              let x : z.2 ≤ n.0 = n.1 in let y : n.0 + length z.1.operands ≤ own = n.2.fits in let w : h ≡ z.2 + length z.1.operands = z.4 in omega arith,
        );
        offset_some = at-calls;
        offset_most = λ p l f k r e.
            let n : (g : ℕ) × (f ≤ g) × Notes own offset p l g = noted_all m b U R (Notes own offset) c p l f r in
            let x : f ≤ n.0 = n.1 in let y : argument_at m l n.0 k < offset k = n.2.calls k e in omega arith;
      }

-- ---- the order: fewest locals first, and of as many the highest ground_level. So nothing walked is raised again.

module _ (m : Module) (b : Body) where
  abbrev pub Before : Lists → ℕ → Lists → ℕ → Type 0
  Before l f k g = (length l.locals < length k.locals) ⊎ ((length l.locals ≡ length k.locals) × (g ≤ f))

  pub onward_before : (l : Lists) (f : ℕ) (k : Lists) (g : ℕ) → Onward m b l f k g → Before l f k g
  onward_before l f k g (inl z) = let x : g ≡ f = z.1 in inr (sym z.0, omega arith)
  onward_before l f k g (inr z) = inl z.0

  pub before_twice : (l : Lists) (f : ℕ) (k : Lists) (g : ℕ) (j : Lists) (h : ℕ) → Before l f k g → Before k g j h → Before l f j h
  before_twice l f k g j h (inl x) (inl y) = inl (omega arith)
  before_twice l f k g j h (inl x) (inr y) = let z : length k.locals ≡ length j.locals = y.0 in inl (omega arith)
  before_twice l f k g j h (inr x) (inl y) = let z : length l.locals ≡ length k.locals = x.0 in inl (omega arith)
  before_twice l f k g j h (inr x) (inr y) = inr (x.0 ∙ y.0, omega arith)

  -- k with ground_level g was walked, before l with ground_level f; what comes from there to k again has no more ground_level
  pub not_raised : (k : Lists) (g : ℕ) (l : Lists) (f h : ℕ) → Before k g l f → Onward m b l f k h → h ≤ g
  not_raised k g l f h (inl x) (inl y) = let z : length k.locals ≡ length l.locals = y.0 in absurd (omega arith)
  not_raised k g l f h (inl x) (inr y) = let z : length l.locals < length k.locals = y.0 in absurd (omega arith)
  not_raised k g l f h (inr x) (inl y) = let z : h ≡ f = y.1 in let w : f ≤ g = x.1 in omega arith
  not_raised k g l f h (inr x) (inr y) = let z : length l.locals < length k.locals = y.0 in let w : length k.locals ≡ length l.locals = x.0 in absurd (omega arith)

  -- j with ground_level h was walked before l with ground_level f was picked; what arrives from there may wait: it comes after j too
  pub arrival_after : (j : Lists) (h : ℕ) (l : Lists) (f : ℕ) (k : Lists) (g : ℕ) → Before j h l f → Onward m b l f k g → Before j h k g
  arrival_after j h l f k g x y = before_twice j h l f k g x (onward_before l f k g y)
