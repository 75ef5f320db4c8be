-- What `grounds_of` and `need_of` compute is what the declarative definitions say.
use Rattle.std.specs.Prelude.{◌≡◌, ◌⊎◌, Bool, true, false, cond, get_or, set, replicate, leb, eqb}
use Rattle.std.proofs.Math.Path.{refl, subst}
use Rattle.std.proofs.Common.{sym, ap, ◌∙◌, inl, inr, length-set, length-append, get_or-set_same, get_or-set_other}
use Prim.Native.Nat.{ℕ, zero, suc, ◌+◌, ◌-◌, ◌*◌, ◌≤◌, ◌<◌, max}
use native.Mathlib.Omega.{arith}
use Rattle.std.proofs.Math.Option.{Option, none, some}
use mathlib.Core.List.{List, [], ◌∷◌, ◌++◌}
use Rattle.std.proofs.Math.ListN.{length}
use Rattle.std.proofs.lemmas.List.{length-replicate}
use Rattle.rules.specs.Bytes.{maybe}
use Rattle.rules.specs.Instructions.{Ty, size}
use Rattle.soundness.specs.Names.{Instruction, push, load, store, lea, one, two, tload, tstore, bump, jmp, branch, call, ret, null, new, delete, flea}
use Rattle.rules.specs.Tables.{Body, fn, Function, Module}
use Rattle.rules.specs.Typing.{Lists, lists, Flow, Typing, Flows, Gives as GivenBy, to, strip, with_result, judge, judge_at, end_flow, end_of, past, place_flow, start_of, Consistent, WellTyped}
use Rattle.soundness.specs.Tests.{decide, none_some, some_inj, eqb_is, eqb_isnt, leb_is, leb_isnt}
use Rattle.soundness.specs.Exact.{In}
use Rattle.soundness.specs.Exact.{Short, short_place}
use Rattle.rules.specs.Need.{raised, height, Path, begins, goes_on, called, call_at, argument_at, Calls, Reaches, here, within, Stacks, alone, under_it, Needs, Recursive}
use Rattle.need.specs.Safe.{path_given}
use Rattle.need.specs.Grounds.{ground_bound, Tops, topmost}
use Rattle.need.specs.Settle.{Long, needs_not_recursive, long_recursive, needs_once}
use Rattle.rules.specs.Heights.{Grounds, Waiting, onward_to, followers, lifted, known, rise, start_waiting, grounds_of, Found, larger, with_callee, place_need, gather, need_of}

-- ---- room to rise

left : Option (Lists × ℕ) → ℕ
left none = 513
left (some x) = 512 - x.1

slack : Grounds → ℕ
slack [] = zero
slack (o ∷ g) = left o + slack g

slack_set : (g : Grounds) (p : ℕ) (l : Lists) (f : ℕ) → p < length g → f ≤ 512 → known (get_or g p none) f ≡ false → slack (set g p (some (l, f))) < slack g
unfolding slack left
slack_set [] p l f h u e = absurd (omega arith)
slack_set (none ∷ g) zero l f h u e = omega arith
slack_set (some x ∷ g) zero l f h u e = let z : x.1 < f = leb_isnt f x.1 e in omega arith
slack_set (o ∷ g) (suc p) l f h u e = let z : slack (set g p (some (l, f))) < slack g = slack_set g p l f (omega arith) u e in omega arith

slack_blank : (n : ℕ) → slack (replicate n none) ≡ 513 * n
unfolding slack left
slack_blank zero = refl
slack_blank (suc n) = let z : slack (replicate n none) ≡ 513 * n = slack_blank n in omega arith

get_or_blank : (n p : ℕ) (x : Lists × ℕ) → get_or (replicate n none) p none ≡ some x → ⊥
get_or_blank zero p x e = none_some e
get_or_blank (suc n) zero x e = none_some e
get_or_blank (suc n) (suc p) x e = get_or_blank n p x e

-- ---- what waits

abbrev Waits : ℕ → Lists → ℕ → Waiting → Type 0
Waits q k f [] = ⊥
Waits q k f (x ∷ xs) = ((x.0 ≡ q) × (x.1 ≡ k) × (x.2 ≡ f)) ⊎ Waits q k f xs

waits_left : (q : ℕ) (k : Lists) (f : ℕ) (xs ys : Waiting) → Waits q k f xs → Waits q k f (xs ++ ys)
waits_left q k f [] ys h = absurd h
waits_left q k f (x ∷ xs) ys (inl z) = inl z
waits_left q k f (x ∷ xs) ys (inr z) = inr (waits_left q k f xs ys z)

waits_right : (q : ℕ) (k : Lists) (f : ℕ) (xs ys : Waiting) → Waits q k f ys → Waits q k f (xs ++ ys)
waits_right q k f [] ys h = h
waits_right q k f (x ∷ xs) ys h = inr (waits_right q k f xs ys h)

waits_either : (q : ℕ) (k : Lists) (f : ℕ) (xs ys : Waiting) → Waits q k f (xs ++ ys) → Waits q k f xs ⊎ Waits q k f ys
waits_either q k f [] ys h = inr h
waits_either q k f (x ∷ xs) ys (inl z) = inl (inl z)
waits_either q k f (x ∷ xs) ys (inr z) = go (waits_either q k f xs ys z)
  where
    go : Waits q k f xs ⊎ Waits q k f ys → Waits q k f (x ∷ xs) ⊎ Waits q k f ys
    go (inl w) = inl (inr w)
    go (inr w) = inr w

onward_in : (l : Lists) (f : ℕ) (ns : List (ℕ × Lists)) (q : ℕ) (k : Lists) → In q k ns → Waits q k (raised f l k) (onward_to l f ns)
onward_in l f [] q k i = absurd i
onward_in l f (x ∷ ns) q k (inl z) = inl (z.0, z.1, ap (raised f l) z.1)
onward_in l f (x ∷ ns) q k (inr z) = inr (onward_in l f ns q k z)

onward_from : (l : Lists) (f : ℕ) (ns : List (ℕ × Lists)) (q : ℕ) (k : Lists) (g : ℕ) → Waits q k g (onward_to l f ns) → In q k ns × (g ≡ raised f l k)
onward_from l f [] q k g h = absurd h
onward_from l f (x ∷ ns) q k g (inl z) = (inl (z.0, z.1), sym z.2 ∙ ap (raised f l) z.1)
onward_from l f (x ∷ ns) q k g (inr z) = let r : In q k ns × (g ≡ raised f l k) = onward_from l f ns q k g z in (inr r.0, r.1)

onward_length : (l : Lists) (f : ℕ) (ns : List (ℕ × Lists)) → length (onward_to l f ns) ≡ length ns
onward_length l f [] = refl
onward_length l f (x ∷ ns) = ap suc (onward_length l f ns)

module _ (m : Module) (b : Body) (T : Typing) (c : Consistent m b T) where
  same_lists : (p : ℕ) (k l : Lists) (f g : ℕ) → Path m b p k f → Path m b p l g → k ≡ l
  same_lists p k l f g x y = some_inj k l (sym (path_given m b T c p k f x) ∙ path_given m b T c p l g y)

  -- in the table with as much ground_level, or waiting
  abbrev Pending : Grounds → Waiting → ℕ → Lists → ℕ → Type 0
  Pending g work q k f = ((h : ℕ) × (get_or g q none ≡ some (k, h)) × (f ≤ h)) ⊎ Waits q k f work

  record Rising (g : Grounds) (work : Waiting) : Type 0 where
    on_paths : (p : ℕ) (l : Lists) (f : ℕ) → get_or g p none ≡ some (l, f) → Path m b p l f
    work_paths : (p : ℕ) (l : Lists) (f : ℕ) → Waits p l f work → Path m b p l f
    runs : (p : ℕ) (l : Lists) (f : ℕ) (ns : List (ℕ × Lists)) (q : ℕ) (k : Lists) → get_or g p none ≡ some (l, f) → place_flow m b p l ≡ some ns → In q k ns
        → Pending g work q k (raised f l k)

  record Risen (g : Grounds) (work : Waiting) (out : Grounds) : Type 0 where
    rising : Rising out []
    keeps : (q : ℕ) (k : Lists) (f : ℕ) → Pending g work q k f → Pending out [] q k f

  -- a first item that is known already
  module _ (g : Grounds) (x : ℕ × Lists × ℕ) (work : Waiting) (R : Rising g (x ∷ work)) where
    head_path : Path m b x.0 x.1 x.2
    head_path = R.work_paths x.0 x.1 x.2 (inl (refl, refl, refl))

    head_known : known (get_or g x.0 none) x.2 ≡ true → (h : ℕ) × (get_or g x.0 none ≡ some (x.1, h)) × (x.2 ≤ h)
    head_known = go (get_or g x.0 none) refl
      where
        go : (o : Option (Lists × ℕ)) → get_or g x.0 none ≡ o → known o x.2 ≡ true → (h : ℕ) × (o ≡ some (x.1, h)) × (x.2 ≤ h)
        go none q e = absurd (let z : ◌≡◌ {A = ℕ} 0 1 = cc in omega arith)
        go (some y) q e =
            (y.1, ap (λ l. some (l, y.1)) (same_lists x.0 y.0 x.1 y.1 x.2 (R.on_paths x.0 y.0 y.1 q) head_path), leb_is x.2 y.1 e)

    drop_known : known (get_or g x.0 none) x.2 ≡ true → (q : ℕ) (k : Lists) (f : ℕ) → Pending g (x ∷ work) q k f → Pending g work q k f
    drop_known e q k f (inl z) = inl z
    drop_known e q k f (inr (inl z)) =
        let w : (h : ℕ) × (get_or g x.0 none ≡ some (x.1, h)) × (x.2 ≤ h) = head_known e in
        inl (w.0, ap (λ y. get_or g y none) (sym z.0) ∙ w.1 ∙ ap (λ l. some (l, w.0)) z.1, (let u : x.2 ≤ w.0 = w.2 in let v : x.2 ≡ f = z.2 in omega arith))
    drop_known e q k f (inr (inr z)) = inr z

    known_rising : known (get_or g x.0 none) x.2 ≡ true → Rising g work
    known_rising e =
        record {
          on_paths = R.on_paths;
          work_paths = λ p l f h. R.work_paths p l f (inr h);
          runs = λ p l f ns q k a w i. drop_known e q k (raised f l k) (R.runs p l f ns q k a w i);
        }

    -- .. or one that raises the table
    module _ (e : known (get_or g x.0 none) x.2 ≡ false) (inside : x.0 < length g) where
      unknown : (k : Lists) (h : ℕ) → get_or g x.0 none ≡ some (k, h) → h < x.2
      unknown k h q = leb_isnt x.2 h (sym (ap (λ o. known o x.2) q) ∙ e)

      raise_keeps : (q : ℕ) (k : Lists) (f : ℕ) → Pending g (x ∷ work) q k f
          → Pending (lifted g x) (followers m b x ++ work) q k f
      raise_keeps q k f (inl z) =
          decide (eqb q x.0)
          (λ y. let p : q ≡ x.0 = eqb_is q x.0 y in
          let a : get_or g x.0 none ≡ some (k, z.0) = ap (λ w. get_or g w none) (sym p) ∙ z.1 in
          let u : z.0 < x.2 = unknown k z.0 a in
          let v : f ≤ z.0 = z.2 in
          inl (
            x.2,
            ap (λ w. get_or (lifted g x) w none) p ∙ get_or-set_same g x.0 (some (x.1, x.2)) none inside
                ∙ ap (λ l. some (l, x.2)) (sym (same_lists x.0 k x.1 z.0 x.2 (R.on_paths x.0 k z.0 a) head_path)),
            omega arith,
          ))
          (λ y. inl (z.0, get_or-set_other g x.0 q (some (x.1, x.2)) none (eqb_isnt q x.0 y) ∙ z.1, z.2))
      raise_keeps q k f (inr (inl z)) =
          inl (
            x.2,
            ap (λ w. get_or (lifted g x) w none) (sym z.0) ∙ get_or-set_same g x.0 (some (x.1, x.2)) none inside ∙ ap (λ l. some (l, x.2)) z.1,
            (let v : x.2 ≡ f = z.2 in omega arith),
          )
      raise_keeps q k f (inr (inr z)) = inr (waits_right q k f (followers m b x) work z)

      new_path : (q : ℕ) (k : Lists) (f : ℕ) → Waits q k f (followers m b x) → Path m b q k f
      new_path q k f = go (place_flow m b x.0 x.1) refl
        where
          go : (w : Flow) → place_flow m b x.0 x.1 ≡ w → Waits q k f (onward_to x.1 x.2 (maybe w [] (λ ns. ns))) → Path m b q k f
          go none a h = absurd h
          go (some ns) a h =
              let r : In q k ns × (f ≡ raised x.2 x.1 k) = onward_from x.1 x.2 ns q k f h in
              subst (Path m b q k) (sym r.1) (goes_on x.0 x.1 x.2 ns q k head_path a r.0)

      raised_rising : Rising (lifted g x) (followers m b x ++ work)
      raised_rising =
          record {
            on_paths = λ p l f a. place p l f a (eqb p x.0) refl;
            work_paths = λ p l f h. waiting p l f (waits_either p l f (followers m b x) work h);
            runs = λ p l f ns q k a w i. onwards p l f ns q k a w i (eqb p x.0) refl;
          }
        where
          pair : (p : ℕ) (l : Lists) (f : ℕ) → get_or (lifted g x) p none ≡ some (l, f) → eqb p x.0 ≡ true → (p ≡ x.0) × (x.1 ≡ l) × (x.2 ≡ f)
          pair p l f a y =
              let z : p ≡ x.0 = eqb_is p x.0 y in
              let w : ◌≡◌ {A = Lists × ℕ} (x.1, x.2) (l, f) = some_inj (x.1, x.2) (l, f) (sym (get_or-set_same g x.0 (some (x.1, x.2)) none inside) ∙ ap (λ w. get_or (lifted g x) w none) (sym z) ∙ a) in
              (z, ap (λ (v : Lists × ℕ). v.0) w, ap (λ (v : Lists × ℕ). v.1) w)

          other : (p : ℕ) (l : Lists) (f : ℕ) → get_or (lifted g x) p none ≡ some (l, f) → eqb p x.0 ≡ false → get_or g p none ≡ some (l, f)
          other p l f a y = sym (get_or-set_other g x.0 p (some (x.1, x.2)) none (eqb_isnt p x.0 y)) ∙ a

          place : (p : ℕ) (l : Lists) (f : ℕ) → get_or (lifted g x) p none ≡ some (l, f) → (v : Bool) → eqb p x.0 ≡ v → Path m b p l f
          place p l f a true y =
              let z : (p ≡ x.0) × (x.1 ≡ l) × (x.2 ≡ f) = pair p l f a y in
              subst (λ w. Path m b w l f) (sym z.0) (subst (λ w. Path m b x.0 w f) z.1 (subst (Path m b x.0 x.1) z.2 head_path))
          place p l f a false y = R.on_paths p l f (other p l f a y)

          waiting : (p : ℕ) (l : Lists) (f : ℕ) → Waits p l f (followers m b x) ⊎ Waits p l f work → Path m b p l f
          waiting p l f (inl h) = new_path p l f h
          waiting p l f (inr h) = R.work_paths p l f (inr h)

          onwards : (p : ℕ) (l : Lists) (f : ℕ) (ns : List (ℕ × Lists)) (q : ℕ) (k : Lists) → get_or (lifted g x) p none ≡ some (l, f) → place_flow m b p l ≡ some ns → In q k ns
              → (v : Bool) → eqb p x.0 ≡ v
              → Pending (lifted g x) (followers m b x ++ work) q k (raised f l k)
          onwards p l f ns q k a w i true y =
              let z : (p ≡ x.0) × (x.1 ≡ l) × (x.2 ≡ f) = pair p l f a y in
              let fl : place_flow m b x.0 x.1 ≡ some ns = ap (λ u. place_flow m b u x.1) (sym z.0) ∙ ap (place_flow m b p) z.1 ∙ w in
              let o : Waits q k (raised x.2 x.1 k) (followers m b x) = rw fl (onward_in x.1 x.2 ns q k i) in
              inr (waits_left q k (raised f l k) (followers m b x) work
              (subst (λ u. Waits q k (raised u l k) (followers m b x)) z.2
              (subst (λ u. Waits q k (raised x.2 u k) (followers m b x)) z.1 o)))
          onwards p l f ns q k a w i false y = raise_keeps q k (raised f l k) (R.runs p l f ns q k (other p l f a y) w i)

      few_more : length (followers m b x ++ work) ≤ 2 + length work
      few_more =
          let n : length (followers m b x ++ work) ≡ length (followers m b x) + length work =
          length-append (followers m b x) work in
          let z : length (followers m b x) ≤ 2 = go (place_flow m b x.0 x.1) (short_place m b x.0 x.1) in omega arith
        where
          go : (w : Flow) → Short w → length (onward_to x.1 x.2 (maybe w [] (λ ns. ns))) ≤ 2
          go none h = omega arith
          go (some ns) h = let y : length (onward_to x.1 x.2 ns) ≡ length ns = onward_length x.1 x.2 ns in omega arith

  rise_exact : (n : ℕ) (g : Grounds) (work : Waiting) → length g ≡ 1 + m.extent → Rising g work → length work + 2 * slack g < n → Risen g work (rise m b n g work)
  unfolding rise
  rise_exact zero g work l R h = absurd (omega arith)
  rise_exact (suc n) g [] l R h = record { rising = R; keeps = λ q k f z. z }
  rise_exact (suc n) g (x ∷ work) l R h =
      go (known (get_or g x.0 none) x.2) refl (λ R'. rise_exact n g work l R' (omega arith)) (λ l' R' h'. rise_exact n (lifted g x) (followers m b x ++ work) l' R' h')
    where
      inside : x.0 < length g
      inside = let z : x.0 ≤ m.extent = (c.inside x.0 x.1 (path_given m b T c x.0 x.1 x.2 (head_path g x work R))).0 in omega arith

      low : x.2 ≤ 512
      low = ground_bound m b T c x.0 x.1 x.2 (head_path g x work R)

      go : (v : Bool) → known (get_or g x.0 none) x.2 ≡ v
          → (Rising g work → Risen g work (rise m b n g work))
          → (length (lifted g x) ≡ 1 + m.extent → Rising (lifted g x) (followers m b x ++ work)
          → length (followers m b x ++ work) + 2 * slack (lifted g x) < n
          → Risen (lifted g x) (followers m b x ++ work)
          (rise m b n (lifted g x) (followers m b x ++ work)))
          → Risen g (x ∷ work)
          (elim v as (λ z. Grounds) [ true ↦ rise m b n g work | false ↦ rise m b n (lifted g x) (followers m b x ++ work) ])
      go true e ih ih' =
          let r : Risen g work (rise m b n g work) = ih (known_rising g x work R e) in
          record { rising = r.rising; keeps = λ q k f z. r.keeps q k f (drop_known g x work R e q k f z) }
      go false e ih ih' =
          let s : slack (lifted g x) < slack g = slack_set g x.0 x.1 x.2 inside low e in
          let w : length (followers m b x ++ work) ≤ 2 + length work = few_more g x work R e inside in
          let r : Risen (lifted g x) (followers m b x ++ work)
          (rise m b n (lifted g x) (followers m b x ++ work)) =
          ih' (length-set g x.0 (some (x.1, x.2)) ∙ l) (raised_rising g x work R e inside) (omega arith) in
          record { rising = r.rising; keeps = λ q k f z. r.keeps q k f (raise_keeps g x work R e inside q k f z) }

  -- the table gives the largest ground_level of each reached place
  pub grounds_exact : Tops m b (λ p l f. get_or (grounds_of m b) p none ≡ some (l, f))
  unfolding grounds_of
  grounds_exact =
      let z : slack (replicate (1 + m.extent) none) ≡ 513 * (1 + m.extent) = slack_blank (1 + m.extent) in
      let w : length (start_waiting (start_of m b)) ≤ 1 = short (start_of m b) in
      made (rise_exact (2 + 1026 * (1 + m.extent)) (replicate (1 + m.extent) none) (start_waiting (start_of m b)) (length-replicate (1 + m.extent) none) first (omega arith))
    where
      short : (o : Option (ℕ × List Ty)) → length (start_waiting o) ≤ 1
      short none = omega arith
      short (some x) = omega arith

      first : Rising (replicate (1 + m.extent) none) (start_waiting (start_of m b))
      first =
          record {
            on_paths = λ p l f e. absurd (get_or_blank (1 + m.extent) p (l, f) e);
            work_paths = λ p l f h. begin p l f (start_of m b) refl h;
            runs = λ p l f ns q k e a i. absurd (get_or_blank (1 + m.extent) p (l, f) e);
          }
        where
          begin : (p : ℕ) (l : Lists) (f : ℕ) (o : Option (ℕ × List Ty)) → start_of m b ≡ o → Waits p l f (start_waiting o) → Path m b p l f
          begin p l f none e h = absurd h
          begin p l f (some x) e (inl z) =
              subst (λ w. Path m b w l f) z.0 (subst (λ w. Path m b x.0 w f) z.1 (subst (Path m b x.0 (lists x.1 [])) z.2 (begins x.0 x.1 e)))
          begin p l f (some x) e (inr z) = absurd z

      made : Risen (replicate (1 + m.extent) none) (start_waiting (start_of m b)) (rise m b (2 + 1026 * (1 + m.extent)) (replicate (1 + m.extent) none) (start_waiting (start_of m b)))
          → Tops m b (λ p l f. get_or (rise m b (2 + 1026 * (1 + m.extent)) (replicate (1 + m.extent) none) (start_waiting (start_of m b))) p none ≡ some (l, f))
      made r =
          record {
            on_paths = r.rising.on_paths;
            starts = λ p ts e. there p (lists ts []) (length ts) (r.keeps p (lists ts []) (length ts) (inr (rw e (inl (refl, refl, refl)))));
            flows = λ p l f ns q k a w i. there q k (raised f l k) (r.rising.runs p l f ns q k a w i);
          }
        where
          there : (q : ℕ) (k : Lists) (f : ℕ) → Pending (rise m b (2 + 1026 * (1 + m.extent)) (replicate (1 + m.extent) none) (start_waiting (start_of m b))) [] q k f
              → (g : ℕ) × (get_or (rise m b (2 + 1026 * (1 + m.extent)) (replicate (1 + m.extent) none) (start_waiting (start_of m b))) q none ≡ some (k, g)) × (f ≤ g)
          there q k f (inl z) = z
          there q k f (inr z) = absurd z

-- ---- what is gathered over a table

module _ (m : Module) (b : Body) (N : ℕ → Found) where
  -- entry i of the table g has these lists and this ground_level
  abbrev Entry : Grounds → ℕ → Lists → ℕ → Type 0
  Entry g i l f = get_or g i none ≡ some (l, f)

  -- of place q: it calls a function of which nothing is found; all that it adds is at most x and d; x is a height there; d frames are there
  abbrev FailsAt : ℕ → Type 0
  FailsAt q = (k : ℕ) × (call_at m b q ≡ some k) × (N k ≡ none)

  abbrev Fits : ℕ → Lists → ℕ → ℕ → ℕ → Type 0
  Fits k l f x d = (y : ℕ × ℕ) × (N k ≡ some y) × (argument_at m l f k + y.0 ≤ x) × (suc y.1 ≤ d)

  abbrev OverAt : ℕ → Lists → ℕ → ℕ → ℕ → Type 0
  OverAt q l f x d = (height l f ≤ x) × ((k : ℕ) → call_at m b q ≡ some k → Fits k l f x d)

  abbrev TallAt : ℕ → Lists → ℕ → ℕ → Type 0
  TallAt q l f x = (x ≡ height l f) ⊎ ((k : ℕ) × (y : ℕ × ℕ) × (call_at m b q ≡ some k) × (N k ≡ some y) × (x ≡ argument_at m l f k + y.0))

  abbrev DeepAt : ℕ → ℕ → Type 0
  DeepAt q d = (k : ℕ) × (y : ℕ × ℕ) × (call_at m b q ≡ some k) × (N k ≡ some y) × (d ≡ suc y.1)

  -- of a table whose first entry is place p's
  abbrev Tall : ℕ → Grounds → ℕ → Type 0
  Tall p g x = (x ≡ 0) ⊎ ((i : ℕ) × (l : Lists) × (f : ℕ) × Entry g i l f × TallAt (p + i) l f x)

  abbrev Deep : ℕ → Grounds → ℕ → Type 0
  Deep p g d = (d ≡ 1) ⊎ ((i : ℕ) × (l : Lists) × (f : ℕ) × Entry g i l f × DeepAt (p + i) d)

  record Gathered (p : ℕ) (g : Grounds) (x d : ℕ) : Type 0 where
    over : (i : ℕ) (l : Lists) (f : ℕ) → Entry g i l f → OverAt (p + i) l f x d
    one_frame : 1 ≤ d
    tall : Tall p g x
    deep : Deep p g d

  abbrev Gives : ℕ → Grounds → Found → Type 0
  Gives p g none = (i : ℕ) × (l : Lists) × (f : ℕ) × Entry g i l f × FailsAt (p + i)
  Gives p g (some x) = Gathered p g x.0 x.1

  -- what one place gives
  abbrev Here : ℕ → Lists → ℕ → Found → Type 0
  Here q l f none = FailsAt q
  Here q l f (some x) = OverAt q l f x.0 x.1 × (1 ≤ x.1) × TallAt q l f x.0 × ((x.1 ≡ 1) ⊎ DeepAt q x.1)

  pick_max : (a c : ℕ) → (max a c ≡ a) ⊎ (max a c ≡ c)
  pick_max a c = decide (leb c a) (λ y. let z : c ≤ a = leb_is c a y in inl (omega arith)) (λ y. let z : a < c = leb_isnt c a y in inr (omega arith))

  here_is : (p : ℕ) (l : Lists) (f : ℕ) → Here p l f (place_need m b N p l f)
  here_is p l f = go (call_at m b p) refl
    where
      with_call : (k : ℕ) → call_at m b p ≡ some k → (o : Found) → N k ≡ o → Here p l f (with_callee m l f k o)
      with_call k e none q = (k, e, q)
      with_call k e (some y) q = (
        (omega arith, (λ j u. let z : k ≡ j = some_inj k j (sym e ∙ u) in subst (λ i. Fits i l f (max (height l f) (argument_at m l f k + y.0)) (suc y.1)) z (y, q, omega arith, omega arith))),
        omega arith,
        pick (pick_max (height l f) (argument_at m l f k + y.0)),
        inr (k, y, e, q, refl),
      )
        where
          pick : (max (height l f) (argument_at m l f k + y.0) ≡ height l f) ⊎ (max (height l f) (argument_at m l f k + y.0) ≡ argument_at m l f k + y.0)
              → TallAt p l f (max (height l f) (argument_at m l f k + y.0))
          pick (inl z) = inl z
          pick (inr z) = inr (k, y, e, q, z)

      go : (o : Option ℕ) → call_at m b p ≡ o → Here p l f (maybe o (some (height l f, 1)) (λ k. with_callee m l f k (N k)))
      go none e = ((omega arith, (λ k u. none_some (sym e ∙ u))), omega arith, inl refl, inl refl)
      go (some k) e = with_call k e (N k) refl

  -- an entry of the rest stands one further
  further : (p i : ℕ) → suc p + i ≡ p + suc i
  further p i = omega arith

  tall_on : (p : ℕ) (o : Option (Lists × ℕ)) (g : Grounds) (x : ℕ) → Tall (suc p) g x → Tall p (o ∷ g) x
  tall_on p o g x (inl z) = inl z
  tall_on p o g x (inr z) = inr (suc z.0, z.1, z.2, z.3, subst (λ q. TallAt q z.1 z.2 x) (further p z.0) z.4)

  deep_on : (p : ℕ) (o : Option (Lists × ℕ)) (g : Grounds) (d : ℕ) → Deep (suc p) g d → Deep p (o ∷ g) d
  deep_on p o g x (inl z) = inl z
  deep_on p o g x (inr z) = inr (suc z.0, z.1, z.2, z.3, subst (λ q. DeepAt q x) (further p z.0) z.4)

  fails_on : (p : ℕ) (o : Option (Lists × ℕ)) (g : Grounds) → Gives (suc p) g none → Gives p (o ∷ g) none
  fails_on p o g z = (suc z.0, z.1, z.2, z.3, subst FailsAt (further p z.0) z.4)

  wider : (q : ℕ) (l : Lists) (f x d x' d' : ℕ) → x ≤ x' → d ≤ d' → OverAt q l f x d → OverAt q l f x' d'
  wider q l f x d x' d' u v z = ((let h : height l f ≤ x = z.0 in omega arith), λ k e. fits k (z.1 k e))
    where
      fits : (k : ℕ) → Fits k l f x d → Fits k l f x' d'
      fits k w = let a : argument_at m l f k + w.0.0 ≤ x = w.2 in let c : suc w.0.1 ≤ d = w.3 in (w.0, w.1, omega arith, omega arith)

  gather_gives : (p : ℕ) (g : Grounds) → Gives p g (gather m b N p g)
  gather_gives p [] = record { over = λ i l f e. none_some e; one_frame = omega arith; tall = inl refl; deep = inl refl }
  gather_gives p (none ∷ g) = go (gather m b N (suc p) g) (gather_gives (suc p) g)
    where
      over_on : (x d : ℕ) → Gathered (suc p) g x d → (i : ℕ) (l : Lists) (f : ℕ) → get_or (none ∷ g) i none ≡ some (l, f) → OverAt (p + i) l f x d
      over_on x d G zero l f e = none_some e
      over_on x d G (suc i) l f e = subst (λ q. OverAt q l f x d) (further p i) (G.over i l f e)

      go : (o : Found) → Gives (suc p) g o → Gives p (none ∷ g) o
      go none h = fails_on p none g h
      go (some x) h = record { over = over_on x.0 x.1 h; one_frame = h.one_frame; tall = tall_on p none g x.0 h.tall; deep = deep_on p none g x.1 h.deep }
  gather_gives p (some e ∷ g) = join (place_need m b N p e.0 e.1) (here_is p e.0 e.1) (gather m b N (suc p) g) (gather_gives (suc p) g)
    where
      now : p ≡ p + 0
      now = omega arith

      join : (o : Found) → Here p e.0 e.1 o → (o' : Found) → Gives (suc p) g o' → Gives p (some e ∷ g) (larger o o')
      join none h o' h' = (0, e.0, e.1, refl, subst FailsAt now h)
      join (some x) h none h' = fails_on p (some e) g h'
      join (some x) h (some x') h' =
          record { over = both; one_frame = (let z : 1 ≤ x.1 = h.1 in omega arith); tall = tall_of (pick_max x.0 x'.0); deep = deep_of (pick_max x.1 x'.1) }
        where
          both : (i : ℕ) (l : Lists) (f : ℕ) → get_or (some e ∷ g) i none ≡ some (l, f) → OverAt (p + i) l f (max x.0 x'.0) (max x.1 x'.1)
          both zero l f q =
              subst (λ (v : Lists × ℕ). OverAt (p + 0) v.0 v.1 (max x.0 x'.0) (max x.1 x'.1)) (some_inj e (l, f) q)
              (wider (p + 0) e.0 e.1 x.0 x.1 (max x.0 x'.0) (max x.1 x'.1) (omega arith) (omega arith) (subst (λ r. OverAt r e.0 e.1 x.0 x.1) now h.0))
          both (suc i) l f q =
              wider (p + suc i) l f x'.0 x'.1 (max x.0 x'.0) (max x.1 x'.1) (omega arith) (omega arith)
              (subst (λ r. OverAt r l f x'.0 x'.1) (further p i) (h'.over i l f q))

          tall_of : (max x.0 x'.0 ≡ x.0) ⊎ (max x.0 x'.0 ≡ x'.0) → Tall p (some e ∷ g) (max x.0 x'.0)
          tall_of (inl z) = subst (Tall p (some e ∷ g)) (sym z) (inr (0, e.0, e.1, refl, subst (λ r. TallAt r e.0 e.1 x.0) now h.2))
          tall_of (inr z) = subst (Tall p (some e ∷ g)) (sym z) (tall_on p (some e) g x'.0 h'.tall)

          first : (x.1 ≡ 1) ⊎ DeepAt p x.1 → Deep p (some e ∷ g) x.1
          first (inl w) = inl w
          first (inr w) = inr (0, e.0, e.1, refl, subst (λ r. DeepAt r x.1) now w)

          deep_of : (max x.1 x'.1 ≡ x.1) ⊎ (max x.1 x'.1 ≡ x'.1) → Deep p (some e ∷ g) (max x.1 x'.1)
          deep_of (inl z) = subst (Deep p (some e ∷ g)) (sym z) (first h.3)
          deep_of (inr z) = subst (Deep p (some e ∷ g)) (sym z) (deep_on p (some e) g x'.1 h'.deep)

-- ---- need and frames

module _ (m : Module) (acc : WellTyped m) where
  tops : (b : Body) → Tops m b (λ p l f. get_or (grounds_of m b) p none ≡ some (l, f))
  tops b = grounds_exact m b (acc.typing b) (acc.consistent b)

  abbrev pub Exists : Body → Type 0
  Exists b = (x : ℕ × List Ty) × (start_of m b ≡ some x)

  -- a reached call calls a function that exists
  pub called_function : (b : Body) (k : ℕ) → Calls m b k → (F : Function) × (m.function k ≡ some F)
  called_function b k c = go (past c.0 (end_of m b)) ((acc.consistent b).flows c.0 c.1 (path_given m b (acc.typing b) (acc.consistent b) c.0 c.1 c.2 c.3)) c.4
    where
      at_call : (i : Instruction) → Flows (GivenBy (acc.typing b)) (judge m b i (c.0 + size i) c.1.locals c.1.operands) → called i ≡ some k → (F : Function) × (m.function k ≡ some F)
      at_call (push j) h e = none_some e
      at_call (load j) h e = none_some e
      at_call (store j) h e = none_some e
      at_call (lea j) h e = none_some e
      at_call (one o) h e = none_some e
      at_call (two o) h e = none_some e
      at_call tload h e = none_some e
      at_call tstore h e = none_some e
      at_call (bump d) h e = none_some e
      at_call (jmp l) h e = none_some e
      at_call (branch x l) h e = none_some e
      at_call (call j) h e = subst (λ z. (F : Function) × (m.function z ≡ some F)) (some_inj j k e) (exists (m.function j) h)
        where
          exists : (o : Option Function) → Flows (GivenBy (acc.typing b)) (maybe o none (λ F. strip F.params c.1.operands (λ O'. to (c.0 + 5) c.1.locals (with_result F.result O')))) → (F : Function) × (o ≡ some F)
          exists none h = absurd h
          exists (some F) h = (F, refl)
      at_call ret h e = none_some e
      at_call (null g) h e = none_some e
      at_call (new g n) h e = none_some e
      at_call delete h e = none_some e
      at_call (flea n) h e = none_some e

      on : (o : Option Instruction) → Flows (GivenBy (acc.typing b)) (maybe o none (λ i. judge m b i (c.0 + size i) c.1.locals c.1.operands)) → maybe o none called ≡ some k → (F : Function) × (m.function k ≡ some F)
      on none h e = none_some e
      on (some i) h e = at_call i h e

      go : (v : Bool) → Flows (GivenBy (acc.typing b)) (cond v (end_flow b) (judge_at m b c.0 c.1)) → cond v none (maybe (m.code c.0) none called) ≡ some k → (F : Function) × (m.function k ≡ some F)
      go true h e = none_some e
      go false h e = on (m.code c.0) h e

  callee_exists : (b : Body) (k : ℕ) → Calls m b k → Exists (fn k)
  callee_exists b k c = let F : (F : Function) × (m.function k ≡ some F) = called_function b k c in ((F.0.start, F.0.params), rw F.1 refl)

  -- what is gathered over the grounds, where what N finds are needs, is a need
  gathered_needs : (b : Body) → Exists b → (N : ℕ → Found) → ((k : ℕ) (y : ℕ × ℕ) → Exists (fn k) → N k ≡ some y → Needs m (fn k) y.0 y.1)
      → (x d : ℕ) → Gathered m b N 0 (grounds_of m b) x d → Needs m b x d
  gathered_needs b ex N ih x d G = record { tallest = (reached G.tall, λ h r. below b refl h r); deepest = (stacked G.deep, λ h r. under b refl h r) }
    where
      top : (p : ℕ) (l : Lists) (f : ℕ) → Path m b p l f → (g : ℕ) × (get_or (grounds_of m b) p none ≡ some (l, g)) × (f ≤ g)
      top = topmost m b (λ p l f. get_or (grounds_of m b) p none ≡ some (l, f)) (tops b)

      over_path : (p : ℕ) (l : Lists) (f : ℕ) → Path m b p l f → (g : ℕ) × (f ≤ g) × OverAt m b N p l g x d
      over_path p l f r =
          let z : (g : ℕ) × (get_or (grounds_of m b) p none ≡ some (l, g)) × (f ≤ g) = top p l f r in
          let w : 0 + p ≡ p = omega arith in (z.0, z.2, subst (λ q. OverAt m b N q l z.0 x d) w (G.over p l z.0 z.1))

      -- the callee's part, from a path to its call
      over_call : (p : ℕ) (l : Lists) (f k : ℕ) → Path m b p l f → call_at m b p ≡ some k → (y : ℕ × ℕ) × Needs m (fn k) y.0 y.1 × (argument_at m l f k + y.0 ≤ x) × (suc y.1 ≤ d)
      over_call p l f k r c =
          let z : (g : ℕ) × (f ≤ g) × OverAt m b N p l g x d = over_path p l f r in
          let w : Fits m b N k l z.0 x d = z.2.1 k c in
          let u : f ≤ z.0 = z.1 in
          let v : argument_at m l z.0 k + w.0.0 ≤ x = w.2 in (w.0, ih k w.0 (callee_exists b k (p, l, f, r, c)) w.1, omega arith, w.3)

      below : (c : Body) → c ≡ b → (h : ℕ) → Reaches m c h → h ≤ x
      below _ e _ (here c p l f r) =
          let z : (g : ℕ) × (f ≤ g) × OverAt m b N p l g x d = over_path p l f (subst (λ w. Path m w p l f) e r) in
          let u : f ≤ z.0 = z.1 in let v : height l z.0 ≤ x = z.2.0 in omega arith
      below _ e _ (within c p l f k h r a t) =
          let z : (y : ℕ × ℕ) × Needs m (fn k) y.0 y.1 × (argument_at m l f k + y.0 ≤ x) × (suc y.1 ≤ d) =
          over_call p l f k (subst (λ w. Path m w p l f) e r) (subst (λ w. call_at m w p ≡ some k) e a) in
          let u : h ≤ z.0.0 = z.1.tallest.1 h t in let v : argument_at m l f k + z.0.0 ≤ x = z.2 in omega arith

      under : (c : Body) → c ≡ b → (h : ℕ) → Stacks m c h → h ≤ d
      under _ e _ (alone c) = G.one_frame
      under _ e _ (under_it c k h s t) =
          let z : (y : ℕ × ℕ) × Needs m (fn k) y.0 y.1 × (argument_at m s.1 s.2 k + y.0 ≤ x) × (suc y.1 ≤ d) =
          over_call s.0 s.1 s.2 k (subst (λ w. Path m w s.0 s.1 s.2) e s.3) (subst (λ w. call_at m w s.0 ≡ some k) e s.4) in
          let u : h ≤ z.0.1 = z.1.deepest.1 h t in let v : suc z.0.1 ≤ d = z.3 in omega arith

      zero_plus : (i : ℕ) → 0 + i ≡ i
      zero_plus i = omega arith

      reached : Tall m b N 0 (grounds_of m b) x → Reaches m b x
      reached (inl z) =
          let s : Path m b ex.0.0 (lists ex.0.1 []) (length ex.0.1) = begins ex.0.0 ex.0.1 ex.1 in
          let h : length ex.0.1 + 0 ≤ x = below b refl (length ex.0.1 + 0) (here b ex.0.0 (lists ex.0.1 []) (length ex.0.1) s) in
          let w : length ex.0.1 + 0 ≡ x = omega arith in subst (Reaches m b) w (here b ex.0.0 (lists ex.0.1 []) (length ex.0.1) s)
      reached (inr z) = at_place z.0 z.1 z.2 ((tops b).on_paths z.0 z.1 z.2 z.3) (subst (λ q. TallAt m b N q z.1 z.2 x) (zero_plus z.0) z.4)
        where
          at_place : (p : ℕ) (l : Lists) (f : ℕ) → Path m b p l f → TallAt m b N p l f x → Reaches m b x
          at_place p l f r (inl w) = subst (Reaches m b) (sym w) (here b p l f r)
          at_place p l f r (inr w) = subst (Reaches m b) (sym w.4) (within b p l f w.0 w.1.0 r w.2 (ih w.0 w.1 (callee_exists b w.0 (p, l, f, r, w.2)) w.3).tallest.0)

      stacked : Deep m b N 0 (grounds_of m b) d → Stacks m b d
      stacked (inl z) = subst (Stacks m b) (sym z) (alone b)
      stacked (inr z) = at_place z.0 z.1 z.2 ((tops b).on_paths z.0 z.1 z.2 z.3) (subst (λ q. DeepAt m b N q d) (zero_plus z.0) z.4)
        where
          at_place : (p : ℕ) (l : Lists) (f : ℕ) → Path m b p l f → DeepAt m b N p d → Stacks m b d
          at_place p l f r w = subst (Stacks m b) (sym w.4) (under_it b w.0 w.1.1 (p, l, f, r, w.2) (ih w.0 w.1 (callee_exists b w.0 (p, l, f, r, w.2)) w.3).deepest.0)

  pub need_needs : (n : ℕ) (b : Body) → Exists b → (x : ℕ × ℕ) → need_of m n b ≡ some x → Needs m b x.0 x.1
  unfolding need_of
  need_needs zero b ex x e = none_some e
  need_needs (suc n) b ex x e =
      gathered_needs b ex (λ k. need_of m n (fn k)) (λ k y q u. need_needs n (fn k) q y u) x.0 x.1
      (subst (Gives m b (λ k. need_of m n (fn k)) 0 (grounds_of m b)) e (gather_gives m b (λ k. need_of m n (fn k)) 0 (grounds_of m b)))

  pub none_long : (n : ℕ) (b : Body) → need_of m n b ≡ none → Long m n b
  unfolding need_of
  none_long zero b e = tt
  none_long (suc n) b e = go (subst (Gives m b (λ k. need_of m n (fn k)) 0 (grounds_of m b)) e (gather_gives m b (λ k. need_of m n (fn k)) 0 (grounds_of m b))) (λ k q. none_long n (fn k) q)
    where
      go : ((i : ℕ) × (l : Lists) × (f : ℕ) × (get_or (grounds_of m b) i none ≡ some (l, f)) × FailsAt m b (λ k. need_of m n (fn k)) (0 + i)) → ((k : ℕ) → need_of m n (fn k) ≡ none → Long m n (fn k))
          → (k : ℕ) × Calls m b k × Long m n (fn k)
      go z ih =
          let w : 0 + z.0 ≡ z.0 = omega arith in
          let u : FailsAt m b (λ k. need_of m n (fn k)) z.0 = subst (FailsAt m b (λ k. need_of m n (fn k))) w z.4 in
          (u.0, (z.0, z.1, z.2, (tops b).on_paths z.0 z.1 z.2 z.3, u.1), ih u.0 u.2)

  -- with one call more than there are functions: a need, or a chain of calls that comes back
  module _ (N : ℕ) (bounded : (k : ℕ) (F : Function) → m.function k ≡ some F → k < N) where
    callee_below : (b : Body) (k : ℕ) → Calls m b k → k < N
    callee_below b k c = let F : (F : Function) × (m.function k ≡ some F) = called_function b k c in bounded k F.0 F.1

    pub none_recursive : (b : Body) → need_of m (suc N) b ≡ none → Recursive m b
    none_recursive b e = long_recursive m N callee_below b (none_long (suc N) b e)

    pub recursive_none : (b : Body) → Exists b → Recursive m b → need_of m (suc N) b ≡ none
    recursive_none b ex r = go (need_of m (suc N) b) refl
      where
        go : (o : Found) → need_of m (suc N) b ≡ o → o ≡ none
        go none e = refl
        go (some x) e = absurd (needs_not_recursive m b x.0 x.1 (need_needs (suc N) b ex x e) r)

    -- what has a need is found: so code that shows `Needs` agrees with the definition
    pub needs_found : (b : Body) → Exists b → (n d : ℕ) → Needs m b n d → need_of m (suc N) b ≡ some (n, d)
    needs_found b ex n d h = go (need_of m (suc N) b) refl
      where
        go : (o : Found) → need_of m (suc N) b ≡ o → o ≡ some (n, d)
        go none e = absurd (needs_not_recursive m b n d h (none_recursive b e))
        go (some x) e = let z : (x.0 ≡ n) × (x.1 ≡ d) = needs_once m b x.0 x.1 n d (need_needs (suc N) b ex x e) h in λ i. some (z.0 i, z.1 i)
