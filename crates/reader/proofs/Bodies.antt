-- The walk body by body against row 8, and the bodies against the owners of labels.
use Prim.Native.Nat.{ℕ, zero, suc, ◌+◌, ◌*◌, ◌≤◌, ◌<◌}
use native.Mathlib.Numerals.{add-one}
use native.Mathlib.Omega.{arith}
use mathlib.Core.Path.{◌≡◌, refl, sym, ap, ◌∙◌, subst}
use mathlib.Core.Bool.{Bool, true, false, not, ◌&&◌, ◌||◌, or-false, true≢false}
use mathlib.Core.List.{List, []}
use lib.Dec.{eqb, ltb, leb}
use lib.ListN.{length, get_or, replicate}
use borrow.Author.Tests.{eq-eqb, ne_eqb, lt-ltb, le-ltb, ltb-true}
use Rattle.rules.specs.Bytes.{word, some_below}
use Rattle.rules.specs.Tables.{Bodies, bodies, function_size, function_count, due, due_in, unknown_at, differs, end_before, crossed, bad_code, bad_functions, function_at, owns, label_at, bad_label, bad_labels}
use Rattle.soundness.specs.Readable.{ends_rise, fills, starts_after}
use Rattle.format.specs.Layout.{Fits}
use Rattle.format.proofs.Tests.{and_left, and_right, or_left, or_right, either}
use Rattle.format.proofs.Gathered.{some_hit, some_longer, some_same}
use Rattle.format.proofs.Editions.{end_same}
use Rattle.reader.specs.Cut.{Blank, Cut, Fails, Walked, Filled, StartsExactly}
use Rattle.reader.proofs.Starts.{start_tells}

-- ---- the start

pub blank : (n : ℕ) → Blank (replicate n 0)
blank zero q = refl
blank (suc n) zero = refl
blank (suc n) (suc q) = blank n q

pub cut_none : (ed : ℕ) (s t : List ℕ) → Blank t → Cut ed s 0 t
unfolding due some_below
cut_none ed s t blank = record { begins = refl; known = refl; marked = λ q l h. absurd (omega arith); clear = λ q l. blank q }

-- ---- what a walk says, and where the bodies end

pub failed : (ed : ℕ) (s : List ℕ) (p q : ℕ) (t : List ℕ) (r : Bool) → r ≡ false → p ≡ q → Walked r ed s p t → Fails ed s q
failed ed s p q t true e g w = absurd (true≢false e)
failed ed s p q t false e g w = subst (Fails ed s) g w

pub passed : (ed : ℕ) (s : List ℕ) (p q : ℕ) (t : List ℕ) (r : Bool) → r ≡ true → p ≡ q → Walked r ed s p t → Cut ed s q t
passed ed s p q t true e g w = subst (λ (x : ℕ). Cut ed s x t) g w
passed ed s p q t false e g w = absurd (true≢false (sym e))

pub end_first : (B : Bodies) → B.entry ≡ end_before B 0
unfolding end_before
end_first B = refl

pub end_next : (B : Bodies) (i end len : ℕ) → end ≡ end_before B i → len ≡ word 4 B.functions (function_at B.edition i + 4) → end + len ≡ end_before B (i + 1)
unfolding end_before
end_next B i end len e l = rw add-one (cc)

-- ---- bodies that follow one another; no structure is looked at

module _ (fs code : List ℕ) (n : ℕ) where
  pub filled_of : (e m : ℕ) (zs : List ℕ) → m ≡ function_count e fs → Fits e fs code n → bad_functions (bodies e fs zs code n) ≡ false → Filled e m fs code n
  filled_of e m zs counted fits good =
      record {
        counted = counted;
        fits = fits;
        in_order = λ i h. starts_after (bodies e fs zs code n) good i h ∙ end_same fs code n e zs i;
        fills = sym (end_same fs code n e zs (function_count e fs)) ∙ fills (bodies e fs zs code n) good;
      }

  module _ (e : ℕ) (zs : List ℕ) where
    pub same_code : bad_code (bodies e fs zs code n) ≡ bad_code (bodies e fs [] code n)
    unfolding bad_code crossed
    same_code =
        ap (λ (b : Bool). some_below (length code) (unknown_at e code) || b)
        (some_same (crossed (bodies e fs zs code n)) (crossed (bodies e fs [] code n)) (λ i. ap (λ (p : ℕ). differs (due e code p) 0) (end_same fs code n e zs i)) (suc (function_count e fs)))

    pub same_labels : (ls : List ℕ) → bad_labels (bodies e fs zs code n) ls ≡ bad_labels (bodies e fs [] code n) ls
    unfolding bad_labels bad_label
    same_labels ls = refl

-- ---- a body that fails

module _ (ed m : ℕ) (fs code : List ℕ) (n : ℕ) (full : Filled ed m fs code n) where
  abbrev B : Bodies
  B = bodies ed fs [] code n

  filling : end_before B (function_count B.edition B.functions) ≡ length code
  filling = full.fills

  -- a body ends in the code
  pub end_inside : (i : ℕ) → i ≤ function_count B.edition B.functions → end_before B i ≤ length B.code
  end_inside i l = let m = ends_rise B i (function_count B.edition B.functions) l in let f = filling in omega arith

  -- the body before function i fails
  pub bad_body : (i : ℕ) → i ≤ function_count B.edition B.functions → Fails B.edition B.code (end_before B i) → true ≡ bad_code B
  unfolding bad_code crossed
  bad_body i l w =
      let unknown : ℕ → Bool = unknown_at B.edition B.code in
      sym (either (some_below (end_before B i) unknown) (differs (due_in B (end_before B i)) 0) w (bad_code B ≡ true)
      (λ u. or_left _ (some_below (suc (function_count B.edition B.functions)) (crossed B)) (some_longer unknown (end_before B i) (length B.code) (end_inside i l) u))
      (λ x. or_right (some_below (length B.code) unknown) _ (some_hit (crossed B) (suc (function_count B.edition B.functions)) i (omega arith) x)))

  -- ---- bodies that pass

  not_crossed : (i : ℕ) (t : List ℕ) → Cut B.edition B.code (end_before B i) t → crossed B i ≡ false
  unfolding crossed
  not_crossed i t cut = simp (eq-eqb _ _ cut.begins)

  pub crossed_more : (i : ℕ) (t : List ℕ) → some_below i (crossed B) ≡ false → Cut B.edition B.code (end_before B i) t → some_below (i + 1) (crossed B) ≡ false
  unfolding some_below
  crossed_more i t h cut = rw add-one (simp (h, not_crossed i t cut))

  pub at_end_lem : (i : ℕ) (t : List ℕ) → i ≡ function_count B.edition B.functions → Cut B.edition B.code (end_before B i) t → Cut B.edition B.code (length B.code) t
  at_end_lem i t e cut = subst (λ (p : ℕ). Cut B.edition B.code p t) (ap (end_before B) e ∙ filling) cut

  pub good_bodies : (i : ℕ) (t : List ℕ) → i ≡ function_count B.edition B.functions → Cut B.edition B.code (end_before B i) t → some_below (i + 1) (crossed B) ≡ false → false ≡ bad_code B
  unfolding bad_code
  good_bodies i t e cut h =
      let a : end_before B i ≡ length B.code = ap (end_before B) e ∙ filling in
      let k : some_below (length B.code) (unknown_at B.edition B.code) ≡ false = rw a at cut.known in
      let j : some_below (suc (function_count B.edition B.functions)) (crossed B) ≡ false = rw (add-one, e) at h in
      simp (k, j)

  -- ---- an owned place lies in the code

  pub owned_inside : (o p : ℕ) → owns B.edition B.functions B.entry o p ≡ true → p < length B.code
  unfolding owns end_before
  owned_inside o p h =
      let count : ℕ = function_count B.edition B.functions in
      let start : ℕ = word 4 B.functions (function_at B.edition o) in
      let len : ℕ = word 4 B.functions (function_at B.edition o + 4) in
      either (eqb o 0xffffffff && ltb p B.entry) (ltb o count && leb start p && ltb p (start + len)) h (p < length B.code)
      (λ e. let a : p < B.entry = ltb-true _ _ (and_right (eqb o 0xffffffff) (ltb p B.entry) e) in omega (arith, full.fits.entry_inside))
      (λ f.
      let a : p < start + len = ltb-true _ _ (and_right (ltb o count && leb start p) (ltb p (start + len)) f) in
      let b : o < count = ltb-true _ _ (and_left (ltb o count) (leb start p) (and_left (ltb o count && leb start p) (ltb p (start + len)) f)) in
      let d = full.in_order o b in
      let g = end_inside (suc o) (omega arith) in
      omega arith)

-- ---- labels

module _ (e : ℕ) (fs : List ℕ) (n : ℕ) where
  pub owns_function : function_count e fs ≤ 128 → (size o p start len : ℕ) → size ≡ function_size e → o < function_count e fs → start ≡ word 4 fs (size * o) → len ≡ word 4 fs (size * o + 4)
      → (leb start p && ltb p (start + len)) ≡ owns e fs n o p
  unfolding owns
  owns_function few size o p start len q l h g = simp (ne_eqb o 0xffffffff (λ z. omega arith), lt-ltb _ _ l) (cc)

  pub owns_entry : (o p : ℕ) → function_count e fs ≤ o → (eqb o 0xffffffff && ltb p n) ≡ owns e fs n o p
  unfolding owns
  owns_entry o p l = simp (le-ltb _ _ l, or-false)

module _ (B : Bodies) (ls : List ℕ) (i o p : ℕ) (owner : o ≡ word 4 ls (8 * i)) (place : p ≡ word 4 ls (8 * i + 4)) where
  pub not_owned : owns B.edition B.functions B.entry o p ≡ false → true ≡ bad_label B ls i
  unfolding bad_label
  not_owned h =
      let g : owns B.edition B.functions B.entry (word 4 ls (label_at i)) (word 4 ls (label_at i + 4)) ≡ false = cc in
      simp g

  pub owned_marked : owns B.edition B.functions B.entry o p ≡ true → (t : List ℕ) → StartsExactly B.edition B.code t → p < length B.code → p < length t
      → not (eqb (get_or t p 0) 1) ≡ bad_label B ls i
  unfolding bad_label
  owned_marked h t exact l m =
      let g : owns B.edition B.functions B.entry (word 4 ls (label_at i)) (word 4 ls (label_at i + 4)) ≡ true = cc in
      simp g (ap not (start_tells B.edition B.code t exact p l m ∙ ap (λ (q : ℕ). eqb (due_in B q) 0) place))
