-- The editions that there are; row 7 by edition: editions 3 and 4 have types of their own, and in edition 1 a parameter byte over
-- 127 is bad besides.
use Prim.Native.Nat.{ℕ, zero, suc, ◌+◌, ◌≤◌, ◌<◌}
use native.Mathlib.Omega.{arith}
use mathlib.Core.Path.{◌≡◌, refl, sym, ap, ◌∙◌}
use mathlib.Core.Logic.{⊎_elim}
use mathlib.Core.Bool.{Bool, true, false, ◌||◌, or-false}
use mathlib.Core.List.{List, []}
use lib.Dec.{ltb, leb, eqb}
use lib.ListN.{length}
use borrow.Author.Tests.{ne_eqb, le-ltb, ltb-true, ltb-false, leb-true, eqb-true}
use Rattle.rules.specs.Bytes.{byte, word, some_below}
use Rattle.rules.specs.Tables.{bodies, function_count, function_at, structure_count, structure_limit, unknown_edition, structure_type, managed_type, odd_return, odd_param, bad_param, bad_record, end_before, bad_function, bad_functions, differs}
use Rattle.soundness.specs.Tests.{decide}
use Rattle.soundness.specs.Readable.{known_edition}
use Rattle.format.specs.Layout.{types_of, high_param, high_params, bad_table}
use Rattle.format.proofs.Tests.{or_right, differs_true}
use Rattle.format.proofs.Gathered.{some_same}

pub third_edition : (e : ℕ) → unknown_edition e ≡ false → (e ≡ 1 → ⊥) → (e ≡ 4 → ⊥) → e ≡ 3
third_edition e known one four = ⊎_elim (λ q. absurd (one q)) (λ o. ⊎_elim (λ q. q) (λ q. absurd (four q)) o) (known_edition e known)

pub limit_small : (e : ℕ) → structure_limit e ≤ 16
limit_small e = decide (eqb e 4) (λ y. rw y (omega arith)) (λ y. rw y (omega arith))

-- an edition's structures are those of the edition whose types it has
pub limit_types : (e : ℕ) → structure_limit (types_of e) ≡ structure_limit e
limit_types e = decide (eqb e 4) (λ y. rw y refl) (λ y. rw y refl)

-- ---- one byte

no_structures : (z t : ℕ) → z ≡ 0 → false ≡ structure_type z t
no_structures z t q = rw q (decide (leb 138 t) (λ y. let l = leb-true _ _ y in sym (rw y (le-ltb t 138 l))) (λ y. rw y refl))

-- what edition 4 adds to the types of pointers, no other edition has
pub none_added : (e z t : ℕ) → (e ≡ 4 → ⊥) → z ≤ structure_limit e → false ≡ (structure_type z t || managed_type e z t)
none_added e z t other few = rw (ne_eqb e 4 other) (no_structures z t (none (rw (ne_eqb e 4 other) at few)) ∙ sym (or-false (structure_type z t)))
  where
    none : z ≤ 0 → z ≡ 0
    none l = omega arith

odd_high : (used : Bool) (t : ℕ) → 127 < t → odd_param 1 0 used t ≡ true
odd_high true t h =
    simp (ne_eqb t 3 (λ e. omega arith), ne_eqb t 4 (λ e. omega arith), ne_eqb t 6 (λ e. omega arith), ← no_structures 0 t refl)
odd_high false t h = differs_true t 0 (λ e. omega arith)

odd_low : (used : Bool) (t : ℕ) → t ≤ 127 → odd_param 1 0 used t ≡ odd_param 3 0 used t
odd_low true t h = simp (ne_eqb t 131 (λ e. omega arith), ne_eqb t 132 (λ e. omega arith), ne_eqb t 134 (λ e. omega arith))
odd_low false t h = refl

odd_first : (used : Bool) (t : ℕ) → odd_param 1 0 used t ≡ (odd_param 3 0 used t || ltb 127 t)
odd_first used t = go (ltb 127 t) refl
  where
    go : (b : Bool) → ltb 127 t ≡ b → odd_param 1 0 used t ≡ (odd_param 3 0 used t || b)
    go true e = odd_high used t (ltb-true _ _ e) ∙ sym (or_right (odd_param 3 0 used t) true refl)
    go false e = odd_low used t (ltb-false _ _ e) ∙ sym (or-false (odd_param 3 0 used t))

-- ---- a test of which another is split off

split_off : (f g h : ℕ → Bool) → ((i : ℕ) → f i ≡ (g i || h i)) → (n : ℕ) → some_below n f ≡ (some_below n g || some_below n h)
unfolding some_below
split_off f g h e zero = refl
split_off f g h e (suc n) = rw (split_off f g h e n, e n) (shuffle (some_below n g) (some_below n h) (g n) (h n))
  where
    shuffle : (a b c d : Bool) → ((a || b) || (c || d)) ≡ ((a || c) || (b || d))
    shuffle true b c d = refl
    shuffle false true true d = refl
    shuffle false true false d = refl
    shuffle false false c d = refl

module _ (s code : List ℕ) (n : ℕ) where
  -- where bodies end is the same with any structures
  pub end_same : (e : ℕ) (zs : List ℕ) (i : ℕ) → end_before (bodies e s zs code n) i ≡ end_before (bodies e s [] code n) i
  unfolding end_before
  end_same e zs zero = refl
  end_same e zs (suc i) = ap (λ (p : ℕ). p + word 4 s (function_at e i + 4)) (end_same e zs i)

  record_later : (e z a from : ℕ) → eqb e 1 ≡ false → bad_record e z s a from ≡ bad_record (types_of e) z s a from
  unfolding bad_record bad_param
  record_later e z a from q =
      decide (eqb e 4) (λ y. let p : e ≡ 4 = eqb-true e 4 y in rw p refl)
      (λ y. rw (y, some_same (bad_param e z s a) (bad_param 3 z s a) (λ j. rw (q, y) refl) 8) refl)

  functions_later : (e : ℕ) (zs : List ℕ) → eqb e 1 ≡ false → bad_table e (structure_count zs) s code n ≡ bad_functions (bodies e s zs code n)
  unfolding bad_table bad_functions bad_function
  functions_later e zs q =
      rw (
        end_same e zs (function_count e s),
        some_same (bad_function (bodies e s zs code n)) (λ i. bad_record (types_of e) (structure_count zs) s (function_at e i) (end_before (bodies e s [] code n) i))
            (λ i. record_later e (structure_count zs) (function_at e i) (end_before (bodies e s zs code n) i) q ∙ ap (bad_record (types_of e) (structure_count zs) s (function_at e i)) (end_same e zs i)) (function_count e s),
      )

  pub functions_third : (e : ℕ) (zs : List ℕ) (z : ℕ) → (e ≡ 1 → ⊥) → z ≡ structure_count zs → (b : Bool) → b ≡ bad_table e z s code n → b ≡ bad_functions (bodies e s zs code n)
  functions_third e zs z other q b p = p ∙ ap (λ (x : ℕ). bad_table e x s code n) q ∙ functions_later e zs (ne_eqb e 1 other)

  params_first : (a : ℕ) → some_below 8 (bad_param 1 0 s a) ≡ (some_below 8 (bad_param 3 0 s a) || some_below 8 (high_param s a))
  unfolding bad_param
  params_first a = split_off (bad_param 1 0 s a) (bad_param 3 0 s a) (high_param s a) (λ j. odd_first (ltb j (byte s (a + 8))) (byte s (a + 10 + j))) 8

  record_first : (a from : ℕ) → bad_record 1 0 s a from ≡ (bad_record 3 0 s a from || some_below 8 (high_param s a))
  unfolding bad_record
  record_first a from = rw (params_first a) (last (differs (word 4 s a) from || eqb (word 4 s (a + 4)) 0 || ltb 8 (byte s (a + 8)) || odd_return 3 0 (byte s (a + 9))) (some_below 8 (bad_param 3 0 s a)) (some_below 8 (high_param s a)) (differs (byte s (a + 18)) 0) (differs (byte s (a + 19)) 0))
    where
      last : (a p h x y : Bool) → (((a || (p || h)) || x) || y) ≡ ((((a || p) || x) || y) || h)
      last true p h x y = refl
      last false true h x y = refl
      last false false true true y = refl
      last false false true false true = refl
      last false false true false false = refl
      last false false false x y = sym (or-false (x || y))

  function_first : (zs : List ℕ) → structure_count zs ≡ 0 → (i : ℕ)
      → bad_function (bodies 1 s zs code n) i ≡ (bad_record 3 0 s (function_at 1 i) (end_before (bodies 1 s [] code n) i) || some_below 8 (high_param s (function_at 1 i)))
  unfolding bad_function
  function_first zs none i = rw (end_same 1 zs i, none) (record_first (function_at 1 i) (end_before (bodies 1 s [] code n) i))

  functions_first : (zs : List ℕ) → structure_count zs ≡ 0 → bad_functions (bodies 1 s zs code n) ≡ (bad_table 1 0 s code n || high_params s)
  unfolding bad_functions bad_table high_params
  functions_first zs none =
      let third : ℕ → Bool = λ i. bad_record 3 0 s (function_at 1 i) (end_before (bodies 1 s [] code n) i) in
      rw (split_off (bad_function (bodies 1 s zs code n)) third (λ i. some_below 8 (high_param s (function_at 1 i))) (function_first zs none) (function_count 1 s), end_same 1 zs (function_count 1 s))
      (swap (some_below (function_count 1 s) third) (high_params s) (differs (end_before (bodies 1 s [] code n) (function_count 1 s)) (length code)))
    where
      swap : (a h d : Bool) → ((a || h) || d) ≡ ((a || d) || h)
      swap true h d = refl
      swap false true true = refl
      swap false true false = refl
      swap false false d = sym (or-false d)

  pub functions_old : (e : ℕ) (zs : List ℕ) (z : ℕ) → e ≡ 1 → z ≡ structure_count zs → structure_count zs ≤ structure_limit e → (b h : Bool) → b ≡ bad_table e z s code n → h ≡ high_params s → (b || h) ≡ bad_functions (bodies e s zs code n)
  functions_old e zs z q m l b h p r =
      let l1 : structure_count zs ≤ 0 = rw q at l in
      let none : structure_count zs ≡ 0 = omega arith in
      let o : z ≡ 0 = m ∙ none in
      rw (p, q, o, r) (sym (functions_first zs none))
