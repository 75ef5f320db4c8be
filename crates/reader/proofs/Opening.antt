-- The answer of opening a file, from the rows; and what an opened module is known to have.
use Prim.Native.Nat.{ℕ, ◌+◌, ◌-◌, ◌≤◌, ◌<◌}
use native.Mathlib.Omega.{arith}
use mathlib.Core.Path.{◌≡◌, refl, sym, ap, ◌∙◌, subst}
use Rattle.std.specs.Prelude.{IfOk, Ok, Err}
use Rattle.std.specs.declared.result.Result.{Result}
use mathlib.Core.Bool.{Bool, true, false, cond}
use mathlib.Core.List.{List, [], ◌∷◌}
use lib.Dec.{eqb, ltb}
use lib.ListN.{length, take, drop}
use borrow.Author.Tests.{lt-ltb, ne_eqb, ltb-false}
use Rattle.rules.specs.Bytes.{some_below}
use Rattle.rules.specs.Tables.{function_size, Bodies, bodies, Tables, header_size, label_count, structure_count, first_of, content_tests, bad_constants, bad_structures, bad_functions, bad_code, bad_labels}
use Rattle.rules.specs.ModuleFile.{edition, constants_at, structures, structures_in, refusal, tables_in}
use Rattle.format.specs.declared.Sections.{Sections}
use Rattle.format.specs.Layout.{sections_of, header_tests, Packed, bad_table}
use Rattle.format.proofs.Editions.{functions_third}
use Rattle.format.proofs.Rows.{Header, header_of_lem, packed_of, first_hit, first_none}
use Rattle.rules.specs.declared.Refusal.{Refusal}
use Rattle.rules.specs.Results.{refusal_number, refused}
use Rattle.reader.specs.Answers.{code_tests, functions_tests, bodies_tests, Opens}
use Rattle.reader.proofs.Bodies.{same_code, same_labels}
use Rattle.reader.proofs.Records.{none_declared, old_pool, lent_tables}

-- no refusal's number is 0
pub refusal_some : (e : Refusal) → refusal_number e ≡ 0 → ⊥
refusal_some e z = grind arith

-- rows 6 to 9 decide where rows 1 to 5 don't hold
later : (s : List ℕ) → Header s → first_of 6 (content_tests (tables_in s)) ≡ refusal s
unfolding refusal first_of
later s h = simp (h.long, h.known, h.total, h.limits, h.packed)

module _ (s : List ℕ) (e : Refusal) where
  pub refused_first : refusal_number e ≡ first_of 1 (header_tests s) → Opens s (Err e)
  unfolding refusal
  refused_first p = first_hit 0 (header_tests s) (content_tests (tables_in s)) (λ z. refusal_some e (p ∙ z)) ∙ sym p

  pub refused_later : Header s → refusal_number e ≡ first_of 6 (content_tests (tables_in s)) → Opens s (Err e)
  refused_later k p = sym (p ∙ later s k)

pub not_refused : (s : List ℕ) → Header s → 0 ≡ first_of 6 (content_tests (tables_in s)) → (c : Sections) → c ≡ sections_of s → Opens s (Ok c)
not_refused s k p c g = (sym (p ∙ later s k), g)

-- either, by the number of rows 6 to 9
pub opens : (s : List ℕ) → Header s → (r : Result Sections Refusal) → refused r ≡ first_of 6 (content_tests (tables_in s)) → IfOk r (λ x. x ≡ sections_of s) → Opens s r
opens s k (Ok c) p g = not_refused s k p c g
opens s k (Err e) p g = refused_later s e k p

-- ---- the header by edition

pub too_short : (s : List ℕ) → length s < 48 → Opens s (Err Refusal.TooShort)
unfolding first_of
too_short s l = refused_first s Refusal.TooShort (simp (lt-ltb (length s) (header_size (edition s)) (below (eqb (edition s) 4))))
  where
    below : (b : Bool) → length s < cond b 56 48
    below true = omega arith
    below false = l

pub old_header : (s : List ℕ) → (edition s ≡ 4 → ⊥) → (48 ≡ constants_at s) × (0 ≡ structures s) × (20 ≡ function_size (edition s))
old_header s other = let q = ne_eqb (edition s) 4 other in (simp q, simp q, simp q)

pub fourth_header : (s : List ℕ) → edition s ≡ 4 → Header s → 56 ≤ length s
fourth_header s e h = let l : ltb (length s) 56 ≡ false = rw e at h.long in ltb-false (length s) 56 l

-- ---- an answer, taken apart

pub opened_refused : (s : List ℕ) (e : Refusal) → Opens s (Err e) → refusal_number e ≡ refusal s
opened_refused s e opened = sym opened

module _ (s : List ℕ) (c : Sections) (opened : Opens s (Ok c)) where
  pub opened_sections : (refusal s ≡ 0) × (c ≡ sections_of s)
  opened_sections = opened

  pub opened_packed : Packed s c
  unfolding refusal
  opened_packed = subst (λ (x : Sections). Packed s x) (sym opened.1) (packed_of s (header_of_lem s (first_none 0 (header_tests s) (content_tests (tables_in s)) opened.0)))

-- ---- rows 6 to 9, one after the other

-- no label, no row 9
no_labels : (B : Bodies) (ls : List ℕ) → label_count ls ≡ 0 → bad_labels B ls ≡ false
unfolding bad_labels some_below
no_labels B ls h = rw h refl

no_ninth : (B : Bodies) (ls : List ℕ) → label_count ls ≡ 0 → first_of 8 (bad_code B ∷ []) ≡ first_of 8 (code_tests B ls)
unfolding first_of
no_ninth B ls h = rw (no_labels B ls h) (go (bad_code B))
  where
    go : (b : Bool) → first_of 8 (b ∷ []) ≡ first_of 8 (b ∷ false ∷ [])
    go true = refl
    go false = refl

-- rows 7 to 9; no structure is looked at in rows 8 and 9
module _ (e : ℕ) (fs zs code : List ℕ) (m : ℕ) (ls : List ℕ) (b₇ : Bool) (e₇ : b₇ ≡ bad_functions (bodies e fs zs code m)) where
  same_rows : first_of 8 (code_tests (bodies e fs [] code m) ls) ≡ first_of 8 (code_tests (bodies e fs zs code m) ls)
  same_rows =
      ap (λ (b : Bool). first_of 8 (b ∷ bad_labels (bodies e fs [] code m) ls ∷ [])) (sym (same_code fs code m e zs))
      ∙ ap (λ (b : Bool). first_of 8 (bad_code (bodies e fs zs code m) ∷ b ∷ [])) (sym (same_labels fs code m e zs ls))

  pub seventh : b₇ ≡ true → 7 ≡ first_of 7 (functions_tests (bodies e fs zs code m) ls)
  unfolding first_of
  seventh h = simp (← e₇, h)

  module _ (good₇ : b₇ ≡ false) (n : ℕ) where
    pub from_code : n ≡ first_of 8 (code_tests (bodies e fs [] code m) ls) → n ≡ first_of 7 (functions_tests (bodies e fs zs code m) ls)
    unfolding first_of
    from_code h = simp (← e₇, good₇) (h ∙ same_rows)

    pub from_code_alone : label_count ls ≡ 0 → n ≡ first_of 8 (bad_code (bodies e fs [] code m) ∷ []) → n ≡ first_of 7 (functions_tests (bodies e fs zs code m) ls)
    from_code_alone l h = from_code (h ∙ no_ninth (bodies e fs [] code m) ls l)

-- row 6 of structures
module _ (B : Bodies) (ls : List ℕ) (b₆ : Bool) (e₆ : b₆ ≡ bad_structures B.structures) where
  pub sixth_structures : b₆ ≡ true → 6 ≡ first_of 6 (bodies_tests B ls)
  unfolding first_of
  sixth_structures h = simp (← e₆, h)

  pub from_functions : b₆ ≡ false → (n : ℕ) → n ≡ first_of 7 (functions_tests B ls) → n ≡ first_of 6 (bodies_tests B ls)
  unfolding first_of
  from_functions good₆ n h = simp (← e₆, good₆) h

pub none_bad : (zs : List ℕ) → structure_count zs ≡ 0 → false ≡ bad_structures zs
unfolding bad_structures some_below
none_bad zs none = rw none refl

-- rows 6 to 9, of tables t that are u
pub tables_same : (t u : Tables) → t ≡ u → (n : ℕ) → n ≡ first_of 6 (content_tests t) → n ≡ first_of 6 (content_tests u)
tables_same t u same n h = h ∙ ap (λ (x : Tables). first_of 6 (content_tests x)) same

module _ (t u : Tables) (same : t ≡ u) (b₆ : Bool) (e₆ : b₆ ≡ bad_constants t.constants) where
  pub sixth : b₆ ≡ true → 6 ≡ first_of 6 (content_tests u)
  unfolding first_of
  sixth h = tables_same t u same 6 (simp (← e₆, h))

  pub from_bodies : b₆ ≡ false → (n : ℕ) → n ≡ first_of 6 (bodies_tests t.bodies t.labels) → n ≡ first_of 6 (content_tests u)
  unfolding first_of
  from_bodies good₆ n h = tables_same t u same n (simp (← e₆, good₆) h)

-- rows 7 to 9 of a file of edition 3, which has no structures
module _ (s : List ℕ) (c : Sections) (k : Packed s c) (third : edition s ≡ 3) where
  abbrev functions_lent : List ℕ
  functions_lent = take (c.targets - c.records) (drop c.records s)

  abbrev labels_lent : List ℕ
  labels_lent = take (c.code - c.targets) (drop c.targets s)

  abbrev code_lent : List ℕ
  code_lent = take (c.code + c.extent - c.code) (drop c.code s)

  other : edition s ≡ 4 → ⊥
  other q = let z : ◌≡◌ {A = ℕ} 3 4 = sym third ∙ q in absurd (omega arith)

  pub functions_lent_lem : (b : Bool) → b ≡ bad_table 3 0 functions_lent code_lent c.entry → b ≡ bad_functions (bodies 3 functions_lent (structures_in s) code_lent c.entry)
  functions_lent_lem b p =
      functions_third functions_lent code_lent c.entry 3 (structures_in s) 0 (λ z. absurd (omega arith)) (sym (none_declared s c k other)) b p

  pub third_rows : (b₆ : Bool) → b₆ ≡ bad_constants (take (c.records - 48) (drop 48 s)) → b₆ ≡ false → (n : ℕ)
      → n ≡ first_of 7 (functions_tests (bodies 3 functions_lent (structures_in s) code_lent c.entry) labels_lent) → n ≡ first_of 6 (content_tests (tables_in s))
  third_rows b₆ e₆ good₆ n h =
      from_bodies _ _ (lent_tables s c k 3 48 (structures_in s) (sym third) (old_pool s c k other) refl) b₆ e₆ good₆ n
      (from_functions (bodies 3 functions_lent (structures_in s) code_lent c.entry) labels_lent false (none_bad (structures_in s) (none_declared s c k other)) refl n h)
