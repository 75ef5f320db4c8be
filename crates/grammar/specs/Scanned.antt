-- The flat pass is the grammar's: a line is accepted exactly where it has a reading, the brackets counted are the reading's depth, and the
-- byte that it refuses is the place where the line stops making sense.
use Rattle.std.specs.Prelude.{◌≡◌, ℕ, zero, suc, ◌+◌, ◌*◌, ◌-◌, ◌≤◌, ◌<◌, max, true, List, [], ◌∷◌, ◌++◌, length, take, drop, get_or, leb, eqb}
use Rattle.std.proofs.Math.Path.{refl}
use Rattle.std.proofs.Common.{sym, ap, ◌∙◌, subst, arith, append_assoc, append-nil, take-append-drop, take-suc}
use Rattle.std.proofs.Math.Option.{Option, none, some}
use Rattle.std.proofs.Math.Seq.{take-length}
use Rattle.soundness.specs.Tests.{decide, eqb_is, leb_is, leb_yes, some_inj, none_some, false_true}
use Rattle.rules.specs.Grammar.{Sign, Tree, number, name, minus, both, group, Name, is_r, is_g, is_b, SumSign, is_plus, is_dash, ProductSign, is_star, is_slash, Numeral, digit, next, Rank, Spells, a_product, sum_more, a_factor, product_more, a_number, a_name, negative, bracketed, space_before, space_after, Line, depth, Begins, StopsAt}
use Rattle.rules.specs.Reading.{is_digit, reading}
use Rattle.grammar.specs.Steps.{is_digit_lem, digit_is}
use Rattle.grammar.specs.Unique.{line_reads}
use Rattle.grammar.specs.Derived.{reading_spells}
use Rattle.grammar.specs.Scan.{Mode, before, inside, after, State, standing, is_name, is_sign, before_byte, close_one, after_byte, inside_byte, scan_byte, onwards, scanned, at_start, Accepting, deepest}

-- ---- from a derivation to the pass

scanned_append : (σ : State) (p s : List ℕ) → scanned σ (p ++ s) ≡ onwards (scanned σ p) (λ τ. scanned τ s)
unfolding scanned
scanned_append σ [] s = refl
scanned_append σ (c ∷ p) s = go (scan_byte σ c) (λ τ. scanned_append τ p s)
  where
    go : (o : Option State) → ((τ : State) → scanned τ (p ++ s) ≡ onwards (scanned τ p) (λ τ. scanned τ s))
        → onwards o (λ τ. scanned τ (p ++ s)) ≡ onwards (onwards o (λ τ. scanned τ p)) (λ τ. scanned τ s)
    go none k = refl
    go (some τ) k = k τ

joined : (σ τ υ : State) (p s : List ℕ) → scanned σ p ≡ some τ → scanned τ s ≡ some υ → scanned σ (p ++ s) ≡ some υ
joined σ τ υ p s e h = scanned_append σ p s ∙ rw e h

-- where a factor is complete, or the digits of a number so far make one
abbrev Done : Mode → Type 0
Done before = ⊥
Done (inside v) = Unit {0}
Done after = Unit {0}

-- a sign, a space and a closing bracket after a factor
module _ (n d : ℕ) where
  sum_sign_on : (m : Mode) → Done m → {c : ℕ} {o : Sign} → SumSign c o → scan_byte (standing m n d) c ≡ some (standing before n d)
  unfolding scan_byte
  sum_sign_on before h w = absurd h
  sum_sign_on (inside v) h is_plus = refl
  sum_sign_on (inside v) h is_dash = refl
  sum_sign_on after h is_plus = refl
  sum_sign_on after h is_dash = refl

  product_sign_on : (m : Mode) → Done m → {c : ℕ} {o : Sign} → ProductSign c o → scan_byte (standing m n d) c ≡ some (standing before n d)
  unfolding scan_byte
  product_sign_on before h w = absurd h
  product_sign_on (inside v) h is_star = refl
  product_sign_on (inside v) h is_slash = refl
  product_sign_on after h is_star = refl
  product_sign_on after h is_slash = refl

  space_on : (m : Mode) → Done m → scan_byte (standing m n d) 32 ≡ some (standing after n d)
  unfolding scan_byte
  space_on before h = absurd h
  space_on (inside v) h = refl
  space_on after h = refl

  close_on : (m : Mode) → Done m → scan_byte (standing m (suc n) d) 41 ≡ some (standing after n d)
  unfolding scan_byte
  close_on before h = absurd h
  close_on (inside v) h = refl
  close_on after h = refl

  name_on : {c i : ℕ} → Name c i → scan_byte (standing before n d) c ≡ some (standing after n d)
  unfolding scan_byte
  name_on is_r = refl
  name_on is_g = refl
  name_on is_b = refl

  digits_on : {s : List ℕ} {v : ℕ} → Numeral s v → v ≤ 4294967295 → scanned (standing before n d) s ≡ some (standing (inside v) n d)
  unfolding scanned scan_byte
  digits_on (digit {c = c} h) l = rw (is_digit_lem h) refl
  digits_on (next {s = s} {n = v} {c = c} w h) l =
      joined (standing before n d) (standing (inside v) n d) (standing (inside (10 * v + (c - 48))) n d) s (c ∷ []) (digits_on w (omega arith))
      (rw (is_digit_lem h, leb_yes (10 * v + (c - 48)) 4294967295 l) refl)

-- what a derivation does to the pass that stands before it
record Passed (s : List ℕ) (t : Tree) (n d : ℕ) : Type 0 where
  mode : Mode
  done : Done mode
  is : scanned (standing before n d) s ≡ some (standing mode n (max d (n + depth t)))

one_on : (σ τ υ : State) (c : ℕ) (s : List ℕ) → scan_byte σ c ≡ some τ → scanned τ s ≡ some υ → scanned σ (c ∷ s) ≡ some υ
unfolding scanned
one_on σ τ υ c s e h = rw e h

-- a sign and what follows it
more : (s s' : List ℕ) (c : ℕ) (o : Sign) (t u : Tree) (n d : ℕ) → (x : Passed s t n d) → scan_byte (standing x.mode n (max d (n + depth t))) c ≡ some (standing before n (max d (n + depth t)))
    → Passed s' u n (max d (n + depth t)) → Passed (s ++ (c ∷ s')) (both o t u) n d
more s s' c o t u n d x e y =
    let k = max d (n + depth t) in
    let q : max k (n + depth u) ≡ max d (n + max (depth t) (depth u)) = omega arith in
    record {
      mode = y.mode;
      done = y.done;
      is = rw (← q) (joined (standing before n d) (standing x.mode n k) (standing y.mode n (max k (n + depth u))) s (c ∷ s') x.is
          (one_on (standing x.mode n k) (standing before n k) (standing y.mode n (max k (n + depth u))) c s' e y.is));
    }

-- the last byte
last : (s : List ℕ) (t : Tree) (n d : ℕ) (x : Passed s t n d) (c : ℕ) (σ : State) → scan_byte (standing x.mode n (max d (n + depth t))) c ≡ some σ → scanned (standing before n d) (s ++ (c ∷ [])) ≡ some σ
unfolding scanned
last s t n d x c σ e =
    let τ = standing x.mode n (max d (n + depth t)) in
    joined (standing before n d) τ σ s (c ∷ []) x.is (one_on τ σ σ c [] e refl)

leaf : (s : List ℕ) (t : Tree) (n d : ℕ) → n ≤ d → depth t ≡ 0 → (m : Mode) → Done m → scanned (standing before n d) s ≡ some (standing m n d) → Passed s t n d
leaf s t n d l z m h e =
    let q : max d (n + depth t) ≡ d = omega arith in
    record { mode = m; done = h; is = rw q e }

passes : {k : Rank} {s : List ℕ} {t : Tree} → Spells k s t → (n d : ℕ) → n ≤ d → Passed s t n d
unfolding scanned scan_byte
passes (a_product w) n d l = passes w n d l
passes (sum_more {s = s} {s' = s'} {c = c} {o = o} {t = t} {u = u} w a v) n d l =
    let x = passes w n d l in more s s' c o t u n d x (sum_sign_on n (max d (n + depth t)) x.mode x.done a) (passes v n (max d (n + depth t)) (omega arith))
passes (a_factor w) n d l = passes w n d l
passes (product_more {s = s} {s' = s'} {c = c} {o = o} {t = t} {u = u} w a v) n d l =
    let x = passes w n d l in more s s' c o t u n d x (product_sign_on n (max d (n + depth t)) x.mode x.done a) (passes v n (max d (n + depth t)) (omega arith))
passes (a_number {s = s} {n = v} w h) n d l = leaf s (number v) n d l refl (inside v) tt (digits_on n d w h)
passes (a_name {c = c} {i = i} w) n d l = leaf (c ∷ []) (name i) n d l refl after tt (one_on (standing before n d) (standing after n d) (standing after n d) c [] (name_on n d w) refl)
passes (negative {s = s} {t = t} w) n d l = let x = passes w n d l in record { mode = x.mode; done = x.done; is = x.is }
passes (bracketed {s = s} {t = t} w) n d l =
    let k = max d (suc n) in
    let x = passes w (suc n) k (omega arith) in
    let q : max k (suc n + depth t) ≡ max d (n + suc (depth t)) = omega arith in
    record { mode = after; done = tt; is = rw (← q) (last s t (suc n) k x 41 (standing after n (max k (suc n + depth t))) (close_on n (max k (suc n + depth t)) x.mode x.done)) }
passes (space_before {s = s} {t = t} w) n d l = let x = passes w n d l in record { mode = x.mode; done = x.done; is = x.is }
passes (space_after {s = s} {t = t} w) n d l =
    let x = passes w n d l in
    record { mode = after; done = tt; is = last s t n d x 32 (standing after n (max d (n + depth t))) (space_on n (max d (n + depth t)) x.mode x.done) }

-- a line is accepted, and the brackets counted are its depth
pub line_scanned : {s : List ℕ} {t : Tree} → Line s t → (σ : State) × (scanned at_start s ≡ some σ) × Accepting σ × (deepest σ ≡ depth t)
line_scanned {s} {t} w = go x.mode x.done x.is
  where
    x : Passed s t 0 0
    x = passes w 0 0 (omega arith)

    go : (m : Mode) → Done m → scanned at_start s ≡ some (standing m 0 (max 0 (0 + depth t))) → (σ : State) × (scanned at_start s ≡ some σ) × Accepting σ × (deepest σ ≡ depth t)
    go before h e = absurd h
    go (inside v) h e = (standing (inside v) 0 (max 0 (0 + depth t)), e, refl, omega arith)
    go after h e = (standing after 0 (max 0 (0 + depth t)), e, refl, omega arith)

-- ---- from the pass to a derivation

-- the bytes p, with n brackets open, lead to a place where something of rank k is to begin
data Place : Rank → ℕ → List ℕ → Type 0 where
  start : Place Rank.sum 0 []
  bracket : {n : ℕ} {p : List ℕ} → Place Rank.factor n p → Place Rank.sum (suc n) (p ++ (40 ∷ []))
  first_product : {n : ℕ} {p : List ℕ} → Place Rank.sum n p → Place Rank.product n p
  next_product : {n c : ℕ} {o : Sign} {t : Tree} {p q : List ℕ} → Place Rank.sum n p → Spells Rank.sum q t → SumSign c o → Place Rank.product n (p ++ (q ++ (c ∷ [])))
  first_factor : {n : ℕ} {p : List ℕ} → Place Rank.product n p → Place Rank.factor n p
  next_factor : {n c : ℕ} {o : Sign} {t : Tree} {p q : List ℕ} → Place Rank.product n p → Spells Rank.product q t → ProductSign c o → Place Rank.factor n (p ++ (q ++ (c ∷ [])))
  after_minus : {n : ℕ} {p : List ℕ} → Place Rank.factor n p → Place Rank.factor n (p ++ (45 ∷ []))
  after_space : {n : ℕ} {p : List ℕ} → Place Rank.factor n p → Place Rank.factor n (p ++ (32 ∷ []))

-- the bytes lead to the end of something of rank k
record Ends (k : Rank) (n : ℕ) (s : List ℕ) : Type 0 where
  front : List ℕ
  back : List ℕ
  tree : Tree
  split : s ≡ front ++ back
  place : Place k n front
  spelled : Spells k back tree

-- a factor that ends is the end of a product, and this of a sum
to_product : {n : ℕ} {p : List ℕ} → Place Rank.factor n p → (q : List ℕ) (t : Tree) → Spells Rank.factor q t → Ends Rank.product n (p ++ q)
to_product (first_factor {p = p} h) q t w = record { front = p; back = q; tree = t; split = refl; place = h; spelled = a_factor w }
to_product (next_factor {c = c} {o = o} {t = u} {p = p} {q = x} h v a) q t w =
    record { front = p; back = x ++ (c ∷ q); tree = both o u t; split = simp append_assoc; place = h; spelled = product_more v a w }
to_product (after_minus {n = n} {p = p} h) q t w = rw (append_assoc p (45 ∷ []) q) (to_product h (45 ∷ q) (minus t) (negative w))
to_product (after_space {n = n} {p = p} h) q t w = rw (append_assoc p (32 ∷ []) q) (to_product h (32 ∷ q) t (space_before w))

to_sum : {n : ℕ} {p : List ℕ} → Place Rank.product n p → (q : List ℕ) (t : Tree) → Spells Rank.product q t → Ends Rank.sum n (p ++ q)
to_sum (first_product {p = p} h) q t w = record { front = p; back = q; tree = t; split = refl; place = h; spelled = a_product w }
to_sum (next_product {c = c} {o = o} {t = u} {p = p} {q = x} h v a) q t w =
    record { front = p; back = x ++ (c ∷ q); tree = both o u t; split = simp append_assoc; place = h; spelled = sum_more v a w }

product_ends : {n : ℕ} {s : List ℕ} → Ends Rank.factor n s → Ends Rank.product n s
product_ends e = rw e.split (to_product e.place e.back e.tree e.spelled)

sum_ends : {n : ℕ} {s : List ℕ} → Ends Rank.factor n s → Ends Rank.sum n s
sum_ends e = let y = product_ends e in rw y.split (to_sum y.place y.back y.tree y.spelled)

-- a line ends where no bracket is open, else one can be closed
line_ends : {s : List ℕ} → Ends Rank.factor 0 s → (t : Tree) × Line s t
line_ends {s} e = let y = sum_ends e in go y.place y.spelled y.split
  where
    go : {p q : List ℕ} {t : Tree} → Place Rank.sum 0 p → Spells Rank.sum q t → s ≡ p ++ q → (t : Tree) × Line s t
    go {p} {q} {t} start w h = (t, rw h w)

close_ends : {n : ℕ} {s : List ℕ} → Ends Rank.factor (suc n) s → Ends Rank.factor n (s ++ (41 ∷ []))
close_ends {n} {s} e = let y = sum_ends e in go y.place y.spelled y.split
  where
    go : {p q : List ℕ} {t : Tree} → Place Rank.sum (suc n) p → Spells Rank.sum q t → s ≡ p ++ q → Ends Rank.factor n (s ++ (41 ∷ []))
    go {p} {q} {t} (bracket {p = x} h) w e = record { front = x; back = 40 ∷ (q ++ (41 ∷ [])); tree = group t; split = rw e (simp append_assoc); place = h; spelled = bracketed w }

-- the bytes lead into a number of value v
record Counts (v n : ℕ) (s : List ℕ) : Type 0 where
  front : List ℕ
  back : List ℕ
  split : s ≡ front ++ back
  place : Place Rank.factor n front
  spelled : Numeral back v
  upto : v ≤ 4294967295

counts_end : {v n : ℕ} {s : List ℕ} → Counts v n s → Ends Rank.factor n s
counts_end {v} e = record { front = e.front; back = e.back; tree = number v; split = e.split; place = e.place; spelled = a_number e.spelled e.upto }

-- what a state says of the bytes that led to it
abbrev Stands : State → List ℕ → Type 0
Stands (standing before n d) s = Place Rank.factor n s
Stands (standing (inside v) n d) s = Counts v n s
Stands (standing after n d) s = Ends Rank.factor n s

named : (c : ℕ) → is_name c ≡ true → (i : ℕ) × Name c i
named c e =
    decide (eqb c 114) (λ h. rw (eqb_is c 114 h) (0, is_r)) (λ h₁. decide (eqb c 103) (λ h. rw (eqb_is c 103 h) (1, is_g)) (λ h₂.
    decide (eqb c 98) (λ h. rw (eqb_is c 98 h) (2, is_b)) (λ h₃. false_true (rw (h₁, h₂, h₃) at e))))

module _ (n : ℕ) (s : List ℕ) where
  sum_place : Ends Rank.factor n s → {c : ℕ} {o : Sign} → SumSign c o → Place Rank.factor n (s ++ (c ∷ []))
  sum_place e {c} w = let y = sum_ends e in rw (y.split, append_assoc y.front y.back (c ∷ [])) (first_factor (next_product y.place y.spelled w))

  product_place : Ends Rank.factor n s → {c : ℕ} {o : Sign} → ProductSign c o → Place Rank.factor n (s ++ (c ∷ []))
  product_place e {c} w = let y = product_ends e in rw (y.split, append_assoc y.front y.back (c ∷ [])) (next_factor y.place y.spelled w)

  sign_place : Ends Rank.factor n s → (c : ℕ) → is_sign c ≡ true → Place Rank.factor n (s ++ (c ∷ []))
  sign_place e c h =
      decide (eqb c 43) (λ h. rw (eqb_is c 43 h) (sum_place e is_plus)) (λ h₁. decide (eqb c 45) (λ h. rw (eqb_is c 45 h) (sum_place e is_dash)) (λ h₂.
      decide (eqb c 42) (λ h. rw (eqb_is c 42 h) (product_place e is_star)) (λ h₃. decide (eqb c 47) (λ h. rw (eqb_is c 47 h) (product_place e is_slash)) (λ h₄. false_true (rw (h₁, h₂, h₃, h₄) at h)))))

  one_factor : Place Rank.factor n s → (q : List ℕ) (t : Tree) → Spells Rank.factor q t → Ends Rank.factor n (s ++ q)
  one_factor h q t w = record { front = s; back = q; tree = t; split = refl; place = h; spelled = w }

  space_end : Ends Rank.factor n s → Ends Rank.factor n (s ++ (32 ∷ []))
  space_end e = record { front = e.front; back = e.back ++ (32 ∷ []); tree = e.tree; split = rw e.split (append_assoc e.front e.back (32 ∷ [])); place = e.place; spelled = space_after e.spelled }

  one_digit : (v c : ℕ) → is_digit c ≡ true → 10 * v + (c - 48) ≤ 4294967295 → Counts v n s → Counts (10 * v + (c - 48)) n (s ++ (c ∷ []))
  one_digit v c h l e = record { front = e.front; back = e.back ++ (c ∷ []); split = rw e.split (append_assoc e.front e.back (c ∷ [])); place = e.place; spelled = next e.spelled (digit_is c h); upto = l }

  first_digit : (c : ℕ) → is_digit c ≡ true → Place Rank.factor n s → Counts (c - 48) n (s ++ (c ∷ []))
  first_digit c h e = let k = digit_is c h in record { front = s; back = c ∷ []; split = refl; place = e; spelled = digit k; upto = omega (arith, k.upto) }

-- the state after one byte says it of the bytes with that one
stood : (s : List ℕ) (σ τ : State) → some σ ≡ some τ → Stands σ s → Stands τ s
stood s σ τ e h = subst (λ x. Stands x s) (some_inj σ τ e) h

module _ (n d : ℕ) (s : List ℕ) (c : ℕ) (τ : State) where
  before_stands : Place Rank.factor n s → before_byte n d c ≡ some τ → Stands τ (s ++ (c ∷ []))
  before_stands h e =
      decide (is_digit c) (λ q. stood (s ++ (c ∷ [])) (standing (inside (c - 48)) n d) τ (rw q at e) (first_digit n s c q h)) (λ q₁.
      decide (is_name c) (λ q. let y = named c q in stood (s ++ (c ∷ [])) (standing after n d) τ (rw (q₁, q) at e) (one_factor n s h (c ∷ []) (name y.0) (a_name y.1))) (λ q₂.
      decide (eqb c 40) (λ q. stood (s ++ (c ∷ [])) (standing before (suc n) (max d (suc n))) τ (rw (q₁, q₂, q) at e) (rw (eqb_is c 40 q) (first_factor (first_product (bracket h))))) (λ q₃.
      decide (eqb c 32) (λ q. stood (s ++ (c ∷ [])) (standing before n d) τ (rw (q₁, q₂, q₃, q) at e) (rw (eqb_is c 32 q) (after_space h))) (λ q₄.
      decide (eqb c 45) (λ q. stood (s ++ (c ∷ [])) (standing before n d) τ (rw (q₁, q₂, q₃, q₄, q) at e) (rw (eqb_is c 45 q) (after_minus h))) (λ q₅.
      none_some (rw (q₁, q₂, q₃, q₄, q₅) at e))))))

  after_stands : Ends Rank.factor n s → after_byte n d c ≡ some τ → Stands τ (s ++ (c ∷ []))
  after_stands h e =
      decide (is_sign c) (λ q. stood (s ++ (c ∷ [])) (standing before n d) τ (rw q at e) (sign_place n s h c q)) (λ q₁.
      decide (eqb c 32) (λ q. stood (s ++ (c ∷ [])) (standing after n d) τ (rw (q₁, q) at e) (rw (eqb_is c 32 q) (space_end n s h))) (λ q₂.
      decide (eqb c 41) (λ q. rw (eqb_is c 41 q) (closed n h (rw (q₁, q₂, q) at e))) (λ q₃. none_some (rw (q₁, q₂, q₃) at e))))
    where
      closed : (k : ℕ) → Ends Rank.factor k s → close_one k d ≡ some τ → Stands τ (s ++ (41 ∷ []))
      closed zero h e = none_some e
      closed (suc k) h e = stood (s ++ (41 ∷ [])) (standing after k d) τ e (close_ends h)

  inside_stands : (v : ℕ) → Counts v n s → inside_byte v n d c ≡ some τ → Stands τ (s ++ (c ∷ []))
  inside_stands v h e =
      let k = 10 * v + (c - 48) in
      decide (is_digit c) (λ q. decide (leb k 4294967295) (λ l. stood (s ++ (c ∷ [])) (standing (inside k) n d) τ (rw (q, l) at e) (one_digit n s v c q (leb_is k 4294967295 l) h)) (λ l. none_some (rw (q, l) at e)))
      (λ q. after_stands (counts_end h) (rw q at e))

byte_stands : (σ τ : State) (s : List ℕ) (c : ℕ) → scan_byte σ c ≡ some τ → Stands σ s → Stands τ (s ++ (c ∷ []))
unfolding scan_byte
byte_stands (standing before n d) τ s c e h = before_stands n d s c τ h e
byte_stands (standing (inside v) n d) τ s c e h = inside_stands n d s c τ v h e
byte_stands (standing after n d) τ s c e h = after_stands n d s c τ h e

onwards_some : (o : Option State) (k : State → Option State) (τ : State) → onwards o k ≡ some τ → (σ : State) × (o ≡ some σ) × (k σ ≡ some τ)
onwards_some none k τ e = none_some e
onwards_some (some σ) k τ e = (σ, refl, e)

all_stands : (σ τ : State) (s p : List ℕ) → scanned σ s ≡ some τ → Stands σ p → Stands τ (p ++ s)
unfolding scanned
all_stands σ τ [] p e h = rw (append-nil p) (stood p σ τ e h)
all_stands σ τ (c ∷ s) p e h =
    let y = onwards_some (scan_byte σ c) (λ υ. scanned υ s) τ e in
    rw append_assoc at (all_stands y.0 τ s (p ++ (c ∷ [])) y.2 (byte_stands σ y.0 p c y.1 h))

-- what the pass has taken is as its state says
stands : (τ : State) (s : List ℕ) → scanned at_start s ≡ some τ → Stands τ s
stands τ s e = all_stands at_start τ s [] e (first_factor (first_product start))

-- a line that is accepted is in the grammar
accepted_line : (σ : State) (s : List ℕ) → Accepting σ → Stands σ s → (t : Tree) × Line s t
accepted_line (standing before n d) s a h = absurd a
accepted_line (standing (inside v) n d) s a h = line_ends (subst (λ k. Ends Rank.factor k s) a (counts_end h))
accepted_line (standing after n d) s a h = line_ends (subst (λ k. Ends Rank.factor k s) a h)

pub scanned_line : (s : List ℕ) (σ : State) → scanned at_start s ≡ some σ → Accepting σ → (t : Tree) × Line s t
scanned_line s σ e a = accepted_line σ s a (stands σ s e)

-- ---- where a line stops making sense

-- every state can go on to the end of a line: a name, where a factor must come, and the closing brackets
closes : (n : ℕ) (s : List ℕ) → Ends Rank.factor n s → Begins s
closes zero s h = let y = line_ends h in ([], y.0, rw (append-nil s) y.1)
closes (suc n) s h = let y = closes n (s ++ (41 ∷ [])) (close_ends h) in (41 ∷ y.0, y.1, rw append_assoc at y.2)

stands_begins : (σ : State) (s : List ℕ) → Stands σ s → Begins s
stands_begins (standing before n d) s h =
    let y = closes n (s ++ (114 ∷ [])) (one_factor n s h (114 ∷ []) (name 0) (a_name is_r)) in (114 ∷ y.0, y.1, rw append_assoc at y.2)
stands_begins (standing (inside v) n d) s h = closes n s (counts_end h)
stands_begins (standing after n d) s h = closes n s h

-- no line goes on with a byte that is refused
refused_byte : (p : List ℕ) (c : ℕ) (σ : State) → scanned at_start p ≡ some σ → scan_byte σ c ≡ none → Begins (p ++ (c ∷ [])) → ⊥
unfolding scanned
refused_byte p c σ e h b =
    let q : scanned at_start ((p ++ (c ∷ [])) ++ b.0) ≡ none = rw append_assoc (scanned_append at_start p (c ∷ b.0) ∙ rw (e, h) refl) in
    none_some (sym q ∙ (line_scanned b.2).1)

no_line : (s : List ℕ) → ((t : Tree) → Line s t → ⊥) → reading s ≡ none
no_line s h = go (reading s) refl
  where
    go : (o : Option Tree) → reading s ≡ o → o ≡ none
    go none e = refl
    go (some t) e = absurd (h t (reading_spells s t e))

-- a line has no reading, and stops making sense at a place
abbrev pub Stopped : List ℕ → ℕ → Type 0
Stopped s k = (reading s ≡ none) × StopsAt s k

-- a line has a reading, with brackets d deep
abbrev pub Reads : List ℕ → ℕ → Type 0
Reads s d = (t : Tree) × (reading s ≡ some t) × (depth t ≡ d)

module _ (s : List ℕ) (σ : State) where
  -- a byte is refused
  pub stops_exact : (k : ℕ) → k < length s → scanned at_start (take k s) ≡ some σ → scan_byte σ (get_or s k 0) ≡ none → Stopped s k
  stops_exact k l e h =
      let no : Begins (take (suc k) s) → ⊥ = λ b. refused_byte (take k s) (get_or s k 0) σ e h (rw (take-suc s k 0 l) at b) in (
        no_line s (λ t w. no (drop (suc k) s, t, rw (take-append-drop (suc k) s) w)),
        record { upto = omega arith; before = stands_begins σ (take k s) (stands σ (take k s) e); after = λ z. no },
      )

  -- the line ends too early
  pub ends_early : scanned at_start s ≡ some σ → (Accepting σ → ⊥) → Stopped s (length s)
  ends_early e h = (
    no_line s (λ t w. let z = line_scanned w in h (subst Accepting (some_inj z.0 σ (sym z.1 ∙ e)) z.2)),
    record { upto = omega arith; before = rw (take-length s) (stands_begins σ s (stands σ s e)); after = λ z. absurd (omega arith) },
  )

  -- the whole line is accepted
  pub accepts_exact : scanned at_start s ≡ some σ → Accepting σ → Reads s (deepest σ)
  accepts_exact e a =
      let y = scanned_line s σ e a in
      let z = line_scanned y.1 in
      (y.0, line_reads y.1, sym z.3 ∙ ap deepest (some_inj z.0 σ (sym z.1 ∙ e)))

-- one byte more
pub scanned_byte : (s : List ℕ) (σ : State) (k : ℕ) → k < length s → scanned at_start (take k s) ≡ some σ → scanned at_start (take (suc k) s) ≡ scan_byte σ (get_or s k 0)
unfolding scanned
scanned_byte s σ k l e = rw (take-suc s k 0 l) (scanned_append at_start (take k s) (get_or s k 0 ∷ []) ∙ rw e (last (scan_byte σ (get_or s k 0))))
  where
    last : (o : Option State) → onwards o (λ τ. some τ) ≡ o
    last none = refl
    last (some τ) = refl

-- a line of the grammar makes sense up to its end
pub reads_stops : (s : List ℕ) (d : ℕ) → Reads s d → StopsAt s (length s)
reads_stops s d r =
    record {
      upto = omega arith;
      before = ([], r.0, rw (take-length s, append-nil s) (reading_spells s r.0 r.1));
      after = λ z. absurd (omega arith);
    }
