-- Laws of the readers: what was written, and what the definition's readers give.
use mathlib.Core.Path.{◌≡◌, refl, sym, ap, ◌∙◌, subst}
use Prim.Native.Nat.{ℕ, zero, suc, ◌+◌, ◌*◌, ◌-◌, ◌≤◌, ◌<◌, max}
use native.Mathlib.Omega.{arith}
use mathlib.Core.Bool.{false}
use mathlib.Core.Option.{none, some}
use mathlib.Core.List.{List, [], ◌∷◌, ◌++◌, append_assoc, append-nil}
use lib.ListN.{length, drop, take, replicate, length-append, length-replicate}
use lib.Dec.{leb}
use Rattle.soundness.specs.Tests.{none_some, decide, leb_is}
use Rattle.rules.specs.Bytes.{bytes}
use Rattle.rules.specs.Files.{constant_bytes}
use Rattle.rules.specs.Grammar.{Sign, plus, dash, star, slash, Tree, number, name, minus, both, group, depth, SumSign, ProductSign}
use Rattle.rules.specs.Reading.{Lead, numeral, letter, sign, opening, closing, lead, Part, onward, closed, factor_of, product_sign, sum_sign, sum, factor}
use Rattle.rules.specs.Formula.{numbers, Step, negate, operate, postfix, assembled, step_bytes, ints, need, sign_bytes}
use Rattle.grammar.specs.Steps.{factor_suc, factor_number, factor_name}
use Rattle.formula.specs.Tokens.{Capped, Leads, AfterMinuses, negatives, SignAt, Signs}
use Rattle.std.specs.Prelude.{Some, None}
use Rattle.std.specs.declared.option.Option as found
use Rattle.formula.specs.Readers.{Cursor, Ready, AfterSign, Wrote, Enough, TooDeep, PartIs, FactorIs, SumIs, bracketed_of, BracketedIs, Signed, Completed, Negated}
use Rattle.formula.proofs.DepthLaws.{onward_some, closed_group, minuses, depth_minuses, negatives_read, negatives_some}

-- ---- lists

pub assembled_append : (is js : List Step) → assembled (is ++ js) ≡ assembled is ++ assembled js
assembled_append [] js = refl
assembled_append (i ∷ is) js = ap (λ (l : List ℕ). step_bytes i ++ l) (assembled_append is js) ∙ sym (append_assoc (step_bytes i) (assembled is) (assembled js))

constants_append : (ns ms : List ℕ) → constant_bytes (ints (ns ++ ms)) ≡ constant_bytes (ints ns) ++ constant_bytes (ints ms)
constants_append [] ms = refl
constants_append (n ∷ ns) ms = rw (constants_append ns ms) refl

-- ---- minuses

code_minuses : (n k : ℕ) (t : Tree) → assembled (postfix k (minuses n t)) ≡ assembled (postfix k t) ++ replicate n 19
code_minuses zero k t = sym (append-nil (assembled (postfix k t)))
code_minuses (suc n) k t =
    code_minuses n k (minus t) ∙ ap (λ (x : List ℕ). x ++ replicate n 19) (assembled_append (postfix k t) (negate ∷ [])) ∙ append_assoc (assembled (postfix k t)) (19 ∷ []) (replicate n 19)

numbers_minuses : (n : ℕ) (t : Tree) → numbers (minuses n t) ≡ numbers t
numbers_minuses zero t = refl
numbers_minuses (suc n) t = numbers_minuses n (minus t)

need_minuses : (n : ℕ) (t : Tree) → need (minuses n t) ≡ need t
need_minuses zero t = refl
need_minuses (suc n) t = need_minuses n (minus t)

-- ---- what was written

-- a sign and an operand u more, from c up to r: u read with one operand more held, and the sign's instruction behind it
pub record WroteMore (o : Sign) (u : Tree) (s code pool : List ℕ) (c : Cursor) (d h : ℕ) (code' pool' : List ℕ) (r : Cursor) : Type 0 where
  pub on : c.at < r.at
  pub upto : r.at ≤ length s
  pub code_room : length code' ≡ length code
  pub pool_room : length pool' ≡ length pool
  pub code_in : r.code + 3 * c.at ≤ c.code + 3 * r.at
  pub pool_in : 2 * r.numbers + c.at ≤ 2 * c.numbers + r.at
  pub code_long : r.code ≡ c.code + (length (assembled (postfix c.numbers u)) + 1)
  pub code_is : take r.code code' ≡ take c.code code ++ (assembled (postfix c.numbers u) ++ sign_bytes o)
  pub numbers_are : r.numbers ≡ c.numbers + length (numbers u)
  pub pool_is : take (12 * r.numbers) pool' ≡ take (12 * c.numbers) pool ++ constant_bytes (ints (numbers u))
  pub shallow : d + depth u ≤ 16
  pub most : r.most ≡ max c.most (h + suc (need u))

abbrev pub at_place : Cursor → ℕ → Cursor
at_place c r = record { at = r; code = c.code; numbers = c.numbers; most = c.most }

module _ (s code pool : List ℕ) (c : Cursor) (d h : ℕ) where
  pub ready_moved : (k r d' h' : ℕ) → Ready k s code pool c d h → c.at + k ≤ r → r ≤ length s → d' ≤ 16 → h' ≤ r → Ready 0 s code pool (at_place c r) d' h'
  ready_moved k r d' h' y a b x z =
      record {
        short = y.short;
        code_room = y.code_room;
        pool_room = y.pool_room;
        at_in = b;
        code_in = omega (arith, y.code_in);
        pool_in = omega (arith, y.pool_in);
        shallow = x;
        few = z;
      }

  pub ready_on : (t : Tree) (code' pool' : List ℕ) (r : Cursor) → Ready 0 s code pool c d h → Wrote t s code pool c d h code' pool' r → Ready 1 s code' pool' r d h
  ready_on t code' pool' r y w =
      record {
        short = y.short;
        code_room = w.code_room ∙ y.code_room;
        pool_room = w.pool_room ∙ y.pool_room;
        at_in = w.upto;
        code_in = omega (arith, y.code_in, w.code_in);
        pool_in = omega (arith, y.pool_in, w.pool_in);
        shallow = y.shallow;
        few = omega (arith, y.few, w.on);
      }

  pub name_wrote : (code' : List ℕ) (i next m : ℕ) → d ≤ 16 → AfterSign s c next → length code' ≡ length code → take (c.code + 5) code' ≡ take c.code code ++ (3 ∷ bytes 4 i)
      → m ≡ max c.most (h + 1) → Wrote (name i) s code pool c d h code' pool (record { at = next; code = c.code + 5; numbers = c.numbers; most = m })
  name_wrote code' i next m u a l q z =
      record {
        on = a.0;
        upto = a.1;
        code_room = l;
        pool_room = refl;
        code_in = omega (arith, a.0);
        pool_in = omega (arith, a.0);
        code_long = refl;
        code_is = q;
        numbers_are = omega arith;
        pool_is = sym (append-nil (take (12 * c.numbers) pool));
        shallow = omega arith;
        most = z;
      }

  pub number_wrote : (code' pool' : List ℕ) (v next m : ℕ) → d ≤ 16 → AfterSign s c next → length code' ≡ length code → length pool' ≡ length pool
      → take (c.code + 5) code' ≡ take c.code code ++ (1 ∷ bytes 4 c.numbers) → take (12 * c.numbers + 12) pool' ≡ take (12 * c.numbers) pool ++ (bytes 4 3 ++ bytes 8 v)
      → m ≡ max c.most (h + 1) → Wrote (number v) s code pool c d h code' pool' (record { at = next; code = c.code + 5; numbers = c.numbers + 1; most = m })
  number_wrote code' pool' v next m u a l k q p z =
      let y : 12 * (c.numbers + 1) ≡ 12 * c.numbers + 12 = omega arith in
      record {
        on = a.0;
        upto = a.1;
        code_room = l;
        pool_room = k;
        code_in = omega (arith, a.0);
        pool_in = omega (arith, a.0);
        code_long = refl;
        code_is = q;
        numbers_are = refl;
        pool_is = rw y p;
        shallow = omega arith;
        most = z;
      }

  pub negated_wrote : (t : Tree) (n next : ℕ) (code' pool' code'' : List ℕ) (r r' : Cursor) → c.at + n ≤ next → Wrote t s code pool (at_place c next) d h code' pool' r → Negated code' r n code'' r'
      → Wrote (minuses n t) s code pool c d h code'' pool' r'
  negated_wrote t n next code' pool' code'' r r' l w g =
      let is : List ℕ = assembled (postfix c.numbers t) in
      let q : assembled (postfix c.numbers (minuses n t)) ≡ is ++ replicate n 19 = code_minuses n c.numbers t in
      let p : numbers (minuses n t) ≡ numbers t = numbers_minuses n t in
      rw g.cursor
      (record {
        on = omega (arith, w.on);
        upto = w.upto;
        code_room = g.room ∙ w.code_room;
        pool_room = w.pool_room;
        code_in = omega (arith, w.code_in);
        pool_in = omega (arith, w.pool_in);
        code_long = rw q (omega (arith, w.code_long, length-append is (replicate n 19), length-replicate {A = ℕ} n 19));
        code_is = rw q (g.code_is ∙ ap (λ (x : List ℕ). x ++ replicate n 19) w.code_is ∙ append_assoc (take c.code code) is (replicate n 19));
        numbers_are = rw p w.numbers_are;
        pool_is = rw p w.pool_is;
        shallow = omega (arith, w.shallow, depth_minuses n t);
        most = rw (need_minuses n t) w.most;
      })

  pub group_wrote : (t : Tree) (next end : ℕ) (code' pool' : List ℕ) (r : Cursor) → c.at < next → Wrote t s code pool (at_place c next) (d + 1) h code' pool' r → r.at < end → end ≤ length s
      → Wrote (group t) s code pool c d h code' pool' (at_place r end)
  group_wrote t next end code' pool' r l w b e =
      record {
        on = omega (arith, w.on);
        upto = e;
        code_room = w.code_room;
        pool_room = w.pool_room;
        code_in = omega (arith, w.code_in);
        pool_in = omega (arith, w.pool_in);
        code_long = w.code_long;
        code_is = w.code_is;
        numbers_are = w.numbers_are;
        pool_is = w.pool_is;
        shallow = omega (arith, w.shallow);
        most = w.most;
      }

  pub more_wrote : (o : Sign) (op : ℕ) (u : Tree) (next : ℕ) (code' pool' code'' : List ℕ) (r r' : Cursor) → c.at < next → sign_bytes o ≡ op ∷ []
      → Wrote u s code pool (at_place c next) d (h + 1) code' pool' r → Signed code' r op code'' r' → WroteMore o u s code pool c d h code'' pool' r'
  more_wrote o op u next code' pool' code'' r r' l b w g =
      let is : List Step = postfix c.numbers u in
      rw g.cursor
      (record {
        on = omega (arith, w.on);
        upto = w.upto;
        code_room = g.room ∙ w.code_room;
        pool_room = w.pool_room;
        code_in = omega (arith, w.code_in);
        pool_in = omega (arith, w.pool_in);
        code_long = omega (arith, w.code_long);
        code_is = rw b (g.code_is ∙ ap (λ (x : List ℕ). x ++ (op ∷ [])) w.code_is ∙ append_assoc (take c.code code) (assembled is) (op ∷ []));
        numbers_are = w.numbers_are;
        pool_is = w.pool_is;
        shallow = w.shallow;
        most = w.most ∙ (let q : h + 1 + need u ≡ h + suc (need u) = omega arith in ap (λ (k : ℕ). max c.most k) q);
      })

  sign_long : (o : Sign) → length (sign_bytes o) ≡ 1
  sign_long plus = refl
  sign_long dash = refl
  sign_long star = refl
  sign_long slash = refl

  pub both_wrote : (o : Sign) (t u : Tree) (code' pool' code'' pool'' : List ℕ) (r r' : Cursor) → Wrote t s code pool c d h code' pool' r → WroteMore o u s code' pool' r d h code'' pool'' r'
      → Wrote (both o t u) s code pool c d h code'' pool'' r'
  both_wrote o t u code' pool' code'' pool'' r r' w g =
      let k : ℕ = c.numbers + length (numbers t) in
      let is : List Step = postfix c.numbers t in
      let js : List Step = postfix k u in
      let n : r.numbers ≡ k = w.numbers_are in
      let one : assembled (operate o ∷ []) ≡ sign_bytes o = append-nil (sign_bytes o) in
      let q : assembled (is ++ (js ++ (operate o ∷ []))) ≡ assembled is ++ (assembled js ++ sign_bytes o) =
      assembled_append is (js ++ (operate o ∷ [])) ∙ ap (λ (x : List ℕ). assembled is ++ x) (assembled_append js (operate o ∷ []) ∙ ap (λ (x : List ℕ). assembled js ++ x) one) in
      let long : r'.code ≡ r.code + (length (assembled js) + 1) = rw n at g.code_long in
      let code_there : take r'.code code'' ≡ take r.code code' ++ (assembled js ++ sign_bytes o) = rw n at g.code_is in
      record {
        on = omega (arith, w.on, g.on);
        upto = g.upto;
        code_room = g.code_room ∙ w.code_room;
        pool_room = g.pool_room ∙ w.pool_room;
        code_in = omega (arith, w.code_in, g.code_in);
        pool_in = omega (arith, w.pool_in, g.pool_in);
        code_long = rw q (omega (arith, w.code_long, long, length-append (assembled is) (assembled js ++ sign_bytes o), length-append (assembled js) (sign_bytes o), sign_long o));
        code_is = rw q (code_there ∙ ap (λ (x : List ℕ). x ++ (assembled js ++ sign_bytes o)) w.code_is ∙ append_assoc (take c.code code) (assembled is) (assembled js ++ sign_bytes o));
        numbers_are = omega (arith, w.numbers_are, g.numbers_are, length-append (numbers t) (numbers u));
        pool_is = rw (constants_append (numbers t) (numbers u)) (g.pool_is ∙ ap (λ (x : List ℕ). x ++ constant_bytes (ints (numbers u))) w.pool_is ∙ append_assoc (take (12 * c.numbers) pool) (constant_bytes (ints (numbers t))) (constant_bytes (ints (numbers u))));
        shallow = omega (arith, w.shallow, g.shallow);
        most = omega (arith, w.most, g.most);
      }

  -- ---- what the readers give

  pub factor_none : ((m o : List ℕ → Part) → factor_of (lead (drop c.at s)) m o ≡ none) → (code' pool' : List ℕ) → FactorIs s code pool c d h code' pool' None
  factor_none n code' pool' zero z t x e = absurd (omega arith)
  factor_none n code' pool' (suc f) z t x e = none_some (sym (factor_suc f (drop c.at s) ∙ n _ _) ∙ e)

  pub factor_large : (n v : ℕ) (x : List ℕ) → lead (drop c.at s) ≡ numeral n x → Capped v n → 4294967295 < v → (code' pool' : List ℕ) → FactorIs s code pool c d h code' pool' None
  factor_large n v x e k l code' pool' =
      let q : leb n 4294967295 ≡ false = sym k.same ∙ decide (leb v 4294967295) (λ z. absurd (omega (arith, leb_is v 4294967295 z))) (λ z. z) in
      factor_none (λ m o. rw (e, q) refl) code' pool'

  pub factor_of_number : (n v next : ℕ) → Leads s c.at next (numeral n) → Capped v n → v ≤ 4294967295 → (code' pool' : List ℕ) (r : Cursor) → Wrote (number v) s code pool c d h code' pool' r → r.at ≡ next
      → FactorIs s code pool c d h code' pool' (Some r)
  factor_of_number n v next e k l code' pool' r w q = (number v, w, go)
    where
      go : (f : ℕ) → Enough s c.at 1 f → factor f (drop c.at s) ≡ some (number v, drop r.at s)
      go zero z = absurd (omega arith)
      go (suc f) z = let y : v ≡ n = k.value l in rw (q, y) (factor_number f (drop c.at s) n (drop next s) e.is (rw y at l))

  pub factor_of_name : (i next : ℕ) → Leads s c.at next (letter i) → (code' pool' : List ℕ) (r : Cursor) → Wrote (name i) s code pool c d h code' pool' r → r.at ≡ next
      → FactorIs s code pool c d h code' pool' (Some r)
  factor_of_name i next e code' pool' r w q = (name i, w, go)
    where
      go : (f : ℕ) → Enough s c.at 1 f → factor f (drop c.at s) ≡ some (name i, drop r.at s)
      go zero z = absurd (omega arith)
      go (suc f) z = rw q (factor_name f (drop c.at s) i (drop next s) e.is)

  bracketed_suc : (f next : ℕ) → Leads s c.at next opening → factor (suc f) (drop c.at s) ≡ bracketed_of f (drop next s)
  unfolding bracketed_of
  bracketed_suc f next e = factor_suc f (drop c.at s) ∙ rw e.is refl

  -- a factor that is an opening bracket and what follows it
  pub factor_of_bracketed : (next : ℕ) → Leads s c.at next opening → (code' pool' : List ℕ) (a : found.Option Cursor) → BracketedIs s code pool c next d h code' pool' a → FactorIs s code pool c d h code' pool' a
  factor_of_bracketed next e code' pool' None y = go
    where
      go : (f : ℕ) → Enough s c.at 1 f → TooDeep d (factor f (drop c.at s))
      go zero z t x q = absurd (omega arith)
      go (suc f) z t x q = y f (omega (arith, e.on, e.upto)) t x (sym (bracketed_suc f next e) ∙ q)
  factor_of_bracketed next e code' pool' (Some r) y = (y.0, y.1, go)
    where
      go : (f : ℕ) → Enough s c.at 1 f → factor f (drop c.at s) ≡ some (y.0, drop r.at s)
      go zero z = absurd (omega arith)
      go (suc f) z = bracketed_suc f next e ∙ y.2 f (omega (arith, e.on, e.upto))

  -- minuses before a factor
  module _ (n next : ℕ) (m : AfterMinuses s c.at n next) where
    behind : (f : ℕ) → Enough s c.at 1 f → Enough s next 1 (f - n) × (factor f (drop c.at s) ≡ negatives n (factor (f - n) (drop next s)))
    behind f z = let q : f ≡ n + (f - n) = omega (arith, m.from, m.upto) in (omega (arith, m.from, m.upto), ap (λ (k : ℕ). factor k (drop c.at s)) q ∙ m.is (f - n))

    pub factor_bad : (code' pool' code'' pool'' : List ℕ) → FactorIs s code pool (at_place c next) d h code' pool' None → FactorIs s code pool c d h code'' pool'' None
    factor_bad code' pool' code'' pool'' y f z t x e =
        let b = behind f z in
        let p = negatives_some n (factor (f - n) (drop next s)) t x (sym b.1 ∙ e) in
        omega (arith, y (f - n) b.0 p.0 p.1 p.2, p.3)

    pub factor_read : (code' pool' code'' : List ℕ) (r r' : Cursor) → FactorIs s code pool (at_place c next) d h code' pool' (Some r) → Negated code' r n code'' r' → FactorIs s code pool c d h code'' pool' (Some r')
    factor_read code' pool' code'' r r' y g = (
      minuses n y.0,
      negated_wrote y.0 n next code' pool' code'' r r' m.from y.1 g,
      λ f z. let b = behind f z in b.1 ∙ rw (y.2 (f - n) b.0, g.cursor) (negatives_read n y.0 (drop r.at s)),
    )

  -- what follows an opening bracket is one deeper
  pub bracketed_deep : (next : ℕ) (code' pool' : List ℕ) → 16 ≤ d → BracketedIs s code pool c next d h code' pool' None
  unfolding bracketed_of
  bracketed_deep next code' pool' l f z t x e =
      let p = onward_some (sum f (drop next s)) (λ u y. closed u y) t x e in
      let q : t ≡ group p.0 = closed_group (lead p.1) p.0 t x p.3 in
      rw q (omega arith)

  pub bracketed_bad : (next : ℕ) (code' pool' code'' pool'' : List ℕ) → SumIs s code pool (at_place c next) (d + 1) h code' pool' None → BracketedIs s code pool c next d h code'' pool'' None
  unfolding bracketed_of
  bracketed_bad next code' pool' code'' pool'' y f z t x e =
      let p = onward_some (sum f (drop next s)) (λ u y. closed u y) t x e in
      let q : t ≡ group p.0 = closed_group (lead p.1) p.0 t x p.3 in
      rw q (omega (arith, y f z p.0 p.1 p.2))

  -- no closing bracket follows
  pub bracketed_open : (next : ℕ) (code' pool' code'' pool'' : List ℕ) (r : Cursor) → SumIs s code pool (at_place c next) (d + 1) h code' pool' (Some r)
      → ((t : Tree) → closed t (drop r.at s) ≡ none) → BracketedIs s code pool c next d h code'' pool'' None
  unfolding bracketed_of
  bracketed_open next code' pool' code'' pool'' r y n f z t x e =
      none_some (sym (ap (λ (p : Part). onward p (λ u y. closed u y)) (y.2 f z) ∙ n y.0) ∙ e)

  pub bracketed_read : (next end : ℕ) (code' pool' : List ℕ) (r : Cursor) → c.at < next → SumIs s code pool (at_place c next) (d + 1) h code' pool' (Some r) → Leads s r.at end closing
      → BracketedIs s code pool c next d h code' pool' (Some (at_place r end))
  unfolding bracketed_of
  bracketed_read next end code' pool' r l y e =
      (group y.0, group_wrote y.0 next end code' pool' r l y.1 e.on e.upto, λ f z. rw (y.2 f z, e.is) refl)

-- ---- the instruction that waited

pub none_waited : (code : List ℕ) (c : Cursor) (op : ℕ) → op ≡ 0 → Completed code c op code c
none_waited code c zero e = (refl, refl)
none_waited code c (suc k) e = absurd (omega arith)

pub one_waited : (code code' : List ℕ) (c r : Cursor) (op : ℕ) → (op ≡ 0 → ⊥) → Signed code c op code' r → Completed code c op code' r
one_waited code code' c r zero n g = absurd (n refl)
one_waited code code' c r (suc k) n g = g

pub sum_sign_on : (b : ℕ) (o : Sign) → SumSign b o → (x : List ℕ) (d : Part) (k : Sign → List ℕ → Part) → sum_sign (sign o x) d k ≡ k o x
sum_sign_on b o SumSign.is_plus x d k = refl
sum_sign_on b o SumSign.is_dash x d k = refl

pub product_sign_on : (b : ℕ) (o : Sign) → ProductSign b o → (x : List ℕ) (d : Part) (k : Sign → List ℕ → Part) → product_sign (sign o x) d k ≡ k o x
product_sign_on b o ProductSign.is_star x d k = refl
product_sign_on b o ProductSign.is_slash x d k = refl

pub completed_at : (code code' : List ℕ) (c r : Cursor) (op : ℕ) → Completed code c op code' r → r.at ≡ c.at
completed_at code code' c r zero g = ap (λ (k : Cursor). k.at) g.1
completed_at code code' c r (suc k) g = ap (λ (x : Cursor). x.at) g.cursor

-- no sign has the opcode 0
opcoded : (o : Sign) → sign_bytes o ≡ 0 ∷ [] → ⊥
opcoded plus e = let z : ◌≡◌ {A = ℕ} 11 0 = cc in omega arith
opcoded dash e = let z : ◌≡◌ {A = ℕ} 12 0 = cc in omega arith
opcoded star e = let z : ◌≡◌ {A = ℕ} 13 0 = cc in omega arith
opcoded slash e = let z : ◌≡◌ {A = ℕ} 15 0 = cc in omega arith

-- ---- the loops: R asks n and reads parts by P, which asks m, with signs S of the kind K between them; M goes on after a first part

module _ (R : ℕ → List ℕ → Part) (n : ℕ) (P : ℕ → List ℕ → Part) (m : ℕ) (M : ℕ → Tree → List ℕ → Part) (s code₀ pool₀ : List ℕ) (d h : ℕ) (c₀ : Cursor) where
  -- the tree t was read from the start up to r
  pub record Along (code pool : List ℕ) (r : Cursor) : Type 0 where
    pub tree : Tree
    pub wrote : Wrote tree s code₀ pool₀ c₀ d h code pool r
    pub goes : (f : ℕ) → Enough s c₀.at n f → (g : ℕ) × (4 * (length s - r.at) + 1 ≤ g) × (R f (drop c₀.at s) ≡ M g tree (drop r.at s))

  -- a tree and then a sign were read, and c is where the right operand begins
  pub record Behind (op under : ℕ) (code pool : List ℕ) (c : Cursor) : Type 0 where
    pub tree : Tree
    pub last : Sign
    pub end : Cursor
    pub wrote : Wrote tree s code₀ pool₀ c₀ d h code pool end
    pub opcode : sign_bytes last ≡ op ∷ []
    pub place : c ≡ at_place end c.at
    pub on : end.at < c.at
    pub upto : c.at ≤ length s
    pub held : under ≡ h + 1
    pub goes : (f : ℕ) → Enough s c₀.at n f → (g : ℕ) × (4 * (length s - c.at) + 3 ≤ g) × (R f (drop c₀.at s) ≡ onward (P g (drop c.at s)) (λ u r. M g (both last tree u) r))

  abbrev pub Waits : ℕ → ℕ → List ℕ → List ℕ → Cursor → Type 0
  Waits zero under code pool c = (code ≡ code₀) × (pool ≡ pool₀) × (c ≡ c₀) × (under ≡ h)
  Waits (suc k) under code pool c = Behind (suc k) under code pool c

  pub record Loop (op under : ℕ) (code pool : List ℕ) (c : Cursor) : Type 0 where
    pub ready : Ready 0 s code pool c d under
    pub from : c₀.at ≤ c.at
    pub waits : Waits op under code pool c

  pub loop_starts : Ready 0 s code₀ pool₀ c₀ d h → Loop 0 h code₀ pool₀ c₀
  loop_starts y = record { ready = y; from = omega arith; waits = (refl, refl, refl, refl) }

  module _ (m-small : m ≤ 2) (n-is : n ≡ suc m) (R-suc : (f : ℕ) (x : List ℕ) → R (suc f) x ≡ onward (P f x) (λ t r. M f t r))
      (M-deep : (f : ℕ) (t : Tree) (x : List ℕ) (u : Tree) (r : List ℕ) → M f t x ≡ some (u, r) → depth t ≤ depth u) where
    -- one part more
    begun : (code pool : List ℕ) (r : Cursor) → PartIs P m s code₀ pool₀ c₀ c₀.at d h code pool (Some r) → Along code pool r
    begun code pool r y = record { tree = y.0; wrote = y.1; goes = λ f z. go f z }
      where
        go : (f : ℕ) → Enough s c₀.at n f → (g : ℕ) × (4 * (length s - r.at) + 1 ≤ g) × (R f (drop c₀.at s) ≡ M g y.0 (drop r.at s))
        go zero z = absurd (omega arith)
        go (suc f) z = (f, omega (arith, y.1.on, y.1.upto), R-suc f (drop c₀.at s) ∙ rw (y.2 f (omega arith)) refl)

    added : (op under : ℕ) (code pool code' pool' code'' : List ℕ) (c r r' : Cursor) → Behind op under code pool c → PartIs P m s code pool c c.at d under code' pool' (Some r) → Signed code' r op code'' r' → Along code'' pool' r'
    added op under code pool code' pool' code'' c r r' b y g =
        let w : Wrote y.0 s code pool (at_place b.end c.at) d (h + 1) code' pool' r = subst (λ (k : ℕ). Wrote y.0 s code pool (at_place b.end c.at) d k code' pool' r) b.held (subst (λ (k : Cursor). Wrote y.0 s code pool k d under code' pool' r) b.place y.1) in
        let q : r'.at ≡ r.at = rw g.cursor refl in
        record {
          tree = both b.last b.tree y.0;
          wrote = both_wrote s code₀ pool₀ c₀ d h b.last b.tree y.0 code pool code'' pool' b.end r' b.wrote
              (more_wrote s code pool b.end d h b.last op y.0 c.at code' pool' code'' r r' b.on b.opcode w g);
          goes = λ f z. let x = b.goes f z in (x.0, omega (arith, x.1, y.1.on, y.1.upto, q), x.2 ∙ rw (y.2 x.0 (omega (arith, x.1)), q) refl);
        }

    pub loop_along : (op under : ℕ) (code pool code' pool' code'' : List ℕ) (c r r' : Cursor) → Loop op under code pool c → PartIs P m s code pool c c.at d under code' pool' (Some r) → Completed code' r op code'' r'
        → Along code'' pool' r'
    loop_along zero under code pool code' pool' code'' c r r' i y g =
        let e = i.waits in
        rw (g.0, g.1) (begun code' pool' r (rw (← e.3) (rw (← e.2) (rw (← e.0, ← e.1) y))))
    loop_along (suc k) under code pool code' pool' code'' c r r' i y g = added (suc k) under code pool code' pool' code'' c r r' i.waits y g

    -- no part
    pub loop_bad : (op under : ℕ) (code pool code' pool' code'' pool'' : List ℕ) (c : Cursor) → Loop op under code pool c → PartIs P m s code pool c c.at d under code' pool' None
        → PartIs R n s code₀ pool₀ c₀ c₀.at d h code'' pool'' None
    loop_bad zero under code pool code' pool' code'' pool'' c i y = go
      where
        go : (f : ℕ) → Enough s c₀.at n f → TooDeep d (R f (drop c₀.at s))
        go zero z t x e = absurd (omega arith)
        go (suc f) z t x e =
            let q : c.at ≡ c₀.at = ap (λ (k : Cursor). k.at) i.waits.2 in
            let p = onward_some (P f (drop c₀.at s)) (λ u v. M f u v) t x (sym (R-suc f (drop c₀.at s)) ∙ e) in
            omega (arith, y f (omega arith) p.0 p.1 (ap (λ (k : ℕ). P f (drop k s)) q ∙ p.2), M-deep f p.0 p.1 t x p.3)
    loop_bad (suc k) under code pool code' pool' code'' pool'' c i y = λ f z t x e.
        let b : Behind (suc k) under code pool c = i.waits in
        let g = b.goes f z in
        let p = onward_some (P g.0 (drop c.at s)) (λ u r. M g.0 (both b.last b.tree u) r) t x (sym g.2 ∙ e) in
        omega (arith, y g.0 (omega (arith, g.1)) p.0 p.1 p.2, M-deep g.0 (both b.last b.tree p.0) p.1 t x p.3)

  -- what follows a part
  module _ (S : Lead → Part → (Sign → List ℕ → Part) → Part) (K : ℕ → Sign → Type 0)
      (M-suc : (f : ℕ) (t : Tree) (x : List ℕ) → M (suc f) t x ≡ S (lead x) (some (t, x)) (λ o r. onward (P f r) (λ u r'. M f (both o t u) r')))
      (S-sign : (b : ℕ) (o : Sign) → K b o → (x : List ℕ) (e : Part) (k : Sign → List ℕ → Part) → S (sign o x) e k ≡ k o x)
      (code pool : List ℕ) (r : Cursor) (a : Along code pool r) where
    pub loop_stops : Signs S K s r.at None → PartIs R n s code₀ pool₀ c₀ c₀.at d h code pool (Some r)
    loop_stops e = (a.tree, a.wrote, λ f z. let x = a.goes f z in x.2 ∙ go x.0 x.1)
      where
        go : (g : ℕ) → 4 * (length s - r.at) + 1 ≤ g → M g a.tree (drop r.at s) ≡ some (a.tree, drop r.at s)
        go zero z = absurd (omega arith)
        go (suc g) z = M-suc g a.tree (drop r.at s) ∙ e (some (a.tree, drop r.at s)) _

    behind_sign : (op next : ℕ) → SignAt K s r.at op next → Behind op (h + 1) code pool (at_place r next)
    behind_sign op next e =
        record {
          tree = a.tree;
          last = e.0;
          end = r;
          wrote = a.wrote;
          opcode = e.3;
          place = refl;
          on = e.4.on;
          upto = e.4.upto;
          held = refl;
          goes = λ f z. let x = a.goes f z in go f x.0 x.1 x.2;
        }
      where
        go : (f g : ℕ) → 4 * (length s - r.at) + 1 ≤ g → R f (drop c₀.at s) ≡ M g a.tree (drop r.at s)
            → (g : ℕ) × (4 * (length s - next) + 3 ≤ g) × (R f (drop c₀.at s) ≡ onward (P g (drop next s)) (λ u y. M g (both e.0 a.tree u) y))
        go f zero z q = absurd (omega arith)
        go f (suc g) z q = (g, omega (arith, e.4.on, e.4.upto), q ∙ M-suc g a.tree (drop r.at s) ∙ rw e.4.is (S-sign e.1 e.0 e.2 (drop next s) _ _))

    pub loop_again : (op next : ℕ) → Ready 0 s code₀ pool₀ c₀ d h → SignAt K s r.at op next → Loop op (h + 1) code pool (at_place r next)
    loop_again op next y e =
        record {
          ready = ready_moved s code pool r d h 1 next d (h + 1) (ready_on s code₀ pool₀ c₀ d h a.tree code pool r y a.wrote) (omega (arith, e.4.on)) e.4.upto y.shallow (omega (arith, y.few, a.wrote.on, e.4.on));
          from = omega (arith, a.wrote.on, e.4.on);
          waits = go op e;
        }
      where
        go : (op : ℕ) → SignAt K s r.at op next → Waits op (h + 1) code pool (at_place r next)
        go zero e = absurd (opcoded e.0 e.3)
        go (suc k) e = behind_sign (suc k) next e
