-- The tables of a tree are not refused, and the module that they are holds the tree.
use Rattle.std.specs.Prelude.{◌≡◌, Bool, true, false, get_or, take, drop, ltb, eqb}
use Rattle.std.proofs.Math.Path.{refl, ap}
use Rattle.std.proofs.Common.{sym, ◌∙◌, drop-drop, get_or-drop, drop_at}
use Prim.Native.Nat.{ℕ, zero, suc, ◌+◌, ◌*◌, ◌-◌, ◌%◌, ◌≤◌, ◌<◌}
use native.Mathlib.Omega.{arith}
use Rattle.std.proofs.Math.Option.{none, some}
use mathlib.Core.List.{List, [], ◌∷◌, ◌++◌}
use Rattle.std.proofs.Math.ListN.{length, length-append}
use Rattle.soundness.specs.Names.{push, load, one, two, ret, neg, arith as arithmetic, int}
use Rattle.rules.specs.Bytes.{number, bytes, byte, word, some_below}
use Rattle.rules.specs.Instructions.{num, size, Opcode, bare, wide, edition3, opcode_of, is_absent, operand_bytes, instruction_of}
use Rattle.rules.specs.Tables.{constant_count, constant_at, bad_constant, bad_constants, bad_structures, bad_param, end_before, bad_record, bad_function, bad_functions, opcode_at, due, unknown_at, crossed, bad_code, bad_labels, first_of, fn, Module, function_of, constant_of, code_of, place_in, module_of}
use Rattle.rules.specs.Writing.{file_length, too_many, broken, table_refusal}
use Rattle.rules.specs.Stack.{slot}
use Rattle.rules.specs.Files.{constant_bytes}
use Rattle.memory.proofs.Words.{number_bytes}
use Rattle.rules.specs.Grammar.{plus, dash, star, slash, Tree, number as number-tree, name, minus, both, group, Line}
use Rattle.rules.specs.Formula.{numbers, Step, constant, parameter, negate, operate, answer, postfix, steps, step_bytes, assembled, ints, code_bytes, formula_tables}
use Rattle.soundness.specs.Tests.{decide, eqb_is, eqb_isnt, eqb_other, eqb_same, leb_yes, ltb_yes, ltb_no, ltb_is, ltb_isnt}
use Rattle.soundness.specs.Walks.{size_some}
use Rattle.grammar.specs.Proper.{Proper, spells_proper, count, spells_count, numbers_count}
use Rattle.grammar.specs.Coded.{operator, instruction, step_long, code_some, Laid, Pool}
use Rattle.grammar.proofs.Coded.{code_long}
use Rattle.grammar.specs.Typed.{locals, Holds}

none_below : (n : ℕ) (f : ℕ → Bool) → ((i : ℕ) → i < n → f i ≡ false) → some_below n f ≡ false
unfolding some_below
none_below zero f h = refl
none_below (suc n) f h = rw (none_below n f (λ i l. h i (omega arith)), h n (omega arith)) refl

-- ---- constants

-- numbers that fit an int
abbrev Fit : List ℕ → Type 0
Fit [] = Unit {0}
Fit (n ∷ ns) = (n < 4294967296) × Fit ns

fit_append : (ns ms : List ℕ) → Fit ns → Fit ms → Fit (ns ++ ms)
fit_append [] ms f g = g
fit_append (n ∷ ns) ms f g = (f.0, fit_append ns ms f.1 g)

numbers_fit : (t : Tree) → Proper t → Fit (numbers t)
numbers_fit (number-tree n) w = (w, tt)
numbers_fit (name i) w = tt
numbers_fit (minus t) w = numbers_fit t w
numbers_fit (both o t u) w = fit_append (numbers t) (numbers u) (numbers_fit t w.0) (numbers_fit u w.1)
numbers_fit (group t) w = numbers_fit t w

pub constants_long : (ns : List ℕ) → length (constant_bytes (ints ns)) ≡ 12 * length ns
constants_long [] = refl
constants_long (n ∷ ns) = omega (arith, constants_long ns)

abbrev twelve_on : ℕ → ℕ
twelve_on k = suc (suc (suc (suc (suc (suc (suc (suc (suc (suc (suc (suc k)))))))))))

-- the record of constant i
record IntAt (cs : List ℕ) (i n : ℕ) : Type 0 where
  type_word : word 4 cs (constant_at i) ≡ 3
  type_byte_lem : byte cs (constant_at i) ≡ 3
  upper : word 4 cs (constant_at i + 8) ≡ 0
  payload : word 8 cs (constant_at i + 4) ≡ n

int_at : (ns : List ℕ) → Fit ns → (i : ℕ) → i < length ns → IntAt (constant_bytes (ints ns)) i (get_or ns i 0)
unfolding word
int_at [] f i l = absurd (omega arith)
int_at (n ∷ ns) f zero l = record { type_word = refl; type_byte_lem = refl; upper = high n f.0; payload = number_bytes 8 n (omega (arith, f.0)) }
  where
    high : (n : ℕ) → n < 4294967296 → number (take 4 (drop 4 (bytes 8 n))) ≡ 0
    high n h = omega arith
int_at (n ∷ ns) f (suc i) l =
    let h = int_at ns f.1 i (omega arith) in
    let q : 12 * suc i ≡ twelve_on (12 * i) = omega arith in
    let q₄ : 12 * suc i + 4 ≡ twelve_on (12 * i + 4) = omega arith in
    let q₈ : 12 * suc i + 8 ≡ twelve_on (12 * i + 8) = omega arith in
    record { type_word = rw q h.type_word; type_byte_lem = rw q h.type_byte_lem; upper = rw q₈ h.upper; payload = rw q₄ h.payload }

sixth : (ns : List ℕ) → Fit ns → bad_constants (constant_bytes (ints ns)) ≡ false
unfolding bad_constants bad_constant
sixth ns f =
    let c : constant_count (constant_bytes (ints ns)) ≡ length ns = omega (arith, constants_long ns) in
    rw c (none_below (length ns) (bad_constant (constant_bytes (ints ns))) (λ i l. let h = int_at ns f i l in rw (h.type_word, h.upper) refl))

pool_from : (m : Module) (ns : List ℕ) (k : ℕ) → ((i : ℕ) → i < length ns → m.constant (k + i) ≡ some (slot 3 (get_or ns i 0))) → Pool m k ns
pool_from m [] k h = tt
pool_from m (n ∷ ns) k h =
    let q : k + 0 ≡ k = omega arith in
    (rw q at (h 0 (omega arith)), pool_from m ns (suc k) (λ i l. let z : suc k + i ≡ k + suc i = omega arith in rw z (h (suc i) (omega arith))))

-- ---- code

abbrev opcode_for : Step → Opcode
opcode_for (constant k) = wide push
opcode_for (parameter i) = wide load
opcode_for negate = bare (one neg)
opcode_for (operate o) = bare (two (arithmetic (operator o)))
opcode_for answer = bare ret

opcode_known : (i : Step) (x : List ℕ) → opcode_of edition3 (byte (step_bytes i ++ x) 0) ≡ opcode_for i
opcode_known (constant k) x = refl
opcode_known (parameter i) x = refl
opcode_known negate x = refl
opcode_known (operate plus) x = refl
opcode_known (operate dash) x = refl
opcode_known (operate star) x = refl
opcode_known (operate slash) x = refl
opcode_known answer x = refl

present : (i : Step) → (is_absent (opcode_for i) ≡ false) × (size (instruction i) ≡ suc (operand_bytes (opcode_for i)))
present (constant k) = (refl, refl)
present (parameter i) = (refl, refl)
present negate = (refl, refl)
present (operate o) = (refl, refl)
present answer = (refl, refl)

-- operands that fit a word
abbrev Operand : Step → Type 0
Operand (constant k) = k < 4294967296
Operand (parameter i) = i < 4294967296
Operand negate = Unit {0}
Operand (operate o) = Unit {0}
Operand answer = Unit {0}

abbrev Operands : List Step → Type 0
Operands [] = Unit {0}
Operands (i ∷ is) = Operand i × Operands is

operands_append : (is js : List Step) → Operands is → Operands js → Operands (is ++ js)
operands_append [] js f g = g
operands_append (i ∷ is) js f g = (f.0, operands_append is js f.1 g)

operands_of : (t : Tree) (k : ℕ) → Proper t → k + length (numbers t) < 4294967296 → Operands (postfix k t)
operands_of (number-tree n) k w l = (omega arith, tt)
operands_of (name i) k w l = (omega arith, tt)
operands_of (minus t) k w l = operands_append (postfix k t) (negate ∷ []) (operands_of t k w l) (tt, tt)
operands_of (both o t u) k w l =
    let q : length (numbers t ++ numbers u) ≡ length (numbers t) + length (numbers u) = length-append (numbers t) (numbers u) in
    operands_append (postfix k t) (postfix (k + length (numbers t)) u ++ (operate o ∷ [])) (operands_of t k w.0 (omega arith))
    (operands_append (postfix (k + length (numbers t)) u) (operate o ∷ []) (operands_of u (k + length (numbers t)) w.1 (omega arith)) (tt, tt))
operands_of (group t) k w l = operands_of t k w l

operand_known : (i : Step) (x : List ℕ) → Operand i → instruction_of (opcode_for i) (word 4 (step_bytes i ++ x) 1) ≡ some (instruction i)
unfolding word
operand_known (constant k) x h = ap (λ (v : ℕ). some (push v)) (number_bytes 4 k (omega arith))
operand_known (parameter i) x h = ap (λ (v : ℕ). some (load v)) (number_bytes 4 i (omega arith))
operand_known negate x h = refl
operand_known (operate o) x h = refl
operand_known answer x h = refl

module _ (C : List ℕ) where
  -- ---- one instruction, at the place p

  opcode_is : (p : ℕ) (i : Step) (x : List ℕ) → drop p C ≡ step_bytes i ++ x → opcode_at 3 C p ≡ opcode_for i
  opcode_is p i x e =
      let q : p + 0 ≡ p = omega arith in
      let b : byte C p ≡ byte (step_bytes i ++ x) 0 = rw q at (sym (get_or-drop p C 0 0)) ∙ ap (λ (y : List ℕ). byte y 0) e in
      ap (λ c. opcode_of edition3 c) b ∙ opcode_known i x

  code_is : (p : ℕ) (i : Step) (x : List ℕ) → Operand i → drop p C ≡ step_bytes i ++ x → code_of 3 C p ≡ some (instruction i)
  unfolding code_of word
  code_is p i x h e =
      let w : word 4 C (p + 1) ≡ word 4 (step_bytes i ++ x) 1 = ap (λ (y : List ℕ). number (take 4 y)) (sym (drop-drop 1 p C) ∙ ap (drop 1) e) in
      rw (opcode_is p i x e, w) (operand_known i x h)

  drop_on : (p : ℕ) (i : Step) (x : List ℕ) → drop p C ≡ step_bytes i ++ x → drop (p + size (instruction i)) C ≡ x
  drop_on p i x e = sym (drop-drop (size (instruction i)) p C) ∙ ap (drop (size (instruction i))) e ∙ drop_at (step_bytes i) x (size (instruction i)) (step_long i)

  due_in_lem : (p : ℕ) (h : Opcode) → opcode_at 3 C p ≡ h → due 3 C p ≡ 0 → (j : ℕ) → j ≤ operand_bytes h → due 3 C (suc p + j) ≡ operand_bytes h - j
  unfolding due
  due_in_lem p h o z zero l = let q : suc p + 0 ≡ suc p = omega arith in rw (q, z, o) (omega arith)
  due_in_lem p h o z (suc j) l =
      let q : suc p + suc j ≡ suc (suc p + j) = omega arith in
      let r : due 3 C (suc p + j) ≡ suc (operand_bytes h - suc j) = due_in_lem p h o z j (omega arith) ∙ omega arith in
      rw (q, r) refl

  due_on : (p : ℕ) (i : Step) → opcode_at 3 C p ≡ opcode_for i → due 3 C p ≡ 0 → due 3 C (p + size (instruction i)) ≡ 0
  due_on p i o z =
      let n : ℕ = operand_bytes (opcode_for i) in
      let q : p + size (instruction i) ≡ suc p + n = omega (arith, (present i).1) in
      rw q (due_in_lem p (opcode_for i) o z n (omega arith) ∙ omega arith)

  known_on : (p : ℕ) (i : Step) → opcode_at 3 C p ≡ opcode_for i → due 3 C p ≡ 0 → (q : ℕ) → p ≤ q → q < p + size (instruction i) → unknown_at 3 C q ≡ false
  unfolding unknown_at
  known_on p i o z q l u =
      decide (eqb q p) (λ y. rw (eqb_is q p y, z, o) (present i).0)
      (λ y.
      let j : ℕ = q - suc p in
      let r : q ≡ suc p + j = omega (arith, eqb_isnt q p y) in
      let s : j < operand_bytes (opcode_for i) = omega (arith, (present i).1) in
      let d : due 3 C (suc p + j) ≡ operand_bytes (opcode_for i) - j = due_in_lem p (opcode_for i) o z j (omega arith) in
      rw (r, d, eqb_other (operand_bytes (opcode_for i) - j) 0 (λ k. omega arith)) refl)

-- ---- a tree of at most 256 instructions

module _ (t : Tree) (w : Proper t) (few : count t ≤ 256) where
  code_short : length (code_bytes t) ≤ 1281
  code_short = omega (arith, code_long t)

  length_word : word 4 (formula_tables t).bodies.functions 4 ≡ length (code_bytes t)
  unfolding word
  length_word = number_bytes 4 (length (code_bytes t)) (omega (arith, code_short))

  due_start : due 3 (code_bytes t) 0 ≡ 0
  unfolding due
  due_start = refl

  place : (p : ℕ) → p ≤ length (code_bytes t) → due 3 (code_bytes t) p ≡ 0 → (module_of (formula_tables t)).is_place (fn 0) p ≡ true
  unfolding module_of place_in word
  place p l z = rw (z, length_word, leb_yes 0 p (omega arith), leb_yes p (0 + length (code_bytes t)) (omega arith)) refl

  -- from place p on
  record Walked (p : ℕ) (is : List Step) : Type 0 where
    known : (q : ℕ) → p ≤ q → q < length (code_bytes t) → unknown_at 3 (code_bytes t) q ≡ false
    ended : due 3 (code_bytes t) (length (code_bytes t)) ≡ 0
    laid : Laid (module_of (formula_tables t)) (length (code_bytes t)) p is

  walk : (is : List Step) (p : ℕ) → Operands is → drop p (code_bytes t) ≡ assembled is → due 3 (code_bytes t) p ≡ 0 → p + length (assembled is) ≡ length (code_bytes t) → Walked p is
  unfolding module_of
  walk [] p h e z l = let q : p ≡ length (code_bytes t) = omega arith in record { known = λ q a b. absurd (omega arith); ended = rw q at z; laid = tt }
  walk (i ∷ is) p h e z l =
      let o : opcode_at 3 (code_bytes t) p ≡ opcode_for i = opcode_is (code_bytes t) p i (assembled is) e in
      let n : length (step_bytes i ++ assembled is) ≡ size (instruction i) + length (assembled is) = omega (arith, length-append (step_bytes i) (assembled is), step_long i) in
      let y : 0 < size (instruction i) = size_some (instruction i) in
      let r : Walked (p + size (instruction i)) is = walk is (p + size (instruction i)) h.1 (drop_on (code_bytes t) p i (assembled is) e) (due_on (code_bytes t) p i o z) (omega arith) in
      record {
        known = λ q a b.
            decide (ltb q (p + size (instruction i))) (λ x. known_on (code_bytes t) p i o z q a (ltb_is q (p + size (instruction i)) x))
            (λ x. r.known q (ltb_isnt q (p + size (instruction i)) x) b);
        ended = r.ended;
        laid = (omega arith, code_is (code_bytes t) p i (assembled is) h.0 e, place p (omega arith) z, r.laid);
      }

  walked : Walked 0 (steps t)
  walked =
      walk (steps t) 0 (operands_append (postfix 0 t) (answer ∷ []) (operands_of t 0 w (omega (arith, numbers_count t))) (tt, tt)) refl due_start (omega arith)

  -- ---- rows 4 to 9

  fourth : too_many (formula_tables t) ≡ false
  unfolding too_many
  fourth =
      let c : constant_count (constant_bytes (ints (numbers t))) ≤ 1024 = omega (arith, constants_long (numbers t), numbers_count t) in
      rw (ltb_no 1024 (constant_count (constant_bytes (ints (numbers t)))) c, ltb_no 16384 (length (code_bytes t)) (omega (arith, code_short))) refl

  fifth : broken (formula_tables t) ≡ false
  unfolding broken
  fifth =
      let c : length (constant_bytes (ints (numbers t))) % 12 ≡ 0 = omega (arith, constants_long (numbers t)) in
      rw (c, ltb_no (length (code_bytes t)) 0 (omega arith)) refl

  seventh : bad_functions (formula_tables t).bodies ≡ false
  unfolding bad_functions bad_function bad_record bad_param some_below end_before word
  seventh =
      let n : 0 + length (code_bytes t) ≡ length (code_bytes t) = omega arith in
      rw (length_word, eqb_other (length (code_bytes t)) 0 (λ z. omega (arith, code_some t)), n, eqb_same (length (code_bytes t))) refl

  eighth : bad_code (formula_tables t).bodies ≡ false
  unfolding bad_code crossed some_below end_before
  eighth =
      let n : 0 + length (code_bytes t) ≡ length (code_bytes t) = omega arith in
      rw (none_below (length (code_bytes t)) (unknown_at 3 (code_bytes t)) (λ q l. walked.known q (omega arith) l), length_word, due_start, n, walked.ended) refl

  ninth : bad_labels (formula_tables t).bodies [] ≡ false
  unfolding bad_labels some_below
  ninth = refl

  pub tables_good : table_refusal (formula_tables t) ≡ 0
  unfolding table_refusal first_of bad_structures some_below
  tables_good = rw (fourth, fifth, sixth (numbers t) (numbers_fit t w), seventh, eighth, ninth) refl

  -- ---- the module

  constants_held : Pool (module_of (formula_tables t)) 0 (numbers t)
  unfolding module_of constant_of
  constants_held =
      pool_from (module_of (formula_tables t)) (numbers t) 0 (λ i l.
      let c : constant_count (constant_bytes (ints (numbers t))) ≡ length (numbers t) = omega (arith, constants_long (numbers t)) in
      let q : 0 + i ≡ i = omega arith in
      let h = int_at (numbers t) (numbers_fit t w) i l in
      rw (q, c, ltb_yes i (length (numbers t)) l, h.type_byte_lem, h.payload) refl)

  function_held : (module_of (formula_tables t)).function 0 ≡ some (record { start = 0; end = length (code_bytes t); params = locals; result = some (num int); profile = 0 })
  unfolding module_of function_of word
  function_held = let n : 0 + length (code_bytes t) ≡ length (code_bytes t) = omega arith in rw (length_word, n) refl

  no_other : (k : ℕ) → (module_of (formula_tables t)).function (suc k) ≡ none
  unfolding module_of
  no_other k = rw (ltb_no (suc k) 1 (omega arith)) refl

  pub holds : Holds (module_of (formula_tables t)) t
  unfolding module_of place_in
  holds =
      record {
        stop = length (code_bytes t);
        laid = walked.laid;
        pool = constants_held;
        is_function = function_held;
        no_other = no_other;
        entry_ends = refl;
        entry_place = rw due_start refl;
        in_code = omega arith;
      }

-- ---- a line of at most 256 bytes

-- the tables of its tree can be written, and are this long
pub record WellSized (t : Tree) : Type 0 where
  pub good : table_refusal (formula_tables t) ≡ 0
  pub few_numbers : length (numbers t) ≤ 256
  pub short_code : length (code_bytes t) ≤ 1281
  pub file_long : file_length (formula_tables t) ≡ 68 + 12 * length (numbers t) + length (code_bytes t)

pub line_sized : {s : List ℕ} {t : Tree} → Line s t → length s ≤ 256 → WellSized t
line_sized {s} {t} d l =
    let few : count t ≤ 256 = omega (arith, spells_count d) in
    record {
      good = tables_good t (spells_proper d) few;
      few_numbers = omega (arith, numbers_count t);
      short_code = code_short t (spells_proper d) few;
      file_long = omega (arith, constants_long (numbers t));
    }
