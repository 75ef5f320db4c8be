-- The code of a tree as instructions: what each step is, how many bytes it has, and what a module has that holds it.
use Rattle.std.specs.Prelude.{◌≡◌, refl, ℕ, suc, ◌+◌, ◌*◌, ◌≤◌, ◌<◌, true, List, [], ◌∷◌, ◌++◌, length}
use Rattle.std.proofs.Common.{sym, ap, ◌∙◌, arith, append_assoc, length-append}
use Rattle.std.proofs.Math.Option.{some}
use Rattle.soundness.specs.Names.{Operator, add, sub, mul, div, Instruction, push, load, one, two, ret, neg, arith as arithmetic}
use Rattle.rules.specs.Instructions.{size}
use Rattle.rules.specs.Tables.{fn, Module}
use Rattle.rules.specs.Stack.{slot}
use Rattle.rules.specs.Grammar.{Sign, plus, dash, star, slash, Tree}
use Rattle.rules.specs.Formula.{Step, constant, parameter, negate, operate, answer, postfix, sign_bytes, step_bytes, assembled, code_bytes}

abbrev pub operator : Sign → Operator
operator plus = add
operator dash = sub
operator star = mul
operator slash = div

abbrev pub instruction : Step → Instruction
instruction (constant k) = push k
instruction (parameter i) = load i
instruction negate = one neg
instruction (operate o) = two (arithmetic (operator o))
instruction answer = ret

-- ---- bytes

sign_long : (o : Sign) → length (sign_bytes o) ≡ 1
sign_long plus = refl
sign_long dash = refl
sign_long star = refl
sign_long slash = refl

pub step_long : (i : Step) → length (step_bytes i) ≡ size (instruction i)
step_long (constant k) = refl
step_long (parameter i) = refl
step_long negate = refl
step_long (operate o) = sign_long o
step_long answer = refl

step_short : (i : Step) → size (instruction i) ≤ 5
step_short (constant k) = omega arith
step_short (parameter i) = omega arith
step_short negate = omega arith
step_short (operate o) = omega arith
step_short answer = omega arith

pub assembled_append : (is js : List Step) → assembled (is ++ js) ≡ assembled is ++ assembled js
assembled_append [] js = refl
assembled_append (i ∷ is) js = ap (λ x. step_bytes i ++ x) (assembled_append is js) ∙ sym (append_assoc (step_bytes i) (assembled is) (assembled js))

pub assembled_long : (is : List Step) → length (assembled is) ≤ 5 * length is
assembled_long [] = omega arith
assembled_long (i ∷ is) = omega (arith, length-append (step_bytes i) (assembled is), step_long i, step_short i, assembled_long is)

pub code_some : (t : Tree) → 1 ≤ length (code_bytes t)
code_some t = omega (arith, ap length (assembled_append (postfix 0 t) (answer ∷ [])), length-append (assembled (postfix 0 t)) (assembled (answer ∷ [])))

-- ---- places

-- the place after these instructions
abbrev pub after : ℕ → List Step → ℕ
after p [] = p
after p (i ∷ is) = after (p + size (instruction i)) is

pub after_append : (p : ℕ) (is js : List Step) → after p (is ++ js) ≡ after (after p is) js
after_append p [] js = refl
after_append p (i ∷ is) js = after_append (p + size (instruction i)) is js

-- these instructions stand in function 0 from place p on, before the place e
abbrev pub Laid : Module → ℕ → ℕ → List Step → Type 0
Laid m e p [] = Unit {0}
Laid m e p (i ∷ is) = (p < e) × (m.code p ≡ some (instruction i)) × (m.is_place (fn 0) p ≡ true) × Laid m e (p + size (instruction i)) is

pub laid_left : (m : Module) (e p : ℕ) (is js : List Step) → Laid m e p (is ++ js) → Laid m e p is
laid_left m e p [] js h = tt
laid_left m e p (i ∷ is) js h = (h.0, h.1, h.2, laid_left m e (p + size (instruction i)) is js h.3)

pub laid_right : (m : Module) (e p : ℕ) (is js : List Step) → Laid m e p (is ++ js) → Laid m e (after p is) js
laid_right m e p [] js h = h
laid_right m e p (i ∷ is) js h = laid_right m e (p + size (instruction i)) is js h.3

-- ---- constants

-- the constants from k on are these ints
abbrev pub Pool : Module → ℕ → List ℕ → Type 0
Pool m k [] = Unit {0}
Pool m k (n ∷ ns) = (m.constant k ≡ some (slot 3 n)) × Pool m (suc k) ns

pub pool_left : (m : Module) (k : ℕ) (ns ms : List ℕ) → Pool m k (ns ++ ms) → Pool m k ns
pool_left m k [] ms h = tt
pool_left m k (n ∷ ns) ms h = (h.0, pool_left m (suc k) ns ms h.1)

pub pool_right : (m : Module) (k : ℕ) (ns ms : List ℕ) → Pool m k (ns ++ ms) → Pool m (k + length ns) ms
pool_right m k [] ms h = let q : k + 0 ≡ k = omega arith in rw q h
pool_right m k (n ∷ ns) ms h = let q : k + suc (length ns) ≡ suc k + length ns = omega arith in rw q (pool_right m (suc k) ns ms h.1)
