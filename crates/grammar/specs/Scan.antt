-- 02, A4: whether a line is in the grammar, how deep its brackets go and where it stops making sense, by one pass over its bytes.
-- No stack is needed: whether a factor must come, the value of a number and the number of open brackets say what may follow.
use Rattle.std.specs.Prelude.{ℕ, zero, suc, ◌+◌, ◌*◌, ◌-◌, max, ◌≡◌, Bool, ◌||◌, cond, List, [], ◌∷◌, leb, eqb}
use Rattle.std.proofs.Math.Option.{Option, none, some}
use Rattle.rules.specs.Reading.{is_digit}

-- a factor must come; inside a number, of value v so far; a factor is complete
pub data Mode : Type 0 where
  before : Mode
  inside : ℕ → Mode
  after : Mode

-- the mode, the brackets that are open, and the most that were open at once
pub data State : Type 0 where
  standing : Mode → ℕ → ℕ → State

abbrev pub is_name : ℕ → Bool
is_name c = eqb c 114 || eqb c 103 || eqb c 98

abbrev pub is_sign : ℕ → Bool
is_sign c = eqb c 43 || eqb c 45 || eqb c 42 || eqb c 47

-- where a factor must come: a number or a name begins it, a bracket, a minus or a space stands in front of it
abbrev pub before_byte : ℕ → ℕ → ℕ → Option State
before_byte n d c =
    cond (is_digit c) (some (standing (inside (c - 48)) n d)) (cond (is_name c) (some (standing after n d))
    (cond (eqb c 40) (some (standing before (suc n) (max d (suc n)))) (cond (eqb c 32 || eqb c 45) (some (standing before n d)) none)))

-- a closing bracket needs an open one
abbrev pub close_one : ℕ → ℕ → Option State
close_one zero d = none
close_one (suc n) d = some (standing after n d)

-- where a factor is complete: a sign, a space or a closing bracket
abbrev pub after_byte : ℕ → ℕ → ℕ → Option State
after_byte n d c =
    cond (is_sign c) (some (standing before n d)) (cond (eqb c 32) (some (standing after n d)) (cond (eqb c 41) (close_one n d) none))

-- inside a number: one more digit while the number is "up to 4294967295", else what may follow a factor
abbrev pub inside_byte : ℕ → ℕ → ℕ → ℕ → Option State
inside_byte v n d c =
    cond (is_digit c) (cond (leb (10 * v + (c - 48)) 4294967295) (some (standing (inside (10 * v + (c - 48))) n d)) none) (after_byte n d c)

-- one byte more; none for a byte that can't stand there
unfoldable pub scan_byte : State → ℕ → Option State
scan_byte (standing before n d) c = before_byte n d c
scan_byte (standing (inside v) n d) c = inside_byte v n d c
scan_byte (standing after n d) c = after_byte n d c

abbrev pub onwards : Option State → (State → Option State) → Option State
onwards none k = none
onwards (some σ) k = k σ

unfoldable pub scanned : State → List ℕ → Option State
scanned σ [] = some σ
scanned σ (c ∷ s) = onwards (scan_byte σ c) (λ τ. scanned τ s)

abbrev pub at_start : State
at_start = standing before 0 0

-- where a line may end
abbrev pub Accepting : State → Type 0
Accepting (standing before n d) = ⊥
Accepting (standing (inside v) n d) = n ≡ 0
Accepting (standing after n d) = n ≡ 0

abbrev pub deepest : State → ℕ
deepest (standing m n d) = d
