-- From the flow of an instruction to that of its key.
use mathlib.Core.Path.{◌≡◌, refl, sym, ap, ◌∙◌, subst}
use Prim.Native.Nat.{ℕ, ◌+◌, ◌≤◌}
use mathlib.Core.Option.{some}
use mathlib.Core.List.{List, [], ◌∷◌, ◌++◌}
use lib.ListN.{length}
use Rattle.rules.specs.declared.Instruction.{Instruction}
use Rattle.rules.specs.Bytes.{word}
use Rattle.rules.specs.Instructions.{opcode_of, instruction_of, size}
use Rattle.rules.specs.Tables.{Body, Module}
use Rattle.soundness.specs.Numbering.{key_table}
use Rattle.soundness.specs.Tests.{some_inj}
use Rattle.keys.specs.Keys.{Known, Outside, each}
use Rattle.keys.proofs.Places.{known_low}
use Rattle.keys.proofs.Chain.{none_left, outside_both}
use Rattle.records.specs.declared.Transfer.{Transfer}
use Rattle.transfer.specs.Transfers.{Judges, KeyAt, Moves, seconds}

-- the key b is k, and the instruction of k with the word x is j
pub moves : (m : Module) (d : Body) (w p : ℕ) (r : List ℕ) (a : Transfer) (r' : List ℕ) (b k : ℕ) → b ≡ k → (x : ℕ) → x ≡ w
    → (j : Instruction) → instruction_of (opcode_of key_table k) x ≡ some j → Judges m d j (p + size j) r a r' → Moves m d b w p r a r'
moves m d w p r a r' b k e x z j is h i q =
    let y : j ≡ i = some_inj j i (sym is ∙ ap (λ (n : ℕ). instruction_of (opcode_of key_table n) x) (sym e) ∙ ap (instruction_of (opcode_of key_table b)) z ∙ q) in
    subst (λ (l : Instruction). Judges m d l (p + size l) r a r') y h

-- the bytes of an instruction of key k are there
pub fits : (code : List ℕ) (p b k : ℕ) → KeyAt code p b → b ≡ k → (j : Instruction) → instruction_of (opcode_of key_table k) (word 4 code (p + 1)) ≡ some j → p + size j ≤ length code
fits code p b k f e j is = f.whole j (ap (λ (n : ℕ). instruction_of (opcode_of key_table n) (word 4 code (p + 1))) e ∙ is)

-- ---- the last match

-- keys that are no instruction's
abbrev pub evens : List ℕ
evens = 0 ∷ 54 ∷ 56 ∷ 58 ∷ 60 ∷ 62 ∷ []

abbrev pub odds : List ℕ
odds = 53 ∷ 55 ∷ 57 ∷ 59 ∷ 61 ∷ 63 ∷ []

abbrev pub lasts : List (List ℕ)
lasts = odds ∷ evens ∷ each (51 ∷ 50 ∷ 48 ∷ 47 ∷ 46 ∷ 45 ∷ 44 ∷ 43 ∷ 42 ∷ 41 ∷ 29 ∷ 28 ∷ 27 ∷ 26 ∷ 25 ∷ 24 ∷ 23 ∷ 22 ∷ 21 ∷ 20 ∷ 19 ∷ [])

pub nothing_left : {P : Type 0} (b : ℕ) → Known b → Outside b lasts → Outside b seconds → P
nothing_left b k h g = none_left 64 (lasts ++ seconds) refl b (known_low b k) (outside_both b lasts seconds h g)
