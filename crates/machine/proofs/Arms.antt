-- From what a leaf did to what the instruction at the place does.
use Prim.Native.Nat.{ℕ, ◌+◌, ◌≤◌}
use mathlib.Core.Path.{◌≡◌, refl, sym, ap, ◌∙◌, subst}
use mathlib.Core.Logic.{◌⊎◌, inl, inr, ⊎_elim}
use mathlib.Core.Bool.{true, false}
use mathlib.Core.Option.{Option, some}
use mathlib.Core.List.{List, ◌++◌}
use types.Run.{OneOf}
use lib.ListN.{length}
use Rattle.rules.specs.declared.Instruction.{Instruction}
use Rattle.rules.specs.declared.Instruction.TheVariants.{Null, New, Delete, Flea}
use Rattle.rules.specs.declared.Exception.{Exception}
use Rattle.rules.specs.Results.{exception_number}
use Rattle.rules.specs.Bytes.{word, maybe}
use Rattle.rules.specs.Instructions.{opcode_of, instruction_of, size}
use Rattle.rules.specs.Tables.{Module}
use Rattle.rules.specs.Machine.{State, stops, exec_in, step}
use Rattle.soundness.specs.Framed.{heapless, framed}
use Rattle.soundness.specs.Tests.{some_inj}
use Rattle.soundness.specs.Numbering.{key_table}
use Rattle.keys.specs.Keys.{Says, Known, Outside}
use Rattle.keys.proofs.Places.{says_known, known_low}
use Rattle.keys.proofs.Chain.{outside_both, none_left}
use Rattle.state.specs.State.{state_of, Ready, Does, Acts, DoesOver, Defers, ActsOrDefers, Lacks, DoesOrLacks}
use Rattle.state.specs.declared.Registers.{Registers}
use Rattle.state.specs.declared.Progress.{Progress}
use Rattle.state.specs.declared.Progress.TheVariants.{Stops}
use Rattle.machine.specs.Ends.{left}
use Rattle.machine.specs.Matches.{wides, numerics, of_heap, of_heap_odd, singles, Leaves, DoesOrLeaves, Performs, Stands, Steps}

-- the instruction of key k is j, whatever word is behind it
abbrev pub Alone : ℕ → Instruction → Type 0
Alone k j = (w : ℕ) → instruction_of (opcode_of key_table k) w ≡ some j

-- the instruction of key k is j of the word behind it
abbrev pub Wide : ℕ → (ℕ → Instruction) → Type 0
Wide k j = (w : ℕ) → instruction_of (opcode_of key_table k) w ≡ some (j w)

same_key : (b k w : ℕ) (j i : Instruction) → b ≡ k → instruction_of (opcode_of key_table k) w ≡ some j → instruction_of (opcode_of key_table b) w ≡ some i → j ≡ i
same_key b k w j i e q x = some_inj j i (sym q ∙ ap (λ (n : ℕ). instruction_of (opcode_of key_table n) w) (sym e) ∙ x)

-- an instruction that is done with no heap at hand is done over every heap
over : (m : Module) (cap : ℕ) (i : Instruction) → heapless i ≡ true → (r : Registers) (a : Progress) (p t f p' t' f' : List ℕ)
    → Does cap r a p t f p' t' f' (exec_in m cap i (state_of r p t f)) → DoesOver cap r a p t f p' t' f' (exec_in m cap i)
over m cap i h r a p t f p' t' f' d = (d, λ g. framed m cap i h g (state_of r p t f))

module _ (b k cap : ℕ) (r : Registers) (a : Progress) (p t p' t' : List ℕ) (j : Instruction) (e : b ≡ k) (q : Alone k j) where
  same : ((m : Module) (f : List ℕ) → Ready cap r p t f → DoesOrLeaves m cap j r a p t f p' t' f) → Performs b cap r a p t p' t'
  same d i x m f k = subst (λ (n : Instruction). DoesOrLeaves m cap n r a p t f p' t' f) (same_key b _ x.0 j i e (q x.0) x.1) (d m f k)

  -- what an arm without a word did
  pub alone : heapless j ≡ true → ((m : Module) → Acts cap r a p t p' t' (exec_in m cap j)) → Performs b cap r a p t p' t'
  alone h d = same (λ m f k. inl (over m cap j h r a p t f p' t' f (d m f k)))

  deferred : {f : List ℕ} → Defers a p t p' t' → Leaves a p t f p' t' f
  deferred x =
      record { number = Exception.PointerUnknownAddress; stops_with = x.stops_with; says_so = refl; keeps_payloads = x.keeps_payloads; keeps_types = x.keeps_types; keeps_words = refl }

  -- one through a pointer
  pub through : heapless j ≡ false → ((m : Module) → ActsOrDefers cap r a p t p' t' (exec_in m cap j)) → Performs b cap r a p t p' t'
  through h d = same (λ m f k. ⊎_elim (λ x. inl x) (λ x. inr (h, deferred x)) (d m f k))

-- an instruction that no arm does is left with the number of its arm
module _ (b cap : ℕ) (n : Exception) (says_so : left (exception_number n) ≡ true) (r : Registers) (p t : List ℕ) where
  pub leaves : (k : ℕ) (j : ℕ → Instruction) → Wide k j → ((w : ℕ) → heapless (j w) ≡ false) → b ≡ k → Performs b cap r (Stops n) p t p t
  leaves k j q h e i x m f ready = inr (
    subst (λ (i : Instruction). heapless i ≡ false) (same_key b k x.0 (j x.0) i e (q x.0) x.1) (h x.0),
    record { number = n; stops_with = refl; says_so = says_so; keeps_payloads = refl; keeps_types = refl; keeps_words = refl },
  )

  pub leaves_one : OneOf of_heap b → Performs b cap r (Stops n) p t p t
  leaves_one (inl e) = leaves 6 (λ w. Flea w) (λ w. refl) (λ w. refl) e
  leaves_one (inr (inl e)) = leaves 48 (λ w. Null false) (λ w. refl) (λ w. refl) e
  leaves_one (inr (inr (inl e))) = leaves 50 (λ w. Delete) (λ w. refl) (λ w. refl) e
  leaves_one (inr (inr (inr e))) = leaves 52 (λ w. New true w) (λ w. refl) (λ w. refl) e

  pub leaves_odd : OneOf of_heap_odd b → Performs b cap r (Stops n) p t p t
  leaves_odd (inl e) = leaves 49 (λ w. New false w) (λ w. refl) (λ w. refl) e
  leaves_odd (inr e) = leaves 51 (λ w. Null true) (λ w. refl) (λ w. refl) e

module _ (code : List ℕ) (q b : ℕ) (s : Stands code q b) where
  pub stands_known : Known b
  stands_known = subst Known (sym s.key) (says_known code q s.instruction s.says)

  says_keyed : (i : Instruction) → Says code q i → instruction_of (opcode_of key_table b) (word 4 code (q + 1)) ≡ some i
  says_keyed i x = ap (λ (n : ℕ). instruction_of (opcode_of key_table n) (word 4 code (q + 1))) s.key ∙ x.is

  wide_is : (k : ℕ) (j : ℕ → Instruction) → b ≡ k → Wide k j → (i : Instruction) → Says code q i → j (word 4 code (q + 1)) ≡ i
  wide_is k j e w i x = same_key b k (word 4 code (q + 1)) (j (word 4 code (q + 1))) i e (w (word 4 code (q + 1))) (says_keyed i x)

  -- the bytes of an instruction with a word
  pub wide_room : (k : ℕ) (j : ℕ → Instruction) → b ≡ k → Wide k j → ((w : ℕ) → size (j w) ≡ 5) → q + 5 ≤ length code
  wide_room k j e w five =
      subst (λ (n : ℕ). q + n ≤ length code) (five (word 4 code (q + 1)))
      (subst (λ (i : Instruction). q + size i ≤ length code) (sym (wide_is k j e w s.instruction s.says)) s.says.whole)

module _ (m : Module) (cap : ℕ) (code : List ℕ) (r : Registers) (b : ℕ) (s : Stands code r.place b) (a : Progress) (p t f p' t' f' : List ℕ)
    (k : ℕ) (j : ℕ → Instruction) (e : b ≡ k) (w : Wide k j) (h : (n : ℕ) → heapless (j n) ≡ true) where
  -- what an arm with a word did
  pub wide_or : DoesOrLacks cap r a p t f p' t' f' (exec_in m cap (j (word 4 code (r.place + 1))) (state_of r p t f)) → Steps m cap code r a p t f p' t' f'
  wide_or d i x =
      subst (λ (n : Instruction). DoesOrLeaves m cap n r a p t f p' t' f' ⊎ Lacks a p t f p' t' f') (wide_is code r.place b s k j e w i x)
      (⊎_elim (λ y. inl (inl (over m cap (j (word 4 code (r.place + 1))) (h (word 4 code (r.place + 1))) r a p t f p' t' f' y))) (λ y. inr y) d)

  pub wide : Does cap r a p t f p' t' f' (exec_in m cap (j (word 4 code (r.place + 1))) (state_of r p t f)) → Steps m cap code r a p t f p' t' f'
  wide d = wide_or (inl d)

-- what the matches behind the first did
pub performed : (m : Module) (cap : ℕ) (code : List ℕ) (r : Registers) (b : ℕ) → Stands code r.place b → (a : Progress) (p t f p' t' : List ℕ) → Ready cap r p t f
    → Performs b cap r a p t p' t' → Steps m cap code r a p t f p' t' f
performed m cap code r b s a p t f p' t' k d i x = inl (d i (word 4 code (r.place + 1), says_keyed code r.place b s i x) m f k)

-- the rules' step is that of the instruction at the place
pub step_is : (m : Module) (cap : ℕ) (s : State) (i : Instruction) → m.code s.top.place ≡ some i → exec_in m cap i s ≡ step m cap s
unfolding step
step_is m cap s i e = sym (ap (λ (o : Option Instruction). maybe o (stops 29) (λ i. exec_in m cap i s)) e)

-- no key is left
pub no_other : {P : Type 0} (b : ℕ) → Known b × Outside b wides × Outside b numerics → Outside b singles → P
no_other b k o =
    none_left 64 (singles ++ (wides ++ numerics)) refl b (known_low b k.0)
    (outside_both b singles (wides ++ numerics) o (outside_both b wides numerics k.1 k.2))
