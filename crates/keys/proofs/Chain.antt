-- A chain of matches in which every number below 64 is a key: none is left, and none that is no instruction's is met.
use Prim.Native.Nat.{ℕ, zero, suc, ◌<◌}
use native.Mathlib.Nat.{eq-or-lt_of_le, le_of_suc-le-suc}
use native.Mathlib.Omega.{arith}
use mathlib.Core.Path.{◌≡◌, refl, sym, ap, ◌∙◌}
use mathlib.Core.Logic.{⊎_elim, inl, inr}
use mathlib.Core.Bool.{Bool, true, false, ◌&&◌, true≢false}
use mathlib.Core.List.{List, [], ◌∷◌, ◌++◌}
use borrow.Author.Tests.{ne_eqb}
use types.Run.{OneOf}
use Rattle.rules.specs.Instructions.{opcode_of, is_absent}
use Rattle.soundness.specs.Numbering.{key_table}
use Rattle.keys.specs.Keys.{Known, Outside, among, among_any, complete, absents}

and_left : (x y : Bool) → (x && y) ≡ true → x ≡ true
and_left true y e = refl
and_left false y e = e

and_right : (x y : Bool) → (x && y) ≡ true → y ≡ true
and_right true y e = e
and_right false y e = absurd (true≢false (sym e))

-- ---- none is left

no_key : (b k : ℕ) (ks : List ℕ) → (OneOf (k ∷ ks) b → ⊥) → among b (k ∷ ks) ≡ false
no_key b k [] h = simp (ne_eqb b k h)
no_key b k (j ∷ ks) h = simp (no_key b j ks (λ x. h (inr x)), ne_eqb b k (λ x. h (inl x)))

none_of : (b : ℕ) (ks : List ℕ) → (OneOf ks b → ⊥) → among b ks ≡ false
none_of b [] h = refl
none_of b (k ∷ ks) h = no_key b k ks h

pub outside : (b : ℕ) (kss : List (List ℕ)) → Outside b kss → among_any b kss ≡ false
outside b [] h = refl
outside b (ks ∷ kss) h = simp (outside b kss h.0, none_of b ks h.1)

-- of two matches, one behind the other
pub outside_both : (b : ℕ) (kss jss : List (List ℕ)) → Outside b kss → Outside b jss → Outside b (kss ++ jss)
outside_both b [] jss h g = g
outside_both b (ks ∷ kss) jss h g = (outside_both b kss jss h.0 g, h.1)

complete_at : (n : ℕ) (kss : List (List ℕ)) → complete n kss ≡ true → (b : ℕ) → b < n → among_any b kss ≡ true
complete_at zero kss e b h = absurd (omega arith)
complete_at (suc n) kss e b h =
    ⊎_elim (λ q. ap (λ k. among_any k kss) q ∙ and_right (complete n kss) (among_any n kss) e) (λ l. complete_at n kss (and_left (complete n kss) (among_any n kss) e) b l)
    (eq-or-lt_of_le (le_of_suc-le-suc h))

pub none_left : {P : Type 0} (n : ℕ) (kss : List (List ℕ)) → complete n kss ≡ true → (b : ℕ) → b < n → Outside b kss → P
none_left n kss e b l o = absurd (true≢false (sym (complete_at n kss e b l) ∙ outside b kss o))

-- ---- keys that are no instruction's

absent_key : (b k : ℕ) (ks : List ℕ) → absents (k ∷ ks) ≡ true → OneOf (k ∷ ks) b → is_absent (opcode_of key_table b) ≡ true
absent_key b k [] e h = rw h (and_left (is_absent (opcode_of key_table k)) true e)
absent_key b k (j ∷ ks) e (inl h) = rw h (and_left (is_absent (opcode_of key_table k)) (absents (j ∷ ks)) e)
absent_key b k (j ∷ ks) e (inr h) = absent_key b j ks (and_right (is_absent (opcode_of key_table k)) (absents (j ∷ ks)) e) h

absent_one : (b : ℕ) (ks : List ℕ) → absents ks ≡ true → OneOf ks b → is_absent (opcode_of key_table b) ≡ true
absent_one b [] e h = absurd h
absent_one b (k ∷ ks) e h = absent_key b k ks e h

pub unknown : {P : Type 0} (b : ℕ) → Known b → (ks : List ℕ) → absents ks ≡ true → OneOf ks b → P
unknown b k ks a h = absurd (true≢false (sym (absent_one b ks a h) ∙ k))
