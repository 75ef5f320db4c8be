-- 02, A5: "What they share is proved once over a numbering." Keys are edition 4's opcode numbers, edition 3's among them, and four more
-- for what only edition 1 has; every opcode of each edition has one. What all instructions have in common is proved of the keys.
use Rattle.std.specs.Prelude.{◌≡◌, refl, ℕ, zero, suc, true, false, cond, List, [], ◌∷◌, ◌++◌, map, get_or, set, eqb}
use Rattle.std.proofs.Common.{sym, ap, ◌∙◌}
use Rattle.rules.specs.Instructions.{Opcode, absent, bare, wide, edition1, edition3, edition4, opcodes, opcode_of, is_absent}
use Rattle.soundness.specs.Names.{one, count, convert, int, long, null, new, delete, flea}
use Rattle.soundness.specs.Tests.{decide, eqb_is, false_true}

-- 29, 2A, 2D and 2F hex, which are no opcodes of editions 3 and 4, are edition 1's `inc`, `dec`, `tol` and `toi`
abbrev pub key_table : List Opcode
key_table = set (set (set (set edition4 0x29 (bare (one (count true)))) 0x2a (bare (one (count false)))) 0x2d (bare (one (convert false long)))) 0x2f (bare (one (convert false int)))

-- the keys of edition 1's opcodes, from 00 on
abbrev pub first_keys : List ℕ
first_keys =
    0x00 ∷ 0x01 ∷ 0x02 ∷ 0x03 ∷ 0x04 ∷ 0x0b ∷ 0x0c ∷ 0x0d ∷ 0x0e ∷ 0x0f ∷ 0x10 ∷ 0x11 ∷ 0x12 ∷ 0x13 ∷ 0x29 ∷ 0x2a
    ∷ 0x16 ∷ 0x17 ∷ 0x18 ∷ 0x19 ∷ 0x1a ∷ 0x1b ∷ 0x1c ∷ 0x1d ∷ 0x1e ∷ 0x1f ∷ 0x20 ∷ 0x21 ∷ 0x22 ∷ 0x23 ∷ 0x24 ∷ 0x25
    ∷ 0x26 ∷ 0x27 ∷ 0x28 ∷ 0x2f ∷ 0x2d ∷ 0x2e ∷ []

-- the key of byte b in edition e
abbrev pub key_of : ℕ → ℕ → ℕ
key_of e b = cond (eqb e 1) (get_or first_keys b 0) b

first_keyed : map (opcode_of key_table) first_keys ≡ edition1
first_keyed = refl

-- where the list ends, key 0 is absent
get_or_keyed : (ks : List ℕ) (b : ℕ) → get_or (map (opcode_of key_table) ks) b absent ≡ opcode_of key_table (get_or ks b 0)
get_or_keyed [] b = refl
get_or_keyed (k ∷ ks) zero = refl
get_or_keyed (k ∷ ks) (suc b) = get_or_keyed ks b

-- more rows hide none
longer : (t r : List Opcode) (b : ℕ) → is_absent (opcode_of t b) ≡ false → opcode_of (t ++ r) b ≡ opcode_of t b
longer [] r b h = false_true (sym h)
longer (o ∷ t) r zero h = refl
longer (o ∷ t) r (suc b) h = longer t r b h

-- nor does one in an absent one's place
filled : (t : List Opcode) (i : ℕ) (o : Opcode) (b : ℕ) → is_absent (opcode_of t i) ≡ true → is_absent (opcode_of t b) ≡ false
    → opcode_of (set t i o) b ≡ opcode_of t b
filled [] i o b a h = refl
filled (x ∷ t) zero o zero a h = false_true (sym h ∙ a)
filled (x ∷ t) zero o (suc b) a h = refl
filled (x ∷ t) (suc i) o zero a h = refl
filled (x ∷ t) (suc i) o (suc b) a h = filled t i o b a h

fourth_keyed : (b : ℕ) → is_absent (opcode_of edition4 b) ≡ false → opcode_of key_table b ≡ opcode_of edition4 b
fourth_keyed b h =
    let inc : List Opcode = set edition4 0x29 (bare (one (count true))) in
    let dec : List Opcode = set inc 0x2a (bare (one (count false))) in
    let tol : List Opcode = set dec 0x2d (bare (one (convert false long))) in
    let q : opcode_of inc b ≡ opcode_of edition4 b = filled edition4 0x29 (bare (one (count true))) b refl h in
    let r : opcode_of dec b ≡ opcode_of edition4 b = filled inc 0x2a (bare (one (count false))) b refl (ap is_absent q ∙ h) ∙ q in
    let t : opcode_of tol b ≡ opcode_of edition4 b = filled dec 0x2d (bare (one (convert false long))) b refl (ap is_absent r ∙ h) ∙ r in
    filled tol 0x2f (bare (one (convert false int))) b refl (ap is_absent t ∙ h) ∙ t

-- edition 4 is edition 3 and six more
pub third_in_fourth : (b : ℕ) → is_absent (opcode_of edition3 b) ≡ false → opcode_of edition4 b ≡ opcode_of edition3 b
third_in_fourth b h =
    let more : List Opcode = set edition3 0x06 (wide flea) in
    let q : opcode_of more b ≡ opcode_of edition3 b = filled edition3 0x06 (wide flea) b refl h in
    let r : opcode_of edition4 b ≡ opcode_of more b = longer more (absent ∷ bare (null false) ∷ wide (new false) ∷ bare delete ∷ bare (null true) ∷ wide (new true) ∷ []) b (ap is_absent q ∙ h) in
    r ∙ q

third_keyed : (b : ℕ) → is_absent (opcode_of edition3 b) ≡ false → opcode_of key_table b ≡ opcode_of edition3 b
third_keyed b h = let q : opcode_of edition4 b ≡ opcode_of edition3 b = third_in_fourth b h in fourth_keyed b (ap is_absent q ∙ h) ∙ q

pub keyed : (e b : ℕ) → is_absent (opcode_of (opcodes e) b) ≡ false → opcode_of key_table (key_of e b) ≡ opcode_of (opcodes e) b
keyed e b h =
    decide (eqb e 1) (λ y. let q : e ≡ 1 = eqb_is e 1 y in rw q (sym (get_or_keyed first_keys b) ∙ ap (λ t. opcode_of t b) first_keyed))
    (λ y. decide (eqb e 3) (λ z. let q : e ≡ 3 = eqb_is e 3 z in rw q (third_keyed b (rw q at h)))
    (λ z. decide (eqb e 4) (λ w. let q : e ≡ 4 = eqb_is e 4 w in rw q (fourth_keyed b (rw q at h))) (λ w. false_true (sym (rw (y, z, w) at h)))))
