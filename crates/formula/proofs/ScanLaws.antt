-- Laws of `scan`: one byte in the code's state, as `scan_byte` has it.
use mathlib.Core.Path.{◌≡◌, refl, sym, ap, ◌∙◌}
use mathlib.Core.Logic.{◌≢◌}
use Prim.Native.Nat.{ℕ, zero, suc, ◌+◌, ◌*◌, ◌-◌, ◌≤◌, ◌<◌, max}
use native.Mathlib.Omega.{arith}
use native.Mathlib.Numerals.{add-one}
use mathlib.Core.Bool.{true, false, not, ◌||◌}
use mathlib.Core.List.{List}
use lib.ListN.{length, take, get_or}
use lib.Seq.{take-length}
use mathlib.Core.Option.{none, some}
use lib.Dec.{leb, eqb}
use Rattle.soundness.specs.Tests.{decide, eqb_is, eqb_other, leb_yes, leb_is, false_true, or_neither, not_false}
use Rattle.rules.specs.Reading.{is_digit}
use Rattle.grammar.specs.Steps.{digit_is}
use Rattle.grammar.specs.Scan.{before, standing, is_name, is_sign, before_byte, close_one, after_byte, scan_byte, scanned, at_start, Accepting}
use Rattle.grammar.specs.Scanned.{Stopped, Reads, stops_exact, ends_early, accepts_exact, scanned_byte}
use Rattle.std.specs.Prelude.{Some, None}
use Rattle.std.specs.declared.option.Option as found
use Rattle.formula.specs.Scans.{State, mode_of, state_of, Legal, step_of, Keeps, Moves}

-- ---- the modes

mode_before : (w v : ℕ) → 0 < w → mode_of w v ≡ before
mode_before zero v h = absurd (omega arith)
mode_before (suc w) v h = refl

module _ (n d c : ℕ) where
  before_byte_lem : (w v : ℕ) → 0 < w → scan_byte (standing (mode_of w v) n d) c ≡ before_byte n d c
  unfolding scan_byte
  before_byte_lem w v h = rw (mode_before w v h) refl

  behind_byte : (w v : ℕ) → w ≡ 0 → is_digit c ≡ false → scan_byte (standing (mode_of w v) n d) c ≡ after_byte n d c
  unfolding scan_byte
  behind_byte zero v z h = decide (leb v 4294967295) (λ e. rw (e, h) refl) (λ e. rw e refl)
  behind_byte (suc w) v z h = absurd (omega arith)

  -- no digit may follow a complete factor
  after_digit : is_digit c ≡ true → after_byte n d c ≡ none
  after_digit h =
      let k = digit_is c h in
      rw (eqb_other c 43 (λ e. omega (arith, k.from)), eqb_other c 45 (λ e. omega (arith, k.from)), eqb_other c 42 (λ e. omega (arith, k.from)), eqb_other c 47 (λ e. omega (arith, k.from)), eqb_other c 32 (λ e. omega (arith, k.from)), eqb_other c 41 (λ e. omega (arith, k.from))) refl

  digit_refused : (w v : ℕ) → (0 < w → v ≡ 0) → is_digit c ≡ true → 4294967295 < 10 * v + (c - 48) → scan_byte (standing (mode_of w v) n d) c ≡ none
  unfolding scan_byte
  digit_refused zero v f h l =
      decide (leb v 4294967295) (λ e. rw (e, h, decide (leb (10 * v + (c - 48)) 4294967295) (λ z. absurd (omega (arith, leb_is (10 * v + (c - 48)) 4294967295 z))) (λ z. z)) refl) (λ e. rw e (after_digit h))
  digit_refused (suc w) v f h l = let k = digit_is c h in absurd (omega (arith, f (omega arith), k.upto))

  digit_taken : (w v : ℕ) → (0 < w → v ≡ 0) → is_digit c ≡ true → 10 * v + (c - 48) ≤ 4294967295 → scan_byte (standing (mode_of w v) n d) c ≡ some (standing (mode_of 0 (10 * v + (c - 48))) n d)
  unfolding scan_byte
  digit_taken zero v f h l = rw (leb_yes v 4294967295 (omega arith), h, leb_yes (10 * v + (c - 48)) 4294967295 l) refl
  digit_taken (suc w) v f h l =
      let e : 10 * v + (c - 48) ≡ c - 48 = omega (arith, f (omega arith)) in
      rw (e, h, leb_yes (c - 48) 4294967295 (omega arith)) refl

-- ---- the code

complete : (n d : ℕ) → Legal (record { wanted = 0; value = 4294967296; brackets = n; deepest = d })
complete n d = record { upto = omega arith; fresh = λ z. absurd (omega arith) }

wanting : (n d : ℕ) → Legal (record { wanted = 1; value = 0; brackets = n; deepest = d })
wanting n d = record { upto = omega arith; fresh = λ z. refl }

module _ (at : State) (c : ℕ) (legal : Legal at) where
  pub digit_over : is_digit c ≡ true → 4294967295 < 10 * at.value + (c - 48) → Moves at c None
  digit_over h l = record { is = sym (digit_refused at.brackets at.deepest c at.wanted at.value legal.fresh h l); keeps = tt }

  pub digit_kept : is_digit c ≡ true → 10 * at.value + (c - 48) ≤ 4294967295
      → Moves at c (Some (record { wanted = 0; value = 10 * at.value + (c - 48); brackets = at.brackets; deepest = at.deepest }))
  digit_kept h l =
      record { is = sym (digit_taken at.brackets at.deepest c at.wanted at.value legal.fresh h l); keeps = (record { upto = omega arith; fresh = λ z. absurd (omega arith) }, omega arith) }

  module _ (h : 0 < at.wanted) (g : is_digit c ≡ false) where
    pub front_name : is_name c ≡ true → Moves at c (Some (record { wanted = 0; value = 4294967296; brackets = at.brackets; deepest = at.deepest }))
    front_name e =
        record { is = sym (before_byte_lem at.brackets at.deepest c at.wanted at.value h ∙ rw (g, e) refl); keeps = (complete at.brackets at.deepest, omega arith) }

    pub front_open : c ≡ 40 → (k : ℕ) → k ≡ max at.deepest (suc at.brackets) → Moves at c (Some (record { wanted = 1; value = 0; brackets = at.brackets + 1; deepest = k }))
    front_open e k q =
        record { is = sym (before_byte_lem at.brackets at.deepest c at.wanted at.value h ∙ rw (e, q, add-one at.brackets) refl); keeps = (wanting (at.brackets + 1) k, omega arith) }

    module _ (m : is_name c ≡ false) (o : c ≢ 40) where
      pub front_on : (eqb c 32 || eqb c 45) ≡ true → Moves at c (Some at)
      front_on e =
          record { is = sym (before_byte_lem at.brackets at.deepest c at.wanted at.value h ∙ rw (g, m, eqb_other c 40 o, e, mode_before at.wanted at.value h) refl); keeps = (legal, omega arith) }

      pub front_none : (eqb c 32 || eqb c 45) ≡ false → Moves at c None
      front_none e = record { is = sym (before_byte_lem at.brackets at.deepest c at.wanted at.value h ∙ rw (g, m, eqb_other c 40 o, e) refl); keeps = tt }

  module _ (h : at.wanted ≡ 0) (g : is_digit c ≡ false) where
    on : scan_byte (standing (mode_of at.wanted at.value) at.brackets at.deepest) c ≡ after_byte at.brackets at.deepest c
    on = behind_byte at.brackets at.deepest c at.wanted at.value h g

    pub behind_sign : is_sign c ≡ true → Moves at c (Some (record { wanted = 1; value = 0; brackets = at.brackets; deepest = at.deepest }))
    behind_sign e = record { is = sym (on ∙ rw e refl); keeps = (wanting at.brackets at.deepest, omega arith) }

    pub behind_space : c ≡ 32 → Moves at c (Some (record { wanted = 0; value = 4294967296; brackets = at.brackets; deepest = at.deepest }))
    behind_space e = record { is = sym (on ∙ rw e refl); keeps = (complete at.brackets at.deepest, omega arith) }

    pub behind_none : is_sign c ≡ false → c ≢ 41 → c ≢ 32 → Moves at c None
    behind_none e p q = record { is = sym (on ∙ rw (e, eqb_other c 41 p, eqb_other c 32 q) refl); keeps = tt }

    pub behind_shut : c ≡ 41 → at.brackets ≡ 0 → Moves at c None
    behind_shut e z = record { is = sym (on ∙ rw (e, z) refl); keeps = tt }

    pub behind_close : c ≡ 41 → at.brackets ≢ 0 → Moves at c (Some (record { wanted = 0; value = 4294967296; brackets = at.brackets - 1; deepest = at.deepest }))
    behind_close e z = record { is = sym (on ∙ rw e (closed at.brackets z)); keeps = (complete (at.brackets - 1) at.deepest, omega arith) }
      where
        closed : (n : ℕ) → n ≢ 0 → close_one n at.deepest ≡ some (standing (mode_of 0 4294967296) (n - 1) at.deepest)
        closed zero q = absurd (q refl)
        closed (suc n) q = let e : suc n - 1 ≡ n = omega arith in rw e refl

-- ---- the line

-- where a line may end
accepting : (w v n d : ℕ) → w ≡ 0 → n ≡ 0 → Accepting (standing (mode_of w v) n d)
accepting zero v n d p q = decide (leb v 4294967295) (λ e. rw e q) (λ e. rw e q)
accepting (suc w) v n d p q = absurd (omega arith)

accepted : (w v n d : ℕ) → Accepting (standing (mode_of w v) n d) → (w ≡ 0) × (n ≡ 0)
accepted zero v n d a = (refl, decide (leb v 4294967295) (λ e. rw e at a) (λ e. rw e at a))
accepted (suc w) v n d a = absurd a

module _ (line : List ℕ) (i : ℕ) (at : State) (is : scanned at_start (take i line) ≡ some (state_of at)) where
  module _ (l : i < length line) (r : found.Option State) (m : Moves at (get_or line i 0) r) where
    pub stops : r ≡ None → Stopped line i
    stops e = stops_exact line (state_of at) i l is (sym m.is ∙ ap step_of e)

    pub goes_on : (next : State) → r ≡ Some next → at.brackets ≤ i → (i + 1 ≤ length line) × Legal next × (next.brackets ≤ i + 1) × (scanned at_start (take (i + 1) line) ≡ some (state_of next))
    goes_on next e b =
        let k : Keeps at.brackets (Some next) = rw e at m.keeps in
        (omega arith, k.0, omega arith, rw (add-one i) (scanned_byte line (state_of at) i l is ∙ sym m.is ∙ ap step_of e))

  module _ (u : i ≤ length line) (l : length line ≤ i) where
    z : i ≡ length line
    z = omega arith

    all : scanned at_start line ≡ some (state_of at)
    all = rw (z, take-length line) at is

    pub early : (not (eqb at.wanted 0) || not (eqb at.brackets 0)) ≡ true → Stopped line i
    early e =
        rw z (ends_early line (state_of at) all (λ a. let y = accepted at.wanted at.value at.brackets at.deepest a in false_true (rw (y.0, y.1) at e)))

    pub whole : (not (eqb at.wanted 0) || not (eqb at.brackets 0)) ≡ false → Reads line at.deepest
    whole e =
        let y = or_neither (not (eqb at.wanted 0)) (not (eqb at.brackets 0)) e in
        accepts_exact line (state_of at) all (accepting at.wanted at.value at.brackets at.deepest (eqb_is at.wanted 0 (not_false (eqb at.wanted 0) y.0)) (eqb_is at.brackets 0 (not_false (eqb at.brackets 0) y.1)))
