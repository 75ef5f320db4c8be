-- 02, A10: the update's answer is the full check's.
use Rattle.std.specs.Prelude.{◌≡◌, refl, ◌≢◌, ◌⊎◌, ℕ, zero, suc, ◌+◌, ◌*◌, ◌/◌, ◌^◌, ◌≤◌, ◌<◌, Bool, false, cond, List, [], ◌∷◌, ◌++◌, length, get_or, set, drop, take, ltb, eqb}
use Rattle.std.proofs.Common.{sym, ap, ◌∙◌, subst, inl, inr, arith, pow-suc, length-set, get_or-set_same, get_or-set_other}
use Rattle.std.proofs.Math.Option.{Option, none, some}
use Rattle.rules.specs.Bytes.{bytes, byte, number, word, some_below}
use Rattle.rules.specs.Tables.{Body, entry, fn, body_of, Module}
use Rattle.rules.specs.ModuleFile.{refusal, functions, labels, read}
use Rattle.rules.specs.Typing.{start_of}
use Rattle.rules.specs.Check.{Table, check_body, bodies, functions_from, first_untyped}
use Rattle.rules.specs.Answers.{check, judged}
use Rattle.rules.specs.Demand3.{Typable}
use Rattle.soundness.specs.Tests.{decide, eqb_is, eqb_isnt, eqb_same, ltb_no}
use Rattle.soundness.specs.Exact.{typing_of, check_consistent, check_complete}
use Rattle.rules.specs.Recording.{flag, flag_of, flags_of, record_of, record_length, index_of, flag_at, record_differs, first_zero, updated, answer_from, recheck}
use Rattle.rechecks.specs.Same.{SameTables, SameBody, moved_typable}

-- ---- flags

number_bytes : (n v : ℕ) → v < 256 ^ n → number (bytes n v) ≡ v
number_bytes zero v h = omega (arith, h)
number_bytes (suc n) v h = let q : v / 256 < 256 ^ n = omega (arith, rw pow-suc at h) in omega (arith, number_bytes n (v / 256) q)

pub flag_typable : (m : Module) (b : Body) → flag_of m b ≡ 1 → Typable m b
unfolding flag_of
flag_typable m b e = go (check_body m b) refl e
  where
    go : (o : Option Table) → check_body m b ≡ o → flag o ≡ 1 → Typable m b
    go none q z = absurd (omega arith)
    go (some t) q z = (typing_of m b t, check_consistent m b t q)

pub typable_flag : (m : Module) (b : Body) → Typable m b → flag_of m b ≡ 1
unfolding flag_of
typable_flag m b t =
    let x : (out : Table) × (check_body m b ≡ some out) × ((p : ℕ) (l : _) → get_or out p none ≡ some l → t.0 p ≡ some l) = check_complete m b t.0 t.1 in rw x.1 refl

flag_either : (m : Module) (b : Body) → (flag_of m b ≡ 0) ⊎ (flag_of m b ≡ 1)
unfolding flag_of
flag_either m b = go (check_body m b)
  where
    go : (o : Option Table) → (flag o ≡ 0) ⊎ (flag o ≡ 1)
    go none = inl refl
    go (some t) = inr refl

-- ---- a body that was not edited

-- n functions in both; all but the body b the same, in both directions
pub record SameBut (m m' : Module) (n : ℕ) (b : Body) : Type 0 where
  pub tables : SameTables m m'
  pub tables' : SameTables m' m
  pub others : (c : Body) → index_of c < suc n → index_of c ≢ index_of b → SameBody m m' c
  pub others' : (c : Body) → index_of c < suc n → index_of c ≢ index_of b → SameBody m' m c

same_flag : (m m' : Module) (n : ℕ) (b : Body) → SameBut m m' n b → (c : Body) → index_of c < suc n → index_of c ≢ index_of b → flag_of m c ≡ flag_of m' c
same_flag m m' n b S c l d = go (flag_either m c) (flag_either m' c)
  where
    go : (flag_of m c ≡ 0) ⊎ (flag_of m c ≡ 1) → (flag_of m' c ≡ 0) ⊎ (flag_of m' c ≡ 1) → flag_of m c ≡ flag_of m' c
    go (inl x) (inl y) = x ∙ sym y
    go (inr x) (inr y) = x ∙ sym y
    go (inl x) (inr y) = let z : flag_of m c ≡ 1 = typable_flag m c (moved_typable m' m c S.tables' (S.others' c l d) (flag_typable m' c y)) in absurd (omega arith)
    go (inr x) (inl y) = let z : flag_of m' c ≡ 1 = typable_flag m' c (moved_typable m m' c S.tables (S.others c l d) (flag_typable m c x)) in absurd (omega arith)

-- ---- records that say what is so

-- its length, and each body's byte, are those of the module's own record
pub record Tells (m : Module) (n : ℕ) (r : List ℕ) : Type 0 where
  pub count : word 4 r 0 ≡ suc n
  pub offset : word 4 r 4 ≡ 8
  pub long : length r ≡ record_length n
  pub flags : (c : Body) → index_of c < suc n → flag_at r c ≡ flag_of m c

same_index : (b c : Body) → index_of b ≡ index_of c → b ≡ c
same_index entry entry e = refl
same_index entry (fn k) e = absurd (omega arith)
same_index (fn j) entry e = absurd (omega arith)
same_index (fn j) (fn k) e = let z : j ≡ k = omega arith in ap fn z

part_kept : (r : List ℕ) (i v k j : ℕ) → k + j ≤ i → take j (drop k (set r i v)) ≡ take j (drop k r)
part_kept [] i v k j h = refl
part_kept (x ∷ r) i v k zero h = refl
part_kept (x ∷ r) zero v k (suc j) h = absurd (omega arith)
part_kept (x ∷ r) (suc i) v zero (suc j) h = ap {B = List ℕ} (λ z. x ∷ z) (part_kept r i v 0 j (omega arith))
part_kept (x ∷ r) (suc i) v (suc k) (suc j) h = part_kept r i v k (suc j) (omega arith)

word_kept : (r : List ℕ) (i v k : ℕ) → k + 4 ≤ i → word 4 (set r i v) k ≡ word 4 r k
unfolding word
word_kept r i v k h = ap number (part_kept r i v k 4 h)

-- an update of a faithful record is faithful for the edited module
pub updated_faithful : (m m' : Module) (n : ℕ) (b : Body) (r : List ℕ) → index_of b < suc n → SameBut m m' n b → Tells m n r → Tells m' n (updated m' r b)
updated_faithful m m' n b r l S F =
    record { count = kept 0 (omega arith) ∙ F.count; offset = kept 4 (omega arith) ∙ F.offset; long = length-set r (8 + index_of b) (flag_of m' b) ∙ F.long; flags = λ c h. decide (eqb (index_of c) (index_of b)) (λ y. same c (same_index c b (eqb_is (index_of c) (index_of b) y))) (λ y. other c h (eqb_isnt (index_of c) (index_of b) y)) }
  where
    kept : (k : ℕ) → k + 4 ≤ 8 → word 4 (updated m' r b) k ≡ word 4 r k
    kept k h = word_kept r (8 + index_of b) (flag_of m' b) k (omega arith)

    inside : 8 + index_of b < length r
    inside = let z : length r ≡ record_length n = F.long in omega arith

    same : (c : Body) → c ≡ b → flag_at (updated m' r b) c ≡ flag_of m' c
    same c e = subst (λ z. flag_at (updated m' r b) z ≡ flag_of m' z) (sym e) (get_or-set_same r (8 + index_of b) (flag_of m' b) 0 inside)

    other : (c : Body) → index_of c < suc n → index_of c ≢ index_of b → flag_at (updated m' r b) c ≡ flag_of m' c
    other c h d = get_or-set_other r (8 + index_of b) (8 + index_of c) (flag_of m' b) 0 (λ z. d (omega arith)) ∙ F.flags c h ∙ same_flag m m' n b S c h d

-- the record of a full check is faithful
flags_functions : (m : Module) (n k : ℕ) (j : ℕ) → j < n → get_or (flags_of m (functions_from n k)) j 0 ≡ flag_of m (fn (k + j))
flags_functions m zero k j h = absurd (omega arith)
flags_functions m (suc n) k zero h = let z : k ≡ k + 0 = omega arith in ap (λ i. flag_of m (fn i)) z
flags_functions m (suc n) k (suc j) h = let z : suc k + j ≡ k + suc j = omega arith in flags_functions m n (suc k) j (omega arith) ∙ ap (λ i. flag_of m (fn i)) z

flags_length : (m : Module) (n k : ℕ) → length (flags_of m (functions_from n k)) ≡ n
flags_length m zero k = refl
flags_length m (suc n) k = ap suc (flags_length m n (suc k))

pub record_faithful : (m : Module) (n : ℕ) → suc n < 256 ^ 4 → Tells m n (record_of m n)
unfolding record_of word
record_faithful m n small = record { count = number_bytes 4 (suc n) small; offset = refl; long = (let z : length (flags_of m (functions_from n 0)) ≡ n = flags_length m n 0 in omega arith); flags = here }
  where
    here : (c : Body) → index_of c < suc n → flag_at (bytes 4 (suc n) ++ (bytes 4 8 ++ flags_of m (bodies n))) c ≡ flag_of m c
    here entry h = refl
    here (fn k) h = let z : 0 + k ≡ k = omega arith in tail k (omega arith) ∙ ap (λ i. flag_of m (fn i)) z
      where
        eight : (xs : List ℕ) (a b c d e f g i : ℕ) (k : ℕ) → get_or (a ∷ b ∷ c ∷ d ∷ e ∷ f ∷ g ∷ i ∷ xs) (8 + k) 0 ≡ get_or xs k 0
        eight xs a b c d e f g i k = let z : 8 + k ≡ suc (suc (suc (suc (suc (suc (suc (suc k))))))) = omega arith in ap (λ w. get_or (a ∷ b ∷ c ∷ d ∷ e ∷ f ∷ g ∷ i ∷ xs) w 0) z

        tail : (k : ℕ) → k < n → get_or (bytes 4 (suc n) ++ (bytes 4 8 ++ (flag_of m entry ∷ flags_of m (functions_from n 0)))) (8 + suc k) 0 ≡ flag_of m (fn (0 + k))
        tail k l = eight (flag_of m entry ∷ flags_of m (functions_from n 0)) _ _ _ _ _ _ _ _ (suc k) ∙ flags_functions m n 0 k l

-- ---- answers

one_same : (m : Module) (r : List ℕ) (b : Body) (x y : Option Body) → flag_at r b ≡ flag_of m b → x ≡ y
    → cond (eqb (flag_at r b) 0) (some b) x ≡ (elim (check_body m b) as (λ z. Option Body) [ none ↦ some b | some t ↦ y ])
unfolding flag_of
one_same m r b x y e q = go (check_body m b) e
  where
    go : (o : Option Table) → flag_at r b ≡ flag o → cond (eqb (flag_at r b) 0) (some b) x ≡ (elim o as (λ z. Option Body) [ none ↦ some b | some t ↦ y ])
    go none z = rw z refl
    go (some t) z = rw z q

first_functions : (m : Module) (n : ℕ) (r : List ℕ) → Tells m n r → (j k : ℕ) → k + j ≤ n → first_zero r (functions_from j k) ≡ first_untyped m (functions_from j k)
unfolding first_untyped
first_functions m n r F zero k h = refl
first_functions m n r F (suc j) k h =
    one_same m r (fn k) (first_zero r (functions_from j (suc k))) (first_untyped m (functions_from j (suc k))) (F.flags (fn k) (omega arith)) (first_functions m n r F j (suc k) (omega arith))

pub first_same : (m : Module) (n : ℕ) (r : List ℕ) → Tells m n r → first_zero r (bodies n) ≡ first_untyped m (bodies n)
unfolding first_untyped
first_same m n r F = one_same m r entry (first_zero r (functions_from n 0)) (first_untyped m (functions_from n 0)) (F.flags entry (omega arith)) (first_functions m n r F n 0 (omega arith))

-- a faithful record is not refused by 45
none_below : (n : ℕ) (f : ℕ → Bool) → ((i : ℕ) → i < n → f i ≡ false) → some_below n f ≡ false
unfolding some_below
none_below zero f h = refl
none_below (suc n) f h = let a : some_below n f ≡ false = none_below n f (λ i l. h i (omega arith)) in let b : f n ≡ false = h n (omega arith) in rw (a, b)

pub faithful_good : (m : Module) (n : ℕ) (r : List ℕ) → Tells m n r → record_differs n r ≡ false
unfolding record_differs
faithful_good m n r F =
    rw (F.count, F.offset, F.long, eqb_same (suc n), eqb_same (record_length n)) (none_below (suc n) (λ i. ltb 1 (byte r (8 + i))) (λ i l. low i l))
  where
    small : (b : Body) → index_of b < suc n → ltb 1 (flag_at r b) ≡ false
    small b l = ltb_no 1 (flag_at r b) (go (flag_either m b))
      where
        go : (flag_of m b ≡ 0) ⊎ (flag_of m b ≡ 1) → flag_at r b ≤ 1
        go (inl z) = let w : flag_at r b ≡ flag_of m b = F.flags b l in omega arith
        go (inr z) = let w : flag_at r b ≡ flag_of m b = F.flags b l in omega arith

    low : (i : ℕ) → i < suc n → ltb 1 (byte r (8 + i)) ≡ false
    low zero l = small entry l
    low (suc k) l = small (fn k) l

-- the full check's answer, where the module can be read and the room is enough
pub full_answer : (s room : List ℕ) → refusal s ≡ 0 → 64 * labels s ≤ length room → (check s room).answer ≡ answer_from (first_untyped (read s) (bodies (functions s)))
unfolding check
full_answer s room e l = rw e (rw (ltb_no (length room) (64 * labels s) l) (go (first_untyped (read s) (bodies (functions s)))))
  where
    go : (o : Option Body) → (judged s room o).answer ≡ answer_from o
    go none = refl
    go (some b) = refl

-- A10: s is the module before, s' the edited one, f the body that was edited. The record r is faithful for s: it came from a full check
-- (`record_faithful`), or from an update of which this holds, as the record after is faithful for s'.
pub recheck_is : (s s' r : List ℕ) (f : ℕ) → refusal s' ≡ 0 → (x : _) → start_of (read s') (body_of f) ≡ some x → functions s' ≡ functions s → index_of (body_of f) < suc (functions s)
    → SameBut (read s) (read s') (functions s) (body_of f) → Tells (read s) (functions s) r
    → ((room : List ℕ) → 64 * labels s' ≤ length room → (recheck s' r f).answer ≡ (check s' room).answer) × Tells (read s') (functions s') (recheck s' r f).beside
unfolding recheck
recheck_is s s' r f e x st n i S F =
    let G : Tells (read s') (functions s) (updated (read s') r (body_of f)) = updated_faithful (read s) (read s') (functions s) (body_of f) r i S F in
    let H : Tells (read s') (functions s') (updated (read s') r (body_of f)) = subst (λ k. Tells (read s') k (updated (read s') r (body_of f))) (sym n) G in
    let good : record_differs (functions s') r ≡ false = ap (λ k. record_differs k r) n ∙ faithful_good (read s) (functions s) r F in
    ((λ room l. rw (e, st, good) (ap answer_from (first_same (read s') (functions s') (updated (read s') r (body_of f)) H)) ∙ sym (full_answer s' room e l)), rw (e, st, good) H)
