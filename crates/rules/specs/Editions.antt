-- A table that is not of the paper: 02's A5, edition 1 beside edition 3. (Edition 4 is in `Heaps`.)
use Rattle.std.specs.Prelude.{◌≡◌, refl, ℕ, ◌-◌, ◌^◌, List, [], ◌∷◌, ◌++◌}
use Rattle.rules.specs.Bytes.{bytes}
use Rattle.rules.specs.Stack.{Slot, slot, slots_of}
use Rattle.rules.specs.Answers.{CheckAnswer, Refused, Untyped, Accepted, RunAnswer, Rejected, Stopped, Finished, Ran}
use Rattle.rules.specs.Files.{PUSH, POP, LOAD, STORE, function, file_in, scratch}
use Rattle.rules.specs.Evaluate.{check_now, run_now}

-- ints 0, 1, 5, -1; longs 0, 7, -1; doubles 1.5, 2 ^ 53 and a NaN
abbrev constants : List (ℕ × ℕ)
constants =
    (3, 0) ∷ (3, 1) ∷ (3, 5) ∷ (3, 0xffffffff) ∷ (4, 0) ∷ (4, 7) ∷ (4, 2 ^ 64 - 1)
    ∷ (6, 0x3ff8000000000000) ∷ (6, 0x4340000000000000) ∷ (6, 0xfff0000000000001) ∷ []

-- this entry in edition e, where `ret` is r; function 0 gives back the int that it takes; label 0 is the entry's start
abbrev recipe : ℕ → ℕ → List ℕ → List ℕ
recipe e r code = file_in e constants (function (3 ∷ []) 3 (LOAD 0 ++ (r ∷ [])) ∷ []) ((0xffffffff, 0) ∷ []) code

-- what a check, and a run of the entry with allowance 10 and 4 slots, show: the check's answer; the run's number, its steps and
-- the slots left, topmost first
pub record Shown : Type 0 where
  pub answer : CheckAnswer
  pub number : ℕ
  pub steps : ℕ
  pub left : List Slot

abbrev shows : CheckAnswer → ℕ → ℕ → List Slot → Shown
shows a n k vs = record { answer = a; number = n; steps = k; left = vs }

abbrev shown_of : CheckAnswer → RunAnswer → List ℕ → List ℕ → Shown
shown_of a (Rejected n) p t = shows a n 0 []
shown_of a (Stopped n k) p t = shows a n k.steps (slots_of p t k.height)
shown_of a (Finished k) p t = shows a 0 k.steps (slots_of p t k.height)

unfoldable pub shown : List ℕ → Shown
unfolding check_now run_now
shown s =
    let x : Ran = run_now s 0xffffffff (record { payloads = []; types = [] }) 10 (scratch 4) in
    shown_of (check_now s (scratch 8).payloads).answer x.answer x.stack.payloads x.stack.types

-- ---- one recipe in both editions: an opcode's number in edition 1 and in edition 3, the code before and after it, which has only
-- opcodes that are the same in both, and what both editions show

pub record Row : Type 0 where
  pub first : ℕ
  pub third : ℕ
  pub before : List ℕ
  pub after : List ℕ
  pub gives : Shown

abbrev row : ℕ → ℕ → List ℕ → List ℕ → Shown → Row
row i j b a g = record { first = i; third = j; before = b; after = a; gives = g }

-- on -1 and 5 above it; on 5 alone
abbrev two : ℕ → ℕ → ℕ → Row
two i j v = row i j (PUSH 3 ++ PUSH 2) [] (shows Accepted 0 3 (slot 3 v ∷ []))

abbrev one : ℕ → ℕ → Slot → Row
one i j v = row i j (PUSH 2) [] (shows Accepted 0 2 (v ∷ []))

-- a branch to the entry's start on constant k: taken, it goes round until the allowance is used up
abbrev taken : ℕ → ℕ → ℕ → Row
taken i j k = row i j (PUSH k) (bytes 4 0) (shows Accepted 15 10 [])

abbrev passed : ℕ → ℕ → ℕ → Row
passed i j k = row i j (PUSH k) (bytes 4 0) (shows Accepted 0 2 [])

pub rows : List Row
rows =
    -- push, pop, load, store
    row 0x01 0x01 [] (bytes 4 2) (shows Accepted 0 1 (slot 3 5 ∷ [])) ∷ row 0x02 0x02 (PUSH 2) [] (shows Accepted 0 2 [])
    ∷ row 0x03 0x03 (PUSH 2 ++ STORE 0) (bytes 4 0) (shows Accepted 0 3 (slot 3 5 ∷ slot 3 5 ∷ [])) ∷ row 0x04 0x04 (PUSH 2) (bytes 4 0 ++ POP) (shows (Untyped 0xffffffff) 21 2 (slot 3 5 ∷ []))
    -- add, sub, mul, imul, div, idiv, mod, imod, neg
    ∷ two 0x05 0x0b 4 ∷ two 0x06 0x0c 0xfffffffa ∷ two 0x07 0x0d 0xfffffffb ∷ two 0x08 0x0e 0xfffffffb ∷ two 0x09 0x0f 0x33333333 ∷ two 0x0a 0x10 0 ∷ two 0x0b 0x11 0 ∷ two 0x0c 0x12 0xffffffff
    ∷ one 0x0d 0x13 (slot 3 0xfffffffb)
    -- and, or, xor, not, shl, sal, shr, sar, cmp, icmp
    ∷ two 0x10 0x16 5 ∷ two 0x11 0x17 0xffffffff ∷ two 0x12 0x18 0xfffffffa ∷ one 0x13 0x19 (slot 3 0xfffffffa) ∷ two 0x14 0x1a 0xffffffe0 ∷ two 0x15 0x1b 0xffffffe0 ∷ two 0x16 0x1c 0x07ffffff ∷ two 0x17 0x1d 0xffffffff
    ∷ two 0x18 0x1e 1 ∷ two 0x19 0x1f 0xffffffff
    -- jmp; je, jne, ja, jae, jb, jbe on 0, 1, -1
    ∷ row 0x1a 0x20 [] (bytes 4 0) (shows Accepted 15 10 [])
    ∷ taken 0x1b 0x21 0 ∷ passed 0x1b 0x21 1 ∷ passed 0x1b 0x21 3 ∷ passed 0x1c 0x22 0 ∷ taken 0x1c 0x22 1 ∷ taken 0x1c 0x22 3 ∷ passed 0x1d 0x23 0 ∷ taken 0x1d 0x23 1 ∷ passed 0x1d 0x23 3
    ∷ taken 0x1e 0x24 0 ∷ taken 0x1e 0x24 1 ∷ passed 0x1e 0x24 3 ∷ passed 0x1f 0x25 0 ∷ passed 0x1f 0x25 1 ∷ taken 0x1f 0x25 3 ∷ taken 0x20 0x26 0 ∷ passed 0x20 0x26 1 ∷ taken 0x20 0x26 3
    -- call, ret, toi, tol, tod
    ∷ row 0x21 0x27 (PUSH 2) (bytes 4 0) (shows Accepted 0 4 (slot 3 5 ∷ [])) ∷ row 0x22 0x28 [] [] (shows (Untyped 0xffffffff) 30 0 [])
    ∷ row 0x23 0x2b (PUSH 7) [] (shows Accepted 0 2 (slot 3 1 ∷ [])) ∷ one 0x24 0x2c (slot 4 5) ∷ one 0x25 0x2e (slot 6 0x4014000000000000)
    -- 24; "A2 holds in both"
    ∷ row 0x09 0x0f (PUSH 2 ++ PUSH 0) [] (shows Accepted 24 2 (slot 3 0 ∷ slot 3 5 ∷ []))
    ∷ row 0x18 0x1e (PUSH 7 ++ PUSH 9) [] (shows Accepted 35 2 (slot 6 0xfff0000000000001 ∷ slot 6 0x3ff8000000000000 ∷ [])) ∷ row 0x19 0x1f (PUSH 9 ++ PUSH 7) [] (shows Accepted 35 2 (slot 6 0x3ff8000000000000 ∷ slot 6 0xfff0000000000001 ∷ []))
    ∷ []

pub computed : List Row → List (Shown × Shown)
unfolding shown
computed [] = []
computed (r ∷ rs) = (shown (recipe 1 0x22 (r.before ++ (r.first ∷ r.after))), shown (recipe 3 0x28 (r.before ++ (r.third ∷ r.after)))) ∷ computed rs

pub expected : List Row → List (Shown × Shown)
expected [] = []
expected (r ∷ rs) = (r.gives, r.gives) ∷ expected rs

pub table : computed rows ≡ expected rows
unfolding computed expected rows
table = refl

-- ---- edition 1 alone: a file and what it shows

-- `inc` (0E) and `dec` (0F) of constant k
abbrev counted : ℕ → ℕ → Slot → List ℕ × Shown
counted i k v = (recipe 1 0x22 (PUSH k ++ (i ∷ [])), shows Accepted 0 2 (v ∷ []))

abbrev refused : ℕ → List ℕ → List ℕ × Shown
refused n s = (s, shows (Refused n) n 0 [])

pub old_rows : List (List ℕ × Shown)
old_rows =
    -- "`inc` and `dec` change the top value itself": "by 1 wrapping or by 1.0 rounded once"
    counted 0x0e 2 (slot 3 6) ∷ counted 0x0e 3 (slot 3 0) ∷ counted 0x0f 2 (slot 3 4) ∷ counted 0x0f 0 (slot 3 0xffffffff)
    ∷ counted 0x0e 5 (slot 4 8) ∷ counted 0x0e 6 (slot 4 0) ∷ counted 0x0f 5 (slot 4 6) ∷ counted 0x0f 4 (slot 4 (2 ^ 64 - 1))
    ∷ counted 0x0e 7 (slot 6 0x4004000000000000) ∷ counted 0x0f 7 (slot 6 0x3fe0000000000000) ∷ counted 0x0e 8 (slot 6 0x4340000000000000) ∷ counted 0x0e 9 (slot 6 0x7ff8000000000000) ∷ counted 0x0f 9 (slot 6 0x7ff8000000000000)
    -- 21: nothing on the stack; a local on top
    ∷ (recipe 1 0x22 (0x0e ∷ []), shows (Untyped 0xffffffff) 21 0 []) ∷ (recipe 1 0x22 (0x0f ∷ []), shows (Untyped 0xffffffff) 21 0 []) ∷ (recipe 1 0x22 (PUSH 2 ++ (STORE 0 ++ (0x0e ∷ []))), shows (Untyped 0xffffffff) 21 2 (slot 3 5 ∷ []))
    -- what `inc` leaves is of the type that it took: it is added to a long, it is an argument
    ∷ (recipe 1 0x22 (PUSH 5 ++ (PUSH 5 ++ (0x0e ∷ 0x05 ∷ []))), shows Accepted 0 4 (slot 4 15 ∷ [])) ∷ (recipe 1 0x22 (PUSH 2 ++ (0x0e ∷ 0x21 ∷ bytes 4 0)), shows Accepted 0 5 (slot 3 6 ∷ []))
    ∷ (recipe 1 0x22 (PUSH 5 ++ (0x0e ∷ 0x21 ∷ bytes 4 0)), shows (Untyped 0xffffffff) 22 2 (slot 4 8 ∷ []))
    -- 26 hex is no opcode; a pointer parameter; no edition
    ∷ refused 8 (recipe 1 0x22 (0x26 ∷ [])) ∷ refused 8 (recipe 1 0x28 []) ∷ refused 7 (file_in 1 [] (function (131 ∷ []) 0 (0x22 ∷ []) ∷ []) [] [])
    ∷ refused 2 (recipe 0 0x22 POP) ∷ refused 2 (recipe 2 0x22 POP) ∷ refused 2 (recipe 5 0x22 POP)
    ∷ []

pub old_computed : List (List ℕ × Shown) → List Shown
unfolding shown
old_computed [] = []
old_computed (r ∷ rs) = shown r.0 ∷ old_computed rs

pub old_expected : List (List ℕ × Shown) → List Shown
old_expected [] = []
old_expected (r ∷ rs) = r.1 ∷ old_expected rs

pub old_table : old_computed old_rows ≡ old_expected old_rows
unfolding old_computed old_expected old_rows
old_table = refl
