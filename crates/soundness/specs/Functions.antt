-- The records of a function table, which are longer in edition 4: where they stand, and how many there are.
use Rattle.std.specs.Prelude.{◌≡◌, ℕ, ◌+◌, ◌*◌, ◌/◌, ◌%◌, ◌≤◌, ◌<◌, List, length, eqb}
use Rattle.std.proofs.Common.{arith}
use Rattle.rules.specs.Tables.{function_size, function_count, function_at}
use Rattle.soundness.specs.Tests.{decide}

pub size_least : (e : ℕ) → 20 ≤ function_size e
size_least e = decide (eqb e 4) (λ y. rw y (omega arith)) (λ y. rw y (omega arith))

pub size_most : (e : ℕ) → function_size e ≤ 24
size_most e = decide (eqb e 4) (λ y. rw y (omega arith)) (λ y. rw y (omega arith))

-- of n records there are n, and none is broken
pub count_records : (e n : ℕ) → function_size e * n / function_size e ≡ n
count_records e n = decide (eqb e 4) (λ y. rw y (omega arith)) (λ y. rw y (omega arith))

pub no_rest : (e n : ℕ) → function_size e * n % function_size e ≡ 0
no_rest e n = decide (eqb e 4) (λ y. rw y (omega arith)) (λ y. rw y (omega arith))

-- a table of F bytes
pub records_fill : (e F : ℕ) → F % function_size e ≡ 0 → function_size e * (F / function_size e) ≡ F
records_fill e F = decide (eqb e 4) (λ y. rw y (λ h. omega arith)) (λ y. rw y (λ h. omega arith))

pub records_whole : (e F : ℕ) → function_size e * (F / function_size e) ≡ F → F % function_size e ≡ 0
records_whole e F = decide (eqb e 4) (λ y. rw y (λ h. omega arith)) (λ y. rw y (λ h. omega arith))

pub count_most : (e F n : ℕ) → F ≤ function_size e * n → F / function_size e ≤ n
count_most e F n = decide (eqb e 4) (λ y. rw y (λ h. omega arith)) (λ y. rw y (λ h. omega arith))

pub count_under : (e F : ℕ) → F / function_size e ≤ F
count_under e F = decide (eqb e 4) (λ y. rw y (omega arith)) (λ y. rw y (omega arith))

-- so many records are so long at most, with what is left of another
pub length_most : (e F n : ℕ) → F / function_size e ≤ n → F ≤ 24 * n + 23
length_most e F n = decide (eqb e 4) (λ y. rw y (λ h. omega arith)) (λ y. rw y (λ h. omega arith))

-- the records that are counted are at most as long as the table
pub counted_most : (e F : ℕ) → function_size e * (F / function_size e) ≤ F
counted_most e F = decide (eqb e 4) (λ y. rw y (omega arith)) (λ y. rw y (omega arith))

-- a record that is counted lies in the table
pub record_inside : (e F k : ℕ) → k < F / function_size e → function_at e k + function_size e ≤ F
record_inside e F k = decide (eqb e 4) (λ y. rw y (λ h. omega arith)) (λ y. rw y (λ h. omega arith))

-- and twenty of its bytes at least
pub record_bytes_lem : (e : ℕ) (fs : List ℕ) (k : ℕ) → k < function_count e fs → function_at e k + 20 ≤ length fs
record_bytes_lem e fs k h =
    let a : function_at e k + function_size e ≤ length fs = record_inside e (length fs) k h in let b : 20 ≤ function_size e = size_least e in omega arith
