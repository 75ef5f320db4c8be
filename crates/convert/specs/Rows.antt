-- What is put, and what the tests of a file leave.
use Rattle.std.specs.Prelude.{◌≡◌, ℕ, ◌+◌, Bool, true, false, List, ◌++◌, take, drop}
use Rattle.rules.specs.Bytes.{cut}
use Rattle.rules.specs.Tables.{first_of}
use Rattle.rules.specs.ModuleFile.{edition, tables_in}
use Rattle.rules.specs.Converting.{refusal_in, not_in_third, down_refusal}
use Rattle.format.specs.declared.Sections.{Sections}
use Rattle.format.specs.Layout.{header_tests, Packed}

-- o with the first 20 bytes of the record at byte b of a table in the place of those from a on
abbrev pub record_put : List ℕ → ℕ → List ℕ → ℕ → List ℕ
record_put o a fs b = take a o ++ (cut fs b 20 ++ drop (a + 20) o)

-- r is 0 where the file s is of edition e; else it is the refusal
pub record FirstRows (e : ℕ) (s : List ℕ) (r : ℕ) : Type 0 where
  pub passes : r ≡ 0 → edition s ≡ e
  pub refuses : (r ≡ 0 → ⊥) → r ≡ refusal_in e s

-- c has the sections of a file of edition 4 of which rows 1 to 5 don't hold
pub record Headed (s : List ℕ) (c : Sections) : Type 0 where
  pub packed : Packed s c
  pub fourth : edition s ≡ 4
  pub rows : first_of 1 (header_tests s) ≡ 0

-- r says whether such a file may go down; if so it has no structures
pub record GoesDown (s : List ℕ) (c : Sections) (r : Bool) : Type 0 where
  pub allowed : r ≡ true → down_refusal s ≡ 0
  pub bare : r ≡ true → c.structures ≡ 0
  pub newer : r ≡ false → refusal_in 4 s ≡ 0 → not_in_third (tables_in s) ≡ true
