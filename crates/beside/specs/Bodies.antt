-- What the functions over a record promise: bodies by number, and its bytes.
use Rattle.std.specs.Prelude.{ℕ, zero, suc, Bool, true, false, List}
use Rattle.rules.specs.Bytes.{written}
use Rattle.rules.specs.Tables.{Body, entry, fn}

-- the body whose byte is the i-th
abbrev pub body_at : ℕ → Body
body_at zero = entry
body_at (suc k) = fn k

abbrev pub bit : Bool → ℕ
bit true = 1
bit false = 0

-- count and offset written
abbrev pub headed : List ℕ → ℕ → List ℕ
headed r n = written 4 (written 4 r 0 n) 4 8
