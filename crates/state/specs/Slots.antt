-- A slot written to lent memory.
use Rattle.std.specs.Prelude.{ℕ, ◌*◌, List, set}
use Rattle.rules.specs.declared.Slot.{Slot}
use Rattle.rules.specs.Bytes.{written}

unfoldable pub payloads_with : List ℕ → ℕ → Slot → List ℕ
payloads_with p i v = written 8 p (i * 8) v.payload

unfoldable pub types_with : List ℕ → ℕ → Slot → List ℕ
types_with t i v = set t i v.kind
