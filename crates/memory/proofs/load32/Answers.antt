-- The proof of `memory::load32`.
use native.Mathlib.Omega.{arith}
use Rattle.memory.proofs.Words.{word_4}
use Rattle.memory.proofs.load32.Goals as goal

pub returns : goal.returns
returns c = omega (arith, word_4 c.args.s.now c.args.at, c.from_le_bytes.ensures)
