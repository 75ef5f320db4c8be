-- The proof of `memory::load64`.
use native.Mathlib.Omega.{arith}
use Rattle.memory.proofs.Words.{word_8}
use Rattle.memory.proofs.load64.Goals as goal

pub returns : goal.returns
returns c = omega (arith, word_8 c.args.s.now c.args.at)
