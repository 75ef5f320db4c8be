-- The proof of `memory::load32_padded`.
use native.Mathlib.Omega.{arith}
use mathlib.Core.Path.{◌∙◌}
use lib.ListN.{get_or-eq_default}
use Rattle.memory.proofs.Words.{part, word_4, word_out, word_part}
use Rattle.memory.proofs.load32_padded.Goals as goal

pub returns-then-s-at : goal.returns-then-s-at
returns-then-s-at c = omega (arith, word_out 4 c.args.s.now c.args.at c.if-s-at.true)

pub returns-then-t-ge4 : goal.returns-then-t-ge4
returns-then-t-ge4 c = (c.load32.ensures.0 ∙ word_part 4 c.args.s.now c.args.at, c.load32.ensures.1)

pub returns : goal.returns
returns c = let s = c.args.s.now in let at = c.args.at in
    let out = get_or-eq_default (part s at) 0 {n = 3} (omega arith) in
    omega (arith, word_part 4 s at, word_4 (part s at) 0, out, c.from_le_bytes.ensures)
