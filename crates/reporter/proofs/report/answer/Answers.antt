use Rattle.reporter.proofs.Answering.{entry_loops, function_loops, too_short, reported}
use native.Mathlib.Omega.{arith}
use Rattle.reporter.proofs.report.answer.Goals as goal

pub returns-then-b-eq0 : goal.returns-then-b-eq0
returns-then-b-eq0 c = entry_loops c.args.n c.args.marks.now c.args.need.now c.args.frames.now _ c.first_looping-b.ensures c.args.out.now c.if-b-eq0.true

pub returns-then-b-n : goal.returns-then-b-n
returns-then-b-n c = function_loops c.args.n c.args.marks.now c.args.need.now c.args.frames.now _ c.first_looping-b.ensures c.args.out.now _ (omega (arith, c.if-b-eq0.false)) c.if-b-n.true

pub returns-then-out-n : goal.returns-then-out-n
returns-then-out-n c = too_short c.args.n c.args.marks.now c.args.need.now c.args.frames.now _ c.first_looping-b.ensures c.args.out.now (omega (arith, c.if-b-n.false)) c.if-out-n.true

pub returns : goal.returns
returns c = reported c.args.n c.args.marks.now c.args.need.now c.args.frames.now _ c.first_looping-b.ensures c.args.out.now (omega (arith, c.if-b-n.false)) _ _ (omega (arith, c.if-out-n.false)) (omega arith) c.put_words.ensures
