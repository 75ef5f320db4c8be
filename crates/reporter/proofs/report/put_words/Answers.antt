use Rattle.reporter.proofs.Answering.{words_next}
use Rattle.reporter.proofs.Answering.{words_none}
use Rattle.reporter.specs.Told.{row_words}
use lib.ListN.{drop}
use mathlib.Core.List.{◌++◌}
use mathlib.Core.Path.{◌≡◌, refl, ◌∙◌, ap}
use Prim.Native.Nat.{suc, ◌*◌}
use native.Mathlib.Omega.{arith}
use Rattle.reporter.proofs.report.put_words.Goals as goal

pub loop-b-init : goal.loop-b-init
loop-b-init c = (words_none _ _ _ _ refl, refl)

pub loop-b-preserved : goal.loop-b-preserved
loop-b-preserved c = let e = words_next c.args.need.now c.args.frames.now c.args.out.now c.loop-b.b c.loop-b.out _ _ (omega arith) c.loop-b.invariant.0 c.loop-b.invariant.1 c.store32.ensures c.store32-in-loop-b.ensures in (e.0, e.1)

pub returns : goal.returns
returns c = let e : c.loop-b.b ≡ suc c.args.n = omega arith in c.loop-b.invariant.0 ∙ ap (λ z. row_words c.args.need.now c.args.frames.now z ++ drop (8 * z) c.args.out.now) e
