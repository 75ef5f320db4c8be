-- The proof of `reader::blocks::all_bare`.
use native.Mathlib.Omega.{arith}
use mathlib.Core.Path.{◌≡◌, ◌∙◌, ap}
use Rattle.reader.proofs.BareRuns.{bare_none, bare_next}
use Rattle.reader.specs.Cut.{all_bare}
use Rattle.reader.proofs.blocks.all_bare.Goals as goal

pub loop-i-init : goal.loop-i-init
loop-i-init c = bare_none _ _ _

pub loop-i-preserved : goal.loop-i-preserved
loop-i-preserved c = bare_next c.args.edition c.args.code.now c.args.p c.loop-i.i _ _ c.loop-i.invariant c.bare-g.ensures

pub returns : goal.returns
returns c = let n : c.loop-i.i ≡ 16 = omega arith in
    c.loop-i.invariant ∙ ap (all_bare c.args.edition c.args.code.now c.args.p) n
