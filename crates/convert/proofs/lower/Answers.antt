-- The proof of `convert::lower`.
use native.Mathlib.Omega.{arith}
use mathlib.Core.Path.{refl, ap}
use Rattle.format.proofs.Gathered.{some_none, some_more, some_end}
use Rattle.rules.specs.Converting.{profiled}
use Rattle.rules.specs.Tables.{differs}
use Rattle.convert.proofs.Records.{lower_none, lower_more, lower_end}
use Rattle.convert.proofs.lower.Goals as goal

pub loop-i-init : goal.loop-i-init
loop-i-init c = (omega arith, lower_none _ _, refl, some_none _)

pub put_record-requires : goal.put_record-requires
put_record-requires c = (omega arith, omega arith)

pub loop-i-preserved : goal.loop-i-preserved
loop-i-preserved c = let next = lower_more c.args.table.now c.args.out.now c.loop-i.out c.loop-i.i c.loop-i.invariant.1 (omega arith) (omega arith) _ c.put_record.ensures in
    (omega arith, next.0, next.1, some_more (profiled c.args.table.now) c.loop-i.i c.loop-i.found _ c.loop-i.invariant.3 (ap (λ x. differs x 0) c.load32-profile.ensures.0))

pub shape_of-out : goal.shape_of-out
shape_of-out c = c.loop-i.invariant.2

pub returns : goal.returns
returns c = record { out_after = lower_end c.args.table.now c.args.out.now c.loop-i.out c.loop-i.i c.args.n c.loop-i.invariant.1 (omega arith) (omega arith) (omega arith); value = some_end (profiled c.args.table.now) c.loop-i.i c.args.n c.args.n c.loop-i.found c.loop-i.invariant.3 (omega arith) (omega arith) refl }
