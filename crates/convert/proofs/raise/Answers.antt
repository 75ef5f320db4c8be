-- The proof of `convert::raise`.
use native.Mathlib.Omega.{arith}
use mathlib.Core.Path.{refl}
use Rattle.convert.proofs.Records.{raise_none, raise_more, raise_end}
use Rattle.convert.proofs.raise.Goals as goal

pub loop-i-init : goal.loop-i-init
loop-i-init c = (omega arith, raise_none _ _, refl)

pub put_record-requires : goal.put_record-requires
put_record-requires c = (omega arith, omega arith)

pub loop-i-preserved : goal.loop-i-preserved
loop-i-preserved c = let next = raise_more c.args.table.now c.args.out.now c.loop-i.out c.loop-i.i c.loop-i.invariant.1 (omega arith) (omega arith) _ c.put_record.ensures _ c.store32.ensures in
    (omega arith, next.0, next.1)

pub shape_of-out : goal.shape_of-out
shape_of-out c = c.loop-i.invariant.2

pub returns : goal.returns
returns c = raise_end c.args.table.now c.args.out.now c.loop-i.out c.loop-i.i c.args.n c.loop-i.invariant.1 (omega arith) (omega arith) (omega arith)
