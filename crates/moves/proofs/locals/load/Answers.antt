use Rattle.moves.proofs.LocalLaws.{load_25, load_out, load_is}
use native.Mathlib.Omega.{arith}
use Prim.Native.Nat.{◌+◌}
use Rattle.moves.proofs.locals.load.Goals as goal

pub returns-then-f-a : goal.returns-then-f-a
returns-then-f-a c = λ m. rw (← c.operand-n.ensures) (load_25 _ _ _ _ _ c.requires.ready m _ c.if-f-a.true)

pub overflow_cast-s : goal.overflow_cast-s
overflow_cast-s c = omega (arith, c.shared_slice_known-4-1.given (c.args.r.frame + 4 + c.operand-n.result))

pub returns-then-r-s : goal.returns-then-r-s
returns-then-r-s c = λ m. rw (← c.operand-n.ensures) (load_out _ _ _ _ _ c.requires.ready m _ c.if-f-a.false c.if-r-s.true)

pub returns : goal.returns
returns c = λ m. rw (← c.operand-n.ensures) (load_is _ _ _ _ _ c.requires.ready m _ c.if-f-a.false _ _ _ _ c.if-r-s.false c.slot_at-v.ensures (c.pushed.ensures _ c.requires.ready))
