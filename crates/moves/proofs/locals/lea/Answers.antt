use Rattle.moves.proofs.LocalLaws.{lea_25, lea_is}
use native.Mathlib.Omega.{arith}
use Prim.Native.Nat.{◌+◌}
use Rattle.moves.proofs.locals.lea.Goals as goal

pub returns-then-f-a : goal.returns-then-f-a
returns-then-f-a c = λ m. rw (← c.operand-n.ensures) (lea_25 _ _ _ _ _ c.requires.ready m _ c.if-f-a.true)

pub overflow_cast-s : goal.overflow_cast-s
overflow_cast-s c = omega (arith, c.shared_slice_known-4-1.given (c.args.r.frame + 4 + c.operand-n.result))

pub returns : goal.returns
returns c = λ m. rw (← c.operand-n.ensures) (lea_is _ _ _ _ _ c.requires.ready m _ c.if-f-a.false _ _ _ (c.pushed.ensures _ c.requires.ready))
