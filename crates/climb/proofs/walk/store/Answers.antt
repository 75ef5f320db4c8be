use native.Mathlib.Omega.{arith}
use mathlib.Core.Path.{refl}
use Rattle.climb.proofs.walk.store.Goals as goal

pub overflow_sub-result : goal.overflow_sub-result
overflow_sub-result c = omega (arith, c.requires.2 (omega (arith, c.if-n-s.true)))

pub returns-then-n-s : goal.returns-then-n-s
returns-then-n-s c = ((λ h. refl), λ h. absurd (omega (arith, h, c.if-n-s.true)))

pub returns : goal.returns
returns c = ((λ h. absurd (omega (arith, h, c.if-n-s.false))), λ h. refl)
