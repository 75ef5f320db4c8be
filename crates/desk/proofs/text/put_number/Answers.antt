-- The proof of `desk::text::put_number`.
use native.Mathlib.Omega.{arith}
use Rattle.desk.proofs.Texts.{then_byte}
use Rattle.desk.proofs.text.put_number.Goals as goal

pub returns : goal.returns
returns c = then_byte _ _ _ _ 20 _ _ c.put_digits-e.ensures (omega (arith, c.requires, c.put_digits-e.ensures.within, c.put_digits-e.auto.out))
