-- The proof of `control::calls::kind_of`.
use Rattle.control.proofs.CallLaws.{pointer_kind, managed_kind, number_kind}
use Rattle.control.proofs.calls.kind_of.Goals as goal

pub returns-then-b-ge192 : goal.returns-then-b-ge192
returns-then-b-ge192 c = managed_kind _ c.if-b-ge192.true

pub returns-then-b-ge128 : goal.returns-then-b-ge128
returns-then-b-ge128 c = pointer_kind _ c.if-b-ge128.true c.if-b-ge192.false

pub returns : goal.returns
returns c = number_kind _ c.requires c.if-b-ge128.false
