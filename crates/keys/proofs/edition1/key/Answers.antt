-- The proof of `keys::edition1::key`.
use Prim.Native.Nat.{◌+◌}
use native.Mathlib.Omega.{arith}
use mathlib.Core.Path.{◌≡◌, ◌∙◌}
use borrow.Author.Tests.{lt-ltb, le-ltb}
use Rattle.keys.proofs.Translation.{key_by_range, key_by_range_lem}
use Rattle.keys.proofs.edition1.key.Goals as goal

pub returns-then-b-lt5 : goal.returns-then-b-lt5
returns-then-b-lt5 c = let e : c.args.b ≡ key_by_range c.args.b = simp (lt-ltb _ _ c.if-b-lt5.true) in e ∙ key_by_range_lem c.args.b (omega arith)

pub returns-then-b-lt14 : goal.returns-then-b-lt14
returns-then-b-lt14 c = let e : c.args.b + 6 ≡ key_by_range c.args.b = simp (le-ltb _ _ c.if-b-lt5.false, lt-ltb _ _ c.if-b-lt14.true) in e ∙ key_by_range_lem c.args.b (omega arith)

pub returns-then-b-lt16 : goal.returns-then-b-lt16
returns-then-b-lt16 c = let e : c.args.b + 27 ≡ key_by_range c.args.b = simp (le-ltb _ _ c.if-b-lt14.false, le-ltb _ _ c.if-b-lt5.false, lt-ltb _ _ c.if-b-lt16.true) in e ∙ key_by_range_lem c.args.b (omega arith)

pub returns-then-b-lt35 : goal.returns-then-b-lt35
returns-then-b-lt35 c = let e : c.args.b + 6 ≡ key_by_range c.args.b = simp (le-ltb _ _ c.if-b-lt16.false, le-ltb _ _ c.if-b-lt14.false, le-ltb _ _ c.if-b-lt5.false, lt-ltb _ _ c.if-b-lt35.true) in e ∙ key_by_range_lem c.args.b (omega arith)

pub returns-then-b-lt36 : goal.returns-then-b-lt36
returns-then-b-lt36 c = let e : c.args.b + 12 ≡ key_by_range c.args.b = simp (le-ltb _ _ c.if-b-lt35.false, le-ltb _ _ c.if-b-lt16.false, le-ltb _ _ c.if-b-lt14.false, le-ltb _ _ c.if-b-lt5.false, lt-ltb _ _ c.if-b-lt36.true) in e ∙ key_by_range_lem c.args.b (omega arith)

pub returns-then-b-lt38 : goal.returns-then-b-lt38
returns-then-b-lt38 c = let e : c.args.b + 9 ≡ key_by_range c.args.b = simp (le-ltb _ _ c.if-b-lt36.false, le-ltb _ _ c.if-b-lt35.false, le-ltb _ _ c.if-b-lt16.false, le-ltb _ _ c.if-b-lt14.false, le-ltb _ _ c.if-b-lt5.false, lt-ltb _ _ c.if-b-lt38.true) in e ∙ key_by_range_lem c.args.b (omega arith)

pub returns : goal.returns
returns c = let e : 0 ≡ key_by_range c.args.b = simp (le-ltb _ _ c.if-b-lt5.false, le-ltb _ _ c.if-b-lt14.false, le-ltb _ _ c.if-b-lt16.false, le-ltb _ _ c.if-b-lt35.false, le-ltb _ _ c.if-b-lt36.false, le-ltb _ _ c.if-b-lt38.false) in e ∙ key_by_range_lem c.args.b (omega arith)
