-- The proof of `formula::scan::scan_line`.
use Rattle.formula.proofs.ScanLaws.{stops, goes_on, early, whole}
use Rattle.grammar.specs.Scan.{scanned}
use mathlib.Core.Path.{◌≡◌, refl}
use lib.ListN.{length}
use native.Mathlib.Omega.{arith}
use Rattle.formula.proofs.scan.scan_line.Goals as goal

pub loop-i-init : goal.loop-i-init
unfolding scanned
loop-i-init c = (omega arith, record { upto = omega arith; fresh = λ z. refl }, omega arith, refl)

pub step-requires : goal.step-requires
step-requires c = (c.loop-i.invariant.1, omega arith)

pub returns-in_default : goal.returns-in_default
returns-in_default c = stops _ _ _ c.loop-i.invariant.3 c.loop-i-test.true _ c.in_default.ensures refl

pub loop-i-preserved : goal.loop-i-preserved
loop-i-preserved c = goes_on _ _ _ c.loop-i.invariant.3 c.loop-i-test.true _ c.in-Some.ensures _ refl c.loop-i.invariant.2

pub returns-then-at : goal.returns-then-at
returns-then-at c = let e : length c.args.line.now ≡ c.loop-i.i = omega arith in
    rw e (early _ _ c.loop-i.at c.loop-i.invariant.3 (omega arith) (omega arith) c.if-at.true)

pub returns : goal.returns
returns c = whole _ _ c.loop-i.at c.loop-i.invariant.3 (omega arith) (omega arith) c.if-at.false
