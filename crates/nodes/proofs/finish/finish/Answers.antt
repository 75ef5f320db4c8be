use borrow.Author.Rules.{rules}
use native.Mathlib.Omega.{arith}
use mathlib.Core.Path.{◌≡◌, refl, ap, ◌∙◌}
use lib.ListN.{get_or}
use Prim.Native.Nat.{ℕ, ◌-◌}
use Rattle.nodes.proofs.Shown.{finish_first, node_below, settle_fits, finish_on}
use Rattle.nodes.proofs.finish.finish.Goals as goal

pub loop-i-init : goal.loop-i-init
loop-i-init c = (omega (arith, c.requires.packed.0.labels_is), finish_first _ _ c.requires.packed.2 _ _ c.requires.fits.0 _ c.requires.packed.0.labels_is, refl)

pub place_of-p-requires : goal.place_of-p-requires
place_of-p-requires c = ((c.requires.packed.0, c.requires.packed.1), omega (arith, c.requires.packed.0.labels_is, c.loop-i.invariant.0, c.loop-i-test))

pub overflow_sub-v : goal.overflow_sub-v
overflow_sub-v c = let n = node_below _ _ c.requires.packed.2 _ _ c.requires.fits.0 (c.loop-i.i - 1) c.node_at-v.result (omega (arith, c.loop-i.invariant.0, c.loop-i-test)) (c.node_at-v.ensures ∙ ap (λ (q : ℕ). get_or c.args.table.now q 0) c.place_of-p.ensures.0) in omega (arith, n.0)

pub settle-requires : goal.settle-requires
settle-requires c = let n = settle_fits _ _ c.requires.packed.2 _ _ c.requires.fits.0 c.loop-i.i _ (omega arith) c.loop-i.invariant.0 c.loop-i.invariant.1 c.node_at-v.result (c.node_at-v.ensures ∙ ap (λ (q : ℕ). get_or c.args.table.now q 0) c.place_of-p.ensures.0) in (n.0, n.1, n.2, c.requires.fits.0.whole, c.loop-i.invariant.2 ∙ c.requires.fits.1)

pub loop-i-preserved : goal.loop-i-preserved
loop-i-preserved c = (omega (arith, c.loop-i.invariant.0), finish_on _ _ c.requires.packed.2 _ _ c.requires.fits.0 c.loop-i.i _ (omega arith) c.loop-i.invariant.0 c.loop-i.invariant.1 c.node_at-v.result (c.node_at-v.ensures ∙ ap (λ (q : ℕ). get_or c.args.table.now q 0) c.place_of-p.ensures.0) _ c.settle.ensures, search rules)

pub shape_of-room : goal.shape_of-room
shape_of-room c = c.loop-i.invariant.1.long

pub shape_of-st : goal.shape_of-st
shape_of-st c = c.loop-i.invariant.2

pub returns : goal.returns
returns c = let z : c.loop-i.i ≡ 0 = omega arith in rw z at c.loop-i.invariant.1
