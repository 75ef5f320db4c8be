-- The proof of `writer::put_section`.
use Prim.Native.Nat.{◌+◌, ◌-◌, ◌*◌}
use native.Mathlib.Omega.{arith}
use mathlib.Core.Path.{◌≡◌, refl, ◌∙◌}
use Rattle.writer.proofs.Copying.{copy_more, part_more, copy_last}
use Rattle.writer.proofs.put_section.Goals as goal

pub loop-k-preserved : goal.loop-k-preserved
loop-k-preserved c =
    let n : 64 * c.loop-k.k + 64 - 64 * c.loop-k.k ≡ 64 = omega arith in
    let q : 64 * c.loop-k.k + 64 ≡ 64 * (c.loop-k.k + 1) = omega arith in
    let next = part_more c.args.table.now c.args.out.now (λ i. omega (arith, c.shared_slice_known-1.given i)) c.loop-k.out (64 * c.loop-k.k) 64 c.loop-k.invariant.1 (omega arith) (c.requires) _ refl in
    rw (c.copy_from_slice.ensures.after, n) (omega arith, rw (← q) next.0, next.1)

pub loop-j-preserved : goal.loop-j-preserved
loop-j-preserved c =
    let q : 8 * c.loop-j.j + 8 ≡ 8 * (c.loop-j.j + 1) = omega arith in
    let next = copy_more c.args.table.now c.loop-k.out (λ i. omega (arith, c.shared_slice_known-1.given i)) c.loop-j.out (8 * c.loop-j.j) c.loop-j.invariant.1 (omega arith) (c.loop-k.invariant.2 ∙ c.requires) _ c.load64.ensures.0 _ c.store64.ensures in
    (omega arith, rw (← q) next.0, next.1)

pub returns : goal.returns
returns c = copy_last c.args.table.now c.loop-k.out (λ i. omega (arith, c.shared_slice_known-1.given i)) c.loop-j.out (8 * c.loop-j.j) c.loop-j.invariant.1 (omega arith) (omega arith) (omega arith) (c.loop-k.invariant.2 ∙ c.requires) _ c.load64-2.ensures.0 _ c.store64-2.ensures
