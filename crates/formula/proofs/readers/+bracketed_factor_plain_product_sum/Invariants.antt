use lib.ListN.{length}
use Prim.Native.Nat.{◌+◌, ◌*◌, ◌-◌}
use Rattle.formula.proofs.ReaderLaws.{Loop}
use Rattle.rules.specs.Reading.{factor as read-factor, product as read-product, products, sum as read-sum, sums}
use Rattle.formula.proofs.readers.+bracketed_factor_plain_product_sum.Given as goal

abbrev pub decreases-sum : goal.decreases-sum
decreases-sum l = 5 * (length l.s.now - l.c.at) + 3

abbrev pub decreases-product : goal.decreases-product
decreases-product l = 5 * (length l.s.now - l.c.at) + 2

abbrev pub decreases-plain : goal.decreases-plain
decreases-plain l = 5 * (length l.s.now - l.c.at) + 0

abbrev pub decreases-factor : goal.decreases-factor
decreases-factor l = 5 * (length l.s.now - l.c.at) + 1

abbrev pub decreases-bracketed : goal.decreases-bracketed
decreases-bracketed l = 5 * (length l.s.now - l.next) + 4

abbrev pub invariant-product-loop-r : goal.invariant-product-loop-r
invariant-product-loop-r l = Loop read-product 2 read-factor 1 products l.s l.initial.code l.initial.pool l.depth l.held l.initial.done l.op l.under l.code l.pool l.done

abbrev pub decreases-product-loop-r : goal.decreases-product-loop-r
decreases-product-loop-r l = length l.s - l.done.at

abbrev pub invariant-sum-loop-r : goal.invariant-sum-loop-r
invariant-sum-loop-r l = Loop read-sum 3 read-product 2 sums l.s l.initial.code l.initial.pool l.depth l.held l.initial.done l.op l.under l.code l.pool l.done

abbrev pub decreases-sum-loop-r : goal.decreases-sum-loop-r
decreases-sum-loop-r l = length l.s - l.done.at
