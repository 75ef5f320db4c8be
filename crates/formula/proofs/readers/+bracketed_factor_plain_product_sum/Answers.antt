-- The proof of the readers that call each other: `bracketed`, `factor`, `plain`, `product`, `sum`.
use native.Mathlib.Omega.{arith}
use mathlib.Core.Path.{refl, sym, ◌∙◌, subst}
use lib.ListN.{get_or}
use Prim.Native.Nat.{◌+◌, ℕ}
use Rattle.formula.proofs.ReaderLaws.{ready_moved, factor_none, factor_large, factor_of_number, factor_of_name, factor_of_bracketed, factor_bad, factor_read, bracketed_deep, bracketed_bad, bracketed_open, bracketed_read, completed_at, product_sign_on, sum_sign_on, loop_starts, loop_along, loop_bad, loop_stops, loop_again}
use Rattle.formula.proofs.TokenLaws.{small_digit, lead_number, leads_number, leads_open, leads_name, begins_none, begins_end}
use Rattle.formula.specs.Tokens.{Counted}
use Rattle.formula.proofs.DepthLaws.{products_deep, sums_deep}
use Rattle.grammar.specs.Steps.{product_suc, products_suc, sum_suc, sums_suc}
use Rattle.rules.specs.Grammar.{SumSign, ProductSign}
use mathlib.Core.List.{[]}
use Rattle.rules.specs.Reading.{product_sign, sum_sign, factor as read-factor, product as read-product, products, sum as read-sum, sums}
use Rattle.formula.proofs.readers.+bracketed_factor_plain_product_sum.Goals as goal

pub bracketed-returns-then-depth-ge16 : goal.bracketed-returns-then-depth-ge16
bracketed-returns-then-depth-ge16 t c = bracketed_deep c.args.s.now c.args.code.now c.args.pool.now c.args.c c.args.depth c.args.held c.args.next [] [] (omega (arith, c.if-depth-ge16.true))

pub bracketed-sum-requires : goal.bracketed-sum-requires
bracketed-sum-requires t c = (omega (arith, c.decreases), ready_moved c.args.s.now c.args.code.now c.args.pool.now c.args.c c.args.depth c.args.held 0 c.args.next (c.args.depth + 1) c.args.held c.requires.0 (omega (arith, c.requires.1.0)) c.requires.1.1 (omega (arith, c.if-depth-ge16.false)) (omega (arith, c.requires.0.few, c.requires.1.0)))

pub bracketed-returns-in_err-r : goal.bracketed-returns-in_err-r
bracketed-returns-in_err-r t c = rw c.from_residual.ensures (bracketed_bad c.args.s.now c.args.code.now c.args.pool.now c.args.c c.args.depth c.args.held c.args.next [] [] [] [] c.in_err-r.ensures)

pub bracketed-close_sign-requires : goal.bracketed-close_sign-requires
bracketed-close_sign-requires t c = let y = c.in_ok-r.ensures in y.1.upto

pub bracketed-returns-in_err-end : goal.bracketed-returns-in_err-end
bracketed-returns-in_err-end t c = rw c.from_residual-in_err-end.ensures (bracketed_open c.args.s.now c.args.code.now c.args.pool.now c.args.c c.args.depth c.args.held c.args.next c.sum.new.code c.sum.new.pool [] [] _ c.in_ok-r.ensures c.in_err-end.ensures)

pub bracketed-returns : goal.bracketed-returns
bracketed-returns t c = (bracketed_read c.args.s.now c.args.code.now c.args.pool.now c.args.c c.args.depth c.args.held c.args.next _ c.sum.new.code c.sum.new.pool _ c.requires.1.0 c.in_ok-r.ensures c.in_ok-end.ensures)

pub factor-skip_minuses-m-requires : goal.factor-skip_minuses-m-requires
factor-skip_minuses-m-requires t c = c.requires.at_in

pub factor-plain-requires : goal.factor-plain-requires
factor-plain-requires t c = (omega (arith, c.decreases, c.skip_minuses-m.ensures.from, c.skip_minuses-m.ensures.upto), (ready_moved c.args.s.now c.args.code.now c.args.pool.now c.args.c c.args.depth c.args.held 0 c.skip_minuses-m.result.at c.args.depth c.args.held c.requires (omega (arith, c.skip_minuses-m.ensures.from)) c.skip_minuses-m.ensures.upto c.requires.shallow (omega (arith, c.requires.few, c.skip_minuses-m.ensures.from)), c.skip_minuses-m.ensures.plain))

pub factor-returns-in_err-r : goal.factor-returns-in_err-r
factor-returns-in_err-r t c = rw c.from_residual.ensures (factor_bad c.args.s.now c.args.code.now c.args.pool.now c.args.c c.args.depth c.args.held c.skip_minuses-m.result.count c.skip_minuses-m.result.at c.skip_minuses-m.ensures [] [] [] [] c.in_err-r.ensures)

pub factor-negated-requires : goal.factor-negated-requires
factor-negated-requires t c = let y = c.in_ok-r.ensures in omega (arith, y.1.code_in, y.1.upto, y.1.code_room, c.requires.code_room, c.requires.code_in, c.requires.short, c.skip_minuses-m.ensures.from)

pub factor-returns : goal.factor-returns
factor-returns t c = factor_read c.args.s.now c.args.code.now c.args.pool.now c.args.c c.args.depth c.args.held c.skip_minuses-m.result.count c.skip_minuses-m.result.at c.skip_minuses-m.ensures c.plain.new.code c.plain.new.pool _ _ c.negated.result c.in_ok-r.ensures c.negated.ensures

pub plain-returns-then-s-at : goal.plain-returns-then-s-at
plain-returns-then-s-at t c = factor_none c.args.s.now c.args.code.now c.args.pool.now c.args.c c.args.depth c.args.held (begins_end c.args.s.now c.args.c.at c.if-s-at.true) [] []

pub plain-bracketed-requires : goal.plain-bracketed-requires
plain-bracketed-requires t c = (omega (arith, c.decreases, c.skip-next.ensures.from, c.skip-next.ensures.upto), (c.requires.0, (omega (arith, c.skip-next.ensures.from), c.skip-next.ensures.upto)))

pub plain-returns-then-b-eq40 : goal.plain-returns-then-b-eq40
plain-returns-then-b-eq40 t c = factor_of_bracketed c.args.s.now c.args.code.now c.args.pool.now c.args.c c.args.depth c.args.held c.skip-next.result (leads_open c.args.s.now c.args.c.at c.skip-next.result (omega arith) c.skip-next.ensures c.if-b-eq40.true) c.bracketed.new.code c.bracketed.new.pool c.bracketed.result c.bracketed.ensures

pub plain-overflow_sub-b : goal.plain-overflow_sub-b
plain-overflow_sub-b t c = omega (arith, small_digit (get_or c.args.s.now c.args.c.at 0) (sym c.is_digit.ensures ∙ c.if-is_digit.true))

pub plain-digits-d-requires : goal.plain-digits-d-requires
plain-digits-d-requires t c = (omega arith, omega (arith, small_digit (get_or c.args.s.now c.args.c.at 0) (sym c.is_digit.ensures ∙ c.if-is_digit.true), c.from.ensures))

pub plain-returns-then-v-gt4294967295 : goal.plain-returns-then-v-gt4294967295
plain-returns-then-v-gt4294967295 t c = let k = (subst (λ (w : ℕ). Counted c.args.s.now (c.args.c.at + 1) w c.digits-d.result.value c.digits-d.result.at) c.from.ensures c.digits-d.ensures) in factor_large c.args.s.now c.args.code.now c.args.pool.now c.args.c c.args.depth c.args.held k.number _ _ (lead_number c.args.s.now c.args.c.at _ _ (omega arith) (sym c.is_digit.ensures ∙ c.if-is_digit.true) k) k.capped (omega (arith, c.if-v-gt4294967295.true)) [] []

pub plain-skip-next-requires-then-is_digit : goal.plain-skip-next-requires-then-is_digit
plain-skip-next-requires-then-is_digit t c = c.digits-d.ensures.upto

pub plain-number_read-requires : goal.plain-number_read-requires
plain-number_read-requires t c = (c.requires.0, (omega (arith, c.digits-d.ensures.from, c.skip-next-then-is_digit.ensures.from), c.skip-next-then-is_digit.ensures.upto), omega arith)

pub plain-returns-then-is_digit : goal.plain-returns-then-is_digit
plain-returns-then-is_digit t c = let k = (subst (λ (w : ℕ). Counted c.args.s.now (c.args.c.at + 1) w c.digits-d.result.value c.digits-d.result.at) c.from.ensures c.digits-d.ensures) in factor_of_number c.args.s.now c.args.code.now c.args.pool.now c.args.c c.args.depth c.args.held k.number _ c.skip-next-then-is_digit.result (leads_number c.args.s.now c.args.c.at _ _ (omega arith) (sym c.is_digit.ensures ∙ c.if-is_digit.true) k c.skip-next-then-is_digit.result c.skip-next-then-is_digit.ensures) k.capped (omega arith) c.number_read.new.code c.number_read.new.pool c.number_read.result c.number_read.ensures.0 c.number_read.ensures.1

pub plain-returns-in_err-i : goal.plain-returns-in_err-i
plain-returns-in_err-i t c = rw c.from_residual.ensures (factor_none c.args.s.now c.args.code.now c.args.pool.now c.args.c c.args.depth c.args.held (begins_none c.args.s.now c.args.c.at (omega arith) (sym c.is_digit.ensures ∙ c.if-is_digit.false) c.requires.1 c.if-b-eq40.false c.in_err-i.ensures) [] [])

pub plain-name_read-requires : goal.plain-name_read-requires
plain-name_read-requires t c = (c.requires.0, (omega (arith, c.skip-next-2.ensures.from), c.skip-next-2.ensures.upto))

pub plain-returns : goal.plain-returns
plain-returns t c = factor_of_name c.args.s.now c.args.code.now c.args.pool.now c.args.c c.args.depth c.args.held c.in_ok-i.i c.skip-next-2.result (leads_name c.args.s.now c.args.c.at c.skip-next-2.result (omega arith) c.skip-next-2.ensures c.in_ok-i.i c.in_ok-i.ensures) c.name_read.new.code c.args.pool.now c.name_read.result c.name_read.ensures.0 c.name_read.ensures.1

pub product-loop-r-init : goal.product-loop-r-init
product-loop-r-init t c = loop_starts read-product 2 read-factor 1 products c.args.s.now c.args.code.now c.args.pool.now c.args.depth c.args.held c.args.c c.requires

pub product-factor-requires : goal.product-factor-requires
product-factor-requires t c = (omega (arith, c.decreases, c.loop-r.invariant.from, c.loop-r.invariant.ready.at_in), c.loop-r.invariant.ready)

pub product-returns-in_err-r : goal.product-returns-in_err-r
product-returns-in_err-r t c = rw c.from_residual.ensures (loop_bad read-product 2 read-factor 1 products c.args.s.now c.args.code.now c.args.pool.now c.args.depth c.args.held c.args.c (omega arith) refl product_suc products_deep c.loop-r.op c.loop-r.under c.loop-r.code c.loop-r.pool [] [] [] [] c.loop-r.done c.loop-r.invariant c.in_err-r.ensures)

pub product-completed-q-requires : goal.product-completed-q-requires
product-completed-q-requires t c = let y = c.in_ok-r.ensures in omega (arith, y.1.code_in, y.1.upto, y.1.code_room, c.loop-r.invariant.ready.code_room, c.loop-r.invariant.ready.code_in, c.loop-r.invariant.ready.short)

pub product-product_sign-requires : goal.product-product_sign-requires
product-product_sign-requires t c = (loop_along read-product 2 read-factor 1 products c.args.s.now c.args.code.now c.args.pool.now c.args.depth c.args.held c.args.c (omega arith) refl product_suc products_deep c.loop-r.op c.loop-r.under c.loop-r.code c.loop-r.pool c.factor.new.code c.factor.new.pool c.completed-q.new.code c.loop-r.done _ c.completed-q.result c.loop-r.invariant c.in_ok-r.ensures c.completed-q.ensures).wrote.upto

pub product-returns-in_default : goal.product-returns-in_default
product-returns-in_default t c = loop_stops read-product 2 read-factor 1 products c.args.s.now c.args.code.now c.args.pool.now c.args.depth c.args.held c.args.c product_sign ProductSign products_suc product_sign_on c.completed-q.new.code c.factor.new.pool c.completed-q.result (loop_along read-product 2 read-factor 1 products c.args.s.now c.args.code.now c.args.pool.now c.args.depth c.args.held c.args.c (omega arith) refl product_suc products_deep c.loop-r.op c.loop-r.under c.loop-r.code c.loop-r.pool c.factor.new.code c.factor.new.pool c.completed-q.new.code c.loop-r.done _ c.completed-q.result c.loop-r.invariant c.in_ok-r.ensures c.completed-q.ensures) c.in_default.ensures

pub product-overflow_add-under : goal.product-overflow_add-under
product-overflow_add-under t c = omega (arith, c.requires.few, c.requires.at_in, c.requires.short)

pub product-loop-r-smaller : goal.product-loop-r-smaller
product-loop-r-smaller t c = let y = c.in_ok-r.ensures in let e = c.in-Some.ensures in (omega (arith, e.4.on, e.4.upto, y.1.on, completed_at _ _ _ _ c.loop-r.op c.completed-q.ensures))

pub product-loop-r-preserved : goal.product-loop-r-preserved
product-loop-r-preserved t c = (loop_again read-product 2 read-factor 1 products c.args.s.now c.args.code.now c.args.pool.now c.args.depth c.args.held c.args.c product_sign ProductSign products_suc product_sign_on c.completed-q.new.code c.factor.new.pool c.completed-q.result (loop_along read-product 2 read-factor 1 products c.args.s.now c.args.code.now c.args.pool.now c.args.depth c.args.held c.args.c (omega arith) refl product_suc products_deep c.loop-r.op c.loop-r.under c.loop-r.code c.loop-r.pool c.factor.new.code c.factor.new.pool c.completed-q.new.code c.loop-r.done _ c.completed-q.result c.loop-r.invariant c.in_ok-r.ensures c.completed-q.ensures) _ _ c.requires c.in-Some.ensures)

pub sum-loop-r-init : goal.sum-loop-r-init
sum-loop-r-init t c = loop_starts read-sum 3 read-product 2 sums c.args.s.now c.args.code.now c.args.pool.now c.args.depth c.args.held c.args.c c.requires

pub sum-product-requires : goal.sum-product-requires
sum-product-requires t c = (omega (arith, c.decreases, c.loop-r.invariant.from, c.loop-r.invariant.ready.at_in), c.loop-r.invariant.ready)

pub sum-returns-in_err-r : goal.sum-returns-in_err-r
sum-returns-in_err-r t c = rw c.from_residual.ensures (loop_bad read-sum 3 read-product 2 sums c.args.s.now c.args.code.now c.args.pool.now c.args.depth c.args.held c.args.c (omega arith) refl sum_suc sums_deep c.loop-r.op c.loop-r.under c.loop-r.code c.loop-r.pool [] [] [] [] c.loop-r.done c.loop-r.invariant c.in_err-r.ensures)

pub sum-completed-q-requires : goal.sum-completed-q-requires
sum-completed-q-requires t c = let y = c.in_ok-r.ensures in omega (arith, y.1.code_in, y.1.upto, y.1.code_room, c.loop-r.invariant.ready.code_room, c.loop-r.invariant.ready.code_in, c.loop-r.invariant.ready.short)

pub sum-sum_sign-requires : goal.sum-sum_sign-requires
sum-sum_sign-requires t c = (loop_along read-sum 3 read-product 2 sums c.args.s.now c.args.code.now c.args.pool.now c.args.depth c.args.held c.args.c (omega arith) refl sum_suc sums_deep c.loop-r.op c.loop-r.under c.loop-r.code c.loop-r.pool c.product.new.code c.product.new.pool c.completed-q.new.code c.loop-r.done _ c.completed-q.result c.loop-r.invariant c.in_ok-r.ensures c.completed-q.ensures).wrote.upto

pub sum-returns-in_default : goal.sum-returns-in_default
sum-returns-in_default t c = loop_stops read-sum 3 read-product 2 sums c.args.s.now c.args.code.now c.args.pool.now c.args.depth c.args.held c.args.c sum_sign SumSign sums_suc sum_sign_on c.completed-q.new.code c.product.new.pool c.completed-q.result (loop_along read-sum 3 read-product 2 sums c.args.s.now c.args.code.now c.args.pool.now c.args.depth c.args.held c.args.c (omega arith) refl sum_suc sums_deep c.loop-r.op c.loop-r.under c.loop-r.code c.loop-r.pool c.product.new.code c.product.new.pool c.completed-q.new.code c.loop-r.done _ c.completed-q.result c.loop-r.invariant c.in_ok-r.ensures c.completed-q.ensures) c.in_default.ensures

pub sum-overflow_add-under : goal.sum-overflow_add-under
sum-overflow_add-under t c = omega (arith, c.requires.few, c.requires.at_in, c.requires.short)

pub sum-loop-r-smaller : goal.sum-loop-r-smaller
sum-loop-r-smaller t c = let y = c.in_ok-r.ensures in let e = c.in-Some.ensures in (omega (arith, e.4.on, e.4.upto, y.1.on, completed_at _ _ _ _ c.loop-r.op c.completed-q.ensures))

pub sum-loop-r-preserved : goal.sum-loop-r-preserved
sum-loop-r-preserved t c = (loop_again read-sum 3 read-product 2 sums c.args.s.now c.args.code.now c.args.pool.now c.args.depth c.args.held c.args.c sum_sign SumSign sums_suc sum_sign_on c.completed-q.new.code c.product.new.pool c.completed-q.result (loop_along read-sum 3 read-product 2 sums c.args.s.now c.args.code.now c.args.pool.now c.args.depth c.args.held c.args.c (omega arith) refl sum_suc sums_deep c.loop-r.op c.loop-r.under c.loop-r.code c.loop-r.pool c.product.new.code c.product.new.pool c.completed-q.new.code c.loop-r.done _ c.completed-q.result c.loop-r.invariant c.in_ok-r.ensures c.completed-q.ensures) _ _ c.requires c.in-Some.ensures)
