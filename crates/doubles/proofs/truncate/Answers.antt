-- `doubles::truncate` meets its contract. Assumes nothing.
use Rattle.doubles.proofs.Cut.{plus_fits, plus_over, plus_out, minus_fits, minus_over, minus_out, minus_asks, out_of_range, under_width, over_width, half_lt}
use lib.Ieee.{of_bits, neg}
use Rattle.std.proofs.Common.{T, sym, subst, arith, mod-eq_of_lt, ◌^◌, ◌-◌, ◌≤◌, ◌<◌}
use Rattle.doubles.proofs.truncate.Goals.{then-x-2+else-t-top, else-x-2, then-y+else-t-top-2, else-y}
use Rattle.doubles.proofs.truncate.Goals as goal

pub truncating_f64_to_u64-t-requires : goal.truncating_f64_to_u64-t-requires
unfolding of_bits neg
truncating_f64_to_u64-t-requires g c = record { lower_bound = subst T (sym c.if-x.true) tt; upper_bound = subst T (sym c.if-x-2.true) tt }

pub returns-then-t-top : goal.returns-then-t-top
unfolding of_bits neg
returns-then-t-top g c =
    let l = under_width g.W.Word.width c.truncating_f64_to_u64-t.result g.met.W.Word.bits.0 (rw (← c.top.ensures) c.if-t-top.true) in
    rw (c.cut.ensures, mod-eq_of_lt l) (plus_fits g.W.Word.width _ c.args.x c.if-x.true c.if-x-2.true c.truncating_f64_to_u64-t.ensures l)

pub returns-then-x : goal.returns-then-x
unfolding of_bits neg
returns-then-x g c =
    elim c.if-x-2.branch [
      | then-x-2+else-t-top w ↦
          plus_over g.W.Word.width _ c.args.x c.if-x.true w.if-x-2.true w.truncating_f64_to_u64-t.ensures
          (over_width g.W.Word.width _ g.met.W.Word.bits.0 (rw (← w.top.ensures) w.if-t-top.false))
      | else-x-2 w ↦ out_of_range g.W.Word.width c.args.x (plus_out g.W.Word.width c.args.x g.met.W.Word.bits.1 c.if-x.true w.if-x-2.false)
    ]

pub truncating_f64_to_u64-t-requires-then-y : goal.truncating_f64_to_u64-t-requires-then-y
unfolding of_bits neg
truncating_f64_to_u64-t-requires-then-y g c = record { lower_bound = minus_asks c.args.x c.if-x.false c.if-y.true; upper_bound = subst T (sym c.if-y.true) tt }

pub returns-then-t-top-2 : goal.returns-then-t-top-2
unfolding of_bits neg
returns-then-t-top-2 g c =
    let l : c.truncating_f64_to_u64-t-then-y.result ≤ 2 ^ (g.W.Word.width - 1) = rw (← c.top-then-y.ensures) c.if-t-top-2.true in
    let h = half_lt g.W.Word.width g.met.W.Word.bits.0 in
    let f : c.truncating_f64_to_u64-t-then-y.result < 2 ^ g.W.Word.width = omega arith in
    rw (c.neg.ensures, c.cut-then-t-top-2.ensures, mod-eq_of_lt f)
    (minus_fits g.W.Word.width _ c.args.x c.if-x.false c.if-y.true c.truncating_f64_to_u64-t-then-y.ensures g.met.W.Word.bits.0 l)

pub returns : goal.returns
unfolding of_bits neg
returns g c =
    elim c.if-y.branch [
      | then-y+else-t-top-2 w ↦
          minus_over g.W.Word.width _ c.args.x c.if-x.false w.if-y.true w.truncating_f64_to_u64-t-then-y.ensures (rw (← w.top-then-y.ensures) w.if-t-top-2.false)
      | else-y w ↦ out_of_range g.W.Word.width c.args.x (minus_out g.W.Word.width c.args.x g.met.W.Word.bits.0 g.met.W.Word.bits.1 c.if-x.false w.if-y.false)
    ]
