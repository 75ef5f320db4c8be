-- The proof of `machine::steps::numeric`.
use mathlib.Core.Path.{refl}
use mathlib.Core.Bool.{true, false}
use Rattle.rules.specs.declared.Instruction.TheVariants.{One, Two, Tload, Tstore, Bump}
use Rattle.rules.specs.declared.Unary.TheVariants.{Copy}
use Rattle.rules.specs.declared.Binary.TheVariants.{Swap, Arith}
use Rattle.rules.specs.declared.Operator.TheVariants.{Add, Sub, Mul, Imul, Div, Idiv, Mod, Imod}
use Rattle.machine.proofs.Arms.{alone, through}
use Rattle.machine.proofs.steps.numeric.Goals as goal

pub tload-requires : goal.tload-requires
tload-requires c = record { ready_on = c.requires.ready_on.0; place_lt_stop = (c.requires.ready_on.1.inside, c.requires.ready_on.1.kinds) }

pub tstore-requires : goal.tstore-requires
tstore-requires c = record { ready_on = c.requires.ready_on.0; place_lt_stop = (c.requires.ready_on.1.inside, c.requires.ready_on.1.kinds) }

pub copy-requires : goal.copy-requires
copy-requires c = record { ready_on = c.requires.ready_on.0; place_lt_stop = c.requires.ready_on.1.inside }

pub swap-requires : goal.swap-requires
swap-requires c = record { ready_on = c.requires.ready_on.0; place_lt_stop = c.requires.ready_on.1.inside }

pub operate-requires : goal.operate-requires
operate-requires c = c.requires.ready_on.1

pub operate-requires-in-12 : goal.operate-requires-in-12
operate-requires-in-12 c = c.requires.ready_on.1

pub operate-requires-in-13 : goal.operate-requires-in-13
operate-requires-in-13 c = c.requires.ready_on.1

pub operate-requires-in-14 : goal.operate-requires-in-14
operate-requires-in-14 c = c.requires.ready_on.1

pub operate-requires-in-15 : goal.operate-requires-in-15
operate-requires-in-15 c = c.requires.ready_on.1

pub operate-requires-in-16 : goal.operate-requires-in-16
operate-requires-in-16 c = c.requires.ready_on.1

pub operate-requires-in-17 : goal.operate-requires-in-17
operate-requires-in-17 c = c.requires.ready_on.1

pub operate-requires-in-18 : goal.operate-requires-in-18
operate-requires-in-18 c = c.requires.ready_on.1

pub bump-requires : goal.bump-requires
bump-requires c = c.requires.ready_on.1

pub bump-requires-in-21 : goal.bump-requires-in-21
bump-requires-in-21 c = c.requires.ready_on.1

pub single-requires : goal.single-requires
single-requires c = record { known = (c.requires.known.0, c.requires.known.1, c.in_default.in_default-own.rest); computable = c.requires.ready_on.1 }

pub returns-in-7 : goal.returns-in-7
returns-in-7 c = through _ 7 _ _ _ _ _ _ _ Tload c.in-7.is (λ w. refl) refl (λ m. c.tload.ensures m)

pub returns-in-8 : goal.returns-in-8
returns-in-8 c = through _ 8 _ _ _ _ _ _ _ Tstore c.in-8.is (λ w. refl) refl (λ m. c.tstore.ensures m)

pub returns-in-9 : goal.returns-in-9
returns-in-9 c = alone _ 9 _ _ _ _ _ _ _ (One Copy) c.in-9.is (λ w. refl) refl (λ m. c.copy.ensures m)

pub returns-in-10 : goal.returns-in-10
returns-in-10 c = alone _ 10 _ _ _ _ _ _ _ (Two Swap) c.in-10.is (λ w. refl) refl (λ m. c.swap.ensures m)

pub returns-in-11 : goal.returns-in-11
returns-in-11 c = alone _ 11 _ _ _ _ _ _ _ (Two (Arith Add)) c.in-11.is (λ w. refl) refl (λ m. c.operate.ensures m _)

pub returns-in-12 : goal.returns-in-12
returns-in-12 c = alone _ 12 _ _ _ _ _ _ _ (Two (Arith Sub)) c.in-12.is (λ w. refl) refl (λ m. c.operate-in-12.ensures m _)

pub returns-in-13 : goal.returns-in-13
returns-in-13 c = alone _ 13 _ _ _ _ _ _ _ (Two (Arith Mul)) c.in-13.is (λ w. refl) refl (λ m. c.operate-in-13.ensures m _)

pub returns-in-14 : goal.returns-in-14
returns-in-14 c = alone _ 14 _ _ _ _ _ _ _ (Two (Arith Imul)) c.in-14.is (λ w. refl) refl (λ m. c.operate-in-14.ensures m _)

pub returns-in-15 : goal.returns-in-15
returns-in-15 c = alone _ 15 _ _ _ _ _ _ _ (Two (Arith Div)) c.in-15.is (λ w. refl) refl (λ m. c.operate-in-15.ensures m _)

pub returns-in-16 : goal.returns-in-16
returns-in-16 c = alone _ 16 _ _ _ _ _ _ _ (Two (Arith Idiv)) c.in-16.is (λ w. refl) refl (λ m. c.operate-in-16.ensures m _)

pub returns-in-17 : goal.returns-in-17
returns-in-17 c = alone _ 17 _ _ _ _ _ _ _ (Two (Arith Mod)) c.in-17.is (λ w. refl) refl (λ m. c.operate-in-17.ensures m _)

pub returns-in-18 : goal.returns-in-18
returns-in-18 c = alone _ 18 _ _ _ _ _ _ _ (Two (Arith Imod)) c.in-18.is (λ w. refl) refl (λ m. c.operate-in-18.ensures m _)

pub returns-in-20 : goal.returns-in-20
returns-in-20 c = through _ 20 _ _ _ _ _ _ _ (Bump true) c.in-20.is (λ w. refl) refl (λ m. c.bump.ensures m _)

pub returns-in-21 : goal.returns-in-21
returns-in-21 c = through _ 21 _ _ _ _ _ _ _ (Bump false) c.in-21.is (λ w. refl) refl (λ m. c.bump-in-21.ensures m _)

pub returns-in_default : goal.returns-in_default
returns-in_default c = c.single.ensures _
