-- The proof of `machine::steps::single`.
use mathlib.Core.Path.{refl}
use mathlib.Core.Bool.{true, false}
use Rattle.rules.specs.declared.Instruction.TheVariants.{One, Two}
use Rattle.rules.specs.declared.Exception.TheVariants as Exception
use Rattle.rules.specs.declared.Unary.TheVariants.{Pop, Neg, Not, Convert, Count}
use Rattle.rules.specs.declared.Binary.TheVariants.{Arith, Cmp}
use Rattle.rules.specs.declared.Operator.TheVariants.{And, Or, Xor, Shl, Sal, Shr, Sar}
use Rattle.rules.specs.declared.Num.TheVariants.{Int, Long, Double}
use Rattle.keys.proofs.Chain.{unknown}
use Rattle.machine.specs.Matches.{even, odd}
use Rattle.machine.proofs.Arms.{alone, leaves_one, leaves_odd, no_other}
use Rattle.machine.proofs.steps.single.Goals as goal

pub pop-requires : goal.pop-requires
pop-requires c = c.requires.computable.inside

pub change-requires : goal.change-requires
change-requires c = c.requires.computable

pub operate-requires : goal.operate-requires
operate-requires c = c.requires.computable

pub operate-requires-in-23 : goal.operate-requires-in-23
operate-requires-in-23 c = c.requires.computable

pub operate-requires-in-24 : goal.operate-requires-in-24
operate-requires-in-24 c = c.requires.computable

pub change-requires-in-25 : goal.change-requires-in-25
change-requires-in-25 c = c.requires.computable

pub operate-requires-in-26 : goal.operate-requires-in-26
operate-requires-in-26 c = c.requires.computable

pub operate-requires-in-27 : goal.operate-requires-in-27
operate-requires-in-27 c = c.requires.computable

pub operate-requires-in-28 : goal.operate-requires-in-28
operate-requires-in-28 c = c.requires.computable

pub operate-requires-in-29 : goal.operate-requires-in-29
operate-requires-in-29 c = c.requires.computable

pub compare-requires : goal.compare-requires
compare-requires c = c.requires.computable

pub compare-requires-in-31 : goal.compare-requires-in-31
compare-requires-in-31 c = c.requires.computable

pub toi-requires : goal.toi-requires
toi-requires c = c.requires.computable

pub tol-requires : goal.tol-requires
tol-requires c = c.requires.computable

pub tod-requires : goal.tod-requires
tod-requires c = c.requires.computable

pub change-requires-in-41 : goal.change-requires-in-41
change-requires-in-41 c = c.requires.computable

pub change-requires-in-42 : goal.change-requires-in-42
change-requires-in-42 c = c.requires.computable

pub tol-requires-in-45 : goal.tol-requires-in-45
tol-requires-in-45 c = c.requires.computable

pub toi-requires-in-47 : goal.toi-requires-in-47
toi-requires-in-47 c = c.requires.computable

pub returns-in-2 : goal.returns-in-2
returns-in-2 c = λ cap. alone _ 2 cap _ _ _ _ _ _ (One Pop) c.in-2.is (λ w. refl) refl (λ m. c.pop.ensures m cap _ _)

pub returns-in-19 : goal.returns-in-19
returns-in-19 c = λ cap. alone _ 19 cap _ _ _ _ _ _ (One Neg) c.in-19.is (λ w. refl) refl (λ m. c.change.ensures m cap)

pub returns-in-22 : goal.returns-in-22
returns-in-22 c = λ cap. alone _ 22 cap _ _ _ _ _ _ (Two (Arith And)) c.in-22.is (λ w. refl) refl (λ m. c.operate.ensures m cap)

pub returns-in-23 : goal.returns-in-23
returns-in-23 c = λ cap. alone _ 23 cap _ _ _ _ _ _ (Two (Arith Or)) c.in-23.is (λ w. refl) refl (λ m. c.operate-in-23.ensures m cap)

pub returns-in-24 : goal.returns-in-24
returns-in-24 c = λ cap. alone _ 24 cap _ _ _ _ _ _ (Two (Arith Xor)) c.in-24.is (λ w. refl) refl (λ m. c.operate-in-24.ensures m cap)

pub returns-in-25 : goal.returns-in-25
returns-in-25 c = λ cap. alone _ 25 cap _ _ _ _ _ _ (One Not) c.in-25.is (λ w. refl) refl (λ m. c.change-in-25.ensures m cap)

pub returns-in-26 : goal.returns-in-26
returns-in-26 c = λ cap. alone _ 26 cap _ _ _ _ _ _ (Two (Arith Shl)) c.in-26.is (λ w. refl) refl (λ m. c.operate-in-26.ensures m cap)

pub returns-in-27 : goal.returns-in-27
returns-in-27 c = λ cap. alone _ 27 cap _ _ _ _ _ _ (Two (Arith Sal)) c.in-27.is (λ w. refl) refl (λ m. c.operate-in-27.ensures m cap)

pub returns-in-28 : goal.returns-in-28
returns-in-28 c = λ cap. alone _ 28 cap _ _ _ _ _ _ (Two (Arith Shr)) c.in-28.is (λ w. refl) refl (λ m. c.operate-in-28.ensures m cap)

pub returns-in-29 : goal.returns-in-29
returns-in-29 c = λ cap. alone _ 29 cap _ _ _ _ _ _ (Two (Arith Sar)) c.in-29.is (λ w. refl) refl (λ m. c.operate-in-29.ensures m cap)

pub returns-in-30 : goal.returns-in-30
returns-in-30 c = λ cap. alone _ 30 cap _ _ _ _ _ _ (Two (Cmp false)) c.in-30.is (λ w. refl) refl (λ m. c.compare.ensures m cap)

pub returns-in-31 : goal.returns-in-31
returns-in-31 c = λ cap. alone _ 31 cap _ _ _ _ _ _ (Two (Cmp true)) c.in-31.is (λ w. refl) refl (λ m. c.compare-in-31.ensures m cap)

pub returns-in-43 : goal.returns-in-43
returns-in-43 c = λ cap. alone _ 43 cap _ _ _ _ _ _ (One (Convert true Int)) c.in-43.is (λ w. refl) refl (λ m. c.toi.ensures m cap)

pub returns-in-44 : goal.returns-in-44
returns-in-44 c = λ cap. alone _ 44 cap _ _ _ _ _ _ (One (Convert true Long)) c.in-44.is (λ w. refl) refl (λ m. c.tol.ensures m cap)

pub returns-in-46 : goal.returns-in-46
returns-in-46 c = λ cap. alone _ 46 cap _ _ _ _ _ _ (One (Convert false Double)) c.in-46.is (λ w. refl) refl (λ m. c.tod.ensures m cap)

pub returns-in-41 : goal.returns-in-41
returns-in-41 c = λ cap. alone _ 41 cap _ _ _ _ _ _ (One (Count true)) c.in-41.is (λ w. refl) refl (λ m. c.change-in-41.ensures m cap)

pub returns-in-42 : goal.returns-in-42
returns-in-42 c = λ cap. alone _ 42 cap _ _ _ _ _ _ (One (Count false)) c.in-42.is (λ w. refl) refl (λ m. c.change-in-42.ensures m cap)

pub returns-in-45 : goal.returns-in-45
returns-in-45 c = λ cap. alone _ 45 cap _ _ _ _ _ _ (One (Convert false Long)) c.in-45.is (λ w. refl) refl (λ m. c.tol-in-45.ensures m cap)

pub returns-in-47 : goal.returns-in-47
returns-in-47 c = λ cap. alone _ 47 cap _ _ _ _ _ _ (One (Convert false Int)) c.in-47.is (λ w. refl) refl (λ m. c.toi-in-47.ensures m cap)

pub returns-in-6 : goal.returns-in-6
returns-in-6 c = λ cap. leaves_one _ cap Exception.PointerNullPointer refl _ _ _ c.in-6.is

pub returns-in-49 : goal.returns-in-49
returns-in-49 c = λ cap. leaves_odd _ cap Exception.TypeOutOfRange refl _ _ _ c.in-49.is

pub returns-in-0 : goal.returns-in-0
returns-in-0 c = unknown _ c.requires.known.0 even refl c.in-0.is

pub returns-in-53 : goal.returns-in-53
returns-in-53 c = unknown _ c.requires.known.0 odd refl c.in-53.is

pub returns-in_default : goal.returns-in_default
returns-in_default c = no_other _ c.requires.known c.in_default.in_default-own.rest
