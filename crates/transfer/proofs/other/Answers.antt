-- The proof of `transfer::other`.
use Rattle.transfer.proofs.Matches.{moves, evens, odds, nothing_left}
use Rattle.keys.proofs.Chain.{unknown}
use mathlib.Core.Path.{refl}
use mathlib.Core.Bool.{true, false}
use Rattle.rules.specs.declared.Num.TheVariants.{Int, Long, Double}
use Rattle.rules.specs.declared.Unary.TheVariants.{Neg, Not, Convert, Count}
use Rattle.rules.specs.declared.Operator.TheVariants.{And, Or, Xor, Shl, Sal, Shr, Sar}
use Rattle.rules.specs.declared.Binary.TheVariants.{Arith}
use Rattle.rules.specs.declared.Instruction.TheVariants.{One, Two, Bump, Null, Delete}
use Rattle.transfer.proofs.other.Goals as goal

pub returns-in-19 : goal.returns-in-19
returns-in-19 c = λ m d w. moves m d w _ c.args.st.now _ _ _ 19 c.in-19.is w refl (One Neg) refl (c.keep.ensures Neg refl (λ t. refl) m d)

pub returns-in-20 : goal.returns-in-20
returns-in-20 c = λ m d w. moves m d w _ c.args.st.now _ _ _ 20 c.in-20.is w refl (Bump true) refl (c.bump.ensures true m d)

pub returns-in-21 : goal.returns-in-21
returns-in-21 c = λ m d w. moves m d w _ c.args.st.now _ _ _ 21 c.in-21.is w refl (Bump false) refl (c.bump-in-21.ensures false m d)

pub returns-in-22 : goal.returns-in-22
returns-in-22 c = λ m d w. moves m d w _ c.args.st.now _ _ _ 22 c.in-22.is w refl (Two (Arith And)) refl (c.arith.ensures And refl m d)

pub returns-in-23 : goal.returns-in-23
returns-in-23 c = λ m d w. moves m d w _ c.args.st.now _ _ _ 23 c.in-23.is w refl (Two (Arith Or)) refl (c.arith-in-23.ensures Or refl m d)

pub returns-in-24 : goal.returns-in-24
returns-in-24 c = λ m d w. moves m d w _ c.args.st.now _ _ _ 24 c.in-24.is w refl (Two (Arith Xor)) refl (c.arith-in-24.ensures Xor refl m d)

pub returns-in-25 : goal.returns-in-25
returns-in-25 c = λ m d w. moves m d w _ c.args.st.now _ _ _ 25 c.in-25.is w refl (One Not) refl (c.keep-in-25.ensures Not refl (λ t. refl) m d)

pub returns-in-26 : goal.returns-in-26
returns-in-26 c = λ m d w. moves m d w _ c.args.st.now _ _ _ 26 c.in-26.is w refl (Two (Arith Shl)) refl (c.arith-in-26.ensures Shl refl m d)

pub returns-in-27 : goal.returns-in-27
returns-in-27 c = λ m d w. moves m d w _ c.args.st.now _ _ _ 27 c.in-27.is w refl (Two (Arith Sal)) refl (c.arith-in-27.ensures Sal refl m d)

pub returns-in-28 : goal.returns-in-28
returns-in-28 c = λ m d w. moves m d w _ c.args.st.now _ _ _ 28 c.in-28.is w refl (Two (Arith Shr)) refl (c.arith-in-28.ensures Shr refl m d)

pub returns-in-29 : goal.returns-in-29
returns-in-29 c = λ m d w. moves m d w _ c.args.st.now _ _ _ 29 c.in-29.is w refl (Two (Arith Sar)) refl (c.arith-in-29.ensures Sar refl m d)

pub returns-in-41 : goal.returns-in-41
returns-in-41 c = λ m d w. moves m d w _ c.args.st.now _ _ _ 41 c.in-41.is w refl (One (Count true)) refl (c.keep-in-41.ensures (Count true) refl (λ t. refl) m d)

pub returns-in-42 : goal.returns-in-42
returns-in-42 c = λ m d w. moves m d w _ c.args.st.now _ _ _ 42 c.in-42.is w refl (One (Count false)) refl (c.keep-in-42.ensures (Count false) refl (λ t. refl) m d)

pub returns-in-43 : goal.returns-in-43
returns-in-43 c = λ m d w. moves m d w _ c.args.st.now _ _ _ 43 c.in-43.is w refl (One (Convert true Int)) refl (c.convert.ensures true Int refl m d)

pub returns-in-44 : goal.returns-in-44
returns-in-44 c = λ m d w. moves m d w _ c.args.st.now _ _ _ 44 c.in-44.is w refl (One (Convert true Long)) refl (c.convert-in-44.ensures true Long refl m d)

pub returns-in-45 : goal.returns-in-45
returns-in-45 c = λ m d w. moves m d w _ c.args.st.now _ _ _ 45 c.in-45.is w refl (One (Convert false Long)) refl (c.convert-in-45.ensures false Long refl m d)

pub returns-in-46 : goal.returns-in-46
returns-in-46 c = λ m d w. moves m d w _ c.args.st.now _ _ _ 46 c.in-46.is w refl (One (Convert false Double)) refl (c.convert-in-46.ensures false Double refl m d)

pub returns-in-47 : goal.returns-in-47
returns-in-47 c = λ m d w. moves m d w _ c.args.st.now _ _ _ 47 c.in-47.is w refl (One (Convert false Int)) refl (c.convert-in-47.ensures false Int refl m d)

pub returns-in-48 : goal.returns-in-48
returns-in-48 c = λ m d w. moves m d w _ c.args.st.now _ _ _ 48 c.in-48.is w refl (Null false) refl (c.push_type.ensures m d)

pub returns-in-50 : goal.returns-in-50
returns-in-50 c = λ m d w. moves m d w _ c.args.st.now _ _ _ 50 c.in-50.is w refl Delete refl (c.delete.ensures m d)

pub returns-in-51 : goal.returns-in-51
returns-in-51 c = λ m d w. moves m d w _ c.args.st.now _ _ _ 51 c.in-51.is w refl (Null true) refl (c.push_type-in-51.ensures m d)

pub returns-in-0 : goal.returns-in-0
returns-in-0 c = λ m d w. unknown _ c.requires.known.0 evens refl c.in-0.is

pub returns-in-53 : goal.returns-in-53
returns-in-53 c = λ m d w. unknown _ c.requires.known.0 odds refl c.in-53.is

pub returns-in_default : goal.returns-in_default
returns-in_default c = λ m d w. nothing_left _ c.requires.known.0 c.in_default.in_default-own.rest c.requires.known.1
