-- The proof of `transfer::single`.
use Rattle.rules.specs.declared.Instruction.TheVariants.{One, Two, Tload, Tstore}
use Rattle.rules.specs.declared.Binary.TheVariants.{Swap, Arith}
use Rattle.rules.specs.declared.Operator.TheVariants.{Add, Sub, Mul, Imul, Div, Idiv, Mod, Imod}
use Rattle.rules.specs.declared.Unary.TheVariants.{Pop, Copy}
use mathlib.Core.List.{[], ◌∷◌}
use mathlib.Core.Path.{refl}
use Rattle.keys.proofs.Chain.{outside_both}
use Rattle.keys.specs.Keys.{each}
use Rattle.transfer.specs.Transfers.{firsts}
use Rattle.transfer.proofs.Matches.{moves}
use Rattle.transfer.proofs.single.Goals as goal

pub other-requires : goal.other-requires
other-requires c = record { known = (c.requires.known.0, outside_both _ (each (18 ∷ 17 ∷ 16 ∷ 15 ∷ 14 ∷ 13 ∷ 12 ∷ 11 ∷ 10 ∷ 9 ∷ 8 ∷ 7 ∷ 2 ∷ [])) firsts c.in_default.in_default-own.rest c.requires.known.1, c.requires.known.2); holds = c.requires.holds }

pub returns-in-2 : goal.returns-in-2
returns-in-2 c = λ m d w. moves m d w _ c.args.st.now _ _ _ 2 c.in-2.is w refl (One Pop) refl (c.pop.ensures m d)

pub returns-in-7 : goal.returns-in-7
returns-in-7 c = λ m d w. moves m d w _ c.args.st.now _ _ _ 7 c.in-7.is w refl (Tload) refl (c.tload.ensures m d)

pub returns-in-8 : goal.returns-in-8
returns-in-8 c = λ m d w. moves m d w _ c.args.st.now _ _ _ 8 c.in-8.is w refl (Tstore) refl (c.tstore.ensures m d)

pub returns-in-9 : goal.returns-in-9
returns-in-9 c = λ m d w. moves m d w _ c.args.st.now _ _ _ 9 c.in-9.is w refl (One Copy) refl (c.copy.ensures m d)

pub returns-in-10 : goal.returns-in-10
returns-in-10 c = λ m d w. moves m d w _ c.args.st.now _ _ _ 10 c.in-10.is w refl (Two Swap) refl (c.swap.ensures m d)

pub returns-in-11 : goal.returns-in-11
returns-in-11 c = λ m d w. moves m d w _ c.args.st.now _ _ _ 11 c.in-11.is w refl (Two (Arith Add)) refl (c.arith.ensures Add refl m d)

pub returns-in-12 : goal.returns-in-12
returns-in-12 c = λ m d w. moves m d w _ c.args.st.now _ _ _ 12 c.in-12.is w refl (Two (Arith Sub)) refl (c.arith-in-12.ensures Sub refl m d)

pub returns-in-13 : goal.returns-in-13
returns-in-13 c = λ m d w. moves m d w _ c.args.st.now _ _ _ 13 c.in-13.is w refl (Two (Arith Mul)) refl (c.arith-in-13.ensures Mul refl m d)

pub returns-in-14 : goal.returns-in-14
returns-in-14 c = λ m d w. moves m d w _ c.args.st.now _ _ _ 14 c.in-14.is w refl (Two (Arith Imul)) refl (c.arith-in-14.ensures Imul refl m d)

pub returns-in-15 : goal.returns-in-15
returns-in-15 c = λ m d w. moves m d w _ c.args.st.now _ _ _ 15 c.in-15.is w refl (Two (Arith Div)) refl (c.arith-in-15.ensures Div refl m d)

pub returns-in-16 : goal.returns-in-16
returns-in-16 c = λ m d w. moves m d w _ c.args.st.now _ _ _ 16 c.in-16.is w refl (Two (Arith Idiv)) refl (c.arith-in-16.ensures Idiv refl m d)

pub returns-in-17 : goal.returns-in-17
returns-in-17 c = λ m d w. moves m d w _ c.args.st.now _ _ _ 17 c.in-17.is w refl (Two (Arith Mod)) refl (c.arith-in-17.ensures Mod refl m d)

pub returns-in-18 : goal.returns-in-18
returns-in-18 c = λ m d w. moves m d w _ c.args.st.now _ _ _ 18 c.in-18.is w refl (Two (Arith Imod)) refl (c.arith-in-18.ensures Imod refl m d)

pub returns-in_default : goal.returns-in_default
returns-in_default c = c.other.ensures
