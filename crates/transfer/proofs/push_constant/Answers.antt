-- The proof of `transfer::push_constant`.
use mathlib.Core.Path.{sym}
use Rattle.rules.specs.ModuleFile.{read}
use Rattle.transfer.proofs.Constants.{number_byte, constant_number, push_nothing, push_number}
use Rattle.transfer.proofs.push_constant.Goals as goal

pub returns-in_default : goal.returns-in_default
returns-in_default c = λ b. push_nothing _ b _ _ _ c.requires.holds (sym c.in_default.ensures)

pub push_type-requires : goal.push_type-requires
push_type-requires c = let is = sym c.in-Some.ensures in
    let n = constant_number _ c.requires.packed.1 _ c.in-Some.v (sym is) in
    (c.requires.holds, number_byte _ n.0 n.1)

pub returns : goal.returns
returns c = let is = sym c.in-Some.ensures in
    let n = constant_number _ c.requires.packed.1 _ c.in-Some.v (sym is) in
    λ b. push_number (read c.args.file.now) b c.args.k _ c.args.st.now c.in-Some.v is n.0 n.1 _ _ c.push_type.ensures
