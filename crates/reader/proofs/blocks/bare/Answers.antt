-- The proof of `reader::blocks::bare`.
use Prim.Native.Nat.{◌<◌}
use native.Mathlib.Omega.{arith}
use mathlib.Core.Path.{◌≡◌}
use Rattle.format.proofs.Editions.{third_edition}
use Rattle.reader.proofs.Table.{first_bare_lem, third_bare_lem, fourth_bare_lem}
use Rattle.reader.proofs.blocks.bare.Goals as goal

pub returns-then-edition-eq1 : goal.returns-then-edition-eq1
returns-then-edition-eq1 c = let h : c.args.b < 256 = omega arith in
    let q : c.args.edition ≡ 1 = c.if-edition-eq1.true in
    rw q (first_bare_lem _ h)

pub returns-then-edition-eq4 : goal.returns-then-edition-eq4
returns-then-edition-eq4 c = let h : c.args.b < 256 = omega arith in
    let q : c.args.edition ≡ 4 = c.if-edition-eq4.true in
    rw q (fourth_bare_lem _ h)

pub returns : goal.returns
returns c = let h : c.args.b < 256 = omega arith in
    let q : c.args.edition ≡ 3 = third_edition _ c.requires c.if-edition-eq1.false c.if-edition-eq4.false in
    rw q (third_bare_lem _ h)
