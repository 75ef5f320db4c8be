-- The proof of `reader::code::opcode_size`.
use Prim.Native.Nat.{◌<◌}
use native.Mathlib.Omega.{arith}
use mathlib.Core.Path.{◌≡◌, sym, ◌∙◌}
use borrow.Author.Tests.{lt-ltb, le-ltb, eq-eqb, ne_eqb}
use Rattle.reader.proofs.Table.{size_by_bits, size_by_bits_lem}
use Rattle.reader.proofs.code.opcode_size.Goals as goal

pub returns-then-b-gt63 : goal.returns-then-b-gt63
returns-then-b-gt63 c = let h : c.args.b < 256 = omega arith in
    (simp (← size_by_bits_lem c.args.edition _ c.requires h, lt-ltb _ _ c.if-b-gt63.true), omega arith)

pub returns-then-wide-k-eq1 : goal.returns-then-wide-k-eq1
returns-then-wide-k-eq1 c = let h : c.args.b < 256 = omega arith in
    let z : size_by_bits c.args.edition c.args.b ≡ 5 = simp (le-ltb _ _ c.if-b-gt63.false, ← c.from-k.ensures, ← c.wide_opcodes-wide.ensures, eq-eqb _ _ c.if-wide-k-eq1.true) in
    (sym z ∙ size_by_bits_lem c.args.edition _ c.requires h, omega arith)

pub returns-then-bare-k-eq1 : goal.returns-then-bare-k-eq1
returns-then-bare-k-eq1 c = let h : c.args.b < 256 = omega arith in
    let z : size_by_bits c.args.edition c.args.b ≡ 1 = simp (le-ltb _ _ c.if-b-gt63.false, ← c.from-k.ensures, ← c.wide_opcodes-wide.ensures, ne_eqb _ _ c.if-wide-k-eq1.false, ← c.bare_opcodes-bare.ensures, eq-eqb _ _ c.if-bare-k-eq1.true) in
    (sym z ∙ size_by_bits_lem c.args.edition _ c.requires h, omega arith)

pub returns-then-edition-b : goal.returns-then-edition-b
returns-then-edition-b c = let h : c.args.b < 256 = omega arith in
    let z : size_by_bits c.args.edition c.args.b ≡ 5 = simp (le-ltb _ _ c.if-b-gt63.false, ← c.from-k.ensures, ← c.wide_opcodes-wide.ensures, ne_eqb _ _ c.if-wide-k-eq1.false, ← c.bare_opcodes-bare.ensures, ne_eqb _ _ c.if-bare-k-eq1.false, c.if-edition-b.true) in
    (sym z ∙ size_by_bits_lem c.args.edition _ c.requires h, omega arith)

pub returns-then-edition-b-2 : goal.returns-then-edition-b-2
returns-then-edition-b-2 c = let h : c.args.b < 256 = omega arith in
    let z : size_by_bits c.args.edition c.args.b ≡ 1 = simp (le-ltb _ _ c.if-b-gt63.false, ← c.from-k.ensures, ← c.wide_opcodes-wide.ensures, ne_eqb _ _ c.if-wide-k-eq1.false, ← c.bare_opcodes-bare.ensures, ne_eqb _ _ c.if-bare-k-eq1.false, c.if-edition-b.false, c.if-edition-b-2.true) in
    (sym z ∙ size_by_bits_lem c.args.edition _ c.requires h, omega arith)

pub returns : goal.returns
returns c = let h : c.args.b < 256 = omega arith in
    let z : size_by_bits c.args.edition c.args.b ≡ 0 = simp (le-ltb _ _ c.if-b-gt63.false, ← c.from-k.ensures, ← c.wide_opcodes-wide.ensures, ne_eqb _ _ c.if-wide-k-eq1.false, ← c.bare_opcodes-bare.ensures, ne_eqb _ _ c.if-bare-k-eq1.false, c.if-edition-b.false, c.if-edition-b-2.false) in
    (sym z ∙ size_by_bits_lem c.args.edition _ c.requires h, omega arith)
