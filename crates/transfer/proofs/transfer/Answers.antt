-- The proof of `transfer::transfer`.
use Rattle.transfer.proofs.Matches.{moves, fits}
use Rattle.transfer.proofs.Structures.{edition_read, file_numbered}
use Rattle.soundness.specs.Cutting.{few_structures}
use mathlib.Core.Path.{refl, sym, ◌∙◌}
use native.Mathlib.Omega.{arith}
use mathlib.Core.Bool.{true, false}
use Rattle.rules.specs.declared.Condition.TheVariants.{Je, Jne, Ja, Jae, Jb, Jbe}
use Rattle.rules.specs.declared.Binary.TheVariants.{Cmp}
use Rattle.rules.specs.declared.Instruction.TheVariants.{Push, Load, Store, Lea, Two, Jmp, Branch, Call, Ret, New, Flea}
use Rattle.transfer.proofs.transfer.Goals as goal

pub operand-requires : goal.operand-requires
operand-requires c = fits _ _ _ 1 c.requires.holds.1 c.in-1.is (Push _) refl

pub overflow_add-p : goal.overflow_add-p
overflow_add-p c = omega (arith, c.requires.holds.1.near)

pub operand-requires-in-3 : goal.operand-requires-in-3
operand-requires-in-3 c = fits _ _ _ 3 c.requires.holds.1 c.in-3.is (Load _) refl

pub overflow_add-p-in-3 : goal.overflow_add-p-in-3
overflow_add-p-in-3 c = omega (arith, c.requires.holds.1.near)

pub operand-requires-in-4 : goal.operand-requires-in-4
operand-requires-in-4 c = fits _ _ _ 4 c.requires.holds.1 c.in-4.is (Store _) refl

pub overflow_add-p-in-4 : goal.overflow_add-p-in-4
overflow_add-p-in-4 c = omega (arith, c.requires.holds.1.near)

pub operand-requires-in-5 : goal.operand-requires-in-5
operand-requires-in-5 c = fits _ _ _ 5 c.requires.holds.1 c.in-5.is (Lea _) refl

pub overflow_add-p-in-5 : goal.overflow_add-p-in-5
overflow_add-p-in-5 c = omega (arith, c.requires.holds.1.near)

pub operand-requires-in-6 : goal.operand-requires-in-6
operand-requires-in-6 c = fits _ _ _ 6 c.requires.holds.1 c.in-6.is (Flea _) refl

pub overflow_add-p-in-6 : goal.overflow_add-p-in-6
overflow_add-p-in-6 c = omega (arith, c.requires.holds.1.near)

pub overflow_add-p-in-30 : goal.overflow_add-p-in-30
overflow_add-p-in-30 c = omega (arith, c.requires.holds.1.near)

pub overflow_add-p-in-31 : goal.overflow_add-p-in-31
overflow_add-p-in-31 c = omega (arith, c.requires.holds.1.near)

pub operand-requires-in-32 : goal.operand-requires-in-32
operand-requires-in-32 c = fits _ _ _ 32 c.requires.holds.1 c.in-32.is (Jmp _) refl

pub operand-requires-in-33 : goal.operand-requires-in-33
operand-requires-in-33 c = fits _ _ _ 33 c.requires.holds.1 c.in-33.is (Branch Je _) refl

pub overflow_add-p-in-33 : goal.overflow_add-p-in-33
overflow_add-p-in-33 c = omega (arith, c.requires.holds.1.near)

pub operand-requires-in-34 : goal.operand-requires-in-34
operand-requires-in-34 c = fits _ _ _ 34 c.requires.holds.1 c.in-34.is (Branch Jne _) refl

pub overflow_add-p-in-34 : goal.overflow_add-p-in-34
overflow_add-p-in-34 c = omega (arith, c.requires.holds.1.near)

pub operand-requires-in-35 : goal.operand-requires-in-35
operand-requires-in-35 c = fits _ _ _ 35 c.requires.holds.1 c.in-35.is (Branch Ja _) refl

pub overflow_add-p-in-35 : goal.overflow_add-p-in-35
overflow_add-p-in-35 c = omega (arith, c.requires.holds.1.near)

pub operand-requires-in-36 : goal.operand-requires-in-36
operand-requires-in-36 c = fits _ _ _ 36 c.requires.holds.1 c.in-36.is (Branch Jae _) refl

pub overflow_add-p-in-36 : goal.overflow_add-p-in-36
overflow_add-p-in-36 c = omega (arith, c.requires.holds.1.near)

pub operand-requires-in-37 : goal.operand-requires-in-37
operand-requires-in-37 c = fits _ _ _ 37 c.requires.holds.1 c.in-37.is (Branch Jb _) refl

pub overflow_add-p-in-37 : goal.overflow_add-p-in-37
overflow_add-p-in-37 c = omega (arith, c.requires.holds.1.near)

pub operand-requires-in-38 : goal.operand-requires-in-38
operand-requires-in-38 c = fits _ _ _ 38 c.requires.holds.1 c.in-38.is (Branch Jbe _) refl

pub overflow_add-p-in-38 : goal.overflow_add-p-in-38
overflow_add-p-in-38 c = omega (arith, c.requires.holds.1.near)

pub operand-requires-in-39 : goal.operand-requires-in-39
operand-requires-in-39 c = fits _ _ _ 39 c.requires.holds.1 c.in-39.is (Call _) refl

pub overflow_add-p-in-39 : goal.overflow_add-p-in-39
overflow_add-p-in-39 c = omega (arith, c.requires.holds.1.near)

pub operand-requires-in-49 : goal.operand-requires-in-49
operand-requires-in-49 c = fits _ _ _ 49 c.requires.holds.1 c.in-49.is (New false _) refl

pub overflow_add-p-in-49 : goal.overflow_add-p-in-49
overflow_add-p-in-49 c = omega (arith, c.requires.holds.1.near)

pub new-requires : goal.new-requires
new-requires c = (c.requires.holds.0, omega (arith, few_structures _ c.requires.packed.1, c.declared.ensures), omega arith, omega arith)

pub operand-requires-in-52 : goal.operand-requires-in-52
operand-requires-in-52 c = fits _ _ _ 52 c.requires.holds.1 c.in-52.is (New true _) refl

pub overflow_add-p-in-52 : goal.overflow_add-p-in-52
overflow_add-p-in-52 c = omega (arith, c.requires.holds.1.near)

pub new-requires-in-52 : goal.new-requires-in-52
new-requires-in-52 c = (c.requires.holds.0, omega (arith, few_structures _ c.requires.packed.1, c.declared-in-52.ensures), omega arith, omega arith)

pub single-requires : goal.single-requires
single-requires c = record { known = (c.requires.holds.1.known, c.in_default.in_default-own.rest, c.requires.holds.1.near); holds = c.requires.holds.0 }

pub returns-in-1 : goal.returns-in-1
returns-in-1 c = moves _ _ _ _ c.args.st.now _ _ _ 1 c.in-1.is _ c.operand.ensures (Push _) refl (c.push_constant.ensures _)

pub returns-in-3 : goal.returns-in-3
returns-in-3 c = moves _ _ _ _ c.args.st.now _ _ _ 3 c.in-3.is _ c.operand-in-3.ensures (Load _) refl (c.load.ensures _ _)

pub returns-in-4 : goal.returns-in-4
returns-in-4 c = moves _ _ _ _ c.args.st.now _ _ _ 4 c.in-4.is _ c.operand-in-4.ensures (Store _) refl (c.store.ensures _ _)

pub returns-in-5 : goal.returns-in-5
returns-in-5 c = moves _ _ _ _ c.args.st.now _ _ _ 5 c.in-5.is _ c.operand-in-5.ensures (Lea _) refl (c.lea.ensures _ _)

pub returns-in-6 : goal.returns-in-6
returns-in-6 c = moves _ _ _ _ c.args.st.now _ _ _ 6 c.in-6.is _ c.operand-in-6.ensures (Flea _) refl (c.flea.ensures _)

pub returns-in-30 : goal.returns-in-30
returns-in-30 c = moves _ _ _ _ c.args.st.now _ _ _ 30 c.in-30.is _ refl (Two (Cmp false)) refl (c.compare.ensures false _ _ (edition_read _ ∙ sym c.fourth.ensures))

pub returns-in-31 : goal.returns-in-31
returns-in-31 c = moves _ _ _ _ c.args.st.now _ _ _ 31 c.in-31.is _ refl (Two (Cmp true)) refl (c.compare-in-31.ensures true _ _ (edition_read _ ∙ sym c.fourth-in-31.ensures))

pub returns-in-32 : goal.returns-in-32
returns-in-32 c = moves _ _ _ _ c.args.st.now _ _ _ 32 c.in-32.is _ c.operand-in-32.ensures (Jmp _) refl (c.jmp.ensures _ _ c.requires.holds.0)

pub returns-in-33 : goal.returns-in-33
returns-in-33 c = moves _ _ _ _ c.args.st.now _ _ _ 33 c.in-33.is _ c.operand-in-33.ensures (Branch Je _) refl (c.branch-file.ensures Je)

pub returns-in-34 : goal.returns-in-34
returns-in-34 c = moves _ _ _ _ c.args.st.now _ _ _ 34 c.in-34.is _ c.operand-in-34.ensures (Branch Jne _) refl (c.branch-file-in-34.ensures Jne)

pub returns-in-35 : goal.returns-in-35
returns-in-35 c = moves _ _ _ _ c.args.st.now _ _ _ 35 c.in-35.is _ c.operand-in-35.ensures (Branch Ja _) refl (c.branch-file-in-35.ensures Ja)

pub returns-in-36 : goal.returns-in-36
returns-in-36 c = moves _ _ _ _ c.args.st.now _ _ _ 36 c.in-36.is _ c.operand-in-36.ensures (Branch Jae _) refl (c.branch-file-in-36.ensures Jae)

pub returns-in-37 : goal.returns-in-37
returns-in-37 c = moves _ _ _ _ c.args.st.now _ _ _ 37 c.in-37.is _ c.operand-in-37.ensures (Branch Jb _) refl (c.branch-file-in-37.ensures Jb)

pub returns-in-38 : goal.returns-in-38
returns-in-38 c = moves _ _ _ _ c.args.st.now _ _ _ 38 c.in-38.is _ c.operand-in-38.ensures (Branch Jbe _) refl (c.branch-file-in-38.ensures Jbe)

pub returns-in-39 : goal.returns-in-39
returns-in-39 c = moves _ _ _ _ c.args.st.now _ _ _ 39 c.in-39.is _ c.operand-in-39.ensures (Call _) refl (c.call.ensures _)

pub returns-in-40 : goal.returns-in-40
returns-in-40 c = moves _ _ _ _ c.args.st.now _ _ _ 40 c.in-40.is _ refl Ret refl (c.ret.ensures _)

pub returns-in-49 : goal.returns-in-49
returns-in-49 c = moves _ _ _ _ c.args.st.now _ _ _ 49 c.in-49.is _ c.operand-in-49.ensures (New false _) refl (c.new.ensures false refl _ _ (file_numbered _ c.requires.packed.1 _ c.declared.ensures))

pub returns-in-52 : goal.returns-in-52
returns-in-52 c = moves _ _ _ _ c.args.st.now _ _ _ 52 c.in-52.is _ c.operand-in-52.ensures (New true _) refl (c.new-in-52.ensures true refl _ _ (file_numbered _ c.requires.packed.1 _ c.declared-in-52.ensures))

pub returns-in_default : goal.returns-in_default
returns-in_default c = c.single.ensures _ _ _
