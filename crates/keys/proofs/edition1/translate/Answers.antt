-- The proof of `keys::edition1::translate`.
use Prim.Native.Nat.{◌≤◌}
use native.Mathlib.Omega.{arith}
use mathlib.Core.Path.{◌∙◌, subst}
use lib.ListN.{length, length-set}
use Rattle.rules.specs.Bytes.{byte}
use Rattle.rules.specs.Instructions.{edition1, opcode_of}
use Rattle.keys.proofs.Translation.{Translating, begins, again, goes_on, no_word, word_copied, ended}
use Rattle.keys.proofs.edition1.translate.Goals as goal

pub loop-p-init : goal.loop-p-init
loop-p-init c = begins _ _

pub overflow_add-p : goal.overflow_add-p
overflow_add-p c = omega (arith, c.loop-p.invariant.inside)

pub bounds-own-p : goal.bounds-own-p
bounds-own-p c =
    omega (arith, c.loop-p.invariant.same)

pub copy_word-requires : goal.copy_word-requires
copy_word-requires c =
    let l : length c.args.code.now ≤ length c.args.own.now = c.requires in (omega arith, simp length-set (omega (arith, c.loop-p.invariant.same)))

pub loop-p-preserved-then-operands-eq4 : goal.loop-p-preserved-then-operands-eq4
loop-p-preserved-then-operands-eq4 c =
    rw c.copy_word.ensures (word_copied _ _ _ _ (subst (Translating _ _ _ _) c.if-operands-eq4.true (goes_on _ _ _ _ _ c.loop-p.invariant c.requires (omega arith) _ _ c.key-k.ensures c.due_after-operands.ensures)) c.requires (omega arith))

pub loop-p-preserved : goal.loop-p-preserved
loop-p-preserved c =
    subst (Translating _ _ _ _) (no_word (opcode_of edition1 (byte c.args.code.now c.loop-p.p)) _ c.due_after-operands.ensures c.if-operands-eq4.false) (goes_on _ _ _ _ _ c.loop-p.invariant c.requires (omega arith) _ _ c.key-k.ensures c.due_after-operands.ensures)

pub loop-q-init : goal.loop-q-init
loop-q-init c = again _ _ _ _ _ c.loop-p.invariant

pub bounds-own-q : goal.bounds-own-q
bounds-own-q c =
    omega (arith, c.loop-q.invariant.same)

pub loop-q-preserved : goal.loop-q-preserved
loop-q-preserved c =
    goes_on _ _ _ _ _ c.loop-q.invariant (omega (arith, c.loop-p.invariant.same, c.requires)) c.loop-q-test.true _ _ c.in_keys.ensures c.due_after-due.ensures

pub shape_of-own : goal.shape_of-own
shape_of-own c =
    c.loop-q.invariant.same ∙ c.loop-p.invariant.same

pub returns : goal.returns
returns c =
    ended _ _ _ _ _ c.loop-q.invariant (omega (arith, c.loop-p.invariant.same, c.requires)) c.loop-q-test.false
