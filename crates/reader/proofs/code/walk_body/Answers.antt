-- The proof of `reader::code::walk_body`.
use Prim.Native.Nat.{ℕ, ◌+◌, ◌<◌}
use native.Mathlib.Omega.{arith}
use mathlib.Core.List.{List}
use mathlib.Core.Path.{◌≡◌, refl, sym, ◌∙◌, ap, subst}
use lib.Dec.{eqb}
use lib.ListN.{length, length-set, set}
use Rattle.reader.proofs.Cuts.{cut_step, crosses, walked, stopped}
use Rattle.reader.specs.Cut.{Cut, Walked}
use Rattle.reader.proofs.code.walk_body.Goals as goal
use Rattle.reader.proofs.code.walk_body.Goals.{then-size-eq1, else-size-eq1, else-loop-p-test, then-loop-p-test+then-size-eq0}

pub loop-p-init : goal.loop-p-init
loop-p-init c = (c.requires.cut, refl, λ h. absurd (omega arith), omega arith, omega arith)

pub skip-p-requires : goal.skip-p-requires
skip-p-requires c = let m : c.mark.new.starts ≡ set c.loop-p.starts c.loop-p.p 1 = c.mark.ensures in
    let one : c.opcode_size-size.result ≡ 1 = elim c.if-size-eq1.branch [ then-size-eq1 w ↦ omega arith | else-size-eq1 w ↦ absurd (omega arith) ] in
    record { from_le_to = (omega arith, omega arith, c.requires.from_le_to.2, c.requires.from_le_to.3); cut = subst (λ (x : List ℕ). Cut c.args.edition c.args.code.now (c.loop-p.p + c.opcode_size-size.result) x) (sym m) (cut_step c.args.edition c.args.code.now c.loop-p.p c.opcode_size-size.result c.loop-p.starts c.loop-p.invariant.0 c.opcode_size-size.ensures.0 (omega arith)) }

pub loop-p-preserved-then-wait-eq0 : goal.loop-p-preserved-then-wait-eq0
loop-p-preserved-then-wait-eq0 c = let m : c.mark.new.starts ≡ set c.loop-p.starts c.loop-p.p 1 = c.mark.ensures in
    (c.skip-p.ensures.cut_2, c.skip-p.ensures.starts_len_unchanged ∙ ap length m ∙ length-set c.loop-p.starts c.loop-p.p 1 ∙ c.loop-p.invariant.1, λ h. absurd (omega arith), omega arith, omega arith)

pub loop-p-preserved : goal.loop-p-preserved
loop-p-preserved c = let m : c.mark.new.starts ≡ set c.loop-p.starts c.loop-p.p 1 = c.mark.ensures in
    let some : 0 < c.opcode_size-size.result = omega arith in (
      subst (λ (x : List ℕ). Cut c.args.edition c.args.code.now (c.loop-p.p + c.opcode_size-size.result) x) (sym m) (cut_step c.args.edition c.args.code.now c.loop-p.p c.opcode_size-size.result c.loop-p.starts c.loop-p.invariant.0 c.opcode_size-size.ensures.0 some),
      ap length m ∙ length-set c.loop-p.starts c.loop-p.p 1 ∙ c.loop-p.invariant.1,
      λ h. crosses c.args.edition c.args.code.now c.loop-p.p c.opcode_size-size.result c.args.to c.loop-p.invariant.0.begins c.opcode_size-size.ensures.0 some c.loop-p-test.true h,
      omega arith,
      elim c.if-size-eq1.branch [ then-size-eq1 w ↦ omega arith | else-size-eq1 w ↦ omega arith ],
    )

pub returns : goal.returns
returns c =
    elim c.loop-p-test.branch [
      | else-loop-p-test w ↦ record {
        starts_len_unchanged = omega arith;
        walked = subst (λ (x : List ℕ). Walked (eqb c.loop-p.p c.args.to) c.args.edition c.args.code.now c.args.to x) (sym w.starts-is) (walked c.args.edition c.args.code.now c.loop-p.p c.args.to c.loop-p.starts c.loop-p.invariant.0 (omega arith) c.loop-p.invariant.2);
      }
      | then-loop-p-test+then-size-eq0 w ↦ record {
        starts_len_unchanged = omega arith;
        walked = stopped c.args.edition c.args.code.now c.loop-p.p w.opcode_size-size.result c.args.to c.loop-p-test.starts c.loop-p.invariant.0.begins w.opcode_size-size.ensures.0 w.if-size-eq0.true w.loop-p-test.true;
      }
    ]
