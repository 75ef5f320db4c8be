use Rattle.rechecker.proofs.Laws.{flagged_none, flagged_more, flags_end, still_ready}
use Rattle.rules.specs.ModuleFile.{read}
use lib.ListN.{length, length-set}
use mathlib.Core.Path.{refl, ap, ◌∙◌}
use native.Mathlib.Omega.{arith}
use Rattle.rechecker.proofs.flags.flags.Goals as goal

pub loop-i-init : goal.loop-i-init
loop-i-init c = (omega arith, c.requires.lends.order, flagged_none _ _ _ _ refl, refl, refl)

pub judge-typed-requires : goal.judge-typed-requires
judge-typed-requires c = record { ready = (still_ready _ _ _ _ _ c.requires.ready c.loop-i.invariant.4, omega (arith, c.requires.lends.few)); keyed = c.requires.keyed }

pub set_flag-requires : goal.set_flag-requires
set_flag-requires c = (omega (arith, c.requires.lends.long, c.loop-i.invariant.3), omega (arith, c.requires.lends.few, c.requires.ready.packed.few_functions))

pub loop-i-preserved : goal.loop-i-preserved
loop-i-preserved c = (omega arith, omega arith, c.set_flag.ensures ∙ flagged_more (read _) _ _ c.loop-i.i _ c.loop-i.beside c.loop-i.invariant.0 c.loop-i.invariant.2 c.judge-typed.ensures, ap length c.set_flag.ensures ∙ length-set c.loop-i.beside _ _ ∙ c.loop-i.invariant.3, omega (arith, c.loop-i.invariant.4))

pub shape_of-room : goal.shape_of-room
shape_of-room c = c.loop-i.invariant.4

pub shape_of-beside : goal.shape_of-beside
shape_of-beside c = c.loop-i.invariant.3

pub returns : goal.returns
returns c = flags_end (read _) _ _ c.loop-i.i _ c.loop-i.beside c.loop-i.invariant.2 (omega arith)
