use lib.ListN.{replicate, length-replicate}
use mathlib.Core.Path.{refl}
use Prim.Native.Nat.{ℕ}
use Rattle.nodes.proofs.Copies.{zeros_at}
use Rattle.rechecker.proofs.Laws.{fresh_works, judged}
use Rattle.rechecker.proofs.flags.judge.Goals as goal

pub check_body-requires : goal.check_body-requires
check_body-requires c = record { working = fresh_works _ _ _ _ (replicate 514 0) c.requires.ready.0 _ c.requires.ready.1 (length-replicate {A = ℕ} 514 0) _ c.owner_of-owner.ensures.1 (zeros_at 514); st_len = refl; keyed = c.requires.keyed }

pub returns : goal.returns
returns c = judged _ _ _ _ (replicate 514 0) c.requires.ready.0 _ c.requires.ready.1 (length-replicate {A = ℕ} 514 0) c.owner_of-owner.result c.owner_of-owner.ensures.1 _ _ _ c.check_body.ensures
