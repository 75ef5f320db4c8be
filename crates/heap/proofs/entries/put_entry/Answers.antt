use Rattle.heap.proofs.Stores.{put_entry_by}
use native.Mathlib.Omega.{arith}
use Rattle.heap.proofs.entries.put_entry.Goals as goal

pub returns : goal.returns
returns c = put_entry_by c.args.t.now _ _ _ c.args.i c.args.e (c.requires) (omega arith) (omega arith) (omega arith) c.store64.ensures c.store64-2.ensures c.store64-3.ensures
