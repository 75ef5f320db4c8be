-- The proof of `nodes::starts::copy_params`.
use Rattle.nodes.proofs.Seeds.{copied_all}
use Prim.Native.Nat.{◌+◌, ◌-◌}
use mathlib.Core.Path.{◌≡◌}
use native.Mathlib.Omega.{arith}
use Rattle.nodes.proofs.starts.copy_params.Goals as goal

pub returns : goal.returns
returns c =
    let e : c.args.«at» + 8 - c.args.«at» ≡ 8 = omega arith in
    rw (c.copy_from_slice.ensures.after, e) (copied_all c.args.file.now c.args.«at» c.args.st.now c.requires.0 c.requires.1)
