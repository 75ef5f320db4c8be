-- The proof of `runs::close`.
use Rattle.runs.proofs.Final.{leaves}
use mathlib.Core.Path.{refl}
use Rattle.runs.proofs.close.Goals as goal

pub returns : goal.returns
returns c = λ n. leaves _ _ _ _ (λ i. (c.slice_known-1.given i).fits) n _ _ _ c.requires.0 c.requires.1 c.clear_part.ensures c.clear_part-2.ensures _ refl
