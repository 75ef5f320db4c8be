-- How long the code of a tree is.
use Rattle.std.specs.Prelude.{◌+◌, ◌*◌, ◌≤◌, [], ◌∷◌, length}
use Rattle.std.proofs.Common.{ap, arith, length-append}
use Rattle.rules.specs.Grammar.{Tree}
use Rattle.rules.specs.Formula.{answer, postfix, assembled, code_bytes}
use Rattle.grammar.specs.Proper.{count, postfix_count}
use Rattle.grammar.specs.Coded.{assembled_append, assembled_long}

-- five bytes an instruction at most, and one for `ret`
pub code_long : (t : Tree) → length (code_bytes t) ≤ 5 * count t + 1
code_long t =
    omega (arith, ap length (assembled_append (postfix 0 t) (answer ∷ [])), length-append (assembled (postfix 0 t)) (assembled (answer ∷ [])), assembled_long (postfix 0 t), postfix_count t 0)
