-- The proof of `reader::code_refusal`.
use native.Mathlib.Omega.{arith}
use mathlib.Core.Bool.{true≢false}
use mathlib.Core.Path.{sym, ◌∙◌}
use Rattle.rules.specs.Tables.{first_of}
use Rattle.reader.proofs.code_refusal.Goals as goal

pub returns-then-bad : goal.returns-then-bad
unfolding first_of
returns-then-bad c = record { value = simp (← c.bad_code-bad.ensures.value, c.if-bad.true); starts_exactly = λ e. absurd (true≢false (sym c.if-bad.true ∙ c.bad_code-bad.ensures.value ∙ e)) }

pub bad_labels-loose-requires : goal.bad_labels-loose-requires
bad_labels-loose-requires c = record { filled = c.requires.filled.0; code_in_bounds = (λ h. let l = c.requires.code_in_bounds.0 h in omega (arith, c.bad_code-bad.ensures.starts_len_unchanged)); starts_exactly = c.bad_code-bad.ensures.starts_exactly c.if-bad.false }

pub returns-then-loose : goal.returns-then-loose
unfolding first_of
returns-then-loose c = record { value = simp (← c.bad_code-bad.ensures.value, c.if-bad.false, ← c.bad_labels-loose.ensures, c.if-loose.true); starts_exactly = λ e. c.bad_code-bad.ensures.starts_exactly c.if-bad.false }

pub returns : goal.returns
unfolding first_of
returns c = record { value = simp (← c.bad_code-bad.ensures.value, c.if-bad.false, ← c.bad_labels-loose.ensures, c.if-loose.false); starts_exactly = λ e. c.bad_code-bad.ensures.starts_exactly c.if-bad.false }
