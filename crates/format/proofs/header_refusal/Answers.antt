-- The proof of `format::header_refusal`.
use Prim.Native.Nat.{ℕ}
use mathlib.Core.Path.{◌≡◌, sym, ap, ◌∙◌}
use mathlib.Core.Bool.{◌&&◌}
use Rattle.rules.specs.Tables.{differs, first_of}
use Rattle.rules.specs.ModuleFile.{edition}
use Rattle.format.proofs.Rows.{long_other, unknown_other, from_sizes, plain_declares}
use Rattle.format.proofs.header_refusal.Goals as goal

pub returns-then-edition : goal.returns-then-edition
unfolding first_of
returns-then-edition c = let args = c.args in let pre = c.requires in
    let four : edition args.file.now ≡ 4 → ⊥ = λ q. pre.2 (pre.1 ∙ q) in
    simp (long_other _ four pre.0, unknown_other _ four, ← pre.1, c.if-edition.true)

pub sizes_refusal-requires : goal.sizes_refusal-requires
sizes_refusal-requires c = let pre = c.requires in plain_declares _ _ pre.0 pre.1 pre.2

pub returns : goal.returns
returns c = let args = c.args in let pre = c.requires in
    let four : edition args.file.now ≡ 4 → ⊥ = λ q. pre.2 (pre.1 ∙ q) in
    c.sizes_refusal.ensures ∙ sym (from_sizes _ (long_other _ four pre.0) (unknown_other _ four ∙ ap (λ (e : ℕ). differs e 1 && differs e 3) (sym pre.1) ∙ c.if-edition.false))
