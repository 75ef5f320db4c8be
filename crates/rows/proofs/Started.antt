-- A row's arguments in their slots and the first frame: the run from there is the one that the rules give of the row.
use Prim.Native.Nat.{ℕ, ◌+◌, ◌*◌, ◌-◌, ◌≤◌}
use native.Mathlib.Omega.{arith}
use mathlib.Core.Path.{◌≡◌, refl, sym, ap, ◌∙◌}
use mathlib.Core.Bool.{true}
use mathlib.Core.List.{List}
use lib.ListN.{length}
use Rattle.machine.specs.Ends.{number_of}
use Rattle.rules.specs.ModuleFile.{read, refusal}
use Rattle.rules.specs.Machine.{outcome, keeping}
use Rattle.format.specs.declared.Sections.{Sections}
use Rattle.state.specs.State.{memory_of}
use Rattle.state.specs.declared.Registers.{Registers}
use Rattle.control.specs.Control.{opened_in, first_at}
use Rattle.machine.specs.Ends.{Fits}
use Rattle.runs.specs.Runs.{Copied}
use Rattle.runs.proofs.Returns.{room, starts_fit, starts_as}
use Rattle.rows.specs.declared.RowEnd.{RowEnd}
use Rattle.rows.specs.Rows.{RunsAs, Admits, Stage, RowIs}

module _ (s : List ℕ) (l : Sections) (k start end : ℕ) (a b p t c h : List ℕ) (ad : Admits s l k start end a b) (cap n : ℕ) (st : Stage cap n b p t c h) where
  pub row_room : (length b * 8 ≤ length a) × (length b ≤ length b) × (length b * 8 ≤ length p) × (length b ≤ length t)
  row_room = room s k a b p t c h l _ ad.body true (sym ad.admits) refl cap st.slots st.fit

  module _ (p₁ t₁ w w' : List ℕ) (r : Registers) (copied : Copied a b p t (length b) p₁ t₁) (words : length w ≡ 1536) (er : r ≡ first_at start end (length b))
      (ew : w' ≡ opened_in w 0 k 0 (length b)) where
    pub row_fits : refusal s ≡ 0 → Fits (read s) cap r p₁ t₁ w'
    row_fits =
        starts_fit s k a b p t c h l _ ad.body true (sym ad.admits) refl cap st.slots st.fit p₁ t₁ w w' r copied 1536 words (omega arith) (omega arith) er ew

    pub row_is : (allowance : ℕ) (g : RowEnd) (p' t' c' h' : List ℕ) → RunsAs s cap n r allowance g p₁ t₁ w' c h p' t' c' h' → RowIs s k a b allowance cap n g p t c h p' t' c' h'
    row_is allowance g p' t' c' h' u =
        let z : allowance - g.ended.rest ≡ 0 + (allowance - g.ended.rest) = omega arith in
        record {
          heap = u.0.heap;
          exact = ap (λ (i : ℕ). outcome (number_of g.ended.stop) i (keeping (memory_of p' t' g.ended.last.height) u.0.heap)) z ∙ u.0.exact 0
              ∙ sym (starts_as s k a b p t c h l _ ad.body true (sym ad.admits) refl cap st.slots st.fit p₁ t₁ w w' r copied 1536 words (omega arith) (omega arith) er ew allowance n);
          cells_are = u.0.cells_are;
          table_is = u.0.table_is;
          unused = u.1;
          high = u.0.high;
          rest_payloads = u.0.rest_payloads ∙ copied.rest_payloads cap st.fit;
          rest_types = u.0.rest_types ∙ copied.rest_types cap st.fit;
          same_payloads = u.0.same_payloads ∙ copied.same_payloads;
          same_types = u.0.same_types ∙ copied.same_types;
        }
