-- The place of a running frame has an instruction whose bytes are all in the code, and a step keeps this.
use Rattle.std.specs.Prelude.{◌≡◌, ℕ, ◌+◌, ◌≤◌, ◌<◌, List}
use Rattle.std.proofs.Common.{subst}
use Rattle.std.proofs.Math.Option.{some}
use Rattle.soundness.specs.Names.{Slot, Instruction}
use Rattle.rules.specs.Instructions.{size}
use Rattle.rules.specs.Tables.{body_end, due, module_of}
use Rattle.rules.specs.ModuleFile.{edition, code_in, bodies_in, code_length, read, refusal, tables_in}
use Rattle.rules.specs.Machine.{State, advance, step}
use Rattle.soundness.specs.Tests.{leb_no}
use Rattle.soundness.specs.Readable.{end_is, place_is, place_inside, orderly}
use Rattle.soundness.specs.Cutting.{code_length_lem, good_file}
use Rattle.soundness.specs.Started.{Closed, Fit, NextFit, advance_fit, has_instruction}

module _ (s : List ℕ) (e : refusal s ≡ 0) (P : Slot → Type 0) (C : Closed (read s) P) (cap : ℕ) (st : State) (I : Fit (read s) P cap st) where
  -- its body ends in the code
  pub stop_inside : st.top.stop ≤ code_length s
  stop_inside =
      let y = end_is (tables_in s) (good_file s e) st.top.body st.top.stop I.frames.0.ends in
      let z = (place_inside (tables_in s) (good_file s e) st.top.body st.top.place y.0 I.frames.0.placed).2 in
      subst (λ n. n ≤ code_length s) y.1 (subst (λ n. body_end (bodies_in s) st.top.body ≤ n) (code_length_lem s e) z)

  pub whole_instruction : st.top.place < st.top.stop
      → (i : Instruction) × ((read s).code st.top.place ≡ some i) × (st.top.place + size i ≤ st.top.stop)
  whole_instruction l =
      let x = has_instruction (read s) (orderly (tables_in s) (good_file s e)) P C cap st I (leb_no st.top.stop st.top.place l) in
      let y = end_is (tables_in s) (good_file s e) st.top.body st.top.stop I.frames.0.ends in
      let w = place_inside (tables_in s) (good_file s e) st.top.body (st.top.place + size x.0) y.0 x.2 in
      (x.0, x.1, subst (λ z. st.top.place + size x.0 ≤ z) y.1 w.1)

  -- an instruction begins there, so code in keys has its key there (`in_keys` of `Translated`)
  pub place_cut : due (edition s) (code_in s) st.top.place ≡ 0
  unfolding module_of
  place_cut = (place_is (tables_in s) (good_file s e) st.top.body st.top.place I.frames.0.placed).2

  pub step_fit : st.top.place < st.top.stop → NextFit (read s) P cap (step (read s) cap st)
  unfolding advance
  step_fit l = rw (leb_no st.top.stop st.top.place l) at (advance_fit (read s) (orderly (tables_in s) (good_file s e)) P C cap st I)
