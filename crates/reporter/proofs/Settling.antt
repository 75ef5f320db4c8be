-- What the rows say, from blank tables to settled ones, and the report by the check's answer.
use mathlib.Core.Path.{◌≡◌, refl, sym, ap, subst}
use mathlib.Core.Logic.{◌⊎◌, inl, inr}
use Prim.Native.Nat.{ℕ, zero, suc, ◌+◌, ◌*◌, ◌≤◌, ◌<◌}
use native.Mathlib.Omega.{arith}
use mathlib.Core.Option.{none, some}
use mathlib.Core.List.{List}
use lib.ListN.{length, get_or, replicate, length-replicate}
use Rattle.rules.specs.AnswerTypes.{CheckAnswer}
use Rattle.rules.specs.AnswerTypes.{Refused, Untyped, Accepted}
use Rattle.std.specs.Prelude.{Err}
use Rattle.rules.specs.declared.CheckError.{CheckError}
use Rattle.rules.specs.Results.{refusal_number, check_answer, need_answer, need_error}
use Rattle.rules.specs.ModuleFile.{refusal, functions, labels, read}
use Rattle.rules.specs.Answers.{Checked, checked, check_number, check}
use Rattle.rules.specs.Demand3.{IsAccepted, Exists}
use Rattle.rules.specs.Need.{Needs, Recursive}
use Rattle.rules.specs.Heights.{need_of}
use Rattle.rules.specs.Reporting.{report_after, report_needs}
use Rattle.format.specs.declared.Sections.{Sections}
use Rattle.format.specs.Layout.{Packed}
use Rattle.soundness.specs.Whole.{accepted_typed}
use Rattle.nodes.specs.Nodes.{Tabled}
use Rattle.nodes.proofs.Copies.{zeros_at}
use Rattle.need.specs.Whole.{few, below, recursive_fails, needs_shown}
use Rattle.settle.specs.Graph.{TableOf, row_of, mark_of, Low, Ended}
use Rattle.settle.specs.Tables.{table_low, ended_needs}
use Rattle.tracks.specs.Visits.{Shown}
use Rattle.reporter.specs.Rows.{Asks, Filled}
use Rattle.reporter.specs.After.{shown_after}
use Rattle.reporter.specs.Told.{Known, BlankRows, Checkable, ReportIs}

-- ---- blank tables

pub blank_rows : (n m : ℕ) → 128 * suc n ≤ m → BlankRows n (replicate m 0)
blank_rows n m l = ((let z : List ℕ = replicate m 0 in let e : length z ≡ m = length-replicate m 0 in omega arith), zeros_at m)

pub filled_blank : (s : List ℕ) (n : ℕ) (off : List ℕ) → BlankRows n off → Filled s n 0 (replicate 129 0) off (replicate 256 0) (replicate 258 0)
filled_blank s n off B =
    record {
      owns = refl;
      offs = B.0;
      rows = λ b l. absurd (omega arith);
      blank = λ j l. B.1 j;
      marked = refl;
      grounded = refl;
      small = λ k. let e = zeros_at 256 k in omega arith;
      numbered = λ k l. absurd (let e = zeros_at 256 k in omega arith);
      quiet = λ k e. absurd (let z = zeros_at 256 k in omega arith);
      top = omega arith;
      unseen = λ k b l e. zeros_at 256 k;
    }

pub ended_blank : (n : ℕ) (own off : List ℕ) → n ≤ 128 → length own ≡ 129 → 128 * suc n ≤ length off → Ended n own off 0 (replicate 129 0) (replicate 129 0) (replicate 129 0)
ended_blank n own off l e f =
    record {
      sizes = record { few = l; owns = e; offs = f; marked = refl; needs = refl; framed = refl };
      settled =
          record {
            settled = λ b h z. absurd (let y = zeros_at 129 b in omega arith);
            loops = λ b h z. absurd (let y = zeros_at 129 b in omega arith);
            small = λ b. let y = zeros_at 129 b in omega arith;
          };
      shut = λ b z. absurd (let y = zeros_at 129 b in omega arith);
      all = λ b h. absurd (omega arith);
    }

-- ---- settled rows

module _ (s : List ℕ) (c : Sections) (table room : List ℕ) (A : Asks s c table room) where
  same : c.functions ≡ functions s
  same = A.packed.functions_is

  pub few_rows : c.functions ≤ 128
  few_rows = let l : functions s ≤ 128 = few s A.readable in let e : c.functions ≡ functions s = same in omega arith

  pub low_rows : (own off : List ℕ) → TableOf (read s) c.functions own off → Low c.functions own off
  low_rows own off T =
      table_low (read s) A.typed c.functions own off few_rows
      (λ b k x. let l : k < functions s = below s A.typed A.readable b k x in let e : c.functions ≡ functions s = same in omega arith) T

  there : (b : ℕ) → b ≤ functions s → Exists s (row_of b)
  there zero l = tt
  there (suc k) l = let h : k < functions s = omega arith in h

  pub known_rows : (own off marks need frames : List ℕ) → TableOf (read s) c.functions own off → Ended c.functions own off (c.functions + 1) marks need frames
      → Known s marks need frames
  known_rows own off marks need frames T E b l = go (ended_needs (read s) c.functions own off marks need frames T E b (let e : c.functions ≡ functions s = same in omega arith))
    where
      go : ((mark_of marks b ≡ 2) × Needs (read s) (row_of b) (get_or need b 0) (get_or frames b 0)) ⊎ ((mark_of marks b ≡ 3) × Recursive (read s) (row_of b))
          → ((mark_of marks b ≡ 2) × (need_of (read s) (suc (functions s)) (row_of b) ≡ some (get_or need b 0, get_or frames b 0)))
          ⊎ ((mark_of marks b ≡ 3) × (need_of (read s) (suc (functions s)) (row_of b) ≡ none))
      go (inl x) = inl (x.0, needs_shown s A.typed A.readable (row_of b) (there b l) (get_or need b 0) (get_or frames b 0) x.1)
      go (inr x) = inr (x.0, recursive_fails s A.typed A.readable (row_of b) (there b l) x.1)

-- ---- by the check's answer

pub checkable : (s : List ℕ) (c : Sections) (room : List ℕ) → Packed s c → refusal s ≡ 0 → 64 * c.labels ≤ length room → Checkable s c room
checkable s c room p r l = record { packed = p; readable = r; enough = l }

module _ (s room room' : List ℕ) where
  pub report_checked : (out : List ℕ) (a : CheckAnswer) → checked a room' ≡ check s room → report_after s room' out a ≡ report_needs s room out
  unfolding report_needs
  report_checked out a e = ap (λ (x : Checked). report_after s x.room out x.answer) e

  -- an error of the check is the report's
  pub report_failed : (out : List ℕ) (e : CheckError) → checked (check_answer {T = Unit {0}} (Err e)) room' ≡ check s room → ReportIs s room out (need_answer (Err (need_error e))) room' out
  report_failed out (CheckError.Refused r) k = report_checked out (Refused (refusal_number r)) k
  report_failed out (CheckError.Untyped b) k = report_checked out (Untyped b) k

  pub asks_after : (c : Sections) (table : List ℕ) → Packed s c → refusal s ≡ 0 → Tabled s table → 64 * c.labels ≤ length room' → checked Accepted room' ≡ check s room
      → Asks s c table room'
  asks_after c table p r t l e =
      let a : IsAccepted s room = ap (λ (x : Checked). check_number x.answer) (sym e) in
      let q : room' ≡ (check s room).room = ap (λ (x : Checked). x.room) e in
      record {
        packed = p;
        readable = r;
        tabled = t;
        typed = accepted_typed s room a;
        shown = subst (Shown s) (sym q) (shown_after s room r a (let k : c.labels ≡ labels s = p.labels_is in let m : length room' ≡ length (check s room).room = ap length q in omega arith));
      }
