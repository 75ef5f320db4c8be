-- What `call` does, way by way: a law for each return; and the types of its arguments.
use Prim.Native.Nat.{ℕ, zero, suc, ◌+◌, ◌-◌, ◌≤◌, ◌<◌}
use native.Mathlib.Omega.{arith}
use mathlib.Core.Path.{◌≡◌, refl, sym, ap, ◌∙◌}
use mathlib.Core.Bool.{true, false}
use mathlib.Core.Logic.{inl, inr, ⊎_elim}
use mathlib.Core.Option.{Option, none, some}
use mathlib.Core.List.{List}
use lib.ListN.{length}
use borrow.Author.Tests.{lt-ltb, le-ltb, le-leb, lt-leb, eq-eqb, ne_eqb}
use Rattle.rules.specs.declared.Exception.TheVariants as Exception
use Rattle.rules.specs.declared.Instruction.TheVariants.{Call}
use Rattle.rules.specs.Bytes.{byte, maybe}
use Rattle.rules.specs.declared.Num.TheVariants.{Int as int, Long as long, Double as double}
use Rattle.rules.specs.Instructions.{Ty, num, ptr, type_byte, ty_of, kind_of}
use Rattle.rules.specs.Tables.{function_count, function_at, function_of, Function, params_from, module_of}
use Rattle.rules.specs.ModuleFile.{edition, read, functions_in}
use Rattle.rules.specs.Stack.{slot_at, slots_of}
use Rattle.rules.specs.Machine.{exec_in, kinds_match}
use Rattle.soundness.specs.Readable.{params_length, pointer_ty, managed_ty}
use Rattle.reader.specs.declared.entries.FunctionRecord.{FunctionRecord}
use Rattle.std.specs.Prelude.{Some}
use Rattle.reader.specs.Answers.{function_found}
use Rattle.state.specs.State.{depth_of, state_of, Ready, Does, DoesOrLacks}
use Rattle.state.specs.declared.Registers.{Registers}
use Rattle.state.specs.declared.Progress.TheVariants.{Goes, Stops}
use Rattle.state.proofs.Stack.{split_lt, length_slots}
use Rattle.state.proofs.Locals.{length_callers}
use Rattle.state.proofs.Outcomes.{stopping}
use Rattle.control.specs.Control.{saved_in, opened_in, first_at, entered_at}
use Rattle.control.proofs.Frames.{length_saved, length_opened, opened_base, opened_count, top_opened, callers_called, waiting_called}

-- ---- the types of arguments, topmost first

pub pointer_kind : (b : ℕ) → 128 ≤ b → b < 192 → 7 ≡ kind_of (ty_of b)
pointer_kind b h l = sym (ap kind_of (pointer_ty b h l))

pub managed_kind : (b : ℕ) → 192 ≤ b → 8 ≡ kind_of (ty_of b)
managed_kind b h = sym (ap kind_of (managed_ty b h))

pub number_kind : (b : ℕ) → type_byte (ty_of b) ≡ b → b < 128 → b ≡ kind_of (ty_of b)
number_kind b e h = sym e ∙ go (ty_of b) (omega (arith, e))
  where
    go : (t : Ty) → type_byte t < 128 → type_byte t ≡ kind_of t
    go (num int) l = refl
    go (num long) l = refl
    go (num double) l = refl
    go (ptr false w) l = absurd (omega arith)
    go (ptr true w) l = absurd (omega arith)

module _ (s : List ℕ) (a : ℕ) (p t : List ℕ) (b : ℕ) where
  pub kinds_end : (j : ℕ) → j ≡ 0 → kinds_match (params_from s a j) (slots_of p t (b + j)) ≡ true
  kinds_end j e = rw e refl

  pub kinds_same : (j : ℕ) → 0 < j → byte t (b + (j - 1)) ≡ kind_of (ty_of (byte s (a + (j - 1))))
      → kinds_match (params_from s a j) (slots_of p t (b + j)) ≡ kinds_match (params_from s a (j - 1)) (slots_of p t (b + (j - 1)))
  unfolding slots_of slot_at
  kinds_same zero h e = absurd (omega arith)
  kinds_same (suc i) h e =
      let u : suc i - 1 ≡ i = omega arith in
      let w : b + suc i ≡ suc (b + i) = omega arith in
      let z : byte t (b + i) ≡ kind_of (ty_of (byte s (a + i))) = rw u at e in
      rw (u, w) (rw (eq-eqb (kind_of (ty_of (byte s (a + i)))) (byte t (b + i)) (sym z)) refl)

  pub kinds_other : (j : ℕ) → 0 < j → (byte t (b + (j - 1)) ≡ kind_of (ty_of (byte s (a + (j - 1)))) → ⊥)
      → kinds_match (params_from s a j) (slots_of p t (b + j)) ≡ false
  unfolding slots_of slot_at
  kinds_other zero h e = absurd (omega arith)
  kinds_other (suc i) h e =
      let u : suc i - 1 ≡ i = omega arith in
      let w : b + suc i ≡ suc (b + i) = omega arith in
      let z : byte t (b + i) ≡ kind_of (ty_of (byte s (a + i))) → ⊥ = rw u at e in
      rw w (rw (ne_eqb (kind_of (ty_of (byte s (a + i)))) (byte t (b + i)) (λ q. z (sym q))) refl)

-- ---- call

-- the registers at the start of the function that a record tells
pub entered_same : (s : List ℕ) (i : ℕ) (g : FunctionRecord) → function_found s i (Some g) ≡ (read s).function i → i < function_count (edition s) (functions_in s) → (a h : ℕ)
    → entered_at (function_of (edition s) (functions_in s) (function_at (edition s) i)) a h ≡ record { place = g.start; stop = g.end; floor = h; frame = a; height = h }
unfolding module_of
entered_same s i g is l a h =
    let q : function_found s i (Some g) ≡ some (function_of (edition s) (functions_in s) (function_at (edition s) i)) = rw (lt-ltb i (function_count (edition s) (functions_in s)) l) at is in
    ap (λ (o : Option Function). maybe o (first_at 0 0 0) (λ F. entered_at F a h)) (sym q)

module _ (cap : ℕ) (r : Registers) (p t f : List ℕ) (k : Ready cap r p t f) (s : List ℕ) (i : ℕ) where
  pub call_28 : (read s).function i ≡ none → Does cap r (Stops Exception.FunctionOutOfRange) p t f p t f (exec_in (read s) cap (Call i) (state_of r p t f))
  unfolding exec_in
  call_28 e = stopping cap r p t f k Exception.FunctionOutOfRange _ (rw e refl)

  module _ (g : FunctionRecord) (is : function_found s i (Some g) ≡ (read s).function i) where
    abbrev n : ℕ
    n = g.params

    abbrev params : List Ty
    params = params_from (functions_in s) (function_at (edition s) i + 10) n

    count : length params ≡ n
    count = params_length (functions_in s) (function_at (edition s) i + 10) n

    pub call_21 : r.height < n + r.floor → Does cap r (Stops Exception.StackEmpty) p t f p t f (exec_in (read s) cap (Call i) (state_of r p t f))
    unfolding exec_in
    call_21 h = stopping cap r p t f k Exception.StackEmpty _ (rw (← is, count, length_slots p t r.height, lt-leb (n + r.floor) r.height h) refl)

    module _ (enough : n + r.floor ≤ r.height) where
      top : r.height - n + n ≡ r.height
      top = omega arith

      pub call_22 : kinds_match params (slots_of p t (r.height - n + n)) ≡ false → Does cap r (Stops Exception.StackDifferentType) p t f p t f (exec_in (read s) cap (Call i) (state_of r p t f))
      unfolding exec_in
      call_22 e =
          stopping cap r p t f k Exception.StackDifferentType _
          (rw (← is, count, length_slots p t r.height, le-leb (n + r.floor) r.height enough, rw top at e) refl)

      module _ (kinds : kinds_match params (slots_of p t (r.height - n + n)) ≡ true) where
        -- all 64 frames are in use
        call_64 : length f ≡ 1536 → length f < r.frame + 48 → Does cap r (Stops Exception.StackOverflow) p t f p t f (exec_in (read s) cap (Call i) (state_of r p t f))
        unfolding exec_in
        call_64 all h =
            stopping cap r p t f k Exception.StackOverflow _
            (rw (
              ← is,
              count,
              length_slots p t r.height,
              le-leb (n + r.floor) r.height enough,
              rw top at kinds,
              length_callers f (depth_of r),
              le-ltb (depth_of r) 63 (omega (arith, k.whole)),
            ) refl)

        -- no words for another frame: all are in use, or fewer were lent
        pub call_20 : length f < r.frame + 48 → DoesOrLacks cap r (Stops Exception.StackOverflow) p t f p t f (exec_in (read s) cap (Call i) (state_of r p t f))
        call_20 h =
            ⊎_elim
            (λ (l : length f < 1536). inr (record { stops_with = refl; fewer = l; keeps_payloads = refl; keeps_types = refl; keeps_words = refl }))
            (λ (l : 1536 ≤ length f). inl (call_64 (omega (arith, k.most)) h))
            (split_lt (length f) 1536)

        pub call_goes : r.frame + 48 ≤ length f → i < function_count (edition s) (functions_in s) → function_count (edition s) (functions_in s) ≤ 128 → n ≤ 8 → g.end ≤ 16384
            → Does cap r (Goes (entered_at (function_of (edition s) (functions_in s) (function_at (edition s) i)) (r.frame + 24) r.height)) p t f p t
            (opened_in (saved_in f r) (r.frame + 24) i (r.height - n) n) (exec_in (read s) cap (Call i) (state_of r p t f))
        unfolding exec_in
        call_goes room named most few near =
            rw (entered_same s i g is named (r.frame + 24) r.height)
            (let b : ℕ = r.height - n in
            let lent : r.frame + 24 + 24 ≤ length (saved_in f r) = omega (arith, length_saved f r) in
            let same : length (opened_in (saved_in f r) (r.frame + 24) i b n) ≡ length f = length_opened (saved_in f r) (r.frame + 24) i b n ∙ length_saved f r in
            record {
              result = sym (rw (
                ← is,
                count,
                length_slots p t r.height,
                le-leb (n + r.floor) r.height enough,
                rw top at kinds,
                length_callers f (depth_of r),
                lt-ltb (depth_of r) 63 (omega (arith, k.whole, k.most)),
                top_opened (saved_in f r) (r.frame + 24) i b n lent g.start g.end r.height (omega arith) top,
                ne_eqb i 65535 (λ e. omega arith),
                callers_called f r room i b n k.whole k.few k.waiting,
              ) refl);
              unchanged = tt;
              ready = record {
                small = k.small;
                payloads = k.payloads;
                types = k.types;
                most = omega (arith, same, k.most);
                words = omega (arith, same);
                whole = omega (arith, k.whole);
                high = k.high;
                over = omega arith;
                low = rw (opened_base (saved_in f r) (r.frame + 24) i b n lent) (omega arith);
                few = rw (opened_count (saved_in f r) (r.frame + 24) i b n lent) (omega arith);
                near = near;
                waiting = rw (opened_base (saved_in f r) (r.frame + 24) i b n lent)
                    (waiting_called f r room i b n k.whole k.few k.waiting (omega arith) k.low k.near);
              };
              rest_payloads = refl;
              rest_types = refl;
              same_payloads = refl;
              same_types = refl;
            })
