-- What `push` does, way by way, and the type bytes of numbers.
use mathlib.Core.Path.{◌≡◌, refl, sym, ap, ◌∙◌, subst}
use mathlib.Core.Logic.{inl, inr}
use Prim.Native.Nat.{ℕ}
use mathlib.Core.Bool.{true}
use mathlib.Core.Option.{none, some}
use mathlib.Core.List.{List, ◌∷◌}
use lib.Dec.{ltb}
use Rattle.rules.specs.Bytes.{byte}
use Rattle.rules.specs.declared.Num.{Num}
use Rattle.rules.specs.declared.Num.TheVariants.{Int as int, Long as long, Double as double}
use Rattle.rules.specs.declared.Slot.{Slot}
use Rattle.rules.specs.declared.Instruction.TheVariants.{Push}
use Rattle.rules.specs.Instructions.{ty_of, num_kind, num_of}
use Rattle.rules.specs.Tables.{constant_count, Body, Module, constant_at, constant_of, module_of}
use Rattle.rules.specs.ModuleFile.{read, refusal, constants_in}
use Rattle.rules.specs.Typing.{Flow, judge, to}
use Rattle.soundness.specs.Readable.{NumberByte, constant_type}
use Rattle.soundness.specs.Cutting.{constants_good}
use Rattle.soundness.specs.Tests.{decide, none_some, some_inj, ltb_is}
use Rattle.records.specs.Record.{lists_of, IsType, Holds, Judged}
use Rattle.records.specs.Laws.{number_type_lem, number_is_type, breaks}
use Rattle.records.specs.declared.Transfer.{Transfer}
use Rattle.records.specs.declared.Transfer.TheVariants.{Breaks}
use Rattle.transfer.specs.Transfers.{Judges, Pushes}

-- ---- type bytes of numbers

kind_number : (τ : Num) → num_of (num_kind τ) ≡ some τ
kind_number int = refl
kind_number long = refl
kind_number double = refl

pub number_of : (t : ℕ) (τ : Num) → t ≡ num_kind τ → num_of t ≡ some τ
number_of t τ e = ap num_of e ∙ kind_number τ

pub number_byte : (t : ℕ) (τ : Num) → t ≡ num_kind τ → IsType t
number_byte t τ e = subst IsType (sym e) (number_is_type τ)

pub number_kind : (t : ℕ) → NumberByte t → (τ : Num) × (t ≡ num_kind τ)
number_kind t (inl e) = (int, e)
number_kind t (inr (inl e)) = (long, e)
number_kind t (inr (inr e)) = (double, e)

-- a constant of a module that can be read is a number
pub constant_number : (s : List ℕ) → refusal s ≡ 0 → (k : ℕ) (v : Slot) → some v ≡ (read s).constant k → (τ : Num) × (v.kind ≡ num_kind τ)
unfolding module_of constant_of
constant_number s e k v is = decide (ltb k (constant_count cs)) inside (λ y. none_some (sym (rw y at is)))
  where
    cs : List ℕ
    cs = constants_in s

    inside : ltb k (constant_count cs) ≡ true → (τ : Num) × (v.kind ≡ num_kind τ)
    inside y =
        let x : (τ : Num) × (byte cs (constant_at k) ≡ num_kind τ) = number_kind (byte cs (constant_at k)) (constant_type cs (constants_good s e) k (ltb_is k (constant_count cs) y)) in
        (x.0, ap (λ (c : Slot). c.kind) (some_inj v (constant_of cs k) (rw y at is)) ∙ x.1)

-- ---- push

module _ (m : Module) (b : Body) (k q : ℕ) (r : List ℕ) where
  pub push_nothing : Holds r → m.constant k ≡ none → Judges m b (Push k) q r Breaks r
  push_nothing h e = breaks m b q _ r h (rw e refl)

  pub push_number : (v : Slot) → m.constant k ≡ some v → (τ : Num) → v.kind ≡ num_kind τ
      → (a : Transfer) (r' : List ℕ) → Pushes v.kind q r a r' → Judges m b (Push k) q r a r'
  push_number v is τ kind a r' p =
      let w : judge m b (Push k) q (lists_of r).locals (lists_of r).operands ≡ to q (lists_of r).locals (ty_of v.kind ∷ (lists_of r).operands) =
      rw (is, number_of v.kind τ kind, ap ty_of kind ∙ number_type_lem τ) refl in
      subst (λ (x : Flow). Judged m b q x a r') (sym w) (p m b)
