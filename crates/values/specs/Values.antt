-- Values, and what operations give for them, in the rules' terms.
use Rattle.std.specs.Prelude.{◌≡◌, Bool, cond, [], ◌∷◌, ℕ, eqb, leb, Ok, Err}
use Rattle.rules.specs.Doubles.{decode_of, encode_of}
use Rattle.rules.specs.Instructions.{num_kind, ptr_kind}
use Rattle.rules.specs.Operations.{low, apply1, apply2, Result, yields, raises}
use Rattle.rules.specs.Stack.{slot}
use Rattle.rules.specs.declared.Binary.{Binary}
use Rattle.rules.specs.declared.Num.{Num}
use Rattle.rules.specs.declared.Slot.{Slot}
use Rattle.rules.specs.declared.Unary.{Unary}
use Rattle.rules.specs.declared.Unary.TheVariants.{Convert}
use Rattle.soundness.specs.Kinds.{Kind}
use Rattle.values.specs.declared.Value.{Value}
use Rattle.values.specs.declared.Value.TheVariants.{Int, Long, Double, Pointer}
use Rattle.std.specs.declared.result.Result as code
use Rattle.rules.specs.declared.Exception.{Exception}
use Rattle.rules.specs.Results.{exception_number}

-- the value of a slot
unfoldable pub value_of : Slot → Value
value_of v =
    cond (eqb v.kind 3) (Int (low v.payload))
    (cond (eqb v.kind 6) (Double (decode_of v.payload))
    (cond (leb 7 v.kind) (Pointer (eqb v.kind 8) v.payload) (Long v.payload)))

-- the type number and the payload of a value, and its slot
abbrev pub kind_of_value : Value → ℕ
kind_of_value (Int n) = 3
kind_of_value (Long n) = 4
kind_of_value (Double x) = 6
kind_of_value (Pointer g p) = ptr_kind g

abbrev pub payload_of : Value → ℕ
payload_of (Int n) = n
payload_of (Long n) = n
payload_of (Double x) = encode_of x
payload_of (Pointer g p) = p

abbrev pub slot_of : Value → Slot
slot_of v = slot (kind_of_value v) (payload_of v)

-- the result that an answer stands for
abbrev pub result_of : code.Result Value Exception → Result
result_of (Ok v) = yields (slot_of v ∷ [])
result_of (Err e) = raises (exception_number e)

-- one slot
abbrev pub gives : ℕ → ℕ → Result
gives k x = yields (slot k x ∷ [])

-- r is what o gives for two slots of which a, the deeper, and b are the values
abbrev pub Computes : Binary → Value → Value → code.Result Value Exception → Type 0
Computes o a b r = (s u : Slot) → Kind s.kind → Kind u.kind → a ≡ value_of s → b ≡ value_of u → result_of r ≡ apply2 o s u

-- r is what o gives for a slot of the value a
abbrev pub Turns : Unary → Value → code.Result Value Exception → Type 0
Turns o a r = (s : Slot) → Kind s.kind → a ≡ value_of s → result_of r ≡ apply1 o s

-- the same of a conversion to the type n, which a slot does not have; b: 44 where a double does not fit
abbrev pub Converts : Bool → Num → Value → code.Result Value Exception → Type 0
Converts b n a r = (s : Slot) → Kind s.kind → (s.kind ≡ num_kind n → ⊥) → a ≡ value_of s → result_of r ≡ apply1 (Convert b n) s
