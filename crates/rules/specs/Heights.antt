-- 02, A11, computed: the largest ground_level at each place of a body, and from these and the callees' needs its need and frames. That they
-- are those of `Need` is `suffices` of the crate need.
use Rattle.std.specs.Prelude.{ℕ, zero, suc, ◌+◌, ◌*◌, max, Bool, true, false, List, [], ◌∷◌, ◌++◌, length, get_or, set, replicate, leb}
use Rattle.std.proofs.Math.Option.{Option, none, some}
use Rattle.rules.specs.Bytes.{maybe}
use Rattle.rules.specs.Instructions.{Ty}
use Rattle.rules.specs.Tables.{Body, fn, Module}
use Rattle.rules.specs.Typing.{Lists, lists, place_flow, start_of}
use Rattle.rules.specs.Need.{raised, height, call_at, argument_at}

-- ---- grounds: the lists of each reached place, and where the operands begin there at most

abbrev pub Grounds : Type 0
Grounds = List (Option (Lists × ℕ))

-- a place, the lists that flow to it, the ground_level there
abbrev pub Waiting : Type 0
Waiting = List (ℕ × Lists × ℕ)

abbrev pub onward_to : Lists → ℕ → List (ℕ × Lists) → Waiting
onward_to l f [] = []
onward_to l f (x ∷ ns) = (x.0, x.1, raised f l x.1) ∷ onward_to l f ns

-- what waits after a place with lists and ground_level
abbrev pub followers : Module → Body → ℕ × Lists × ℕ → Waiting
followers m b x = onward_to x.1 x.2 (maybe (place_flow m b x.0 x.1) [] (λ ns. ns))

-- with this ground_level at its place
abbrev pub lifted : Grounds → ℕ × Lists × ℕ → Grounds
lifted g x = set g x.0 (some (x.1, x.2))

-- this ground_level, or a larger one, stands there already
abbrev pub known : Option (Lists × ℕ) → ℕ → Bool
known none f = false
known (some x) f = leb f x.1

-- at most n visits; 2 + 1026 (1 + code length) are always enough (`grounds_exact`)
unfoldable pub rise : Module → Body → ℕ → Grounds → Waiting → Grounds
rise m b zero g work = g
rise m b (suc n) g [] = g
rise m b (suc n) g (x ∷ work) =
    elim (known (get_or g x.0 none) x.2) [
      | true ↦ rise m b n g work
      | false ↦ rise m b n (lifted g x) (followers m b x ++ work)
    ]

abbrev pub start_waiting : Option (ℕ × List Ty) → Waiting
start_waiting none = []
start_waiting (some x) = (x.0, lists x.1 [], length x.1) ∷ []

unfoldable pub grounds_of : Module → Body → Grounds
grounds_of m b = rise m b (2 + 1026 * (1 + m.extent)) (replicate (1 + m.extent) none) (start_waiting (start_of m b))

-- ---- need and frames

-- need and frames; none where a chain of calls is longer than the module has functions, so that it comes back
abbrev pub Found : Type 0
Found = Option (ℕ × ℕ)

abbrev pub larger : Found → Found → Found
larger none y = none
larger (some x) none = none
larger (some x) (some y) = some (max x.0 y.0, max x.1 y.1)

-- what one place adds, where N k is found of function k: its height; and where it calls, the callee's need from the first argument on
abbrev pub with_callee : Module → Lists → ℕ → ℕ → Found → Found
with_callee m l f k none = none
with_callee m l f k (some x) = some (max (height l f) (argument_at m l f k + x.0), suc x.1)

abbrev pub place_need : Module → Body → (ℕ → Found) → ℕ → Lists → ℕ → Found
place_need m b N p l f = maybe (call_at m b p) (some (height l f, 1)) (λ k. with_callee m l f k (N k))

-- over a table whose first entry is place p's
abbrev pub gather : Module → Body → (ℕ → Found) → ℕ → Grounds → Found
gather m b N p [] = some (0, 1)
gather m b N p (none ∷ g) = gather m b N (suc p) g
gather m b N p (some x ∷ g) = larger (place_need m b N p x.0 x.1) (gather m b N (suc p) g)

-- through less than n calls, one in the other
unfoldable pub need_of : Module → ℕ → Body → Found
need_of m zero b = none
need_of m (suc n) b = gather m b (λ k. need_of m n (fn k)) 0 (grounds_of m b)
