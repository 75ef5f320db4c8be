-- Parts of the rules that several instructions share.
use Rattle.std.specs.Prelude.{ℕ, ◌+◌, [], ◌∷◌}
use Rattle.rules.specs.declared.Slot.{Slot}
use Rattle.rules.specs.Bytes.{maybe}
use Rattle.rules.specs.Numbers.{local_variable_invalid_index}
use Rattle.rules.specs.Stack.{at}
use Rattle.rules.specs.Machine.{State, Next, stops, goto, pushing, take1, write}

-- v put on the stack, at place q
unfoldable pub pushed_at : ℕ → ℕ → Slot → State → Next
pushed_at cap q v s = pushing s.memory cap (v ∷ []) s.memory.stack (goto q s.top) s.callers

-- the top moved to slot x
unfoldable pub assigned_to : ℕ → State → Next
assigned_to x s =
    take1 s.top.floor s.memory.stack
    (λ v r. maybe (at r x) (stops local_variable_invalid_index)
    (λ w. write s.memory v w x r (goto (s.top.place + 5) s.top) s.callers))
