-- How the code keeps a state of the rules: registers for the running frame, 24 words a frame, slots in lent bytes.
use Rattle.std.specs.Prelude.{ℕ, zero, suc, ◌+◌, ◌*◌, ◌/◌, ◌≤◌, ◌<◌, ◌≡◌, cond, List, [], ◌∷◌, ◌⊎◌, length, get_or, set, drop, eqb}
use Rattle.rules.specs.Tables.{Body, entry, fn}
use Rattle.rules.specs.Stack.{slots_of}
use Rattle.rules.specs.Heap.{Heap, empty_heap}
use Rattle.rules.specs.Machine.{Frame, Memory, State, Next, goes, stops, finishes}
use Rattle.soundness.specs.Framed.{with_heap, onto}
use Rattle.rules.specs.Results.{exception_number}
use Rattle.rules.specs.declared.Exception.TheVariants as Exception
use Rattle.state.specs.declared.Registers.{Registers}
use Rattle.state.specs.declared.Progress.{Progress}
use Rattle.state.specs.declared.Progress.TheVariants.{Goes, Finishes, Stops}

-- ---- frames: 24 words each, from a on: body, place, first slot, count of locals, sixteen locals, end, floor, two unused.
-- The first frame's begin at 0. Place, end and floor are of a frame that waits; the running one has them in registers

-- 65535 is the entry's
abbrev pub body_in : ℕ → Body
body_in n = cond (eqb n 65535) entry (fn n)

-- the first n locals
unfoldable pub locals_of : List ℕ → ℕ → ℕ → List ℕ
locals_of f a zero = []
locals_of f a (suc n) = get_or f (a + 4 + n) 0 ∷ locals_of f a n

-- a frame that waits
unfoldable pub frame_at : List ℕ → ℕ → Frame
frame_at f a =
    record {
      body = body_in (get_or f a 0);
      place = get_or f (a + 1) 0;
      stop = get_or f (a + 20) 0;
      base = get_or f (a + 2) 0;
      floor = get_or f (a + 21) 0;
      locals = locals_of f a (get_or f (a + 3) 0);
    }

-- the frames below depth d, the last caller first
unfoldable pub callers_of : List ℕ → ℕ → List Frame
callers_of f zero = []
callers_of f (suc d) = frame_at f (d * 24) ∷ callers_of f d

-- how many frames wait
abbrev pub depth_of : Registers → ℕ
depth_of r = r.frame / 24

-- the running frame
abbrev pub top_of : Registers → List ℕ → Frame
top_of r f =
    record {
      body = body_in (get_or f r.frame 0);
      place = r.place;
      stop = r.stop;
      base = get_or f (r.frame + 2) 0;
      floor = r.floor;
      locals = locals_of f r.frame (get_or f (r.frame + 3) 0);
    }

-- n slots over no heap
abbrev pub memory_of : List ℕ → List ℕ → ℕ → Memory
memory_of p t n = record { stack = slots_of p t n; heap = empty_heap 0 }

-- p payload bytes, t type bytes, f frames; over no heap
abbrev pub state_of : Registers → List ℕ → List ℕ → List ℕ → State
state_of r p t f = record { memory = memory_of p t r.height; top = top_of r f; callers = callers_of f (depth_of r) }

abbrev pub next_of : Progress → List ℕ → List ℕ → List ℕ → Next
next_of (Goes q) p t f = goes (state_of q p t f)
next_of (Finishes q) p t f = finishes (memory_of p t q.height)
next_of (Stops e) p t f = stops (exception_number e)

-- ---- what holds between instructions

-- of the frame from a on that waits under a frame whose first slot is b
pub record Caller (f : List ℕ) (a b : ℕ) : Type 0 where
  pub over : get_or f (a + 21) 0 ≤ b
  pub low : get_or f (a + 2) 0 ≤ get_or f (a + 21) 0
  pub few : get_or f (a + 3) 0 ≤ 16
  pub near : get_or f (a + 20) 0 ≤ 16384

-- of d frames that wait
unfoldable pub Waiting : List ℕ → ℕ → ℕ → Type 0
Waiting f zero b = Unit {0}
Waiting f (suc d) b = Caller f (d * 24) b × Waiting f d (get_or f (d * 24 + 2) 0)

pub record Ready (cap : ℕ) (r : Registers) (p t f : List ℕ) : Type 0 where
  pub small : cap ≤ 4096
  pub payloads : cap * 8 ≤ length p
  pub types : cap ≤ length t
  pub most : length f ≤ 1536
  pub words : r.frame + 24 ≤ length f
  pub whole : r.frame ≡ depth_of r * 24
  pub high : r.height ≤ cap
  pub over : r.floor ≤ r.height
  pub low : get_or f (r.frame + 2) 0 ≤ r.floor
  pub few : get_or f (r.frame + 3) 0 ≤ 16
  pub near : r.stop ≤ 16384
  pub waiting : Waiting f (depth_of r) (get_or f (r.frame + 2) 0)

-- an instruction that stops the run leaves the state as it was
abbrev pub Unchanged : Progress → State → State → Type 0
Unchanged (Goes q) s s' = Unit {0}
Unchanged (Finishes q) s s' = Unit {0}
Unchanged (Stops e) s s' = s' ≡ s

abbrev pub ReadyAfter : ℕ → Registers → Progress → List ℕ → List ℕ → List ℕ → Type 0
ReadyAfter cap r (Goes q) p t f = Ready cap q p t f
ReadyAfter cap r (Finishes q) p t f = q.height ≤ cap
ReadyAfter cap r (Stops e) p t f = Ready cap r p t f

-- the code did what the rules say, x; it is ready again; what lies past the capacity is as it was
pub record Does (cap : ℕ) (r : Registers) (a : Progress) (p t f p' t' f' : List ℕ) (x : Next) : Type 0 where
  pub result : next_of a p' t' f' ≡ x
  pub unchanged : Unchanged a (state_of r p t f) (state_of r p' t' f')
  pub ready : ReadyAfter cap r a p' t' f'
  pub rest_payloads : drop (cap * 8) p' ≡ drop (cap * 8) p
  pub rest_types : drop cap t' ≡ drop cap t
  pub same_payloads : length p' ≡ length p
  pub same_types : length t' ≡ length t

-- ready, with frames that the instruction does not touch
abbrev pub ReadyOn : ℕ → Registers → List ℕ → List ℕ → Type 0
ReadyOn cap r p t = (f : List ℕ) × Ready cap r p t f

-- the code did what e says of the state, whatever the frames
abbrev pub Acts : ℕ → Registers → Progress → List ℕ → List ℕ → List ℕ → List ℕ → (State → Next) → Type 0
Acts cap r a p t p' t' e = (f : List ℕ) → Ready cap r p t f → Does cap r a p t f p' t' f (e (state_of r p t f))

-- ---- heaps

-- e does over every heap what it does over that of the state
abbrev pub SameOver : (State → Next) → State → Type 0
SameOver e s = (h : Heap) → e (with_heap h s) ≡ onto h (e s)

-- the code did what e says of the state, over no heap and hence over every heap
abbrev pub DoesOver : ℕ → Registers → Progress → List ℕ → List ℕ → List ℕ → List ℕ → List ℕ → List ℕ → (State → Next) → Type 0
DoesOver cap r a p t f p' t' f' e = Does cap r a p t f p' t' f' (e (state_of r p t f)) × SameOver e (state_of r p t f)

-- the instruction is left to who has the heap; nothing changed
pub record Defers (a : Progress) (p t p' t' : List ℕ) : Type 0 where
  pub stops_with : a ≡ Stops Exception.PointerUnknownAddress
  pub keeps_payloads : p' ≡ p
  pub keeps_types : t' ≡ t

-- the code did what e says of the state, whatever the frames and the heap, or left it
abbrev pub ActsOrDefers : ℕ → Registers → Progress → List ℕ → List ℕ → List ℕ → List ℕ → (State → Next) → Type 0
ActsOrDefers cap r a p t p' t' e = (f : List ℕ) → Ready cap r p t f → DoesOver cap r a p t f p' t' f e ⊎ Defers a p t p' t'

-- ---- words

-- the code found no words for another frame, and fewer than 64 are lent; nothing changed
pub record Lacks (a : Progress) (p t f p' t' f' : List ℕ) : Type 0 where
  pub stops_with : a ≡ Stops Exception.StackOverflow
  pub fewer : length f < 1536
  pub keeps_payloads : p' ≡ p
  pub keeps_types : t' ≡ t
  pub keeps_words : f' ≡ f

abbrev pub DoesOrLacks : ℕ → Registers → Progress → List ℕ → List ℕ → List ℕ → List ℕ → List ℕ → List ℕ → Next → Type 0
DoesOrLacks cap r a p t f p' t' f' x = Does cap r a p t f p' t' f' x ⊎ Lacks a p t f p' t' f'

-- ---- registers after an instruction of the frame

-- at another place, with another height
abbrev pub moved_to : Registers → ℕ → ℕ → Registers
moved_to r q h = record { place = q; stop = r.stop; floor = r.floor; frame = r.frame; height = h }

-- past a binding store: the top slot is the highest local
abbrev pub bound_to : Registers → ℕ → Registers
bound_to r q = record { place = q; stop = r.stop; floor = r.height; frame = r.frame; height = r.height }

-- the words then: slot x is local n of the frame from a on, the highest
unfoldable pub bound_in : List ℕ → ℕ → ℕ → ℕ → List ℕ
bound_in f a n x = set (set f (a + 4 + n) x) (a + 3) (n + 1)
