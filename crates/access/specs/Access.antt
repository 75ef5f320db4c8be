-- What an instruction over a heap does.
use Rattle.std.specs.Prelude.{ℕ, ◌*◌, ◌≡◌, List, length, get_or, drop}
use Rattle.rules.specs.declared.Instruction.{Instruction}
use Rattle.rules.specs.Tables.{Module}
use Rattle.rules.specs.Heap.{Heap}
use Rattle.rules.specs.Machine.{State, Next, exec_in}
use Rattle.soundness.specs.Framed.{with_heap, onto}
use Rattle.state.specs.State.{state_of, next_of, Ready, Unchanged, ReadyAfter, DoesOver}
use Rattle.state.specs.declared.Registers.{Registers}
use Rattle.state.specs.declared.Progress.{Progress}
use Rattle.heap.specs.declared.Shelf.{Shelf}
use Rattle.heap.specs.Blocks.{heap_of, Sane}
use Rattle.heap.specs.Targets.{Plain}

-- the shelf in four words
abbrev pub shelf_of : List ℕ → Shelf
shelf_of g = record { count = get_or g 0 0; next = get_or g 1 0; low = get_or g 2 0; top = get_or g 3 0 }

-- the heap of `size` cells in lent words and bytes: d the module's structures, g the shelf, c cells, b the table of blocks
abbrev pub heap_in : ℕ → List ℕ → List ℕ → List ℕ → List ℕ → Heap
heap_in size d g c b = heap_of size (shelf_of g) d c b

pub record HeapReady (size : ℕ) (d g c b : List ℕ) : Type 0 where
  pub four : length g ≡ 4
  pub plain : Plain d
  pub sane : Sane size (shelf_of g) d c b

-- the code did what e says of the state over the heap; it is ready again; what lies past the capacities is as it was
pub record Accessed (e : State → Next) (cap size : ℕ) (r : Registers) (a : Progress) (d f p t g c b p' t' g' c' b' : List ℕ) : Type 0 where
  pub result : onto (heap_in size d g' c' b') (next_of a p' t' f) ≡ e (with_heap (heap_in size d g c b) (state_of r p t f))
  pub unchanged : Unchanged a (with_heap (heap_in size d g c b) (state_of r p t f)) (with_heap (heap_in size d g' c' b') (state_of r p' t' f))
  pub ready : ReadyAfter cap r a p' t' f
  pub heap_ready : HeapReady size d g' c' b'
  pub rest_payloads : drop (cap * 8) p' ≡ drop (cap * 8) p
  pub rest_types : drop cap t' ≡ drop cap t
  pub rest_cells : drop (size * 8) c' ≡ drop (size * 8) c
  pub rest_table : drop (size * 24) b' ≡ drop (size * 24) b
  pub same_payloads : length p' ≡ length p
  pub same_types : length t' ≡ length t
  pub same_cells : length c' ≡ length c
  pub same_table : length b' ≡ length b

-- the code did the instruction i over the heap, whatever the frames
abbrev pub AccessIs : Module → Instruction → ℕ → ℕ → Registers → Progress → List ℕ → List ℕ → List ℕ → List ℕ → List ℕ → List ℕ → List ℕ → List ℕ → List ℕ → List ℕ
    → List ℕ → Type 0
AccessIs m i cap size r a d p t g c b p' t' g' c' b' =
    (f : List ℕ) → Ready cap r p t f → Accessed (exec_in m cap i) cap size r a d f p t g c b p' t' g' c' b'

-- the code did what e says of the state, whatever the frames and the heap
abbrev pub ActsOver : ℕ → Registers → Progress → List ℕ → List ℕ → List ℕ → List ℕ → (State → Next) → Type 0
ActsOver cap r a p t p' t' e = (f : List ℕ) → Ready cap r p t f → DoesOver cap r a p t f p' t' f e
