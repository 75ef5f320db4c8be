-- How the code keeps a heap of the rules: a shelf of four registers, the table's entries by number, the cells by number.
use Rattle.std.specs.Prelude.{ℕ, zero, suc, ◌+◌, ◌*◌, ◌-◌, ◌%◌, ◌≤◌, ◌<◌, ◌≡◌, Bool, cond, ◌⊎◌, List, [], ◌∷◌, length, leb, ltb, Some, None}
use Rattle.rules.specs.Bytes.{maybe, byte, word}
use Rattle.rules.specs.Instructions.{num_of}
use Rattle.rules.specs.Tables.{structure_at}
use Rattle.rules.specs.Heap.{Block, Heap, serial_limit}
use Rattle.heap.specs.declared.Entry.{Entry}
use Rattle.heap.specs.declared.Shelf.{Shelf}
use Rattle.std.specs.declared.option.Option.{Option}

-- ---- lent bytes by number: cell c of p, entry i of t

unfoldable pub cell_in : List ℕ → ℕ → ℕ
cell_in p c = word 8 p (c * 8)

unfoldable pub entry_at : List ℕ → ℕ → Entry
entry_at t i = record { serial = word 8 t (i * 24); first = word 8 t (i * 24 + 8); listed = word 8 t (i * 24 + 16) }

abbrev pub blank : Entry
blank = record { serial = 0; first = 0; listed = 0 }

-- the fields of the structure of type number n: the first byte of its record in d, the module's structures; 0 where there is none
unfoldable pub fields_in : List ℕ → ℕ → ℕ
fields_in d n = cond (ltb n 10) 0 (cond (leb 26 n) 0 (byte d (structure_at (n - 10))))

-- the cells of a type: 1 for a number; a structure's fields; 0 for a type that there is not
unfoldable pub size_in : List ℕ → ℕ → ℕ
size_in d n = maybe (num_of n) (fields_in d n) (λ τ. 1)

-- a type number as it is listed: "with 64 added" where the block is managed
abbrev pub listed_as : Bool → ℕ → ℕ
listed_as g n = cond g (64 + n) n

-- the cells of a type as it is listed
unfoldable pub width_in : List ℕ → ℕ → ℕ
width_in d l = size_in d (l % 64)

-- ---- blocks. Below, w gives the cells of a listed type, C the cells, E the entries, all by number.

-- n cells from c on
unfoldable pub cells_of : (ℕ → ℕ) → ℕ → ℕ → List ℕ
cells_of C c zero = []
cells_of C c (suc n) = C c ∷ cells_of C (suc c) n

abbrev pub block_of : (ℕ → ℕ) → (ℕ → ℕ) → Entry → Block
block_of w C e =
    record { serial = e.serial; from = e.first; type = e.listed % 64; managed = leb 64 e.listed; cells = cells_of C e.first (w e.listed) }

-- the first n, the last one first
unfoldable pub blocks_of : (ℕ → ℕ) → (ℕ → ℕ) → (ℕ → Entry) → ℕ → List Block
blocks_of w C E zero = []
blocks_of w C E (suc n) = block_of w C (E n) ∷ blocks_of w C E n

-- the shelf of an empty heap
abbrev pub bare : Shelf
bare = record { count = 0; next = 1; low = 0; top = 0 }

abbrev pub heap_of : ℕ → Shelf → List ℕ → List ℕ → List ℕ → Heap
heap_of size k d p t = record { size = size; blocks = blocks_of (width_in d) (cell_in p) (entry_at t) k.count; next = k.next }

-- ---- what holds between instructions

abbrev pub end_of : (ℕ → ℕ) → Entry → ℕ
end_of w e = e.first + w e.listed

-- cell c is not of e
abbrev pub Outside : (ℕ → ℕ) → Entry → ℕ → Type 0
Outside w e c = (c < e.first) ⊎ (end_of w e ≤ c)

-- cell c is of no block
abbrev pub Free : (ℕ → ℕ) → (ℕ → Entry) → ℕ → ℕ → Type 0
Free w E n c = (i : ℕ) → i < n → Outside w (E i) c

-- serials rise from 1 and stay below next
pub record Rising (E : ℕ → Entry) (n next : ℕ) : Type 0 where
  pub rise : (i j : ℕ) → i < j → j < n → (E i).serial < (E j).serial
  pub from_1 : (i : ℕ) → i < n → 1 ≤ (E i).serial
  pub given : (i : ℕ) → i < n → (E i).serial < next

-- listed types are below 128; blocks are not empty, lie below top, apart from each other; every cell below low is of one, every free cell is zero
pub record Laid (w C : ℕ → ℕ) (E : ℕ → Entry) (size n low top : ℕ) : Type 0 where
  pub listed : (i : ℕ) → i < n → (E i).listed < 128
  pub wide : (i : ℕ) → i < n → 1 ≤ w (E i).listed
  pub inside : (i : ℕ) → i < n → end_of w (E i) ≤ top
  pub apart : (i j : ℕ) → i < j → j < n → (end_of w (E i) ≤ (E j).first) ⊎ (end_of w (E j) ≤ (E i).first)
  pub full : (c : ℕ) → c < low → Free w E n c → ⊥
  pub clear : (c : ℕ) → c < size → Free w E n c → C c ≡ 0
  pub low_top : low ≤ top
  pub top_size : top ≤ size
  pub rest : (i : ℕ) → n ≤ i → i < size → E i ≡ blank

pub record Sane (size : ℕ) (k : Shelf) (d p t : List ℕ) : Type 0 where
  pub small : size ≤ 4096
  pub room_cells : size * 8 ≤ length p
  pub room_table : size * 24 ≤ length t
  pub few : k.count ≤ size
  pub next_1 : 1 ≤ k.next
  pub to_limit : k.next ≤ serial_limit
  pub rising : Rising (entry_at t) k.count k.next
  pub laid : Laid (width_in d) (cell_in p) (entry_at t) size k.count k.low k.top

-- ---- what a search answers

-- the entry of serial s among the first n
abbrev pub Finds : (ℕ → Entry) → ℕ → ℕ → Option ℕ → Type 0
Finds E n s (Some i) = (i < n) × ((E i).serial ≡ s)
Finds E n s None = (i : ℕ) → i < n → (E i).serial ≡ s → ⊥
