-- The words of frames: what `call` writes, so that the caller waits and the callee runs; and the first frame.
use Prim.Native.Nat.{ℕ, zero, suc, ◌+◌, ◌*◌, ◌/◌, ◌≤◌, ◌<◌}
use native.Mathlib.Omega.{arith}
use native.Mathlib.Numerals.{add-one}
use mathlib.Core.Path.{◌≡◌, refl, sym, ap, ◌∙◌, subst}
use mathlib.Core.List.{List, [], ◌∷◌}
use lib.ListN.{length, get_or, set, length-set}
use lib.Seq.{get_or-set_same, get_or-set_other, lt-length-set}
use Rattle.rules.specs.Machine.{argument_slots, opened, goto}
use Rattle.state.specs.State.{body_in, locals_of, frame_at, callers_of, depth_of, top_of, memory_of, state_of, Waiting, Ready}
use Rattle.state.specs.declared.Registers.{Registers}
use Rattle.state.proofs.Locals.{Alike, waiting_alike, callers_alike, locals_same, locals_bind}
use Rattle.control.specs.Control.{saved_in, arguments_in, opened_in, first_at}

-- ---- arguments as locals

module _ (f : List ℕ) (a b : ℕ) where
  pub length_arguments : (n : ℕ) → length (arguments_in f a b n) ≡ length f
  unfolding arguments_in
  length_arguments zero = refl
  length_arguments (suc n) = length-set (arguments_in f a b n) (a + 4 + n) (b + n) ∙ length_arguments n

  pub arguments_none : f ≡ arguments_in f a b 0
  unfolding arguments_in
  arguments_none = refl

  pub arguments_more : (n : ℕ) (g : List ℕ) → g ≡ arguments_in f a b n → set g (a + 4 + n) (b + n) ≡ arguments_in f a b (n + 1)
  unfolding arguments_in
  arguments_more n g e = rw (add-one, e) refl

  arguments_alike : (n : ℕ) → Alike (arguments_in f a b n) f (a + 4)
  unfolding arguments_in
  arguments_alike zero i l = refl
  arguments_alike (suc n) i l = get_or-set_other (arguments_in f a b n) (a + 4 + n) i (b + n) 0 (λ e. omega arith) ∙ arguments_alike n i l

  locals_arguments : (n : ℕ) → a + 4 + n ≤ length f → locals_of (arguments_in f a b n) a n ≡ argument_slots b n
  unfolding arguments_in locals_of
  locals_arguments zero h = refl
  locals_arguments (suc n) h =
      rw add-one at (locals_bind (arguments_in f a b n) a n (b + n) (omega (arith, length_arguments n)))
      ∙ ap (λ (l : List ℕ). (b + n) ∷ l) (locals_arguments n (omega arith))

-- ---- a frame entered: body k, n arguments from b on

module _ (f : List ℕ) (a k b n : ℕ) where
  abbrev e1 : List ℕ
  e1 = set f a k

  abbrev e2 : List ℕ
  e2 = set e1 (a + 2) b

  abbrev e3 : List ℕ
  e3 = set e2 (a + 3) n

  length_e3 : length e3 ≡ length f
  length_e3 = simp length-set

  pub length_opened : length (opened_in f a k b n) ≡ length f
  unfolding opened_in
  length_opened = length_arguments e3 a b n ∙ length_e3

  pub opened_alike : Alike (opened_in f a k b n) f a
  unfolding opened_in
  opened_alike i l =
      arguments_alike e3 a b n i (omega arith)
      ∙ get_or-set_other e2 (a + 3) i n 0 (λ e. omega arith)
      ∙ get_or-set_other e1 (a + 2) i b 0 (λ e. omega arith)
      ∙ get_or-set_other f a i k 0 (λ e. omega arith)

  module _ (room : a + 24 ≤ length f) where
    opened_body : get_or (opened_in f a k b n) a 0 ≡ k
    unfolding opened_in
    opened_body =
        arguments_alike e3 a b n a (omega arith)
        ∙ get_or-set_other e2 (a + 3) a n 0 (λ e. omega arith)
        ∙ get_or-set_other e1 (a + 2) a b 0 (λ e. omega arith)
        ∙ get_or-set_same f a k 0 (omega arith)

    pub opened_base : get_or (opened_in f a k b n) (a + 2) 0 ≡ b
    unfolding opened_in
    opened_base =
        arguments_alike e3 a b n (a + 2) (omega arith)
        ∙ get_or-set_other e2 (a + 3) (a + 2) n 0 (λ e. omega arith)
        ∙ get_or-set_same e1 (a + 2) b 0 (lt-length-set f a k (omega arith))

    pub opened_count : get_or (opened_in f a k b n) (a + 3) 0 ≡ n
    unfolding opened_in
    opened_count =
        arguments_alike e3 a b n (a + 3) (omega arith)
        ∙ get_or-set_same e2 (a + 3) n 0 (lt-length-set e1 (a + 2) b (lt-length-set f a k (omega arith)))

    opened_locals : n ≤ 16 → locals_of (opened_in f a k b n) a n ≡ argument_slots b n
    unfolding opened_in
    opened_locals few = locals_arguments e3 a b n (omega (arith, length_e3))

    -- the frame that runs then
    pub top_opened : (s e h : ℕ) → n ≤ 16 → b + n ≡ h
        → top_of (record { place = s; stop = e; floor = h; frame = a; height = h }) (opened_in f a k b n) ≡ opened (body_in k) s e b n
    top_opened s e h few sum = rw (opened_body, opened_base, opened_count, opened_locals few, sum) refl

-- ---- the first frame

module _ (p t f : List ℕ) (b s e n : ℕ) (words : 24 ≤ length f) (few : n ≤ 16) where
  pub state_first : state_of (first_at s e n) p t (opened_in f 0 b 0 n) ≡ record { memory = memory_of p t n; top = opened (body_in b) s e 0 n; callers = [] }
  unfolding callers_of
  state_first = rw (top_opened f 0 b 0 n words s e n few (omega arith)) refl

  pub ready_first : (cap : ℕ) → cap ≤ 4096 → cap * 8 ≤ length p → cap ≤ length t → length f ≤ 1536 → n ≤ cap → e ≤ 16384
      → Ready cap (first_at s e n) p t (opened_in f 0 b 0 n)
  unfolding Waiting
  ready_first cap small payloads types most high near =
      record {
        small = small;
        payloads = payloads;
        types = types;
        most = omega (arith, length_opened f 0 b 0 n);
        words = omega (arith, length_opened f 0 b 0 n);
        whole = refl;
        high = high;
        over = omega arith;
        low = rw (opened_base f 0 b 0 n words) (omega arith);
        few = rw (opened_count f 0 b 0 n words) few;
        near = near;
        waiting = tt;
      }

-- ---- the caller's words

module _ (f : List ℕ) (r : Registers) where
  abbrev D : ℕ
  D = r.frame

  abbrev s1 : List ℕ
  s1 = set f (D + 1) (r.place + 5)

  abbrev s2 : List ℕ
  s2 = set s1 (D + 20) r.stop

  pub length_saved : length (saved_in f r) ≡ length f
  unfolding saved_in
  length_saved = simp length-set

  saved_kept : (i : ℕ) → (i ≡ D + 1 → ⊥) → (i ≡ D + 20 → ⊥) → (i ≡ D + 21 → ⊥) → get_or (saved_in f r) i 0 ≡ get_or f i 0
  unfolding saved_in
  saved_kept i n1 n20 n21 =
      get_or-set_other s2 (D + 21) i r.floor 0 n21
      ∙ get_or-set_other s1 (D + 20) i r.stop 0 n20
      ∙ get_or-set_other f (D + 1) i (r.place + 5) 0 n1

  module _ (room : D + 48 ≤ length f) where
    within1 : (i : ℕ) → i < D + 24 → i < length s1
    within1 i h = lt-length-set f (D + 1) (r.place + 5) (omega arith)

    saved_place : get_or (saved_in f r) (D + 1) 0 ≡ r.place + 5
    unfolding saved_in
    saved_place =
        get_or-set_other s2 (D + 21) (D + 1) r.floor 0 (λ e. omega arith)
        ∙ get_or-set_other s1 (D + 20) (D + 1) r.stop 0 (λ e. omega arith)
        ∙ get_or-set_same f (D + 1) (r.place + 5) 0 (omega arith)

    saved_stop : get_or (saved_in f r) (D + 20) 0 ≡ r.stop
    unfolding saved_in
    saved_stop =
        get_or-set_other s2 (D + 21) (D + 20) r.floor 0 (λ e. omega arith)
        ∙ get_or-set_same s1 (D + 20) r.stop 0 (within1 (D + 20) (omega arith))

    saved_floor : get_or (saved_in f r) (D + 21) 0 ≡ r.floor
    unfolding saved_in
    saved_floor = get_or-set_same s2 (D + 21) r.floor 0 (lt-length-set s1 (D + 20) r.stop (within1 (D + 21) (omega arith)))

    -- ---- after both: the caller's words are saved, and body k is entered on n arguments from b on

    module _ (k b n : ℕ) (whole : D ≡ depth_of r * 24) (few : get_or f (D + 3) 0 ≤ 16) (w : Waiting f (depth_of r) (get_or f (D + 2) 0)) where
      abbrev f' : List ℕ
      f' = opened_in (saved_in f r) (D + 24) k b n

      pub room_callee : D + 24 + 24 ≤ length (saved_in f r)
      room_callee = omega (arith, length_saved)

      -- one frame more waits
      deeper : (D + 24) / 24 ≡ suc (depth_of r)
      deeper = omega arith

      word : (i x : ℕ) → i < D + 24 → get_or (saved_in f r) i 0 ≡ x → get_or f' i 0 ≡ x
      word i x h e = opened_alike (saved_in f r) (D + 24) k b n i h ∙ e

      kept : (i : ℕ) → i < D + 24 → (i ≡ D + 1 → ⊥) → (i ≡ D + 20 → ⊥) → (i ≡ D + 21 → ⊥) → get_or f' i 0 ≡ get_or f i 0
      kept i h n1 n20 n21 = word i _ h (saved_kept i n1 n20 n21)

      below : Alike f' f (depth_of r * 24)
      below i l = kept i (omega arith) (λ e. omega arith) (λ e. omega arith) (λ e. omega arith)

      own_locals : locals_of f' D (get_or f (D + 3) 0) ≡ locals_of f D (get_or f (D + 3) 0)
      own_locals =
          locals_same f' f D (get_or f (D + 3) 0) (λ i l. kept (D + 4 + i) (omega arith) (λ e. omega arith) (λ e. omega arith) (λ e. omega arith))

      caller_frame : frame_at f' D ≡ goto (r.place + 5) (top_of r f)
      unfolding frame_at
      caller_frame =
          rw (
            kept D (omega arith) (λ e. omega arith) (λ e. omega arith) (λ e. omega arith),
            kept (D + 2) (omega arith) (λ e. omega arith) (λ e. omega arith) (λ e. omega arith),
            kept (D + 3) (omega arith) (λ e. omega arith) (λ e. omega arith) (λ e. omega arith),
            word (D + 1) _ (omega arith) saved_place,
            word (D + 20) _ (omega arith) saved_stop,
            word (D + 21) _ (omega arith) saved_floor,
            own_locals,
          ) refl

      -- the caller waits behind the call
      pub callers_called : callers_of f' ((D + 24) / 24) ≡ goto (r.place + 5) (top_of r f) ∷ callers_of f (depth_of r)
      unfolding callers_of
      callers_called =
          ap (callers_of f') deeper ∙ rw (← whole, caller_frame, callers_alike f' f (depth_of r) (get_or f (D + 2) 0) w below) refl

      pub waiting_called : r.floor ≤ b → get_or f (D + 2) 0 ≤ r.floor → r.stop ≤ 16384 → Waiting f' ((D + 24) / 24) b
      unfolding Waiting
      waiting_called over low near =
          let base : get_or f' (D + 2) 0 ≡ get_or f (D + 2) 0 = kept (D + 2) (omega arith) (λ e. omega arith) (λ e. omega arith) (λ e. omega arith) in
          let count : get_or f' (D + 3) 0 ≡ get_or f (D + 3) 0 = kept (D + 3) (omega arith) (λ e. omega arith) (λ e. omega arith) (λ e. omega arith) in
          subst (λ (d : ℕ). Waiting f' d b) (sym deeper)
          (rw (← whole) (
            record {
              over = rw (word (D + 21) _ (omega arith) saved_floor) over;
              low = rw (word (D + 21) _ (omega arith) saved_floor, base) low;
              few = rw count few;
              near = rw (word (D + 20) _ (omega arith) saved_stop) near;
            },
            rw base (waiting_alike f' f (depth_of r) _ below w),
          ))
