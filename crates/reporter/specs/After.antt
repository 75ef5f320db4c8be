-- What the checking room shows of nodes after a check that accepted.
use Rattle.std.specs.Prelude.{◌≡◌, refl, ℕ, ◌+◌, ◌*◌, ◌≤◌, ◌<◌, List, length, get_or, take, drop}
use Rattle.std.proofs.Common.{sym, ap, ◌∙◌, inl, inr, arith, get_or-take, get_or-drop}
use Rattle.rules.specs.ModuleFile.{refusal, labels, read}
use Rattle.rules.specs.Typing.{Lists, WellTyped}
use Rattle.rules.specs.Check.{record_bytes}
use Rattle.rules.specs.Answers.{check}
use Rattle.rules.specs.Demand3.{IsAccepted, Shows}
use Rattle.soundness.specs.Tests.{some_inj}
use Rattle.soundness.specs.Whole.{accepted_typed, accepted_shows}
use Rattle.nodes.specs.Nodes.{place_of, owner_of}
use Rattle.nodes.proofs.Numbering.{label_at}
use Rattle.rules.specs.Need.{Path}
use Rattle.need.specs.Safe.{path_given}
use Rattle.tracks.specs.Visits.{Shown}

byte_1 : (l : Lists) → get_or (record_bytes l) 1 0 ≡ length l.locals
unfolding record_bytes
byte_1 l = refl

byte_2 : (l : Lists) → get_or (record_bytes l) 2 0 ≡ length l.operands
unfolding record_bytes
byte_2 l = refl

pub shown_after : (s room : List ℕ) → refusal s ≡ 0 → IsAccepted s room → 64 * labels s ≤ length (check s room).room → Shown s (check s room).room
shown_after s room e a enough =
    record { enough = enough; lengths = λ n h l f p. go n l f p (accepted_shows s room a n (owner_of s n) (place_of s n) (label_at s e n h)) }
  where
    T : WellTyped (read s)
    T = accepted_typed s room a

    at : (n i : ℕ) → i < 64 → get_or (check s room).room (64 * n + i) 0 ≡ get_or (take 64 (drop (64 * n) (check s room).room)) i 0
    at n i h = sym (get_or-take 64 (drop (64 * n) (check s room).room) i 0 h ∙ get_or-drop (64 * n) (check s room).room i 0)

    go : (n : ℕ) (l : Lists) (f : ℕ) → Path (read s) (owner_of s n) (place_of s n) l f → Shows (read s) (owner_of s n) (place_of s n) (take 64 (drop (64 * n) (check s room).room))
        → (get_or (check s room).room (64 * n + 1) 0 ≡ length l.locals) × (get_or (check s room).room (64 * n + 2) 0 ≡ length l.operands)
    go n l f p (inl x) =
        let k : x.0 ≡ l = some_inj x.0 l (sym (x.1 (T.typing (owner_of s n)) (T.consistent (owner_of s n))) ∙ path_given (read s) (owner_of s n) (T.typing (owner_of s n)) (T.consistent (owner_of s n)) (place_of s n) l f p) in (
          at n 1 (omega arith) ∙ ap (λ z. get_or z 1 0) x.2 ∙ byte_1 x.0 ∙ ap (λ (z : Lists). length z.locals) k,
          at n 2 (omega arith) ∙ ap (λ z. get_or z 2 0) x.2 ∙ byte_2 x.0 ∙ ap (λ (z : Lists). length z.operands) k,
        )
    go n l f p (inr x) = absurd (x.0 (λ 𝓣 c. (l, path_given (read s) (owner_of s n) 𝓣 c (place_of s n) l f p)))
