-- The loop of a walk: started at p₀ with ground_level f₀, now at another place.
use Rattle.std.specs.Prelude.{◌≡◌, ℕ, suc, ◌≤◌, ◌<◌, max, List, [], get_or}
use Rattle.std.proofs.Common.{subst}
use Rattle.rules.specs.Tables.{Body, body_of, body_end}
use Rattle.rules.specs.ModuleFile.{read, bodies_in}
use Rattle.rules.specs.Typing.{Lists}
use Rattle.format.specs.declared.Sections.{Sections}
use Rattle.rules.specs.Need.{raised, Path}
use Rattle.tracks.specs.Walks.{ends, meets, passes, Grows, grows_refl, grows_trans, Met, WalkedIn, Climbing, Standing, Ready, Arrived}
use Rattle.tracks.specs.Steps.{climbing_most, one_lists}
use Rattle.tracks.specs.Leads.{Complete, Leads}
use Rattle.tracks.specs.Jumps.{arrival_climbs, arrival_grows, arrival_met}

-- what a walk from p₀ leaves
pub record Finished (s table : List ℕ) (b : Body) (p₀ f₀ : ℕ) (M₀ G₀ Q₀ : List ℕ) (x₀ : ℕ) (M G Q : List ℕ) (x : ℕ) : Type 0 where
  pub climbing : Climbing s table b M G Q x
  pub grows : Grows M₀ G₀ Q₀ x₀ M G Q x
  pub walked : (l : Lists) → Path (read s) b p₀ l f₀ → WalkedIn s table b M G Q x p₀ l f₀

pub record Walking (s table : List ℕ) (b : Body) (p₀ f₀ : ℕ) (M₀ G₀ Q₀ : List ℕ) (x₀ : ℕ) (M G Q : List ℕ) (x : ℕ) (at locals ground_level h : ℕ) : Type 0 where
  pub climbing : Climbing s table b M G Q x
  pub grows : Grows M₀ G₀ Q₀ x₀ M G Q x
  pub standing : Standing s table b at locals ground_level h
  pub high : h ≤ x
  pub rest : (l₀ : Lists) → Path (read s) b p₀ l₀ f₀ → (M' G' Q' : List ℕ) (x' : ℕ) → Grows M G Q x M' G' Q' x' → WalkedIn s table b M' G' Q' x' at standing.given ground_level → WalkedIn s table b M' G' Q' x' p₀ l₀ f₀

-- the largest height so far grows alone
grows_most : (M G Q : List ℕ) (x y : ℕ) → x ≤ y → Grows M G Q x M G Q y
grows_most M G Q x y h = record { each = (grows_refl M G Q x).each; higher = h; wider = (grows_refl M G Q x).wider }

module _ (s : List ℕ) (c : Sections) (table : List ℕ) (owner : ℕ) (R : Ready s c table owner) (p₀ f₀ : ℕ) where
  abbrev b : Body
  b = body_of owner

  pub walking_start : (M G Q : List ℕ) (x locals h r : ℕ) → Climbing s table b M G Q x → Standing s table b p₀ locals f₀ h → r ≡ max x h → Walking s table b p₀ f₀ M G Q x M G Q r p₀ locals f₀ h
  walking_start M G Q x locals h r C S e =
      let y : Climbing s table b M G Q r × (x ≤ r) × (h ≤ r) = climbing_most s table b M G Q x p₀ locals f₀ h r C S e in
      record {
        climbing = y.0;
        grows = grows_most M G Q x r y.1;
        standing = S;
        high = y.2;
        rest = λ l₀ p M' G' Q' x' g w. subst (λ l. WalkedIn s table b M' G' Q' x' p₀ l f₀) (one_lists s c table owner R p₀ S.given l₀ f₀ f₀ S.path p) w;
      }

  module _ (M₀ G₀ Q₀ : List ℕ) (x₀ : ℕ) (M G Q : List ℕ) (x at locals ground_level h : ℕ) (W : Walking s table b p₀ f₀ M₀ G₀ Q₀ x₀ M G Q x at locals ground_level h)
      (M₁ G₁ Q₁ : List ℕ) (x₁ : ℕ) (C : Climbing s table b M₁ G₁ Q₁ x₁) (g₁ : Grows M G Q x M₁ G₁ Q₁ x₁) where
    -- it ends here
    pub walking_ends : Complete s table b M₁ G₁ Q₁ x₁ at W.standing.given ground_level → Finished s table b p₀ f₀ M₀ G₀ Q₀ x₀ M₁ G₁ Q₁ x₁
    walking_ends e =
        record {
          climbing = C;
          grows = grows_trans M₀ G₀ Q₀ x₀ M G Q x M₁ G₁ Q₁ x₁ W.grows g₁;
          walked = λ l p. W.rest l p M₁ G₁ Q₁ x₁ g₁ (e M₁ G₁ Q₁ x₁ (grows_refl M₁ G₁ Q₁ x₁));
        }

    module _ (at' locals' ground' h' : ℕ) (L : Leads s table b M₁ G₁ Q₁ x₁ at W.standing.given ground_level at' locals' ground' h') (r : ℕ) (e : r ≡ max x₁ h') where
      y : Climbing s table b M₁ G₁ Q₁ r × (x₁ ≤ r) × (h' ≤ r)
      y = climbing_most s table b M₁ G₁ Q₁ x₁ at' locals' ground' h' r C L.standing e

      up : Grows M₁ G₁ Q₁ x₁ M₁ G₁ Q₁ r
      up = grows_most M₁ G₁ Q₁ x₁ r y.1

      -- it goes on
      pub walking_on : Walking s table b p₀ f₀ M₀ G₀ Q₀ x₀ M₁ G₁ Q₁ r at' locals' ground' h'
      walking_on =
          record {
            climbing = y.0;
            grows = grows_trans M₀ G₀ Q₀ x₀ M₁ G₁ Q₁ x₁ M₁ G₁ Q₁ r (grows_trans M₀ G₀ Q₀ x₀ M G Q x M₁ G₁ Q₁ x₁ W.grows g₁) up;
            standing = L.standing;
            high = y.2;
            rest = λ l₀ p M' G' Q' x' g w. back l₀ p M' G' Q' x' (grows_trans M₁ G₁ Q₁ x₁ M₁ G₁ Q₁ r M' G' Q' x' up g) w;
          }
        where
          back : (l₀ : Lists) → Path (read s) b p₀ l₀ f₀ → (M' G' Q' : List ℕ) (x' : ℕ) → Grows M₁ G₁ Q₁ x₁ M' G' Q' x' → WalkedIn s table b M' G' Q' x' at' L.standing.given ground' → WalkedIn s table b M' G' Q' x' p₀ l₀ f₀
          back l₀ p M' G' Q' x' g w =
              let v : WalkedIn s table b M' G' Q' x' at' L.standing.given (raised ground_level W.standing.given L.standing.given) = subst (WalkedIn s table b M' G' Q' x' at' L.standing.given) L.same w in
              W.rest l₀ p M' G' Q' x' (grows_trans M G Q x M₁ G₁ Q₁ x₁ M' G' Q' x' g₁ g)
              (L.joins M' G' Q' x' g (passes W.standing.given ground_level at' L.standing.given v.next [] v.noted v.flow v.goes (ends W.standing.given ground_level)))

      -- it comes to a node
      pub walking_node : (k : ℕ) → at' < body_end (bodies_in s) (body_of owner) → get_or table at' 0 ≡ suc k → (M₂ G₂ : List ℕ) → Arrived k ground' M₁ G₁ M₂ G₂ → Finished s table b p₀ f₀ M₀ G₀ Q₀ x₀ M₂ G₂ Q₁ r
      walking_node k l t M₂ G₂ a =
          record {
            climbing = arrival_climbs s c table owner R M₁ G₁ Q₁ r y.0 at' k L.standing.given ground' L.standing.path L.standing.place l t M₂ G₂ a;
            grows = grows_trans M₀ G₀ Q₀ x₀ M₁ G₁ Q₁ x₁ M₂ G₂ Q₁ r (grows_trans M₀ G₀ Q₀ x₀ M G Q x M₁ G₁ Q₁ x₁ W.grows g₁) g₂;
            walked = λ l₀ p. W.rest l₀ p M₂ G₂ Q₁ r (grows_trans M G Q x M₁ G₁ Q₁ x₁ M₂ G₂ Q₁ r g₁ g₂)
                (L.joins M₂ G₂ Q₁ r g₂ (meets W.standing.given ground_level at' L.standing.given []
                (subst (Met s table b M₂ G₂ at' L.standing.given) L.same (arrival_met s c table owner R M₁ G₁ Q₁ r y.0 at' k L.standing.given ground' L.standing.path L.standing.place l t M₂ G₂ a))
                (ends W.standing.given ground_level)));
          }
        where
          g₂ : Grows M₁ G₁ Q₁ x₁ M₂ G₂ Q₁ r
          g₂ = grows_trans M₁ G₁ Q₁ x₁ M₁ G₁ Q₁ r M₂ G₂ Q₁ r up (arrival_grows s c table owner R M₁ G₁ Q₁ r y.0 at' k L.standing.given ground' L.standing.path L.standing.place l t M₂ G₂ a)
