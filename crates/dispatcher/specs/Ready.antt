-- Candidates that the recorder may try to book.
use Rattle.std.specs.Prelude.{ℕ, ◌≡◌, ◌≢◌, ◌<◌, true, List, [], ◌∷◌}
use Rattle.farm_types.specs.Booking.{suits, tags_match}
use Rattle.farm_types.specs.declared.dispatch.Candidate.{Candidate}
use Rattle.farm_types.specs.declared.limits.TheConstants.{LAST_VERSION}
use Rattle.farm_types.specs.Farm.{Farm}

-- The slot has the candidate's version, which can rise, and suits its host and subscription; and its layer shares a tag with the host. So whether it may be
-- booked is whether that may be recorded.
pub record IsReady (f : Farm) (c : Candidate) : Type 0 where
  pub below : c.version < LAST_VERSION
  pub suits : suits f c.slot c.version c.host c.sub ≡ true
  pub tags : tags_match f c.slot c.host ≡ true

-- no candidate is of the slot
abbrev pub IsElsewhere : ℕ → List Candidate → Type 0
IsElsewhere slot [] = Unit {0}
IsElsewhere slot (c ∷ cs) = (c.slot ≢ slot) × IsElsewhere slot cs

-- each candidate is ready, and no two are of one slot
abbrev pub AreReady : Farm → List Candidate → Type 0
AreReady f [] = Unit {0}
AreReady f (c ∷ cs) = IsReady f c × IsElsewhere c.slot cs × AreReady f cs

-- candidates of other slots that were ready are so still
abbrev pub LeavesReady : ℕ → Farm → Farm → Type 0
LeavesReady slot f g = (cs : List Candidate) → IsElsewhere slot cs → AreReady f cs → AreReady g cs
