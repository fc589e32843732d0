-- What a pass holds on its way to a claim, and what stays of it.
use Rattle.std.specs.Prelude.{◌≡◌, ℕ, ◌<◌, List, [], ◌∷◌, None}
use mathlib.Core.List.{IsPrefix}
use Rattle.farm_types.specs.declared.dispatch.Candidate.{Candidate}
use Rattle.farm_types.specs.declared.limits.TheConstants.{LAST_VERSION, LEAST_CORES, LEAST_MEMORY, MOST_CORES, MOST_MEMORY}
use Rattle.farm_types.specs.Limits.{IsBetween}
use Rattle.booking_rule.specs.declared.hold.Room.{Room}
use Rattle.booking_rule.specs.declared.hold.Take.{Take}
use Rattle.booking_rule.specs.declared.view.View.{View}
use Rattle.booking_rule.specs.Looks.{HasLook}
use Rattle.booking_table.specs.declared.seen.Seen.{Seen}
use Rattle.booking_table.specs.Calls.{SuitsAt, look_by}
use Rattle.booking_table.specs.Holds.{IsLimit}

-- ---- a candidate

-- it suits in a farm of the pass's journal, below the last version, and its numbers are those of words
pub record IsDue (v : View) (c : Candidate) : Type 0 where
  pub suits : SuitsAt v c.slot c.version c.host c.sub
  pub below : c.version < LAST_VERSION
  pub slot : c.slot < 65536
  pub sub : c.sub < 1024
  pub host : c.host < 4096

abbrev pub AreDue : View → List Candidate → Type 0
AreDue v [] = Unit {0}
AreDue v (c ∷ cs) = IsDue v c × AreDue v cs

-- the look that a claim of it asks for is in the trail, with a layer's amounts
pub record IsWanted (v : View) (c : Candidate) (seen : Seen) : Type 0 where
  pub due : IsDue v c
  pub at : seen.slot ≡ c.slot
  pub phase : seen.phase ≡ 1
  pub version : seen.version ≡ c.version
  pub look : HasLook v.trail (look_by seen)
  pub cores : IsBetween LEAST_CORES MOST_CORES seen.cores
  pub memory : IsBetween LEAST_MEMORY MOST_MEMORY seen.memory
  pub limit : IsLimit seen.limit
  pub few : seen.cores < 1048576

-- ---- what is held

-- exactly these, and nothing is in flight
pub record HoldsJust (ts : List Take) (ls : List ℕ) (rs : List Room) (v : View) : Type 0 where
  pub takes : v.takes ≡ ts
  pub limits : v.limits ≡ ls
  pub rooms : v.rooms ≡ rs
  pub burst : v.ungranted ≡ None
  pub place : v.ungranted_limit ≡ None

-- only what is held, what is in flight and the trail are others, and the trail grew
pub record StepsOn (v w : View) : Type 0 where
  pub like : w
      ≡ record v { takes = w.takes; limits = w.limits; rooms = w.rooms; claims = w.claims; ungranted = w.ungranted; ungranted_limit = w.ungranted_limit; trail = w.trail }
  pub trail : IsPrefix v.trail w.trail

-- .. and it holds exactly these then
pub record GoesJust (v : View) (ts : List Take) (ls : List ℕ) (rs : List Room) (w : View) : Type 0 where
  pub steps : StepsOn v w
  pub holds : HoldsJust ts ls rs w
