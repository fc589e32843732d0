-- The entries of a line, walked on a copy of the farm, and which of them change a row.
use Rattle.std.specs.Prelude.{ℕ, ◌≡◌, ◌++◌, Bool, true, false, List, [], ◌∷◌, Option, None, Some}
use Rattle.farm_types.specs.declared.dispatch.Candidate.{Candidate}
use Rattle.farm_types.specs.declared.entry.Entry.{Entry}
use Rattle.farm_types.specs.declared.refusal.Refusal.{Refusal}
use Rattle.farm_types.specs.Dispatch.{round_from}
use Rattle.farm_types.specs.Farm.{Farm}
use Rattle.farm_types.specs.Run.{IsLegal, IsLegalStep, run_of}
use Rattle.farm_types.specs.Step.{after, refusal_of}
use Rattle.farm_changes.specs.Change.{HasHeard}
use Rattle.line_answers.specs.recorder.specs.Recording.{ChangesRows, HasSameRows}
use Rattle.dispatcher.specs.Ready.{LeavesReady}
use Rattle.world_answers.specs.declared.walking.First.{First}
use Rattle.world_answers.specs.declared.walking.Walk.{Walk}

-- a row changes, or none does
abbrev pub Says : Bool → Farm → Farm → Type 0
Says true f g = ChangesRows f g
Says false f g = HasSameRows f g

-- of each entry, after those before it, it is said whether it changes a row
abbrev pub AreSaid : Farm → List Entry → List Bool → Type 0
AreSaid f [] [] = Unit {0}
AreSaid f [] (b ∷ bs) = ⊥
AreSaid f (e ∷ es) [] = ⊥
AreSaid f (e ∷ es) (b ∷ bs) = Says b f (after f e) × AreSaid (after f e) es bs

-- a first entry, which the farm takes
pub record IsFirst (f : Farm) (e : Entry) (first : First) : Type 0 where
  pub legal : IsLegalStep f e
  pub farm : first.farm ≡ after f e
  pub said : Says first.stored f (after f e)
  pub heard : HasHeard f e.act first.heard

-- the farm takes the entry, or refuses it
abbrev pub Begins : Farm → Entry → Option First → Type 0
Begins f e None = (why : Refusal) × (refusal_of f e ≡ Some why)
Begins f e (Some first) = IsFirst f e first

abbrev pub first_walk : First → Entry → Walk
first_walk first e = record { farm = first.farm; entries = e ∷ []; stored = first.stored ∷ [] }

-- the walk went on by these entries
pub record WalkedOn (v : Walk) (more : List Entry) (w : Walk) : Type 0 where
  pub legal : IsLegal v.farm more
  pub farm : w.farm ≡ run_of v.farm more
  pub entries : w.entries ≡ v.entries ++ more
  pub flags : List Bool
  pub stored : w.stored ≡ v.stored ++ flags
  pub said : AreSaid v.farm more flags

-- the candidate is booked, or passed over, and the round goes on as it goes from here, with so many bookings left
pub record Offered (left : ℕ) (v : Walk) (c : Candidate) (moment left_then : ℕ) (w : Walk) : Type 0 where
  pub booked : List Entry
  pub walked : WalkedOn v booked w
  pub goes_on : (later : List Candidate) → booked ++ round_from left_then w.farm moment later ≡ round_from left v.farm moment (c ∷ later)
  pub ready : LeavesReady c.slot v.farm w.farm
