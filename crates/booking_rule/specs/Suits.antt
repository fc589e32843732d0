-- Claims suit the farm that their seats saw.
use Rattle.std.specs.Prelude.{◌≡◌, ℕ, ◌-◌, ◌≤◌, true, List, [], ◌∷◌, length, take}
use mathlib.Core.Option.{some}
use lib.ListN.{get_elem?}
use Rattle.farm_types.specs.declared.entry.Entry.{Entry}
use Rattle.farm_types.specs.Booking.{suits}
use Rattle.farm_types.specs.Farm.{Farm}
use Rattle.farm_types.specs.Run.{run_of}
use Rattle.booking_rule.specs.declared.hold.Claim.{Claim}
use Rattle.booking_rule.specs.declared.view.View.{View}

-- the claim suited the farm at a place of the journal
abbrev pub SuitsOnce : Farm → List Entry → Claim → Type 0
SuitsOnce f log c = (p : ℕ) × (p ≤ length log) × (suits (run_of f (take p log)) c.slot (c.version - 1) c.host c.sub ≡ true)

abbrev pub AllSuit : Farm → List Entry → List Claim → Type 0
AllSuit f log [] = Unit {0}
AllSuit f log (c ∷ cs) = SuitsOnce f log c × AllSuit f log cs

pub record Suited (f : Farm) (log : List Entry) (views : List View) : Type 0 where
  pub each : (id : ℕ) (v : View) → get_elem? views id ≡ some v → AllSuit f log v.claims
