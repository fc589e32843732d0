-- The recorder's seat while the words of a farm are placed for the first time.
use Rattle.std.specs.Prelude.{◌≡◌, ◌⊎◌, ℕ, zero, suc, ◌<◌, ◌≤◌, true, false, List, [], ◌∷◌, Some, None}
use mathlib.Core.List.{IsPrefix}
use Rattle.farm_types.specs.Farm.{Farm}
use Rattle.booking_rule.specs.declared.desk.Desk.{Desk}
use Rattle.booking_rule.specs.declared.view.View.{View}
use Rattle.booking_rule.specs.Recorded.{free_at}
use Rattle.booking_rule.specs.Link.{has, opening_of, stand_at}
use Rattle.recording_turns.specs.Resting.{HoldsNothing}

-- the numbers below n, the last of them first
unfoldable pub numbers_below : ℕ → List ℕ
numbers_below zero = []
numbers_below (suc n) = n ∷ numbers_below n

abbrev pub desk_of : List ℕ → List ℕ → List ℕ → List ℕ → ℕ → Desk
desk_of hosts subs limits slots on =
    record { split = 0; before = None; slots = slots; hosts = hosts; subs = subs; limits = limits; pending = None; on = on }

-- so many hosts, subscriptions and limits were placed, from number 0 on, and these slots
pub record IsPlacing (f : Farm) (hosts subs limits : ℕ) (slots : List ℕ) (v : View) : Type 0 where
  pub on : ℕ
  pub desk : v.desk ≡ Some (desk_of (numbers_below hosts) (numbers_below subs) (numbers_below limits) slots on)
  pub opening : v.opening ≡ opening_of f
  pub journal : v.journal ≡ []
  pub free : HoldsNothing v

-- each slot below n was placed, or is free at version 0, which its word says without; no other was
pub record ArePlaced (f : Farm) (n : ℕ) (slots : List ℕ) : Type 0 where
  pub done : (k : ℕ) → k < n → (has k slots ≡ true) ⊎ (stand_at f k ≡ free_at 0)
  pub others : (k : ℕ) → n ≤ k → has k slots ≡ false

-- all hosts, subscriptions and limits were placed, and the slots below n
pub record HasPlaced (f : Farm) (limits n : ℕ) (v : View) : Type 0 where
  pub slots : List ℕ
  pub placing : IsPlacing f 4096 1024 limits slots v
  pub are : ArePlaced f n slots

-- of what the seat knows only its desk and its trail are others, and the trail grew
pub record Onward (v w : View) : Type 0 where
  pub like : w ≡ record v { desk = w.desk; trail = w.trail }
  pub trail : IsPrefix v.trail w.trail
