-- The recorder's seat between two entries, and what it keeps while it changes words.
use Rattle.std.specs.Prelude.{◌≡◌, ℕ, List, [], Option, Some, None}
use mathlib.Core.List.{IsPrefix}
use Rattle.farm_types.specs.declared.entry.Entry.{Entry}
use Rattle.farm_types.specs.Farm.{Farm, empty_farm}
use Rattle.booking_rule.specs.declared.desk.Desk.{Desk}
use Rattle.booking_rule.specs.declared.view.View.{View}
use Rattle.booking_rule.specs.Link.{opening_of, IsDone}

-- it holds nothing, and has nothing in flight
pub record HoldsNothing (v : View) : Type 0 where
  pub takes : v.takes ≡ []
  pub limits : v.limits ≡ []
  pub rooms : v.rooms ≡ []
  pub claims : v.claims ≡ []
  pub burst : v.ungranted ≡ None
  pub place : v.ungranted_limit ≡ None

-- the recorder's seat, after a farm was placed: nothing is left to do for the last entry, and no slot runs ahead
pub record IsSettled (v : View) : Type 0 where
  pub desk : Desk
  pub first : v.desk ≡ Some desk
  pub log : List Entry
  pub placed : desk.before ≡ Some log
  pub pending : desk.pending ≡ None
  pub done : IsDone v.opening v.journal desk

pub record IsAtRest (v : View) : Type 0 where
  pub settled : IsSettled v
  pub free : HoldsNothing v

-- how many seats were split off
abbrev pub split_in : Option Desk → ℕ
split_in None = 0
split_in (Some d) = d.split

-- Of what the seat knows, only its desk's lists, what it holds, and its trail, which grew, may be others.
pub record WentOn (v w : View) : Type 0 where
  pub like : w
      ≡ record v {
        desk = w.desk;
        takes = w.takes;
        limits = w.limits;
        rooms = w.rooms;
        claims = w.claims;
        ungranted = w.ungranted;
        ungranted_limit = w.ungranted_limit;
        trail = w.trail;
      }
  pub split : split_in w.desk ≡ split_in v.desk
  pub trail : IsPrefix v.trail w.trail

-- ---- a farm is placed

-- the recorder's seat of a new table
pub record IsUnplaced (v : View) : Type 0 where
  pub desk : Desk
  pub first : v.desk ≡ Some desk
  pub pending : desk.pending ≡ None
  pub split : desk.split ≡ 0
  pub done : IsDone v.opening v.journal desk
  pub journal : v.journal ≡ []
  pub opening : v.opening ≡ opening_of empty_farm
  pub free : HoldsNothing v

-- the journal, which is empty, starts from the farm, and each word shows what it says
pub record IsPlaced (v : View) (f : Farm) (w : View) : Type 0 where
  pub rests : IsAtRest w
  pub opening : w.opening ≡ opening_of f
  pub like : w ≡ record v { desk = w.desk; opening = w.opening; trail = w.trail }
  pub split : split_in w.desk ≡ 0
  pub trail : IsPrefix v.trail w.trail
