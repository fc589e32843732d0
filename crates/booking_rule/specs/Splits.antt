-- A seat more; what a seat has seen, for another; and a look at the journal's word.
use Rattle.std.specs.Prelude.{◌≡◌, ◌≢◌, ℕ, ◌+◌, ◌<◌, if◌then◌else◌, nat_le, length, List, ◌∷◌, ◌++◌, [], Option, Some, None}
use mathlib.Core.List.{IsPrefix}
use Rattle.atomic_table.specs.Table.{Step}
use Rattle.farm_types.specs.Farm.{empty_farm}
use Rattle.booking_rule.specs.declared.view.View.{View}
use Rattle.booking_rule.specs.declared.desk.Desk.{Desk}
use Rattle.booking_rule.specs.declared.noted.Noted.{Noted}
use Rattle.booking_rule.specs.Link.{opening_of}
use Rattle.booking_rule.specs.Kept.{Sat}

-- ---- a seat with the next number

-- only the recorder's seat splits one off, with nothing in flight, while there are fewer than 64, and once the words were placed
abbrev pub MaySplit : View → Type 0
MaySplit v = (d : Desk) × (v.desk ≡ Some d) × (v.ungranted ≡ None) × (v.ungranted_limit ≡ None) × (d.split < 64) × (d.before ≢ None)

abbrev pub one_split : Desk → Desk
one_split d = record d { split = d.split + 1 }

abbrev pub desk_split : Option Desk → Option Desk
desk_split None = None
desk_split (Some d) = Some (one_split d)

abbrev pub next_number : Option Desk → ℕ
next_number None = 0
next_number (Some d) = d.split

-- what the recorder's seat keeps, and what the new one has
abbrev pub one_more : View → View
one_more v = record v { desk = desk_split v.desk }

abbrev pub numbered : View → View
numbered v =
    record v {
      desk = None;
      number = Some (next_number v.desk);
      told = [];
      takes = [];
      limits = [];
      rooms = [];
      claims = [];
      ungranted = None;
      ungranted_limit = None;
      trail = [];
      desk_trail = v.trail;
      told_trail = [];
      receipts = [];
    }

-- ---- notes

abbrev pub if_desk : {X : Type 0} → Option Desk → X → X → X
if_desk (Some d) x y = x
if_desk None x y = y

-- a note of the recorder's seat takes its receipts, and its trail
abbrev pub without_receipts : View → View
without_receipts v = record v { receipts = if_desk v.desk [] v.receipts }

abbrev pub note_of : View → View
note_of v =
    record v {
      desk = None;
      number = None;
      told = [];
      takes = [];
      limits = [];
      rooms = [];
      claims = [];
      ungranted = None;
      ungranted_limit = None;
      trail = [];
      desk_trail = if_desk v.desk v.trail v.desk_trail;
      told_trail = [];
      receipts = if_desk v.desk v.receipts [];
    }

-- what is left of a note
abbrev pub blank : View
blank =
    record {
      desk = None;
      number = None;
      opening = opening_of empty_farm;
      journal = [];
      told = [];
      takes = [];
      limits = [];
      rooms = [];
      claims = [];
      ungranted = None;
      ungranted_limit = None;
      trail = [];
      desk_trail = [];
      told_trail = [];
      receipts = [];
    }

abbrev pub informed : View → View → View
informed v u = record v { told = u.journal; told_trail = u.desk_trail; receipts = v.receipts ++ u.receipts }

-- a view that another seat takes in
abbrev pub IsNote : View → Type 0
IsNote v = (v.desk ≡ None) × (v.number ≡ None) × (v.ungranted ≡ None) × (v.ungranted_limit ≡ None)

-- ---- a look at the journal's word, after a note

-- the longer of two beginnings
abbrev pub longer_of : {A : Type 0} → List A → List A → List A
longer_of xs ys = if nat_le (length ys) (length xs) then xs else ys

abbrev pub look_at : ℕ → ℕ → Noted
look_at word found = record { did = 1; word = word; operand = 0; found = found; wrote = found }

abbrev pub settled : View → ℕ → View
settled v found =
    record v {
      journal = longer_of v.journal v.told;
      told = [];
      desk_trail = longer_of v.desk_trail v.told_trail;
      told_trail = [];
      trail = v.trail ++ look_at 0 found ∷ [];
    }

-- What was seen and what was told are beginnings of one journal, which the recorder's seat has whole. What that seat was
-- told of its trail is a beginning of it.
pub record Settles (v w : View) : Type 0 where
  pub journal : IsPrefix v.journal w.journal
  pub told : IsPrefix v.told w.journal
  pub desk_trail : IsPrefix v.desk_trail w.desk_trail
  pub told_trail : IsPrefix v.told_trail w.desk_trail
  pub first : (d : Desk) → v.desk ≡ Some d → w.journal ≡ v.journal
  pub own : (d : Desk) → v.desk ≡ Some d → IsPrefix v.told_trail v.trail

abbrev pub sees : Step (Unit {0}) → Sat → ℕ → Sat → Type 0
sees st m r m' = (m' ≡ (settled m.0 r, m.1)) × Settles m.0 m'.0
