-- Passes: seats with a number, and what they learn.
use Rattle.std.specs.Prelude.{◌≡◌, ℕ, ◌+◌, ◌++◌, ◌∷◌, [], min, length, None, Some}
use mathlib.Core.List.{IsPrefix}
use Rattle.atomic_table.specs.Seated.{TableId}
use Rattle.atomic_table.specs.declared.shared.Seat.{Seat}
use Rattle.booking_rule.specs.declared.view.View.{View}
use Rattle.booking_rule.specs.Splits.{look_at}
use Rattle.booking_table.specs.Seats.{view, IsSeatOf}
use Rattle.booking_recorder.specs.Recording.{Recording, most_entries}

-- what a pass's seat knows, and how many failures of the store it was told of
pub record Passing : Type 0 where
  pub view : View
  pub faults : ℕ

-- a numbered seat, which isn't the recorder's, with nothing in flight
pub record IsNumbered (v : View) : Type 0 where
  pub other : v.desk ≡ None
  pub number : ℕ
  pub named : v.number ≡ Some number
  pub burst : v.ungranted ≡ None
  pub place : v.ungranted_limit ≡ None

-- it is of that table, and the entries that it has seen are counted
pub record IsPass (t : TableId) (s : Seat (Unit {0}) View) (count : ℕ) : Type 0 where
  pub seat : IsSeatOf t s
  pub numbered : IsNumbered (view s)
  pub counted : count ≡ length (view s).journal

-- ---- what a seat learns

-- what was seen grew; number, opening, and all that is held are as before
pub record Learns (v w : View) : Type 0 where
  pub like : w
      ≡ record v { journal = w.journal; told = w.told; trail = w.trail; desk_trail = w.desk_trail; told_trail = w.told_trail; receipts = w.receipts }
  pub journal : IsPrefix v.journal w.journal
  pub trail : IsPrefix v.trail w.trail
  pub desk_trail : IsPrefix v.desk_trail w.desk_trail

-- of what the recorder's seat knows only trails are others, and its own grew
pub record Notices (v w : View) : Type 0 where
  pub like : w ≡ record v { told = w.told; trail = w.trail; desk_trail = w.desk_trail; told_trail = w.told_trail }
  pub trail : IsPrefix v.trail w.trail

-- .. and it gave its receipts away
pub record GivesOn (v w : View) : Type 0 where
  pub like : w ≡ record v { told = w.told; trail = w.trail; desk_trail = w.desk_trail; told_trail = w.told_trail; receipts = [] }
  pub trail : IsPrefix v.trail w.trail

-- .. and the recorder its count of failures
pub record HandsOver {K : Type 0} (before now : Recording K) : Type 0 where
  pub farm : now.farm ≡ before.farm
  pub keeper : now.keeper ≡ before.keeper
  pub gives : GivesOn before.view now.view
  pub faults : now.faults ≡ 0

-- ---- a pass beside the recorder

-- what a pass has seen, of the journal and of the recorder's trail, are beginnings of what the recorder has
pub record IsBehind (p v : View) : Type 0 where
  pub journal : IsPrefix p.journal v.journal
  pub trail : IsPrefix p.desk_trail v.trail

-- two counts together; they stay at the last number
abbrev pub counted_up : ℕ → ℕ → ℕ
counted_up n more = min (n + more) most_entries

-- the recorder's seat and the pass's, before and after: the pass has then seen all that the recorder has, and has its receipts.
-- Before, what it had seen was a beginning of that. Its own trail has one look at the journal's word more.
pub record CatchesUp (v p w q : View) : Type 0 where
  pub journal : q.journal ≡ v.journal
  pub trail : q.desk_trail ≡ w.trail
  pub receipts : q.receipts ≡ p.receipts ++ v.receipts
  pub learns : Learns p q
  pub gives : GivesOn v w
  pub behind : IsBehind p v
  pub found : ℕ
  pub look : q.trail ≡ p.trail ++ look_at 0 found ∷ []
