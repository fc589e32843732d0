-- The rule, with the journal and its farm, over the words of a table.
use Rattle.std.specs.Prelude.{◌≡◌, ◌⊎◌, ℕ, List, [], ◌∷◌, ◌++◌, length, slice_index, Option, Some, None}
use Rattle.atomic_table.specs.Table.{State, Me}
use Rattle.farm_types.specs.declared.entry.Entry.{Entry}
use Rattle.farm_types.specs.Farm.{Farm, empty_farm}
use Rattle.farm_types.specs.Kept.{IsKeptFarm}
use Rattle.farm_types.specs.Run.{run_of, IsLegal}
use Rattle.booking_rule.specs.declared.view.View.{View}
use Rattle.booking_rule.specs.declared.desk.Desk.{Desk}
use Rattle.booking_rule.specs.declared.noted.Noted.{Noted}
use Rattle.booking_rule.specs.declared.opening.Opening.{Opening}
use Rattle.booking_rule.specs.Words.{Words, all_words, words_of}
use Rattle.booking_rule.specs.Link.{farm_of, opening_of, recorded_in}
use Rattle.booking_rule.specs.Amounts.{Written}
use Rattle.booking_rule.specs.Looks.{Looks}
use Rattle.booking_rule.specs.Ranges.{Ranged}
use Rattle.booking_rule.specs.Rule.{NamesHost, Rule}
use Rattle.booking_rule.specs.Resizing.{Resizing}
use Rattle.booking_rule.specs.Seats.{Seats}
use Rattle.booking_rule.specs.Suits.{Suited}

-- the farm before is that of all entries, or of all but the last; while the words are placed for the first time there
-- is no entry
abbrev pub IsBefore : Option (List Entry) → List Entry → Type 0
IsBefore None log = log ≡ []
IsBefore (Some before) log = (before ≡ log) ⊎ ((e : Entry) × (before ++ e ∷ [] ≡ log))

-- the journal's word, the other words, the journal and the seats; of which seat the recorder's is, and what it knows. While
-- the words are placed for the first time no seat has a number
pub record KeptAs (n : ℕ) (W : Words) (views : List View) (seat : ℕ) (opening : Opening) (desk : Desk) (log : List Entry) (trail : List Noted)
    : Type 0 where
  pub journal : n ≡ length log
  pub begins : IsKeptFarm (farm_of opening)
  pub legal : IsLegal (farm_of opening) log
  pub before : IsBefore desk.before log
  pub alone : desk.before ≡ None → desk.split ≡ 0
  pub rule : Rule (recorded_in opening log desk) desk.pending W views
  pub ahead : NamesHost desk.pending desk.on W.frame
  pub suited : Suited (farm_of opening) log views
  pub looks : Looks (recorded_in opening log desk).slot views
  pub ranged : Ranged W.frame W.amount views
  pub written : Written W.amount trail
  pub resizing : Resizing (recorded_in opening log desk).cores (recorded_in opening log desk).memory (run_of (farm_of opening) log) W.host W.frame views
  pub seats : Seats seat opening desk log trail views

pub record Kept (n : ℕ) (W : Words) (views : List View) : Type 0 where
  pub seat : ℕ
  pub opening : Opening
  pub desk : Desk
  pub log : List Entry
  pub trail : List Noted
  pub own : KeptAs n W views seat opening desk log trail

-- what holds of a table between any two steps
abbrev pub Holds : State (Unit {0}) View → Type 0
Holds s = (length s.words ≡ all_words) × Kept (slice_index s.words 0) (words_of s.words) s.views

abbrev pub Sat : Type 0
Sat = Me (Unit {0}) View

-- the farm that a view's journal leads to
abbrev pub farm_in : View → Farm
farm_in v = run_of (farm_of v.opening) v.journal

-- ---- the start, when all words are 0

abbrev pub no_desk : Desk
no_desk = record { split = 0; before = Some []; slots = []; hosts = []; subs = []; limits = []; pending = None; on = 0 }

abbrev pub first_view : View
first_view =
    record {
      desk = Some no_desk;
      number = None;
      opening = opening_of empty_farm;
      journal = [];
      told = [];
      takes = [];
      limits = [];
      rooms = [];
      claims = [];
      ungranted = None;
      ungranted_limit = None;
      trail = [];
      desk_trail = [];
      told_trail = [];
      receipts = [];
    }
