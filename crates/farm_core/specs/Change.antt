-- Changes that were prepared: what each does to the farm, and what it needs of it, so that the farm that it makes keeps what every farm keeps.
use Rattle.std.specs.Prelude.{◌≡◌, map, false, [], None, Some, Result, Ok, Err}
use Rattle.farm_types.specs.declared.entry.Entry.{Entry}
use Rattle.farm_types.specs.EntryAnswers.{answer_of as entry_answer}
use Rattle.farm_types.specs.Farm.{Farm}
use Rattle.farm_types.specs.Kept.{IsKeptFarm}
use Rattle.farm_types.specs.Step.{refusal_of, acted, after, finish_each, moment_of}
use Rattle.depend_law.specs.Ending.{CanEnd}
use Rattle.farm_changes.specs.Change as books
use Rattle.farm_changes.specs.Change.{AnswersAct, HasHeard}
use Rattle.farm_rows.specs.Changes.{NamesExactly}
use Rattle.farm_types.specs.declared.fault.FarmFault.{FarmFault}
use Rattle.farm_types.specs.declared.fault.FarmFault.TheVariants.{Refused, NoMemory}
use Rattle.farm_depends.specs.Follow.{FollowFits, Follows, after_follow, follow_reserved, spare_for}
use Rattle.farm_finish.specs.Closing.{closing}
use Rattle.farm_core.specs.declared.change.Change.{Change}

-- ---- what a change does

-- the farm after the act, before what follows of depends
abbrev pub after_act : Farm → Change → Farm
after_act f change = books.after_change f change.act

-- and with what follows, before jobs finish
abbrev pub followed_by : Farm → Change → Farm
followed_by f change = after_follow (after_act f change) change.follow

abbrev pub after_change : Farm → Change → Farm
after_change f change = finish_each change.finish (followed_by f change)

-- ---- what it needs

-- the change and what follows fit the farm, the jobs that finish may, and the farm that it makes keeps what every farm keeps
pub record IsReady (f : Farm) (change : Change) : Type 0 where
  pub fits : books.IsReady f change.act
  pub follows : FollowFits f (after_act f change) change.follow
  pub ends : CanEnd (followed_by f change) change.finish
  pub kept : IsKeptFarm (after_change f change)

-- no memory was taken yet
pub record IsUnreserved (change : Change) : Type 0 where
  pub act : change.act.reserved ≡ false
  pub follow : change.follow.spares ≡ []

-- the memory that the change needs was taken
pub record IsReserved (change : Change) : Type 0 where
  pub act : books.IsReserved change.act
  pub follow : change.follow.spares ≡ map spare_for change.follow.depends

-- the same change, with its memory taken
abbrev pub reserved_of : Change → Change
reserved_of change =
    record { act = books.reserved_of change.act; follow = follow_reserved change.follow; finish = change.finish; rows = change.rows; answer = change.answer }

-- each part of the change makes what its stage of the entry makes: the act, of whose answer it knows, what follows of depends, and the jobs that finish
pub record IsStaged (f : Farm) (e : Entry) (change : Change) : Type 0 where
  pub act : after_act f change ≡ acted f e
  pub known : AnswersAct f (moment_of f e.moment) e.act change.act.answer
  pub follows : Follows f (after_act f change) e.act change.follow
  pub jobs : change.finish ≡ closing e.act (followed_by f change)

-- The farm doesn't refuse the entry. The change fits the farm, makes the farm that the entry makes, and has the entry's answer.
-- Its memory isn't taken yet.
pub record Plans (f : Farm) (e : Entry) (change : Change) : Type 0 where
  pub accepted : refusal_of f e ≡ None
  pub heard : HasHeard f e.act change.act.heard
  pub ready : IsReady f change
  pub unreserved : IsUnreserved change
  pub staged : IsStaged f e change
  pub farm : after_change f change ≡ after f e
  pub answer : change.answer ≡ entry_answer f e

-- and it has exactly the rows in which the farm and the one that it makes differ, each as it will be
pub record Makes (f : Farm) (e : Entry) (change : Change) : Type 0 where
  pub planned : Plans f e change
  pub rows : NamesExactly f (after_change f change) change.rows

-- a change of which that is so, or exactly the farm's refusal of the entry; running out of memory needs no cause
abbrev pub IsPrepared : (Change → Type 0) → Farm → Entry → Result Change FarmFault → Type 0
IsPrepared fits f e (Ok change) = fits change
IsPrepared fits f e (Err (Refused why)) = refusal_of f e ≡ Some why
IsPrepared fits f e (Err NoMemory) = Unit {0}

-- a change that makes the entry, or its refusal
abbrev pub Prepares : Farm → Entry → Result Change FarmFault → Type 0
Prepares f e = IsPrepared (Makes f e) f e
