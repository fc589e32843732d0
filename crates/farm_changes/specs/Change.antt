-- Changes that were prepared: what each does to the farm, and what it needs of it.
use Rattle.std.specs.Prelude.{ℕ, ◌≡◌, ◌<◌, ◌++◌, ◌∷◌, [], List, Bool, true, false, map, length, Option, None, Some, Result, Ok, Err}
use Rattle.std.specs.List.{list_all}
use Rattle.alloc_tags.specs.Book.{check_of}
use Rattle.farm_types.specs.declared.entry.Entry.{Entry}
use Rattle.farm_types.specs.declared.entry.Act.{Act}
use Rattle.farm_types.specs.declared.entry.Act.TheVariants as act
use Rattle.farm_types.specs.EntryAnswers.{answer_at}
use Rattle.farm_types.specs.Farm.{Farm, host_named, alloc_name}
use Rattle.farm_types.specs.Hosts.{booted}
use Rattle.farm_types.specs.Jobs.{with_job}
use Rattle.farm_types.specs.Kept.{has_its_limit}
use Rattle.farm_types.specs.Operators.{paused_row}
use Rattle.farm_types.specs.Step.{act_refusal, acted, lists_of, with_lists, at_moment, moment_of}
use Rattle.farm_types.specs.Subs.{with_sub}
use Rattle.farm_types.specs.Sums.{running_in}
use Rattle.farm_types.specs.declared.limits.TheConstants.{MOST_SHOWS, SUB_NUMBERS}
use Rattle.host_book.specs.Book.{alloc_of, plan_of}
use Rattle.host_book.specs.declared.boots.BootPlan.{BootPlan}
use Rattle.host_book.specs.declared.boots.BootPlan.TheVariants as plan
use Rattle.job_book.specs.Layers.{spare_of}
use Rattle.limit_book.specs.Book.{check_of as limit_check}
use Rattle.limit_book.specs.declared.plan.LimitPlan.{LimitPlan}
use Rattle.limit_book.specs.declared.plan.LimitPlan.TheVariants as limit_plan
use Rattle.farm_books.specs.Install.{IsPlacement}
use Rattle.farm_books.specs.Limits.{with_limit}
use Rattle.farm_draft.specs.Rows.{AreReady, installed}
use Rattle.farm_changes.specs.declared.act_answer.ActAnswer.{ActAnswer}
use Rattle.farm_changes.specs.declared.act_answer.ActAnswer.TheVariants as known
use Rattle.farm_changes.specs.declared.change.Change.{Change}
use Rattle.farm_changes.specs.declared.change.More.{More}
use Rattle.farm_changes.specs.declared.change.More.TheVariants as more
use Rattle.farm_changes.specs.declared.change.Reserved.{Reserved}
use Rattle.farm_changes.specs.declared.change.Reserved.TheVariants as taken
use Rattle.farm_types.specs.declared.fault.FarmFault.{FarmFault}
use Rattle.farm_types.specs.declared.fault.FarmFault.TheVariants.{Refused, NoMemory}

-- ---- what a change does

-- the farm with a row that owns texts
abbrev pub with_more : Farm → ℕ → More → Farm
with_more f moment more.Nothing = f
with_more f moment (more.Show name) = record f { shows = f.shows ++ record { name = name } ∷ [] }
with_more f moment (more.Alloc facility tag) = record f { allocs = f.allocs ++ record { facility = facility; tag = tag } ∷ [] }
with_more f moment (more.Sub sub size burst) = record f { subs = with_sub (record { sub = sub; size = size; burst = burst }) f.subs }
with_more f moment (more.Limit planned name most) = record f { limits = with_limit f.limits name planned most }
with_more f moment (more.Boot planned line) = record f { hosts = booted f.hosts line (alloc_of planned) moment }
with_more f moment (more.Paused job paused) = record f { jobs = map (paused_row job paused) f.jobs }
with_more f moment (more.Job placing spec) = with_lists f (with_job (lists_of f) placing.show placing.limits spec)

-- the farm with the change's rows, before the one that owns texts
abbrev pub with_rows : Farm → Change → Farm
with_rows f change = installed (at_moment f change.moment) change.rows

-- the farm after the change
abbrev pub after_change : Farm → Change → Farm
after_change f change = with_more (with_rows f change) change.moment change.more

-- a job is added
abbrev pub adds_job : More → Bool
adds_job (more.Job placing spec) = true
adds_job other = false

-- ---- what a change needs of the farm

-- the limit of that name is set where the plan says, and no layer has a limit that isn't there
pub record FitsLimit (f : Farm) (name : List ℕ) (planned : LimitPlan) : Type 0 where
  pub check : limit_check f.limits name ≡ Ok planned
  pub there : list_all (has_its_limit (length f.limits)) f.layers ≡ true

abbrev pub FitsMore : Farm → More → Type 0
FitsMore f more.Nothing = Unit {0}
FitsMore f (more.Show name) = length f.shows < MOST_SHOWS
FitsMore f (more.Alloc facility tag) = check_of f.allocs (alloc_name facility tag) ≡ Ok (length f.allocs)
FitsMore f (more.Sub sub size burst) = sub < SUB_NUMBERS
FitsMore f (more.Limit planned name most) = FitsLimit f name planned
FitsMore f (more.Boot planned line) = plan_of f.hosts line (alloc_of planned) ≡ Ok planned
FitsMore f (more.Paused job paused) = Unit {0}
FitsMore f (more.Job placing spec) = IsPlacement f placing spec

-- each row may be put in at its turn
pub record IsReady (f : Farm) (change : Change) : Type 0 where
  pub rows : AreReady f change.rows
  pub more : FitsMore (with_rows f change) change.more

-- the memory that a row with texts needs
abbrev pub memory_of : More → Reserved
memory_of (more.Alloc facility tag) = taken.Alloc (record { facility = facility; tag = tag })
memory_of (more.Limit planned name most) = taken.Limit name
memory_of (more.Boot planned line) = taken.Host line
memory_of (more.Job placing spec) = taken.Job (spare_of spec)
memory_of other = taken.None

-- the memory that the change needs was taken
pub record IsReserved (change : Change) : Type 0 where
  pub taken : change.reserved ≡ true
  pub memory_is : change.memory ≡ memory_of change.more

-- the same change, with its memory taken
abbrev pub reserved_of : Change → Change
reserved_of change = record change { reserved = true; memory = memory_of change.more }

abbrev pub boot_in : BootPlan → ℕ
boot_in (plan.New boot alloc) = boot
boot_in (plan.Same boot alloc) = boot
boot_in (plan.Again boot alloc) = boot

-- ---- preparing

-- so many frames run in the limit of the plan, and none in a new one
abbrev pub RunsPlanned : Farm → LimitPlan → ℕ → Type 0
RunsPlanned f (limit_plan.New limit) running = running ≡ 0
RunsPlanned f (limit_plan.Known limit) running = limit < length f.limits → running ≡ running_in f limit

-- the host that a report is of is told
abbrev pub HasHeard : Farm → Act → Option ℕ → Type 0
HasHeard f (act.Heard heard) None = ⊥
HasHeard f (act.Heard heard) (Some host) = host_named f heard.host ≡ Some host
HasHeard f other told = Unit {0}

-- What is known of the answer to the act at the moment: all of it, or that a depend is added or dropped.
abbrev pub AnswersAct : Farm → ℕ → Act → ActAnswer → Type 0
AnswersAct f moment does (known.Whole said) = said ≡ answer_at f moment does
AnswersAct f moment (act.AddDepend spec) known.DependAdded = Unit {0}
AnswersAct f moment (act.DropDepend depend) known.DependDropped = Unit {0}
AnswersAct f moment other said = ⊥

-- The farm doesn't refuse the entry's act. The change fits the farm, makes the farm that the act makes, has what is known of the act's
-- answer, and tells the host of a report. Its memory isn't taken yet.
pub record Makes (f : Farm) (e : Entry) (change : Change) : Type 0 where
  pub accepted : act_refusal f e.act ≡ None
  pub heard : HasHeard f e.act change.heard
  pub ready : IsReady f change
  pub unreserved : change.reserved ≡ false
  pub farm : after_change f change ≡ acted f e
  pub answer : AnswersAct f (moment_of f e.moment) e.act change.answer

-- a change that makes what the entry's act does, or exactly the farm's refusal of the act; running out of memory needs no cause
abbrev pub Prepares : Farm → Entry → Result Change FarmFault → Type 0
Prepares f e (Ok change) = Makes f e change
Prepares f e (Err (Refused why)) = act_refusal f e.act ≡ Some why
Prepares f e (Err NoMemory) = Unit {0}
