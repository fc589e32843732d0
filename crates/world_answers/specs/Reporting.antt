-- What a report comes to.
use Rattle.std.specs.Prelude.{ℕ, zero, suc, ◌≡◌, ◌+◌, Bool, true, false, List, [], ◌∷◌, take, Option, None, Some, Result, Ok, slice_get}
use Rattle.std.specs.declared.alloc.AllocError.{AllocError}
use Rattle.farm_types.specs.declared.attempt.DoneItem.{DoneItem}
use Rattle.farm_types.specs.declared.entry.Act.{Act}
use Rattle.farm_types.specs.declared.entry.Act.TheVariants as act
use Rattle.farm_types.specs.declared.entry.Entry.{Entry}
use Rattle.farm_types.specs.declared.refusal.Refusal.{Refusal}
use Rattle.farm_types.specs.Dispatch.{round_for}
use Rattle.farm_types.specs.Farm.{Farm, host_named}
use Rattle.farm_types.specs.Run.{IsLegal}
use Rattle.farm_types.specs.Step.{after, refusal_of}
use Rattle.farm_lines.specs.declared.reply.Reply.{Reply}
use Rattle.farm_lines.specs.declared.report.Report.{Report}
use Rattle.farm_lines.specs.Asked.{heard_entry}
use Rattle.farm_lines.specs.Reply.{reply_text}
use Rattle.line_answers.specs.LineAnswers.{tells_memory}
use Rattle.world_law.specs.Ends.{ends_at}
use Rattle.world_answers.specs.declared.reporting.HeardFirst.{HeardFirst}
use Rattle.world_answers.specs.declared.reporting.Plan.{Plan}
use Rattle.world_answers.specs.declared.walking.Walk.{Walk}
use Rattle.world_answers.specs.Walking.{AreSaid, IsFirst, WalkedOn, first_walk}

-- the entry is that of a report
abbrev pub IsReportAct : Act → Type 0
IsReportAct (act.Heard heard) = Unit {0}
IsReportAct other = ⊥

abbrev pub IsReportEntry : Entry → Type 0
IsReportEntry e = IsReportAct e.act

-- the host that the act is of
abbrev pub IsOfHost : Farm → Act → ℕ → Type 0
IsOfHost f (act.Heard heard) host = host_named f heard.host ≡ Some host
IsOfHost f other host = ⊥

-- the report's own entry, which the farm takes, and the completions that change the farm
pub record IsHeardFirst (f : Farm) (e : Entry) (h : HeardFirst) : Type 0 where
  pub first : IsFirst f e h.first
  pub host : IsOfHost f e.act h.host
  pub ends : h.ends ≡ ends_at f e

abbrev pub HearsFirst : Farm → Entry → Option HeardFirst → Type 0
HearsFirst f e None = (why : Refusal) × (refusal_of f e ≡ Some why)
HearsFirst f e (Some h) = IsHeardFirst f e h

-- and then the round of bookings
pub record PlansFrom (h : HeardFirst) (e : Entry) (moment : ℕ) (p : Plan) : Type 0 where
  pub walk : Walk
  pub walked : WalkedOn (first_walk h.first e) (round_for h.first.farm h.host moment) walk
  pub entries : p.entries ≡ walk.entries
  pub stored : p.stored ≡ walk.stored
  pub ends : p.ends ≡ h.ends

abbrev pub IsPlanIf : Result (Option HeardFirst) AllocError → Entry → ℕ → Option Plan → Type 0
IsPlanIf (Ok (Some h)) e moment (Some p) = PlansFrom h e moment p
IsPlanIf (Ok None) e moment None = Unit {0}
IsPlanIf heard e moment p = ⊥

-- all entries of the report where the store refuses nothing, whether each changes a row, and the completions that change the farm
pub record IsPlan (f : Farm) (report : Report) (moment : ℕ) (p : Plan) : Type 0 where
  pub accepted : refusal_of f (heard_entry report moment) ≡ None
  pub host : ℕ
  pub named : host_named f report.heard.host ≡ Some host
  pub entries : p.entries ≡ heard_entry report moment ∷ round_for (after f (heard_entry report moment)) host moment
  pub legal : IsLegal f p.entries
  pub said : AreSaid f p.entries p.stored
  pub ends : p.ends ≡ ends_at f (heard_entry report moment)

abbrev pub Plans : Farm → Report → ℕ → Option Plan → Type 0
Plans f report moment None = (why : Refusal) × (refusal_of f (heard_entry report moment) ≡ Some why)
Plans f report moment (Some p) = IsPlan f report moment p

-- ---- commits

-- how many of these are true
abbrev pub trues : List Bool → ℕ
trues [] = 0
trues (true ∷ bs) = 1 + trues bs
trues (false ∷ bs) = trues bs

-- how many commits come before the entry of that number, where that is one
abbrev pub Counts : List Bool → ℕ → Option ℕ → Type 0
Counts stored number None = slice_get stored number ≡ Some true → ⊥
Counts stored number (Some due) = (slice_get stored number ≡ Some true) × (due ≡ trues (take number stored))

abbrev pub ends_if : ℕ → List DoneItem → List DoneItem
ends_if zero ends = []
ends_if (suc number) ends = ends

-- some entries come before the one of that number
abbrev pub has_entries : ℕ → Bool
has_entries zero = false
has_entries (suc number) = true

-- ---- replies

-- the text is the reply's, which tells nothing of memory that ran out
abbrev pub HasText : Reply → List ℕ → Type 0
HasText reply text = (text ≡ reply_text reply) × (tells_memory reply ≡ false)
