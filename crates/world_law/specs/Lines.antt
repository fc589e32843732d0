-- How a line that comes to the scheduler is answered.
use Rattle.std.specs.Prelude.{ℕ, zero, suc, ◌≡◌, ◌≢◌, ◌+◌, ◌⊎◌, List, [], ◌∷◌, ◌++◌, take, Option, None, Some, IfSome, IsSomeAnd, slice_get}
use Rattle.farm_types.specs.declared.entry.Entry.{Entry}
use Rattle.farm_types.specs.Farm.{Farm}
use Rattle.farm_types.specs.Run.{run_of}
use Rattle.farm_types.specs.Step.{after}
use Rattle.farm_rows.specs.Rows.{rows_of}
use Rattle.farm_lines.specs.declared.reply.Reply.{Reply}
use Rattle.farm_lines.specs.Reply.{reply_text}
use Rattle.farm_lines.specs.Transcript.{Answered, Mark, Plain, Store, StoreAfter, answer_to}
use Rattle.world_law.specs.declared.lines.Sent.{Sent}
use Rattle.world_law.specs.declared.lines.Told.{Told}
use Rattle.world_law.specs.Counting.{with_entries}
use Rattle.world_law.specs.World.{History, World}

-- what the outside does: nothing, or the store refuses the line's commit of that number, counted from 0
abbrev pub mark_of : Option ℕ → Mark
mark_of None = Plain
mark_of (Some zero) = Store
mark_of (Some (suc k)) = StoreAfter k

-- what is made of the line
abbrev pub answered : World → Sent → ℕ → Option ℕ → Answered
answered w s moment refused = answer_to w.now.farm s.line moment (mark_of refused)

-- the entries that it makes where the store refuses nothing
abbrev pub entries_of : World → Sent → ℕ → List Entry
entries_of w s moment = (answered w s moment None).entries

-- The entry of that number is a commit: it changes a row. No entry but a line's first can change none, so that the line's commits are numbered as its entries.
abbrev pub HasCommit : Farm → List Entry → ℕ → Type 0
HasCommit f es k = IsSomeAnd (slice_get es k) (λ e. rows_of (run_of f (take k es)) ≢ rows_of (after (run_of f (take k es)) e))

-- the store refuses no commit, or one that the line has
abbrev pub MayRefuse : World → Sent → ℕ → Option ℕ → Type 0
MayRefuse w s moment refused = IfSome refused (HasCommit w.now.farm (entries_of w s moment))

-- a commit that isn't refused empties the list of further histories; where no row has changed, it stays
abbrev pub AreLeft : Farm → Farm → List History → List History → Type 0
AreLeft f g olds news = ((rows_of f ≢ rows_of g) × (news ≡ [])) ⊎ ((rows_of f ≡ rows_of g) × (news ≡ olds))

-- the history that the refused commit would have made
abbrev pub refused_history : History → ℕ → Option ℕ → List Entry → Option ℕ → List History
refused_history h line host es None = []
refused_history h line host es (Some k) = with_entries h line host (take (k + 1) es) ∷ []

-- a reply to a host's line is sent to that host
abbrev pub replies_to : Option ℕ → Reply → List Told
replies_to None r = []
replies_to (Some host) r = record { host = host; line = reply_text r } ∷ []

-- the world once the line of that number is answered, with these further histories left
abbrev pub with_answer : World → ℕ → Sent → ℕ → Option ℕ → List History → World
with_answer w line s moment refused left =
    record w {
      now = with_entries w.now line s.host (answered w s moment refused).entries;
      further = left ++ refused_history w.now line s.host (entries_of w s moment) refused;
      entries = w.entries ++ (answered w s moment refused).entries;
      told = w.told ++ replies_to s.host (answered w s moment refused).reply;
    }

-- the line of that number is answered
pub record IsAnswered (w : World) (line : ℕ) (s : Sent) (moment : ℕ) (refused : Option ℕ) (new : World) : Type 0 where
  pub may : MayRefuse w s moment refused
  pub left : List History
  pub are_left : AreLeft w.now.farm (run_of w.now.farm (answered w s moment refused).entries) w.further left
  pub is : new ≡ with_answer w line s moment refused left
