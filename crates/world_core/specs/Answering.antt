-- What an answer leaves of the world.
use Rattle.std.specs.Prelude.{ℕ, ◌≡◌, ◌++◌, Bool, true, false, List, [], Option, None, Some, ⊤, Result, Ok, Err, option_to_list}
use Rattle.farm_types.specs.declared.entry.Entry.{Entry}
use Rattle.world_answers.specs.declared.trial.Further.{Further}
use Rattle.world_answers.specs.declared.trial.Trial.{Trial}
use Rattle.world_core.specs.declared.answering.Counts.{Counts}
use Rattle.world_core.specs.declared.answering.Turn.{Turn}
use Rattle.world_law.specs.declared.counted.Counted.{Counted}
use Rattle.world_law.specs.declared.fault.WorldFault.{WorldFault}
use Rattle.world_law.specs.declared.fault.WorldFault.TheVariants as fault
use Rattle.world_law.specs.declared.lines.Told.{Told}
use Rattle.world_law.specs.Counting.{counts_from}
use Rattle.world_law.specs.World.{History, World}

-- what the refused commit would have made
abbrev pub history_of : List Counted → ℕ → Option ℕ → Further → History
history_of counted line host further = record { farm = further.farm; counted = counted ++ counts_from line host further.ends }

abbrev pub history_if : List Counted → ℕ → Option ℕ → Option Further → Option History
history_if counted line host None = None
history_if counted line host (Some further) = Some (history_of counted line host further)

abbrev pub reply_if : Option ℕ → List ℕ → Option Told
reply_if None line = None
reply_if (Some host) line = Some (record { host = host; line = line })

-- a row that changes empties the further histories
abbrev pub left_if : Bool → List History → List History
left_if true olds = []
left_if false olds = olds

-- the world once the line is answered so
abbrev pub answered_world : World → ℕ → Option ℕ → Trial → World
answered_world w line host t =
    record w {
      now = record { farm = t.farm; counted = w.now.counted ++ counts_from line host t.ends };
      further = left_if t.stored w.further ++ option_to_list (history_if w.now.counted line host t.further);
      entries = w.entries ++ t.entries;
      told = w.told ++ option_to_list (reply_if host t.reply);
    }

-- the line was answered so, or memory ran out
abbrev pub Installs : World → ℕ → Option ℕ → Trial → Result ⊤ WorldFault → World → Type 0
Installs w line host t (Ok done) new = new ≡ answered_world w line host t
Installs w line host t (Err fault.NoMemory) new = new ≡ w
Installs w line host t (Err why) new = ⊥

-- what the answer changes
pub record IsTurn (h : History) (line : ℕ) (host : Option ℕ) (t : Trial) (x : Turn) : Type 0 where
  pub now : x.now ≡ record { farm = t.farm; counted = h.counted ++ counts_from line host t.ends }
  pub made : x.made ≡ history_if h.counted line host t.further
  pub stored : x.stored ≡ t.stored
  pub entries : x.entries ≡ t.entries
  pub told : x.told ≡ reply_if host t.reply

-- what is counted then, and where the refused commit is there
abbrev pub IsCountedIf : List Counted → ℕ → Option ℕ → Option Further → List Counted → Type 0
IsCountedIf before line host None made = made ≡ []
IsCountedIf before line host (Some further) made = made ≡ before ++ counts_from line host further.ends

pub record IsCounted (before : List Counted) (line : ℕ) (host : Option ℕ) (t : Trial) (counts : Counts) : Type 0 where
  pub now : counts.now ≡ before ++ counts_from line host t.ends
  pub made : IsCountedIf before line host t.further counts.made

-- it is put in, or memory ran out
abbrev pub Puts : History → List History → List Entry → List Told → Turn → Result ⊤ WorldFault → History → List History → List Entry → List Told → Type 0
Puts now further entries told x (Ok done) now_new further_new entries_new told_new =
    (now_new ≡ x.now) × (further_new ≡ left_if x.stored further ++ option_to_list x.made) × (entries_new ≡ entries ++ x.entries)
    × (told_new ≡ told ++ option_to_list x.told)
Puts now further entries told x (Err fault.NoMemory) now_new further_new entries_new told_new =
    (now_new ≡ now) × (further_new ≡ further) × (entries_new ≡ entries) × (told_new ≡ told)
Puts now further entries told x (Err why) now_new further_new entries_new told_new = ⊥

-- the world with it
abbrev pub turned : World → Turn → World
turned w x =
    record w {
      now = x.now;
      further = left_if x.stored w.further ++ option_to_list x.made;
      entries = w.entries ++ x.entries;
      told = w.told ++ option_to_list x.told;
    }

unfoldable pub Turns : World → Turn → Result ⊤ WorldFault → World → Type 0
Turns w x (Ok done) new = new ≡ turned w x
Turns w x (Err fault.NoMemory) new = new ≡ w
Turns w x (Err why) new = ⊥
