-- What is printed of a reply, and with which status.
use Rattle.std.specs.Prelude.{ℕ, Bool, true, false, List, [], ◌∷◌, ◌++◌, codes, bytes_eq, Option, None, Some, option_map, if◌then◌else◌}
use Rattle.command_line.specs.declared.status.Status.{Status}
use Rattle.command_line.specs.declared.status.Status.TheVariants as exit
use Rattle.farm_lines.specs.declared.reply.Reply.{Reply}
use Rattle.farm_lines.specs.declared.reply.Reply.TheVariants as reply
use Rattle.cue_tool.specs.declared.shown.Shown.{Shown}
use Rattle.cue_tool.specs.Listings.{listing_of}

-- a line as it came, with its newline
abbrev pub as_it_came : Status → List ℕ → Shown
as_it_came status line = record { status = status; text = line ++ 10 ∷ [] }

-- the list that the words ask for, as they name it
abbrev pub list_word : List (List ℕ) → Option (List ℕ)
list_word (command ∷ what ∷ more) = if bytes_eq command (codes "list") then Some what else None
list_word words = None

abbrev pub as_table : List ℕ → Shown
as_table text = record { status = exit.Done; text = text }

-- an ok reply: the reply to `list` as a table, where it is that list; every other one as it came
abbrev pub ok_shown : Option (List ℕ) → List ℕ → Reply → Option Shown
ok_shown None line r = Some (as_it_came exit.Done line)
ok_shown (Some what) line (reply.List list) = option_map as_table (listing_of what list)
ok_shown (Some what) line other = None

abbrev pub is_refusal : Reply → Bool
is_refusal (reply.BadLine field) = true
is_refusal reply.TooLong = true
is_refusal (reply.BadRange layer fault) = true
is_refusal (reply.BadAmount field) = true
is_refusal (reply.Refused why) = true
is_refusal (reply.StillHeld cores memory) = true
is_refusal reply.EntriesFull = true
is_refusal reply.Store = true
is_refusal reply.NoMemory = true
is_refusal other = false

-- what is printed of a reply to these words, a refusal as it came; none where it doesn't count as a reply to them
abbrev pub shown_of : List (List ℕ) → List ℕ → Reply → Option Shown
shown_of words line r = if is_refusal r then Some (as_it_came exit.Refused line) else ok_shown (list_word words) line r

-- the same of the line, which may be no reply
abbrev pub read_shown : List (List ℕ) → List ℕ → Option Reply → Option Shown
read_shown words line None = None
read_shown words line (Some r) = shown_of words line r
