-- A call of the tool: what it took, sent and printed, and its status.
use Rattle.std.specs.Prelude.{ℕ, ◌≡◌, ◌<◌, ◌≤◌, List, [], ◌∷◌, ◌++◌, length, false, Option, None, Some, Result, Ok, Err, ◌⊎◌}
use Rattle.command_line.specs.declared.status.Status.{Status}
use Rattle.command_line.specs.declared.status.Status.TheVariants as exit
use Rattle.fault_counts.specs.Counts.{HasRisen}
use Rattle.cue_io.specs.Input.{Takes, IsAtEnd}
use Rattle.cue_io.specs.Lines.{has_newline}
use Rattle.cue_io.specs.Output.{Adds}
use Rattle.cue_io.specs.declared.limits.TheConstants.{BYTE_LIMIT}
use Rattle.farm_lines.specs.ReplyLines.{reply_of}
use Rattle.farm_lines.specs.declared.limits.TheConstants.{REPLY_LIMIT}
use Rattle.cue_words.specs.declared.asked.ToolWords.{ToolWords}
use Rattle.cue_words.specs.declared.asked.ToolWords.TheVariants.{Ask, Help}
use Rattle.cue_words.specs.Commands.{words_of}
use Rattle.cue_words.specs.Help.{help_lines}
use Rattle.cue_words.specs.Parts.{WordsError}
use Rattle.cue_tool.specs.Answers.{read_shown}
use Rattle.cue_tool.specs.declared.shown.Shown.{Shown}

-- the source, the sink and the output at one moment: what the source has left, what was written to the other two, and their counts of faults
pub record Streams : Type 0 where
  pub left : Option (List ℕ)
  pub read_faults : ℕ
  pub written : Option (List ℕ)
  pub write_faults : ℕ
  pub printed : Option (List ℕ)
  pub print_faults : ℕ

abbrev pub streams : Option (List ℕ) → ℕ → Option (List ℕ) → ℕ → Option (List ℕ) → ℕ → Streams
streams left read_faults written write_faults printed print_faults =
    record { left = left; read_faults = read_faults; written = written; write_faults = write_faults; printed = printed; print_faults = print_faults }

-- what one call took of the source, sent, and printed
pub record Call : Type 0 where
  pub taken : List ℕ
  pub sent : List ℕ
  pub printed : List ℕ

pub record HasMoved (before after : Streams) (call : Call) : Type 0 where
  pub takes : Takes before.left after.left call.taken
  pub sends : Adds before.written after.written call.sent
  pub prints : Adds before.printed after.printed call.printed

-- nothing was taken or sent
abbrev pub IsApart : Call → Type 0
IsApart call = (call.taken ≡ []) × (call.sent ≡ [])

-- less than all of the text was written, from its front
abbrev pub IsCut : List ℕ → List ℕ → Type 0
IsCut text wrote = (unwritten : List ℕ) × (0 < length unwritten) × (wrote ++ unwritten ≡ text)

-- all of the text was printed with its status, or a part of it since a write failed
abbrev pub Prints : Status → List ℕ → Shown → Type 0
Prints status printed shown = ((status ≡ shown.status) × (printed ≡ shown.text)) ⊎ ((status ≡ exit.WriteFailed) × IsCut shown.text printed)

-- The line is the first of the bytes taken: a newline ends it, or the end of the input does.
pub record EndsLine (taken line rest : List ℕ) : Type 0 where
  pub cut : taken ≡ line ++ 10 ∷ rest
  pub in_line : has_newline line ≡ false

pub record EndsInput (taken line : List ℕ) (left : Option (List ℕ)) : Type 0 where
  pub all : taken ≡ line
  pub in_line : has_newline line ≡ false
  pub some : 0 < length line
  pub at_end : IsAtEnd left

abbrev pub IsFirst : List ℕ → List ℕ → Option (List ℕ) → Type 0
IsFirst taken line left = ((rest : List ℕ) × EndsLine taken line rest) ⊎ EndsInput taken line left

-- what comes of the first line: what is printed of it; or no reply, where it doesn't count as one
abbrev pub Answers : Option Shown → Status → List ℕ → Type 0
Answers None status printed = (status ≡ exit.NoReply) × (printed ≡ [])
Answers (Some shown) status printed = Prints status printed shown

pub record IsAnswered (words : List (List ℕ)) (status : Status) (taken printed : List ℕ) (left : Option (List ℕ)) : Type 0 where
  pub line : List ℕ
  pub first : IsFirst taken line left
  pub within : length line ≤ REPLY_LIMIT
  pub answers : Answers (read_shown words line (reply_of line)) status printed

-- the first line is too long for a reply
pub record IsTooLong (status : Status) (taken printed : List ℕ) (left : Option (List ℕ)) : Type 0 where
  pub line : List ℕ
  pub first : IsFirst taken line left
  pub long : REPLY_LIMIT < length line
  pub status_is : status ≡ exit.NoReply
  pub none_printed : printed ≡ []

-- No line came: the read failed, the bytes that one call takes are spent, or the input ended.
pub record IsUnanswered (status : Status) (taken printed : List ℕ) (left : Option (List ℕ)) : Type 0 where
  pub no_line : has_newline taken ≡ false
  pub none_printed : printed ≡ []
  pub why : ((status ≡ exit.ReadFailed) × (length taken < BYTE_LIMIT))
      ⊎ (((status ≡ exit.Spent) × (length taken ≡ BYTE_LIMIT)) ⊎ ((status ≡ exit.InputEnded) × (taken ≡ []) × IsAtEnd left))

-- what came of waiting for a reply
abbrev pub Comes : List (List ℕ) → Status → List ℕ → List ℕ → Option (List ℕ) → Type 0
Comes words status taken printed left =
    IsAnswered words status taken printed left ⊎ (IsTooLong status taken printed left ⊎ IsUnanswered status taken printed left)

-- it is so, or memory ran out and nothing was printed
abbrev pub OrRanOut : Type 0 → Status → List ℕ → Type 0
OrRanOut done status printed = done ⊎ ((status ≡ exit.NoMemory) × (printed ≡ []))

-- the request was sent, and a reply awaited
pub record HasAsked (words : List (List ℕ)) (line : List ℕ) (status : Status) (call : Call) (left : Option (List ℕ)) : Type 0 where
  pub sent : call.sent ≡ line ++ 10 ∷ []
  pub came : Comes words status call.taken call.printed left

-- the request could not be sent whole
pub record IsUnsent (line : List ℕ) (status : Status) (call : Call) : Type 0 where
  pub status_is : status ≡ exit.WriteFailed
  pub cut : IsCut (line ++ 10 ∷ []) call.sent
  pub none_taken : call.taken ≡ []
  pub none_printed : call.printed ≡ []

abbrev pub help_shown : Shown
help_shown = record { status = exit.Done; text = help_lines }

-- what comes of words that ask for no request, with nothing sent or taken: the help text is printed; or nothing, of invalid words
abbrev pub GoesApart : Result ToolWords WordsError → Status → Call → Type 0
GoesApart (Ok (Ask line)) status call = ⊥
GoesApart (Ok Help) status call = IsApart call × Prints status call.printed help_shown
GoesApart (Err error) status call = (status ≡ exit.WrongWords) × IsApart call × (call.printed ≡ [])

-- what comes of the words
abbrev pub Goes : Result ToolWords WordsError → List (List ℕ) → Status → Call → Option (List ℕ) → Type 0
Goes (Ok (Ask line)) words status call left = IsUnsent line status call ⊎ HasAsked words line status call left
Goes (Ok Help) words status call left = GoesApart (Ok Help) status call
Goes (Err error) words status call left = GoesApart (Err error) status call

-- what may have been sent: nothing, or the request
abbrev pub MaySend : Result ToolWords WordsError → List ℕ → Type 0
MaySend (Ok (Ask line)) sent = (sent ≡ []) ⊎ (sent ≡ line ++ 10 ∷ [])
MaySend asked sent = sent ≡ []

-- memory ran out: nothing was printed, and nothing was taken before the request was sent
pub record RanOut (asked : Result ToolWords WordsError) (status : Status) (call : Call) : Type 0 where
  pub status_is : status ≡ exit.NoMemory
  pub none_printed : call.printed ≡ []
  pub sent : MaySend asked call.sent
  pub none_taken : call.sent ≡ [] → call.taken ≡ []

-- a write failed: of the request, or of what is printed
abbrev pub WriteFailed : Streams → Streams → Type 0
WriteFailed before after = HasRisen before.write_faults after.write_faults ⊎ HasRisen before.print_faults after.print_faults

-- The status where nothing failed: of a request it says that the reply was an ok one, that it was a refusal, that what
-- came is no reply, or that the input ended before a byte.
abbrev pub EndsWell : Result ToolWords WordsError → Status → Call → Option (List ℕ) → Type 0
EndsWell (Ok (Ask line)) status call left =
    (status ≡ exit.Done) ⊎ ((status ≡ exit.Refused) ⊎ ((status ≡ exit.NoReply) ⊎ ((status ≡ exit.InputEnded) × (call.taken ≡ []) × IsAtEnd left)))
EndsWell (Ok Help) status call left = status ≡ exit.Done
EndsWell (Err error) status call left = status ≡ exit.WrongWords

-- Where no read and no write failed, and fewer bytes came than one call takes, nothing but want of memory ends the call early.
abbrev pub IsComplete : Result ToolWords WordsError → Status → Call → Option (List ℕ) → (ReadFails WriteFails : Type 0) → Type 0
IsComplete asked status call left ReadFails WriteFails =
    (ReadFails → ⊥) → (WriteFails → ⊥) → length call.taken < BYTE_LIMIT → EndsWell asked status call left ⊎ (status ≡ exit.NoMemory)

-- a call for what the words ask
pub record DoesAsked (asked : Result ToolWords WordsError) (words : List (List ℕ)) (status : Status) (before after : Streams) (call : Call) : Type 0 where
  pub moved : HasMoved before after call
  pub went : Goes asked words status call after.left ⊎ RanOut asked status call
  pub complete : IsComplete asked status call after.left (HasRisen before.read_faults after.read_faults) (WriteFailed before after)

-- A call for these words and this spec, with that status.
abbrev pub IsCall : List (List ℕ) → Option (List ℕ) → Status → Streams → Streams → Call → Type 0
IsCall words spec status before after call = DoesAsked (words_of words spec) words status before after call
