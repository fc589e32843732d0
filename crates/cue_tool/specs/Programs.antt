-- The whole work of the program: where it connects to, the file that it reads, and its call.
use Rattle.std.specs.Prelude.{ℕ, ◌≡◌, List, [], ◌∷◌, codes, bytes_eq, Option, None, Some, Result, Ok, Err, ◌⊎◌, if◌then◌else◌}
use Rattle.command_line.specs.declared.status.Status.{Status}
use Rattle.command_line.specs.declared.status.Status.TheVariants as exit
use Rattle.fault_counts.specs.Counts.{HasRisen}
use Rattle.cue_words.specs.declared.asked.ToolWords.{ToolWords}
use Rattle.cue_words.specs.declared.asked.ToolWords.TheVariants.{Ask, Help}
use Rattle.cue_words.specs.declared.asked.WordsFault.{WordsFault}
use Rattle.cue_words.specs.Commands.{words_of}
use Rattle.cue_words.specs.Parts.{WordsError}
use Rattle.cue_words.specs.Results.{IsWords}
use Rattle.dialer.specs.declared.dial.DialFault.{DialFault}
use Rattle.dialer.specs.declared.dial.DialFault.TheVariants as dial_faults
use Rattle.dialer.specs.Dials.{Connection, Dial, Target, dial_told, target_of}
use Rattle.cue_tool.specs.declared.program.Wanted.{Wanted}
use Rattle.cue_tool.specs.declared.program.Wanted.TheVariants as wanted
use Rattle.cue_tool.specs.declared.program.SpecFault.{SpecFault}
use Rattle.cue_tool.specs.declared.program.SpecFault.TheVariants as spec_faults
use Rattle.cue_tool.specs.Calls.{Call, GoesApart, IsApart, IsCall, Streams, WriteFailed, streams}

-- a file that was asked for, and its text, or why there is none
pub record Opened : Type 0 where
  pub file : List ℕ
  pub text : Result (List ℕ) SpecFault

-- the file of the job spec that the words name
abbrev pub file_of : List (List ℕ) → Option (List ℕ)
file_of (command ∷ file ∷ []) = if bytes_eq command (codes "submit") then Some file else None
file_of words = None

-- what one run of the program did: the connections that it asked for, the files that it read, and its call
pub record Run : Type 0 where
  pub dialled : List Dial
  pub opened : List Opened
  pub call : Call

-- the output at one moment: what was printed, where that is told, and its count of faults
pub record Output : Type 0 where
  pub printed : Option (List ℕ)
  pub faults : ℕ

abbrev pub output : Option (List ℕ) → ℕ → Output
output printed faults = record { printed = printed; faults = faults }

-- what a run comes to: its status, the connection that it gives back, if it had one, and the output before and after
pub record Outcome : Type 0 where
  pub status : Status
  pub back : Option Connection
  pub before : Output
  pub after : Output

abbrev pub outcome : Status → Option Connection → Output → Output → Outcome
outcome status back before after = record { status = status; back = back; before = before; after = after }

-- the streams of a call over a connection
abbrev pub streams_over : Connection → Output → Streams
streams_over connection out = streams connection.left connection.read_faults connection.written connection.write_faults out.printed out.faults

-- the program ended with this status before it had a connection: nothing was taken, sent or printed
pub record EndsWith (status : Status) (came : Outcome) (call : Call) : Type 0 where
  pub status_is : came.status ≡ status
  pub no_connection : came.back ≡ None
  pub apart : IsApart call
  pub none_printed : call.printed ≡ []

-- the call over a connection that began as told and is given back as it is then, and its causes
pub record HasCalled (began ended : Connection) (words : List (List ℕ)) (spec : Option (List ℕ)) (came : Outcome) (call : Call) : Type 0 where
  pub is_call : IsCall words spec came.status (streams_over began came.before) (streams_over ended came.after) call
  pub read : came.status ≡ exit.ReadFailed → HasRisen began.read_faults ended.read_faults
  pub write : came.status ≡ exit.WriteFailed → WriteFailed (streams_over began came.before) (streams_over ended came.after)

-- it is given back
abbrev pub HasCalledOver : Connection → Option Connection → List (List ℕ) → Option (List ℕ) → Outcome → Call → Type 0
HasCalledOver began None words spec came call = ⊥
HasCalledOver began (Some ended) words spec came call = HasCalled began ended words spec came call

-- what came of a connection
abbrev pub Connects : Result Connection DialFault → List (List ℕ) → Option (List ℕ) → Outcome → Call → Type 0
Connects (Ok began) words spec came call = HasCalledOver began came.back words spec came call
Connects (Err dial_faults.Failed) words spec came call = EndsWith exit.NoConnection came call
Connects (Err dial_faults.NoMemory) words spec came call = EndsWith exit.NoMemory came call

-- it connects once, to that place
pub record HasDialled (target : Target) (spec : Option (List ℕ)) (came : Outcome) (dialled : List Dial) (call : Call) : Type 0 where
  pub joined : Result Connection DialFault
  pub once : dialled ≡ dial_told target.place joined
  pub connects : Connects joined target.words spec came call

-- it connects nowhere
pub record StaysApart (asked : Result ToolWords WordsError) (came : Outcome) (dialled : List Dial) (call : Call) : Type 0 where
  pub none_dialled : dialled ≡ []
  pub no_connection : came.back ≡ None
  pub went : GoesApart asked came.status call
  pub write : came.status ≡ exit.WriteFailed → HasRisen came.before.faults came.after.faults

-- It connects where the words ask for a request, and else not.
abbrev pub Dials : Result ToolWords WordsError → Target → Option (List ℕ) → Outcome → List Dial → Call → Type 0
Dials (Ok (Ask line)) target spec came dialled call = HasDialled target spec came dialled call
Dials (Ok Help) target spec came dialled call = StaysApart (Ok Help) came dialled call
Dials (Err error) target spec came dialled call = StaysApart (Err error) came dialled call

-- the words were read with this spec, or memory ran out for that
abbrev pub Reads : Target → Option (List ℕ) → Outcome → List Dial → Call → Type 0
Reads target spec came dialled call = Dials (words_of target.words spec) target spec came dialled call ⊎ ((dialled ≡ []) × EndsWith exit.NoMemory came call)

-- what came of the spec's file
abbrev pub Opens : Result (List ℕ) SpecFault → Target → Outcome → List Dial → Call → Type 0
Opens (Ok text) target came dialled call = Reads target (Some text) came dialled call
Opens (Err spec_faults.Unreadable) target came dialled call = (dialled ≡ []) × EndsWith exit.UnreadableSpec came call
Opens (Err spec_faults.NoMemory) target came dialled call = (dialled ≡ []) × EndsWith exit.NoMemory came call

-- the file that the words name is read once, and no other
abbrev pub RunsWith : Option (List ℕ) → Target → Outcome → Run → Type 0
RunsWith None target came run = (run.opened ≡ []) × Reads target None came run.dialled run.call
RunsWith (Some file) target came run =
    (text : Result (List ℕ) SpecFault) × (run.opened ≡ record { file = file; text = text } ∷ []) × Opens text target came run.dialled run.call

abbrev pub IsRunAt : Option Target → Outcome → Run → Type 0
IsRunAt None came run = (run.dialled ≡ []) × (run.opened ≡ []) × EndsWith exit.WrongWords came run.call
IsRunAt (Some target) came run = RunsWith (file_of target.words) target came run

-- A run of the program for the words after its name: without an address and a port they are wrong; then the file of `submit` is read; and then the words
-- are, which alone say whether it connects.
abbrev pub IsRun : List (List ℕ) → Outcome → Run → Type 0
IsRun words came run = IsRunAt (target_of words) came run

-- what the words want, or exactly their fault, unless memory ran out
abbrev pub IsWanted : Result Wanted WordsFault → Result ToolWords WordsError → Type 0
IsWanted (Ok wanted.Reply) asked = (line : List ℕ) × (asked ≡ Ok (Ask line))
IsWanted (Ok wanted.HelpText) asked = asked ≡ Ok Help
IsWanted (Err fault) asked = IsWords (Err fault) asked
