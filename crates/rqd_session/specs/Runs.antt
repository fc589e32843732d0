-- A whole run of the daemon: what it took, sent and had done, its rounds, and its status.
use Rattle.std.specs.Prelude.{ℕ, ◌≡◌, ◌<◌, ◌≤◌, ◌⊎◌, List, [], ◌++◌, length, Option, None, Some}
use Rattle.command_line.specs.declared.status.Status.{Status}
use Rattle.command_line.specs.declared.status.Status.TheVariants as exit
use Rattle.fault_counts.specs.Counts.{HasRisen}
use Rattle.cue_io.specs.Growth.{Grows}
use Rattle.cue_io.specs.History.{AreAllLines, AreFirstLines, IsUnfinished}
use Rattle.cue_io.specs.Input.{IsAtEnd, Takes}
use Rattle.cue_io.specs.Lines.{lines_of}
use Rattle.cue_io.specs.Output.{Adds}
use Rattle.cue_io.specs.declared.limits.TheConstants.{BYTE_LIMIT}
use Rattle.rqd_core.specs.Life.{Life, new_life}
use Rattle.rqd_launcher.specs.declared.call.SpawnCall.{SpawnCall}
use Rattle.rqd_launcher.specs.Carries.{HaveCauses}
use Rattle.rqd_session.specs.Rounds.{Round, Part, Sending, Waiting, AreRounds, IsPart, after_rounds, calls_by, calls_in, lines_sent, replies_by, replies_in, sent_by}
use Rattle.rqd_session.specs.Words.{Asked, asked_of}

-- the source, the sink and the spawner at one moment: what the source has left, what was written, the spawner's calls, each where it is told, and their
-- counts of faults
pub record Surroundings : Type 0 where
  pub left : Option (List ℕ)
  pub read_faults : ℕ
  pub written : Option (List ℕ)
  pub write_faults : ℕ
  pub calls : Option (List SpawnCall)
  pub spawn_faults : ℕ

abbrev pub surroundings : Option (List ℕ) → ℕ → Option (List ℕ) → ℕ → Option (List SpawnCall) → ℕ → Surroundings
surroundings left read_faults written write_faults calls spawn_faults =
    record { left = left; read_faults = read_faults; written = written; write_faults = write_faults; calls = calls; spawn_faults = spawn_faults }

-- what one call took of the source and sent, what the spawner answered, the whole rounds, and the one that was cut off after them, if any
pub record Call : Type 0 where
  pub taken : List ℕ
  pub sent : List ℕ
  pub told : List SpawnCall
  pub rounds : List Round
  pub part : Option Part

-- the bytes taken are the first that were left, those sent came behind the earlier ones, and the spawner's calls came behind its earlier ones; its faults rose for
-- each that failed
pub record HasMoved (before after : Surroundings) (call : Call) : Type 0 where
  pub takes : Takes before.left after.left call.taken
  pub sends : Adds before.written after.written call.sent
  pub tells : Grows before.calls after.calls call.told
  pub causes : HaveCauses call.told before.spawn_faults after.spawn_faults

-- No reply line came: the read failed, the bytes that one call takes are spent, or the input ended.
abbrev pub IsUnanswered : Status → List ℕ → List (List ℕ) → Option (List ℕ) → Type 0
IsUnanswered exit.ReadFailed taken lines left = IsUnfinished taken lines × (length taken < BYTE_LIMIT)
IsUnanswered exit.Spent taken lines left = IsUnfinished taken lines × (length taken ≡ BYTE_LIMIT)
IsUnanswered exit.InputEnded taken lines left = AreAllLines taken lines left
IsUnanswered status taken lines left = ⊥

-- the line couldn't be sent whole, or memory ran out before any of it was
abbrev pub IsUnsent : Status → List ℕ → Type 0
IsUnsent exit.WriteFailed wrote = Unit {0}
IsUnsent exit.NoMemory wrote = wrote ≡ []
IsUnsent status wrote = ⊥

-- why a round was cut off, and which lines were taken by then
abbrev pub Cuts : Part → Status → List ℕ → List (List ℕ) → Option (List ℕ) → Type 0
Cuts (Waiting polls) status taken lines left = IsUnanswered status taken lines left
Cuts (Sending polls wrote) status taken lines left = IsUnsent status wrote × AreFirstLines taken lines left
Cuts part status taken lines left = (status ≡ exit.NoMemory) × AreFirstLines taken lines left

-- all rounds of a life were made: as many lines were sent, and as many reply lines taken
pub record HasEnded (first : Life) (rounds : ℕ) (status : Status) (call : Call) (left : Option (List ℕ)) : Type 0 where
  pub status_is : status ≡ exit.Done
  pub all : length call.rounds ≡ rounds
  pub sent : call.sent ≡ lines_sent first call.rounds
  pub told : call.told ≡ calls_in call.rounds
  pub replies : AreFirstLines call.taken (replies_in call.rounds) left

-- the round after those was cut off there
pub record IsCutOff (first : Life) (rounds : ℕ) (part : Part) (status : Status) (call : Call) (left : Option (List ℕ)) : Type 0 where
  pub fewer : length call.rounds < rounds
  pub is_part : IsPart (after_rounds first call.rounds) part
  pub sent : call.sent ≡ lines_sent first call.rounds ++ sent_by (after_rounds first call.rounds) part
  pub told : call.told ≡ calls_in call.rounds ++ calls_by part
  pub cuts : Cuts part status call.taken (replies_in call.rounds ++ replies_by part) left

abbrev pub StopsAt : Option Part → Life → ℕ → Status → Call → Option (List ℕ) → Type 0
StopsAt None first rounds status call left = HasEnded first rounds status call left
StopsAt (Some part) first rounds status call left = IsCutOff first rounds part status call left

-- so many rounds of a life, each after the one before, or those until one was cut off
pub record HasRun (first : Life) (rounds : ℕ) (status : Status) (call : Call) (left : Option (List ℕ)) : Type 0 where
  pub are_rounds : AreRounds first call.rounds
  pub stops : StopsAt call.part first rounds status call left

pub record AreRun (first : Life) (rounds : ℕ) (status : Status) (before after : Surroundings) (call : Call) : Type 0 where
  pub moved : HasMoved before after call
  pub ran : HasRun first rounds status call after.left

-- nothing was taken, sent or done
pub record IsIdle (call : Call) : Type 0 where
  pub none_taken : call.taken ≡ []
  pub none_sent : call.sent ≡ []
  pub none_told : call.told ≡ []
  pub no_rounds : call.rounds ≡ []
  pub no_part : call.part ≡ None

-- what comes of the words
abbrev pub Goes : Option Asked → Status → Call → Option (List ℕ) → Type 0
Goes None status call left = (status ≡ exit.WrongWords) × IsIdle call
Goes (Some asked) status call left = HasRun (new_life asked.config) asked.rounds status call left

-- The input doesn't end before a last reply: where nothing is left, the bytes taken have a line for each round.
abbrev pub HasReplies : Option Asked → Option (List ℕ) → List ℕ → Type 0
HasReplies None left taken = ⊥
HasReplies (Some asked) left taken = IsAtEnd left → asked.rounds ≤ length (lines_of taken)

-- A call for these words, with that status: rounds of one life, each after the one before. A failed read or write is told only where a count of faults rose. Where
-- the words are valid, the input doesn't end first, and fewer bytes came than one call takes, nothing but such a fault and want of memory ends the rounds early.
pub record IsCall (words : List (List ℕ)) (status : Status) (before after : Surroundings) (call : Call) : Type 0 where
  pub moved : HasMoved before after call
  pub went : Goes (asked_of words) status call after.left
  pub read : status ≡ exit.ReadFailed → HasRisen before.read_faults after.read_faults
  pub write : status ≡ exit.WriteFailed → HasRisen before.write_faults after.write_faults
  pub complete : HasReplies (asked_of words) after.left call.taken → (HasRisen before.read_faults after.read_faults → ⊥)
      → (HasRisen before.write_faults after.write_faults → ⊥) → length call.taken < BYTE_LIMIT → (status ≡ exit.Done) ⊎ (status ≡ exit.NoMemory)
