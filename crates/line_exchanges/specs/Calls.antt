-- What a session takes, writes and reads of the clock, and how it ends.
use Rattle.std.specs.Prelude.{◌≡◌, ◌<◌, ℕ, List, length, Option}
use Rattle.cue_io.specs.declared.limits.TheConstants.{BYTE_LIMIT}
use Rattle.cue_io.specs.History.{AreAllLines, AreFirstLines, IsUnfinished}
use Rattle.cue_io.specs.Input.{Takes}
use Rattle.cue_io.specs.Output.{Adds}
use Rattle.cue_io.specs.Readings.{Tells}
use Rattle.line_exchanges.specs.declared.exchanged.Exchanged.{Exchanged}
use Rattle.line_exchanges.specs.declared.exchanged.Exchanged.TheVariants as exchanged

-- the bytes that a call took of its source and wrote to its sink, the clock's readings, and the exchanges that it made
pub record CallOf (Exchange : Type 0) : Type 0 where
  pub taken : List ℕ
  pub written : List ℕ
  pub readings : List ℕ
  pub exchanges : List Exchange

-- what a source has left, a sink was given and a clock has to come, each where it tells it, and the counts of faults, the store's too
pub record Streams : Type 0 where
  pub unread : Option (List ℕ)
  pub read_faults : ℕ
  pub written : Option (List ℕ)
  pub write_faults : ℕ
  pub readings : Option (List ℕ)
  pub store_faults : ℕ

abbrev pub streams : Option (List ℕ) → ℕ → Option (List ℕ) → ℕ → Option (List ℕ) → ℕ → Streams
streams unread read_faults written write_faults readings store_faults =
    record { unread = unread; read_faults = read_faults; written = written; write_faults = write_faults; readings = readings; store_faults = store_faults }

-- the bytes taken are the first that were left, those written came behind the earlier ones, and the readings are those that were to come
pub record HasMoved {Exchange : Type 0} (before after : Streams) (call : CallOf Exchange) : Type 0 where
  pub taken : Takes before.unread after.unread call.taken
  pub written : Adds before.written after.written call.written
  pub readings : Tells before.readings after.readings call.readings

-- The lines that were answered, of the bytes taken, by how the session ended: all; or each whole one, and what was taken after it has no newline; or the
-- first ones, which are whole or, at the end of the source, all there was. It ends as Spent exactly where the bytes that one session takes are spent and
-- each whole line is answered.
abbrev pub HasLines : Exchanged → List ℕ → List (List ℕ) → Option (List ℕ) → Type 0
HasLines exchanged.Went taken lines unread = ⊥
HasLines exchanged.End taken lines unread = AreAllLines taken lines unread × (length taken < BYTE_LIMIT)
HasLines exchanged.Read taken lines unread = IsUnfinished taken lines × (length taken < BYTE_LIMIT)
HasLines exchanged.Spent taken lines unread = IsUnfinished taken lines × (length taken ≡ BYTE_LIMIT)
HasLines exchanged.Write taken lines unread = AreFirstLines taken lines unread
