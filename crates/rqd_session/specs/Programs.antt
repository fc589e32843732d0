-- The whole work of the program: where it connects to, and its call.
use Rattle.std.specs.Prelude.{ℕ, ◌≡◌, List, [], Option, None, Some, Result, Ok, Err}
use Rattle.command_line.specs.declared.status.Status.{Status}
use Rattle.command_line.specs.declared.status.Status.TheVariants as exit
use Rattle.dialer.specs.declared.dial.DialFault.{DialFault}
use Rattle.dialer.specs.declared.dial.DialFault.TheVariants as dial_faults
use Rattle.dialer.specs.Dials.{Connection, Dial, Target, dial_told, target_of}
use Rattle.rqd_launcher.specs.declared.call.SpawnCall.{SpawnCall}
use Rattle.rqd_session.specs.Runs.{Call, IsCall, IsIdle, Surroundings, surroundings}

-- one run of the program: the connections that it asked for, and its call
pub record Run : Type 0 where
  pub dialled : List Dial
  pub call : Call

-- a spawner at one moment: its calls, where it tells them, and its count of faults
pub record Spawning : Type 0 where
  pub calls : Option (List SpawnCall)
  pub faults : ℕ

abbrev pub spawning : Option (List SpawnCall) → ℕ → Spawning
spawning calls faults = record { calls = calls; faults = faults }

-- a connection and a spawner
abbrev pub over : Connection → Spawning → Surroundings
over c s = surroundings c.left c.read_faults c.written c.write_faults s.calls s.faults

-- it ended with this status before its call, and the spawner is as it was
pub record EndsWith (ended status : Status) (before after : Spawning) (call : Call) : Type 0 where
  pub status_is : status ≡ ended
  pub idle : IsIdle call
  pub same : after ≡ before

-- What came of a connection, by the one that is given back in the end: the call was made over the one that was had, and took it from the one moment to the other;
-- or there was none.
abbrev pub Connects : Result Connection DialFault → List (List ℕ) → Status → Option Connection → Spawning → Spawning → Call → Type 0
Connects (Ok opened) words status (Some closed) before after call = IsCall words status (over opened before) (over closed after) call
Connects (Err dial_faults.Failed) words status None before after call = EndsWith exit.NoConnection status before after call
Connects (Err dial_faults.NoMemory) words status None before after call = EndsWith exit.NoMemory status before after call
Connects came words status back before after call = ⊥

abbrev pub IsRunAt : Option Target → Status → Option Connection → Spawning → Spawning → Run → Type 0
IsRunAt None status back before after run = (run.dialled ≡ []) × (back ≡ None) × EndsWith exit.WrongWords status before after run.call
IsRunAt (Some target) status back before after run =
    (came : Result Connection DialFault) × (run.dialled ≡ dial_told target.place came) × Connects came target.words status back before after run.call

-- A run of the program for the words after its name, by the connection that it gives back and the spawner before and after it: without an address and a port the
-- words are wrong; else it connects once, and only then are its other words read.
abbrev pub IsRun : List (List ℕ) → Status → Option Connection → Spawning → Spawning → Run → Type 0
IsRun words status back before after run = IsRunAt (target_of words) status back before after run
