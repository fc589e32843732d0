-- What a spawner is asked and answers, and the list of its calls, where it tells it.
use Rattle.std.specs.Prelude.{List, [], ◌∷◌, Option, None, Some, Result, Ok, Err}
use Rattle.farm_types.specs.declared.attempt.Exit.{Exit}
use Rattle.rqd_launcher.specs.declared.call.SpawnAnswer.{SpawnAnswer}
use Rattle.rqd_launcher.specs.declared.call.SpawnAnswer.TheVariants as answer
use Rattle.rqd_launcher.specs.declared.call.SpawnCall.{SpawnCall}
use Rattle.rqd_launcher.specs.declared.call.SpawnTask.{SpawnTask}
use Rattle.rqd_launcher.specs.declared.spawner.SpawnFault.{SpawnFault}
use Rattle.rqd_launcher.specs.declared.spawner.SpawnFault.TheVariants as fault

-- the answer of a start or a stop; there is none where memory ran out
abbrev pub act_answer : {T : Type 0} → Result T SpawnFault → Option SpawnAnswer
act_answer (Ok done) = Some answer.Done
act_answer (Err fault.Failed) = Some answer.Failed
act_answer (Err fault.NoMemory) = None

-- what a poll says of an attempt that ended so, or hasn't ended
abbrev pub polled : Option Exit → SpawnAnswer
polled None = answer.Running
polled (Some exit) = answer.Ended exit

-- the answer of a poll; there is none where memory ran out
abbrev pub poll_answer : Result (Option Exit) SpawnFault → Option SpawnAnswer
poll_answer (Ok exit) = Some (polled exit)
poll_answer (Err fault.Failed) = Some answer.Failed
poll_answer (Err fault.NoMemory) = None

-- what is told of a call: the call, where it had an answer
abbrev pub told_as : SpawnTask → Option SpawnAnswer → List SpawnCall
told_as task None = []
told_as task (Some answer) = record { task = task; answer = answer } ∷ []
