-- A spawner in memory: the attempts that end once they were started, the calls that are to fail, and its calls so far.
use Rattle.std.specs.Prelude.{◌≡◌, ℕ, Bool, false, List, [], ◌∷◌, ◌++◌, Option, None, Some, if◌then◌else◌}
use Rattle.std.specs.List.{list_any}
use Rattle.fault_counts.specs.Plans.{Plan, after_call, is_to_fail, new_plan}
use Rattle.farm_types.specs.declared.attempt.Attempt.{Attempt}
use Rattle.farm_types.specs.declared.attempt.Exit.{Exit}
use Rattle.farm_types.specs.Run.{is_same}
use Rattle.rqd_launcher.specs.declared.call.SpawnAnswer.{SpawnAnswer}
use Rattle.rqd_launcher.specs.declared.call.SpawnAnswer.TheVariants as answer
use Rattle.rqd_launcher.specs.declared.call.SpawnCall.{SpawnCall}
use Rattle.rqd_launcher.specs.declared.call.SpawnTask.{SpawnTask}
use Rattle.rqd_launcher.specs.declared.call.SpawnTask.TheVariants as task
use Rattle.rqd_launcher.specs.Calls.{polled}

pub record Spawned : Type 0 where
  pub exits : List (Attempt × Exit)
  pub plan : Plan
  pub calls : List SpawnCall

-- no call so far
abbrev pub new_spawner : List (Attempt × Exit) → List ℕ → Spawned
new_spawner exits fails = record { exits = exits; plan = new_plan fails; calls = [] }

-- whether a call of this task and answer started the attempt
abbrev pub is_start_of : Attempt → SpawnTask → SpawnAnswer → Bool
is_start_of a (task.Start other command) answer.Done = is_same a other
is_start_of a task answer = false

abbrev pub was_started : Attempt → List SpawnCall → Bool
was_started a calls = list_any (λ (c : SpawnCall). is_start_of a c.task c.answer) calls

-- how a listed attempt ends, by the first line that names it
abbrev pub listed_exit : Attempt → List (Attempt × Exit) → Option Exit
listed_exit a [] = None
listed_exit a ((other, exit) ∷ more) = if is_same a other then Some exit else listed_exit a more

-- how an attempt ended: one that was started and is listed has ended, every other one never does
abbrev pub exit_of : Spawned → Attempt → Option Exit
exit_of s a = if was_started a s.calls then listed_exit a s.exits else None

abbrev pub done_answer : Spawned → SpawnTask → SpawnAnswer
done_answer s (task.Start a command) = answer.Done
done_answer s (task.Poll a) = polled (exit_of s a)
done_answer s (task.Stop a) = answer.Done

-- the answer to a task
abbrev pub answer_to : Spawned → SpawnTask → SpawnAnswer
answer_to s task = if is_to_fail s.plan then answer.Failed else done_answer s task

-- one more call, which is counted and told
abbrev pub after_task : Spawned → SpawnTask → Spawned
after_task s task = record s { plan = after_call s.plan; calls = s.calls ++ record { task = task; answer = answer_to s task } ∷ [] }

-- What a call answers and leaves. One that found no memory is counted, and not told.
abbrev pub Plays : Spawned → SpawnTask → Option SpawnAnswer → Spawned → Type 0
Plays old task None new = new ≡ record old { plan = after_call old.plan }
Plays old task (Some answer) new = (answer ≡ answer_to old task) × (new ≡ after_task old task)
