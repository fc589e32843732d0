-- What carrying out and polling do: the tasks that a spawner is given, what it answers, and what that makes of RQD's life.
use Rattle.std.specs.Prelude.{ℕ, ◌≡◌, ◌<◌, ◌≤◌, Bool, true, false, List, [], ◌∷◌, ◌++◌, map, length, count_by, Result, Ok, Err}
use Rattle.fault_counts.specs.Counts.{HasRisenAtLeast}
use Rattle.farm_types.specs.declared.attempt.Attempt.{Attempt}
use Rattle.farm_types.specs.declared.attempt.Exit.{Exit}
use Rattle.farm_lines.specs.declared.launch.Launch.{Launch}
use Rattle.rqd_core.specs.declared.orders.Orders.{Orders}
use Rattle.rqd_core.specs.Life.{Life, after_end, attempts_of}
use Rattle.rqd_launcher.specs.declared.call.SpawnAnswer.{SpawnAnswer}
use Rattle.rqd_launcher.specs.declared.call.SpawnAnswer.TheVariants as answer
use Rattle.rqd_launcher.specs.declared.call.SpawnCall.{SpawnCall}
use Rattle.rqd_launcher.specs.declared.call.SpawnTask.{SpawnTask}
use Rattle.rqd_launcher.specs.declared.call.SpawnTask.TheVariants as task

-- ---- tasks

abbrev pub start_of : Launch → SpawnTask
start_of l = task.Start l.attempt l.command

abbrev pub starts_of : List Launch → List SpawnTask
starts_of starts = map start_of starts

abbrev pub stop_of : Attempt → SpawnTask
stop_of a = task.Stop a

abbrev pub stops_of : List Attempt → List SpawnTask
stops_of stops = map stop_of stops

-- the tasks of orders: the starts, then the stops, each in order
abbrev pub tasks_of : Orders → List SpawnTask
tasks_of orders = starts_of orders.starts ++ stops_of orders.stops

abbrev pub poll_of : Attempt → SpawnTask
poll_of a = task.Poll a

-- each running attempt is polled, in order
abbrev pub polls_of : Life → List SpawnTask
polls_of l = map poll_of (attempts_of l.running)

-- the calls are these tasks, in order
abbrev pub AreTold : List SpawnTask → List SpawnCall → Type 0
AreTold tasks told = map (λ (c : SpawnCall). c.task) told ≡ tasks

-- the calls are the first of these tasks, and not all of them
abbrev pub AreCut : List SpawnTask → List SpawnCall → Type 0
AreCut tasks told = (rest : List SpawnTask) × (0 < length rest) × (map (λ (c : SpawnCall). c.task) told ++ rest ≡ tasks)

-- all tasks were done, or memory ran out at the first one that wasn't
abbrev pub AreDone : {T E : Type 0} → List SpawnTask → Result T E → List SpawnCall → Type 0
AreDone tasks (Ok done) told = AreTold tasks told
AreDone tasks (Err fault) told = AreCut tasks told

-- ---- what the answers make of a life

-- how an attempt ended that couldn't be started
abbrev pub failed_start : Exit
failed_start = record { status = 1; signal = 0 }

-- An attempt has ended where its start failed, or where a poll says so. Every other answer leaves it running.
abbrev pub after_answer : Life → SpawnTask → SpawnAnswer → Life
after_answer l (task.Start a command) answer.Failed = after_end l a failed_start
after_answer l (task.Poll a) (answer.Ended exit) = after_end l a exit
after_answer l task answer = l

abbrev pub life_after : Life → List SpawnCall → Life
life_after l [] = l
life_after l (c ∷ cs) = life_after (after_answer l c.task c.answer) cs

-- ---- causes

abbrev pub is_failure : SpawnAnswer → Bool
is_failure answer.Failed = true
is_failure other = false

-- the count of faults rose for each call that failed, or stands where no count can go up
abbrev pub HaveCauses : List SpawnCall → ℕ → ℕ → Type 0
HaveCauses told faults faults_now = HasRisenAtLeast (count_by (λ (c : SpawnCall). is_failure c.answer) told) faults faults_now

-- These calls were made for the tasks, and the life is what their answers make of it.
pub record Carries {T E : Type 0} (tasks : List SpawnTask) (result : Result T E) (told : List SpawnCall) (old new : Life) (faults faults_now : ℕ) : Type 0 where
  pub done : AreDone tasks result told
  pub life_is : new ≡ life_after old told
  pub causes : HaveCauses told faults faults_now
  pub rises : faults ≤ faults_now
