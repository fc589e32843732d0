-- Worked examples of depends: of the demonstration's farm with a job more, that job waits for the demonstration's.
use Rattle.std.specs.Prelude.{ℕ, List, codes, false, None}
use Rattle.serde_json.specs.Data.{Members, boolean, member, no_members, string}
use Rattle.farm_types.specs.declared.depend.DependKind.TheVariants.{JobOnJob}
use Rattle.farm_types.specs.declared.depend.DependSpec.{DependSpec}
use Rattle.farm_types.specs.declared.depend.Place.{Place}
use Rattle.farm_types.specs.declared.entry.Entry.{Entry}
use Rattle.farm_types.specs.EntryAnswers.{answer_of}
use Rattle.farm_types.specs.Farm.{Farm}
use Rattle.farm_types.specs.Step.{after}
use Rattle.farm_lines.specs.Reply.{ok_reply, reply_text}
use Rattle.farm_types.specs.declared.entry.Act.TheVariants as act
use Rattle.farm_lines.specs.Asked.{entry_at}
use Rattle.worked_examples.specs.Demonstration.{farm_with_high}

-- all frames of a job
abbrev pub whole_job : List ℕ → Place
whole_job job = record { job = job; layer = None; frame = None }

-- a job waits for another
abbrev pub job_on_job : List ℕ → List ℕ → DependSpec
job_on_job waiter target = record { kind = JobOnJob; any = false; waiter = whole_job waiter; target = whole_job target }

-- the line {"any":false,"job":"hi","kind":"JOB_ON_JOB","on_job":"demo-job","op":"depend"}, and what it asks
abbrev pub depend_line : Members
depend_line =
    member (codes "any") (boolean false) (member (codes "job") (string (codes "hi")) (member (codes "kind") (string (codes "JOB_ON_JOB"))
    (member (codes "on_job") (string (codes "demo-job")) (member (codes "op") (string (codes "depend")) no_members))))

abbrev pub high_on_demo : DependSpec
high_on_demo = job_on_job (codes "hi") (codes "demo-job")

-- the entries that add and drop a depend
abbrev pub adding : DependSpec → Entry
adding spec = entry_at 0 (act.AddDepend spec)

abbrev pub dropping : ℕ → Entry
dropping depend = entry_at 0 (act.DropDepend depend)

-- the farm in which the job waits, and the one in which it waits no more
abbrev pub farm_waiting : Farm
farm_waiting = after farm_with_high (adding high_on_demo)

abbrev pub farm_freed : Farm
farm_freed = after farm_waiting (dropping 1)

-- the text of the reply to an entry that is taken
abbrev pub text_of : Farm → Entry → List ℕ
text_of f e = reply_text (ok_reply e.act (answer_of f e))
