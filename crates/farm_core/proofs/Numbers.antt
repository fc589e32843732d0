-- A number is left for a depend that comes.
use Rattle.std.proofs.Common.{◌≡◌, ℕ, None}
use Rattle.farm_types.specs.declared.entry.Act.{Act}
use Rattle.farm_types.specs.declared.entry.Act.TheVariants.{AddDepend, DropDepend}
use Rattle.farm_types.specs.Farm.{Farm}
use Rattle.farm_types.specs.Kept.{KeepsRows}
use Rattle.farm_types.specs.Step.{follow_refusal}
use Rattle.depend_law.proofs.Accepted.{accepted}
use Rattle.farm_changes.specs.Change.{AnswersAct}
use Rattle.farm_changes.specs.declared.act_answer.ActAnswer.{ActAnswer}
use Rattle.farm_changes.specs.declared.act_answer.ActAnswer.TheVariants as known
use Rattle.farm_core.specs.Answers.{HasNumber}

pub has_number : (f : Farm) (moment : ℕ) (act : Act) (said : ActAnswer) → AnswersAct f moment act said → KeepsRows f → follow_refusal f act ≡ None → HasNumber f.next_depend said
has_number f moment (AddDepend spec) known.DependAdded is rows none = (accepted f spec rows.jobs.jobs_rise none).room.number
has_number f moment act (known.Whole said) is rows none = tt
has_number f moment (DropDepend depend) known.DependDropped is rows none = tt
has_number f moment other said is rows none = absurd is
