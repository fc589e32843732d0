-- The lemma.
use Rattle.std.proofs.Common.{Bool, subst}
use Rattle.farm_keeper.specs.Memory.{Commits}
use Rattle.farm_lines.specs.Transcript.{Plain, answer_at, answer_to}
use Rattle.farm_load.specs.recorder.specs.Telling.{Tells}
use Rattle.session.proofs.MemoryLemmas.{just_failed}
use Rattle.session.proofs.laws.store_marks_stand_at_failed_calls.Goals as goal

pub returns : goal.returns
returns c = λ f t before now goes failed.
    just_failed f (answer_to f t.line t.moment Plain).entries (answer_at f t).entries before now
    (subst (λ (b : Bool). Tells Commits f (answer_to f t.line t.moment Plain).entries (answer_at f t).entries b before now) failed goes.told)
