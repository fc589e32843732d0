-- The answer to an entry, by what follows of depends.
use Rattle.std.specs.Prelude.{ℕ, ◌≤◌}
use Rattle.farm_types.specs.declared.answer.Answer.{Answer}
use Rattle.farm_types.specs.declared.answer.Answer.TheVariants as answer
use Rattle.farm_types.specs.declared.limits.TheConstants.{LAST_DEPEND}
use Rattle.farm_changes.specs.declared.act_answer.ActAnswer.{ActAnswer}
use Rattle.farm_changes.specs.declared.act_answer.ActAnswer.TheVariants as known

-- to a depend that comes its number and how many frames wait by it unmet, to one that goes how many frames open, and else what the act was answered
abbrev pub answer_by : ℕ → ℕ → ActAnswer → Answer
answer_by next count (known.Whole said) = said
answer_by next count known.DependAdded = answer.DependAdded next count
answer_by next count known.DependDropped = answer.DependDropped count

-- a number is left for a depend that comes
abbrev pub HasNumber : ℕ → ActAnswer → Type 0
HasNumber next known.DependAdded = next ≤ LAST_DEPEND
HasNumber next other = Unit {0}
