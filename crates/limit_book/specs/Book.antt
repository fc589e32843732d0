-- The book of limits as contracts see it, and what its calls answer and change.
use Rattle.std.specs.Prelude.{ℕ, List, [], ◌∷◌, ◌++◌, length, nat_lt, slice_get, Option, None, Some, option_map, Result, Ok, Err, if◌then◌else◌}
use Rattle.farm_types.specs.declared.limits.TheConstants.{MOST_LIMITS}
use Rattle.farm_types.specs.declared.rows.LimitRow.{LimitRow}
use Rattle.farm_types.specs.Farm.{changed_at, limit_from}
use Rattle.farm_types.specs.Step.{limit_row, with_most}
use Rattle.farm_types.specs.Sums.{total_at}
use Rattle.limit_book.specs.declared.plan.LimitPlan.{LimitPlan}
use Rattle.limit_book.specs.declared.plan.LimitPlan.TheVariants as plan
use Rattle.limit_book.specs.declared.plan.LimitRefusal.{LimitRefusal}
use Rattle.limit_book.specs.declared.plan.LimitRefusal.TheVariants.{Full}
use Rattle.limit_book.specs.declared.read.LimitState.{LimitState}

-- the limits, each at its number, and how many frames run in each
pub record LimitLists : Type 0 where
  pub limits : List LimitRow
  pub running : List ℕ

abbrev pub no_limits : LimitLists
no_limits = record { limits = []; running = [] }

-- where the limit of that name is set, by the number of the one that is there
abbrev pub planned : List LimitRow → Option ℕ → Result LimitPlan LimitRefusal
planned limits (Some limit) = Ok (plan.Known limit)
planned limits None = if nat_lt (length limits) MOST_LIMITS then Ok (plan.New (length limits)) else Err Full

abbrev pub check_of : List LimitRow → List ℕ → Result LimitPlan LimitRefusal
check_of limits name = planned limits (limit_from 0 name limits)

abbrev pub number_in : LimitPlan → ℕ
number_in (plan.New limit) = limit
number_in (plan.Known limit) = limit

-- the book with the limit as the plan sets it
abbrev pub with_plan : LimitLists → List ℕ → LimitPlan → ℕ → LimitLists
with_plan b name (plan.New limit) most = record { limits = b.limits ++ limit_row name most ∷ []; running = b.running ++ 0 ∷ [] }
with_plan b name (plan.Known limit) most = record b { limits = changed_at b.limits limit (with_most most) }

abbrev pub state_of : LimitLists → ℕ → Option LimitState
state_of b limit = option_map (λ (row : LimitRow). record { most = row.most; running = total_at b.running limit }) (slice_get b.limits limit)
