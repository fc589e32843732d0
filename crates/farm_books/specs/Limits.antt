-- How many attempts run in each limit, as it is kept.
use Rattle.std.specs.Prelude.{ℕ, ◌≡◌, ◌<◌, ◌+◌, ◌-◌, ◌++◌, Bool, true, false, List, [], ◌∷◌, length, Option, None, Some, option_and_then}
use Rattle.farm_types.specs.declared.limits.TheConstants.{MOST_RUNNING}
use Rattle.farm_types.specs.declared.rows.LayerRow.{LayerRow}
use Rattle.farm_types.specs.declared.rows.LimitRow.{LimitRow}
use Rattle.farm_types.specs.declared.slot_row.Frame.{Frame}
use Rattle.farm_types.specs.declared.slot_row.SlotRow.{SlotRow}
use Rattle.farm_types.specs.Farm.{changed_at, layer_in}
use Rattle.farm_types.specs.Step.{limit_row, with_most}
use Rattle.farm_types.specs.Sums.{running_among, total_at}
use Rattle.limit_book.specs.Book.{LimitLists}
use Rattle.limit_book.specs.declared.plan.LimitPlan.{LimitPlan}
use Rattle.limit_book.specs.declared.plan.LimitPlan.TheVariants as plan

-- the limit of the layer of the frame
abbrev pub limit_of : List LayerRow → Option Frame → Option ℕ
limit_of layers frame = option_and_then (λ (x : Frame). option_and_then (λ (l : LayerRow). l.limit) (layer_in layers x.job x.layer)) frame

-- of each limit that is there the count is that of the attempts that run in it
abbrev pub CountsRunning : LimitLists → List LayerRow → List SlotRow → Type 0
CountsRunning b layers slots = (limit : ℕ) → limit < length b.limits → total_at b.running limit ≡ running_among layers limit slots

-- where an attempt ran in the limit or none, and runs there or doesn't: one that begins finds a count below the most, and one that ends is counted
abbrev pub CanCount : LimitLists → Option ℕ → Bool → Bool → Type 0
CanCount b None ran runs = Unit {0}
CanCount b (Some limit) false true = limit < length b.limits → total_at b.running limit < MOST_RUNNING
CanCount b (Some limit) true false = limit < length b.limits → 0 < total_at b.running limit
CanCount b (Some limit) false false = Unit {0}
CanCount b (Some limit) true true = Unit {0}

abbrev pub recounted : LimitLists → Option ℕ → Bool → Bool → LimitLists
recounted b None ran runs = b
recounted b (Some limit) false true = record b { running = changed_at b.running limit (λ n. n + 1) }
recounted b (Some limit) true false = record b { running = changed_at b.running limit (λ n. n - 1) }
recounted b (Some limit) false false = b
recounted b (Some limit) true true = b

-- the limits with the one that the plan sets
abbrev pub with_limit : List LimitRow → List ℕ → LimitPlan → ℕ → List LimitRow
with_limit limits name (plan.New limit) most = limits ++ limit_row name most ∷ []
with_limit limits name (plan.Known limit) most = changed_at limits limit (with_most most)
