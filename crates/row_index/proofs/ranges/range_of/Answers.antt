use Rattle.std.proofs.Common.{◌<◌, length, subst, List, ℕ, sym, ◌∙◌}
use Rattle.frame_range.specs.ParseResults.{Fails}
use Rattle.frame_range.specs.Sets.{set_of}
use Rattle.farm_types.specs.declared.limits.TheConstants.{MOST_RANGE}
use Rattle.row_index.proofs.RangeTexts.{range_fails, range_long}
use Rattle.row_index.proofs.ranges.range_of.Goals as goal

pub returns-then-range : goal.returns-then-range
returns-then-range c = range_long c.args.text.now (subst (λ (t : List ℕ). MOST_RANGE < length t) c.as_str-range.ensures c.if-range.true)

pub returns-else-is_no_memory : goal.returns-else-is_no_memory
returns-else-is_no_memory c =
    range_fails c.args.text.now c.in-Err.fault (subst (λ (t : List ℕ). Fails c.in-Err.fault (set_of t)) c.as_str-range.ensures c.in-Err.ensures) (sym c.is_no_memory.ensures ∙ c.if-is_no_memory.false)
