-- How much a line may start.
use Rattle.std.specs.Prelude.{ℕ, length, Option, None, Some}
use Rattle.farm_lines.specs.declared.reply.Reply.{Reply}
use Rattle.farm_lines.specs.declared.reply.Reply.TheVariants as reply

-- how many launches a reply has
abbrev pub launches_of : Reply → ℕ
launches_of (reply.Report r) = length r.launches
launches_of other = 0

-- and a line, if it is a reply
abbrev pub launches_in : Option Reply → ℕ
launches_in None = 0
launches_in (Some r) = launches_of r
