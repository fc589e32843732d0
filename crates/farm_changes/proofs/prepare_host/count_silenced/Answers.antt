use Rattle.std.proofs.Common.{sym, ◌∙◌}
use Rattle.farm_changes.proofs.CountedHosts.{count_heard_one, count_silent_one}
use Rattle.farm_changes.proofs.prepare_host.count_silenced.Goals as goal

pub returns-then-is_silent : goal.returns-then-is_silent
returns-then-is_silent c = c.count_attempts.ensures ∙ sym (count_silent_one c.args.books.now.farm c.args.moment c.args.host (sym c.is_silent.ensures ∙ c.if-is_silent.true))

pub returns-else-is_silent : goal.returns-else-is_silent
returns-else-is_silent c = sym (count_heard_one c.args.books.now.farm c.args.moment c.args.host (sym c.is_silent.ensures ∙ c.if-is_silent.false))
