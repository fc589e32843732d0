use Rattle.std.proofs.Common.{◌≡◌, ap, subst}
use Rattle.std.specs.Prelude.{MatchResult}
use Rattle.booking_rule.specs.declared.view.View.{View}
use Rattle.booking_table.specs.Calls.{IsLimitFull, IsLimitTaken}
use Rattle.booking_table.specs.Holds.{with_place}
use Rattle.booking_table.specs.Seats.{view}
use Rattle.booking_recorder.specs.Passing.{Passing}
use Rattle.booking_recorder.proofs.pass.Pass.take_limit.Goals as goal

pub returns-clause-answer : goal.returns-clause-answer
returns-clause-answer g c =
    let limit = c.args.limit in
    let w = view c.take_limit.new.seat in
    subst (λ (v : View). MatchResult c.take_limit.result (λ b. (b ≡ with_place c.args.burst limit) × IsLimitTaken v limit w) (λ e. (e.0 ≡ c.args.burst) × IsLimitFull v limit e.1 w))
    (ap (λ (p : Passing). p.view) c.self.view_is) c.take_limit.ensures.answer
