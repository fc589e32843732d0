use Rattle.std.proofs.Common.{◌≡◌, ap, subst}
use Rattle.std.specs.Prelude.{MatchResult}
use Rattle.booking_rule.specs.declared.view.View.{View}
use Rattle.booking_table.specs.Calls.{IsBurstFull, IsBurstTaken}
use Rattle.booking_table.specs.Holds.{burst_hold}
use Rattle.booking_table.specs.Seats.{view}
use Rattle.booking_recorder.specs.Passing.{Passing}
use Rattle.booking_recorder.proofs.pass.Pass.take_burst.Goals as goal

pub returns-clause-answer : goal.returns-clause-answer
returns-clause-answer g c =
    let sub = c.args.sub in
    let cores = c.args.cores in
    let w = view c.take_burst.new.seat in
    subst (λ (v : View). MatchResult c.take_burst.result (λ b. (b ≡ burst_hold sub cores) × IsBurstTaken v sub cores w) (λ full. IsBurstFull v sub cores full w))
    (ap (λ (p : Passing). p.view) c.self.view_is) c.take_burst.ensures.answer
