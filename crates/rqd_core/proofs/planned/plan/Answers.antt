use Rattle.std.proofs.Common.{◌≡◌, rules, subst}
use Rattle.rqd_core.specs.Keeping.{IsWithin, taking_for}
use Rattle.rqd_core.specs.Life.{Life}
use Rattle.rqd_core.specs.Replies.{running_among}
use Rattle.rqd_core.proofs.Kept.{all_follow}
use Rattle.rqd_core.proofs.planned.plan.Goals as goal

pub returns : goal.returns
returns c =
    let l = c.args.rqd.now in
    let taken : c.launch_all.new.taking ≡ taking_for l c.args.report = search rules in
    let stopped : c.in_ok-stops.stops ≡ running_among l.running c.args.report.kills = search rules in
    all_follow l c.args.report c.launch_all.new.taking c.in_ok-stops.stops c.with_room.result (subst (λ (k : Life). IsWithin k.running k.config.cores) c.rqd.view_is c.rqd.invariant.within) taken stopped
    c.with_room.ensures
