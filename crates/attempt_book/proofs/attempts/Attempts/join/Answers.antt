use Rattle.std.proofs.Common.{◌≡◌, ◌+◌, ◌-◌, ◌<◌, ◌≤◌, ap, ◌∙◌, arith}
use Rattle.std.specs.List.{slice_get}
use Rattle.farm_types.specs.declared.limits.TheConstants.{SLOT_LIMIT}
use Rattle.attempt_book.specs.Way.{mark_on}
use Rattle.attempt_book.proofs.KeptWays.{mark-next, mark-step}
use Rattle.attempt_book.proofs.Marks.{mark_on-low}
use Rattle.attempt_book.proofs.attempts.Attempts.join.Goals as goal

pub loop-at-smaller : goal.loop-at-smaller
loop-at-smaller c =
    let a = c.self.inside in
    let count = c.self.invariant.known.count_within in
    let before : c.loop-at.at < SLOT_LIMIT = omega arith in
    let here = mark-step a.procs.items a.first.items a.next.items c.self.invariant.ways count c.args.host c.loop-at.from c.loop-at.at (omega arith) before c.loop-at.invariant.at_is in
    let next = mark-next a.procs.items a.first.items a.next.items c.self.invariant.ways count c.args.host c.loop-at.at c.index-at-in-loop-at.result.now here.0 here.1 here.2 c.index-at-in-loop-at.ensures in
    let later : c.loop-at.at + 1 ≤ mark_on a.procs.items c.args.host (c.loop-at.at + 1) = mark_on-low a.procs.items c.args.host count (c.loop-at.at + 1) (omega arith) in
    omega arith

pub loop-at-preserved : goal.loop-at-preserved
loop-at-preserved c =
    let a = c.self.inside in
    let count = c.self.invariant.known.count_within in
    let before : c.loop-at.at < SLOT_LIMIT = omega arith in
    let here = mark-step a.procs.items a.first.items a.next.items c.self.invariant.ways count c.args.host c.loop-at.from c.loop-at.at (omega arith) before c.loop-at.invariant.at_is in
    let place : c.loop-at.at + 1 - 1 ≡ c.loop-at.at = omega arith in
    record {
      within = omega arith;
      behind = λ later. (here.0, ap (slice_get a.procs.items) place ∙ here.1, here.2);
      at_is = mark-next a.procs.items a.first.items a.next.items c.self.invariant.ways count c.args.host c.loop-at.at c.index-at-in-loop-at.result.now here.0 here.1 here.2 c.index-at-in-loop-at.ensures;
    }
