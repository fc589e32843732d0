use Rattle.std.proofs.Common.{◌∙◌, sym, arith}
use Rattle.stored_farm.proofs.Walks.{waits_here, waits_later}
use Rattle.stored_farm.proofs.self_waits.waits_for_itself.Goals as goal

pub returns-then-branch : goal.returns-then-branch
returns-then-branch c =
    waits_here c.args.groups.now c.loop-group.group-index c.group-item.result (omega arith) c.group-item.is c.loop-group.invariant (sym c.in_ok-has_own_waiter.ensures ∙ c.if-branch.true)

pub loop-group-preserved : goal.loop-group-preserved
loop-group-preserved c =
    waits_later c.args.groups.now c.loop-group.group-index c.group-item.result (omega arith) c.group-item.is c.loop-group.invariant (sym c.in_ok-has_own_waiter.ensures ∙ c.if-branch.false)
