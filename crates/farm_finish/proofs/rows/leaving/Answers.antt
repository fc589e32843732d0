use Rattle.std.proofs.Common.{◌∙◌, sym, arith}
use Rattle.farm_finish.proofs.TurnLemmas.LeavingAt.{leaves_at, none_leaves}
use Rattle.farm_finish.proofs.rows.leaving.Goals as goal

pub returns-then-count-most : goal.returns-then-count-most
returns-then-count-most c = sym (none_leaves c.args.finished.now c.args.jobs.now c.args.count (omega arith))

pub returns : goal.returns
returns c = c.in_order.ensures ∙ sym (leaves_at c.args.finished.now c.args.jobs.now c.args.count (omega arith))
