use Rattle.std.proofs.Common.{SFits, w32, rules}
use Rattle.std.proofs.lemmas.Int.{to_z-of_z}
use Rattle.frame_range.specs.Number.{number_at}
use Rattle.frame_range.proofs.ReadLemmas.{marked_gives}
use Rattle.frame_range.proofs.read.read_marked.Goals as goal

pub returns : goal.returns
returns c =
    let first_fits : SFits w32 c.in_ok-first.first = search rules in
    let last_fits : SFits w32 c.in_ok-last.last = search rules in
    let step_fits : SFits w32 c.in_ok-step.step = search rules in
    marked_gives c.args.mark (number_at c.args.first.now) (number_at c.args.last.now) (number_at c.args.step.now) c.in_ok-first.first c.in_ok-last.last c.in_ok-step.step
    c.marked.result (simp to_z-of_z at c.marked.ensures) c.in_ok-first.ensures c.in_ok-last.ensures c.in_ok-step.ensures
