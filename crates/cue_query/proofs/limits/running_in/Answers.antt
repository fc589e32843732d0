use Rattle.std.proofs.Common.{◌∙◌, ◌<◌, ap, length, subst, sym}
use Rattle.farm_types.specs.Farm.{Farm}
use Rattle.farm_types.specs.Sums.{running_in}
use Rattle.cue_query.proofs.limits.running_in.Goals as goal

pub returns : goal.returns
returns c =
    let farm = c.books.ensures.farm in
    c.running.ensures (subst (λ (f : Farm). c.args.number < length f.limits) (sym farm) c.requires) ∙ ap (λ (f : Farm). running_in f c.args.number) farm
