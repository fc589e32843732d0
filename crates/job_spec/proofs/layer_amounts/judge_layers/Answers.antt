-- One layer more is judged.
use Rattle.std.proofs.Common.{arith, ◌≡◌, [], ◌∷◌, ◌++◌}
use Rattle.std.proofs.lemmas.Grind.{common_steps}
use Rattle.std.proofs.lemmas.List.Elements.{All-push}
use Rattle.farm_types.specs.SpecLimits.{LayerKeepsLimits}
use Rattle.job_spec.proofs.layer_amounts.judge_layers.Goals as goal

pub loop-form-preserved : goal.loop-form-preserved
loop-form-preserved c =
    let pushed : c.push.new.self ≡ c.loop-form.judged ++ c.in_ok-judge_layer.field-0 ∷ [] = c.in_ok-push.ensures.ok in
    record {
      read = grind (arith, common_steps);
      limits = rw pushed (All-push LayerKeepsLimits _ _ c.loop-form.invariant.limits c.in_ok-judge_layer.ensures.limits);
      count = grind (arith, common_steps);
    }
