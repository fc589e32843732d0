-- What was judged so far and what is left to judge give what all of the layers are judged as. Each judged one keeps its limits.
use Rattle.std.proofs.Common.{◌≡◌, drop, length}
use Rattle.std.specs.List.{All}
use Rattle.farm_lines.specs.Spec.{layers_of}
use Rattle.farm_types.specs.SpecLimits.{LayerKeepsLimits}
use Rattle.cue_json.specs.Items.{prepend}
use Rattle.job_spec.proofs.layer_amounts.judge_layers.Given as goal

abbrev pub invariant-loop-form : goal.invariant-loop-form
invariant-loop-form l =
    record {
      read : prepend l.judged (layers_of (drop l.form-index l.forms)) ≡ layers_of l.forms;
      limits : All LayerKeepsLimits l.judged;
      count : length l.judged ≡ l.form-index;
    }
