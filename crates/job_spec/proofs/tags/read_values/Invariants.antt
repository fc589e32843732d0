-- What was read so far and what is left to read give what all of the list reads as.
use Rattle.std.proofs.Common.{◌≡◌, drop}
use Rattle.cue_json.specs.View.{items_view}
use Rattle.farm_lines.specs.Spec.{tags_in}
use Rattle.cue_json.specs.Items.{prepend}
use Rattle.job_spec.proofs.tags.read_values.Given as goal

abbrev pub invariant-loop-value : goal.invariant-loop-value
invariant-loop-value l = prepend l.found (tags_in l.field (items_view (drop l.value-index l.values))) ≡ tags_in l.field (items_view l.values)
