-- What was read so far and what is left to read give what all of the list reads as.
use Rattle.std.proofs.Common.{◌≡◌, drop}
use Rattle.cue_json.specs.View.{items_view}
use Rattle.row_codec.specs.RowReading.{texts_in}
use Rattle.row_codec.proofs.Prepended.{prepend}
use Rattle.row_codec.proofs.read_fields.read_items.Given as goal

abbrev pub invariant-loop-value : goal.invariant-loop-value
invariant-loop-value l = prepend l.found (texts_in l.field (items_view (drop l.value-index l.values))) ≡ texts_in l.field (items_view l.values)
