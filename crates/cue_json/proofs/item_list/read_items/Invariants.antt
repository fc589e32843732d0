-- What was read so far and what is left to read give what all of the list reads as.
use Rattle.std.proofs.Common.{◌≡◌, drop}
use Rattle.cue_json.specs.View.{items_view}
use Rattle.cue_json.specs.Items.{items_at, prepend}
use Rattle.cue_json.proofs.item_list.read_items.Given as goal

abbrev pub invariant-loop-value : goal.invariant-loop-value
invariant-loop-value g l =
    prepend l.found.items (items_at l.field (g.R.ItemReader.reads l.reader) (items_view (drop l.value-index l.values))) ≡ items_at l.field (g.R.ItemReader.reads l.reader) (items_view l.values)
