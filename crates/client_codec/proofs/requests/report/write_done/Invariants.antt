-- What is written and what is left to write give the whole member.
use Rattle.std.proofs.Common.{◌≡◌, ◌∷◌, map, drop}
use Rattle.json.specs.Token.{key}
use Rattle.json.specs.Tree.{items_tokens}
use Rattle.serde_json.specs.Data.{array}
use Rattle.serde_json.specs.View.{items_of}
use Rattle.serde_json.specs.Written.{items_outline}
use Rattle.farm_lines.specs.RequestText.{done_item_data}
use Rattle.object_writer.specs.Tokens.{added, tokens_of}
use Rattle.client_codec.proofs.requests.report.write_done.Given as goal

abbrev pub invariant-loop-item : goal.invariant-loop-item
invariant-loop-item l = added l.out (items_tokens (items_outline (items_of (map done_item_data (drop l.item-index l.items))))) ≡ added l.fn.out (key l.name ∷ tokens_of (array (items_of (map done_item_data l.items))))
