-- What is written and what is left to write give the whole member.
use Rattle.std.proofs.Common.{◌≡◌, ◌∷◌, map, drop}
use Rattle.json.specs.Token.{key}
use Rattle.json.specs.Tree.{items_tokens}
use Rattle.serde_json.specs.Data.{array}
use Rattle.serde_json.specs.View.{items_of}
use Rattle.serde_json.specs.Written.{items_outline}
use Rattle.farm_lines.specs.RequestText.{layer_data}
use Rattle.object_writer.specs.Tokens.{added, tokens_of}
use Rattle.client_codec.proofs.requests.submit.write_layers.Given as goal

abbrev pub invariant-loop-layer : goal.invariant-loop-layer
invariant-loop-layer l = added l.out (items_tokens (items_outline (items_of (map layer_data (drop l.layer-index l.layers))))) ≡ added l.fn.out (key l.name ∷ tokens_of (array (items_of (map layer_data l.layers))))
