-- What is written and what is left to write give the whole member.
use Rattle.std.proofs.Common.{◌≡◌, ◌∷◌, map, drop}
use Rattle.json.specs.Token.{key}
use Rattle.json.specs.Tree.{items_tokens}
use Rattle.serde_json.specs.Data.{array}
use Rattle.serde_json.specs.View.{items_of}
use Rattle.serde_json.specs.Written.{items_outline}
use Rattle.farm_lines.specs.RequestText.{own_depend_data}
use Rattle.object_writer.specs.Tokens.{added, tokens_of}
use Rattle.client_codec.proofs.requests.submit.write_depends.Given as goal

abbrev pub invariant-loop-depend : goal.invariant-loop-depend
invariant-loop-depend l = added l.out (items_tokens (items_outline (items_of (map own_depend_data (drop l.depend-index l.depends))))) ≡ added l.fn.out (key l.name ∷ tokens_of (array (items_of (map own_depend_data l.depends))))
