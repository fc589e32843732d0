-- What is written and what is left to write give the whole list.
use Rattle.std.proofs.Common.{◌≡◌, ◌∷◌, map, drop}
use Rattle.json.specs.Token.{key}
use Rattle.json.specs.Tree.{items_tokens}
use Rattle.serde_json.specs.Data.{string}
use Rattle.serde_json.specs.View.{items_of}
use Rattle.serde_json.specs.Written.{items_outline}
use Rattle.row_codec.specs.RowFields.{texts}
use Rattle.object_writer.specs.Tokens.{added, tokens_of}
use Rattle.row_codec.proofs.members.write_texts.Given as goal

abbrev pub invariant-loop-value : goal.invariant-loop-value
invariant-loop-value l = added l.out (items_tokens (items_outline (items_of (map string (drop l.value-index l.values))))) ≡ added l.fn.out (key l.name ∷ tokens_of (texts l.values))
