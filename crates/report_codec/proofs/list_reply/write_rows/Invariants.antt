-- What is written and what is left to write give the whole member.
use Rattle.std.proofs.Common.{◌≡◌, ◌∷◌, map, drop}
use Rattle.std.specs.Prelude.{codes}
use Rattle.json.specs.Token.{key}
use Rattle.json.specs.Tree.{items_tokens}
use Rattle.serde_json.specs.View.{items_of}
use Rattle.serde_json.specs.Written.{items_outline}
use Rattle.farm_lines.specs.ListReplies.{list_row_data, list_rows_data}
use Rattle.object_writer.specs.Tokens.{added, tokens_of}
use Rattle.report_codec.proofs.list_reply.write_rows.Given as goal

abbrev pub invariant-loop-row : goal.invariant-loop-row
invariant-loop-row l = added l.out (items_tokens (items_outline (items_of (map list_row_data (drop l.row-index l.rows))))) ≡ added l.fn.out (key (codes "rows") ∷ tokens_of (list_rows_data l.rows))
