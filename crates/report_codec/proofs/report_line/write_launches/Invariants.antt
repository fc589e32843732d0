-- What is written and what is left to write give the whole member.
use Rattle.std.proofs.Common.{◌≡◌, ◌∷◌, map, drop}
use Rattle.json.specs.Token.{key}
use Rattle.json.specs.Tree.{items_tokens}
use Rattle.serde_json.specs.View.{items_of}
use Rattle.serde_json.specs.Written.{items_outline}
use Rattle.farm_lines.specs.Reply.{launch_data, launches_data}
use Rattle.object_writer.specs.Tokens.{added, tokens_of}
use Rattle.report_codec.proofs.report_line.write_launches.Given as goal

abbrev pub invariant-loop-launch : goal.invariant-loop-launch
invariant-loop-launch l = added l.out (items_tokens (items_outline (items_of (map launch_data (drop l.launch-index l.launches))))) ≡ added l.fn.out (key l.name ∷ tokens_of (launches_data l.launches))
