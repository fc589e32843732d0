-- What was read is what the line asks.
use Rattle.std.proofs.Common.{Some}
use Rattle.cue_json.specs.View.{members_view}
use Rattle.report_codec.proofs.ReadLemmas.{asks_within}
use Rattle.report_codec.proofs.read.read_request.Goals as goal

pub returns-in-Ok-clause-limits : goal.returns-in-Ok-clause-limits
returns-in-Ok-clause-limits c = asks_within c.args.line.now (Some (members_view c.in-Ok.object.items)) c.request.result c.in-Ok.ensures c.request.ensures
