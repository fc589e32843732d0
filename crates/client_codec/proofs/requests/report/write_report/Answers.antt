-- The steps from the first to the last, each with the members after it.
use Rattle.std.specs.Prelude.{codes, map}
use Rattle.std.proofs.lemmas.Result.{on_ok_weaker}
use Rattle.serde_json.specs.Data.{Members, array, member, no_members, string}
use Rattle.serde_json.specs.View.{items_of}
use Rattle.farm_lines.specs.Reply.{attempts_data}
use Rattle.farm_lines.specs.RequestText.{done_item_data, report_line}
use Rattle.farm_lines.specs.Words.{whole}
use Rattle.client_codec.proofs.AskedLemmas.RequestTokens.{and_as, and_then, of_object}
use Rattle.client_codec.proofs.requests.report.write_report.Goals as goal

pub returns : goal.returns
unfolding report_line
returns c =
    let r = c.args.report.now in
    let seq : Members = member (codes "seq") (whole r.heard.seq) no_members in
    let running : Members = member (codes "running") (attempts_data r.running) seq in
    let op : Members = member (codes "op") (string (codes "report")) running in
    let host : Members = member (codes "host") (string r.heard.host) op in
    let finished : Members = member (codes "done") (array (items_of (map done_item_data r.heard.done))) host in
    let boot : Members = member (codes "boot") (whole r.heard.boot) finished in
    on_ok_weaker c.end_object.result
    (λ done.
    of_object _ _ _ boot c.in_ok-begin_object.ensures
    (and_as whole _ _ _ _ _ (codes "boot") finished c.from.ensures c.in_ok-whole.ensures
    (and_as (λ xs. array (items_of (map done_item_data xs))) _ _ _ _ _ (codes "done") host c.as_slice.ensures c.in_ok-write_done.ensures
    (and_as string _ _ _ _ _ (codes "host") op c.as_str.ensures c.in_ok-text.ensures
    (and_then _ _ _ (codes "op") (string (codes "report")) running c.in_ok-text-2.ensures
    (and_as attempts_data _ _ _ _ _ (codes "running") seq c.as_slice-2.ensures c.in_ok-write_attempts.ensures
    (and_then _ _ _ (codes "seq") (whole r.heard.seq) no_members c.in_ok-whole-2.ensures done)))))))
    c.end_object.ensures
