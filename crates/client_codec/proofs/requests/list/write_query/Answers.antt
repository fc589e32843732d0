-- The steps from the first to the last, each with the members after it.
use Rattle.std.specs.Prelude.{codes}
use Rattle.std.proofs.lemmas.Result.{on_ok_weaker}
use Rattle.serde_json.specs.Data.{Members, member, no_members, string}
use Rattle.farm_lines.specs.RequestText.{job_listed, list_line, with_text}
use Rattle.farm_lines.specs.Words.{what_listed, what_word, whole}
use Rattle.client_codec.proofs.AskedLemmas.RequestTokens.{and_as, and_if, and_then, of_object}
use Rattle.client_codec.proofs.requests.list.write_query.Goals as goal

pub returns : goal.returns
unfolding list_line
returns c =
    let r = c.args.query.now in
    let what : Members = member (codes "what") (string (what_word (what_listed r.what))) no_members in
    let op : Members = member (codes "op") (string (codes "list")) what in
    let job : Members = with_text (codes "job") (job_listed r.what) op in
    let from : Members = member (codes "from") (whole r.from) job in
    on_ok_weaker c.end_object.result
    (λ done.
    of_object _ _ _ from c.in_ok-begin_object.ensures
    (and_then _ _ _ (codes "from") (whole r.from) job c.in_ok-whole.ensures
    (and_if (with_text (codes "job") (job_listed r.what)) _ _ _ op c.in_ok-write_job_if.ensures
    (and_then _ _ _ (codes "op") (string (codes "list")) what c.in_ok-text.ensures
    (and_as string _ _ _ _ _ (codes "what") no_members c.list_word.ensures c.in_ok-text-2.ensures done)))))
    c.end_object.ensures
