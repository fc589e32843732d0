-- The steps from the first to the last, each with the members after it.
use Rattle.std.specs.Prelude.{codes}
use Rattle.std.proofs.lemmas.Result.{on_ok_weaker}
use Rattle.serde_json.specs.Data.{Members, boolean, member, no_members, string}
use Rattle.state_names.specs.Words.{kind_word}
use Rattle.farm_lines.specs.RequestText.{depend_line, with_signed, with_text}
use Rattle.client_codec.proofs.AskedLemmas.RequestTokens.{and_as, and_if, and_then, of_object}
use Rattle.client_codec.proofs.requests.depend.write_depend.Goals as goal

pub returns : goal.returns
unfolding depend_line
returns c =
    let r = c.args.spec.now in
    let op : Members = member (codes "op") (string (codes "depend")) no_members in
    let on_layer : Members = with_text (codes "on_layer") r.target.layer op in
    let on_job : Members = member (codes "on_job") (string r.target.job) on_layer in
    let on_frame : Members = with_signed (codes "on_frame") r.target.frame on_job in
    let layer : Members = with_text (codes "layer") r.waiter.layer on_frame in
    let kind : Members = member (codes "kind") (string (kind_word r.kind)) layer in
    let job : Members = member (codes "job") (string r.waiter.job) kind in
    let frame : Members = with_signed (codes "frame") r.waiter.frame job in
    let any : Members = member (codes "any") (boolean r.any) frame in
    on_ok_weaker c.end_object.result
    (λ done.
    of_object _ _ _ any c.in_ok-begin_object.ensures
    (and_then _ _ _ (codes "any") (boolean r.any) frame c.in_ok-truth.ensures
    (and_if (with_signed (codes "frame") r.waiter.frame) _ _ _ job c.in_ok-write_frame_if.ensures
    (and_as string _ _ _ _ _ (codes "job") kind c.as_str.ensures c.in_ok-text.ensures
    (and_as string _ _ _ _ _ (codes "kind") layer c.kind_word.ensures c.in_ok-text-2.ensures
    (and_if (with_text (codes "layer") r.waiter.layer) _ _ _ on_frame c.in_ok-write_text_if.ensures
    (and_if (with_signed (codes "on_frame") r.target.frame) _ _ _ on_job c.in_ok-write_frame_if-2.ensures
    (and_as string _ _ _ _ _ (codes "on_job") on_layer c.as_str-2.ensures c.in_ok-text-3.ensures
    (and_if (with_text (codes "on_layer") r.target.layer) _ _ _ op c.in_ok-write_text_if-2.ensures
    (and_then _ _ _ (codes "op") (string (codes "depend")) no_members c.in_ok-text-4.ensures done))))))))))
    c.end_object.ensures
