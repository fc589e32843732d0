-- The steps from the last to the first, each with the fields after it.
use Rattle.std.proofs.Common.{ap, ◌∙◌}
use Rattle.std.specs.Prelude.{codes, option_map}
use Rattle.std.proofs.lemmas.Result.{on_ok_weaker}
use Rattle.serde_json.specs.Data.{Members, boolean, member, no_members, string}
use Rattle.state_names.specs.Words.{kind_word}
use Rattle.row_codec.specs.RowFields.{depend_fields, field_if, signed, whole}
use Rattle.object_writer.specs.Tokens.{added, fields_tokens}
use Rattle.object_writer.proofs.Members.{before_rest, text_before_rest}
use Rattle.row_codec.proofs.depend_fields.write_depend.Goals as goal

pub returns : goal.returns
unfolding depend_fields
returns c =
    let r = c.args.row.now in
    let on_layer : Members = field_if (codes "on_layer") (option_map string r.target.layer) no_members in
    let on_job : Members = member (codes "on_job") (whole r.target.job) on_layer in
    let on_frame : Members = field_if (codes "on_frame") (option_map signed r.target.frame) on_job in
    let met_all : Members = member (codes "met_all") (boolean r.met_all) on_frame in
    let layer : Members = field_if (codes "layer") (option_map string r.waiter.layer) met_all in
    let kind : Members = member (codes "kind") (string (kind_word r.kind)) layer in
    let job : Members = member (codes "job") (whole r.waiter.job) kind in
    let frame : Members = field_if (codes "frame") (option_map signed r.waiter.frame) job in
    on_ok_weaker c.end_object.result
    (λ done.
    done ∙ c.in_ok-write_text_if-2.ensures no_members ∙ before_rest _ _ _ _ (fields_tokens on_layer) c.in_ok-job-2.ensures ∙ c.in_ok-write_signed_if-2.ensures on_job
    ∙ before_rest _ _ _ _ (fields_tokens on_frame) c.in_ok-truth-2.ensures ∙ c.in_ok-write_text_if.ensures met_all ∙ text_before_rest _ _ _ _ _ (fields_tokens layer) c.kind_word.ensures c.in_ok-text.ensures
    ∙ before_rest _ _ _ _ (fields_tokens kind) c.in_ok-job.ensures ∙ c.in_ok-write_signed_if.ensures job ∙ before_rest _ _ _ _ (fields_tokens frame) c.in_ok-truth.ensures
    ∙ ap (λ m. added m (fields_tokens (member (codes "any") (boolean r.any) frame))) c.in_ok-begin_object.ensures)
    c.end_object.ensures
