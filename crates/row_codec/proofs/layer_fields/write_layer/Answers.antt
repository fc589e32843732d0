-- The steps from the last to the first, each with the fields after it.
use Rattle.std.proofs.Common.{[], ◌∷◌, ap, sym, ◌∙◌}
use Rattle.std.specs.Prelude.{codes}
use Rattle.std.proofs.lemmas.Result.{on_ok_weaker}
use Rattle.json.specs.Token.{key, end_object}
use Rattle.serde_json.specs.Data.{Members, member, no_members, string}
use Rattle.row_codec.specs.RowFields.{field_if, layer_fields, limit_value, texts, whole}
use Rattle.object_writer.specs.Tokens.{added, fields_tokens, tokens_of}
use Rattle.object_writer.proofs.Members.{before_rest, text_before_rest}
use Rattle.object_writer.proofs.Printed.{added_append}
use Rattle.row_codec.proofs.layer_fields.write_layer.Goals as goal

pub returns : goal.returns
unfolding layer_fields
returns c =
    let r = c.args.row.now in
    let tags : Members = member (codes "tags") (texts r.tags) no_members in
    let range : Members = member (codes "range") (string r.range) tags in
    let name : Members = member (codes "name") (string r.name) range in
    let memory : Members = member (codes "memory") (whole r.memory) name in
    let limit : Members = field_if (codes "limit") (limit_value c.args.format r.limit) memory in
    let cores : Members = member (codes "cores") (whole r.cores) limit in
    on_ok_weaker c.end_object.result
    (λ done.
    done ∙ ap (λ m. added m (end_object ∷ [])) c.in_ok-write_texts.ensures ∙ sym (added_append _ (key (codes "tags") ∷ tokens_of (texts r.tags)) (end_object ∷ []))
    ∙ text_before_rest _ _ _ _ _ (fields_tokens tags) c.as_str-3.ensures c.in_ok-text-3.ensures ∙ text_before_rest _ _ _ _ _ (fields_tokens range) c.as_str-2.ensures c.in_ok-text-2.ensures
    ∙ before_rest _ _ _ _ (fields_tokens name) c.in_ok-memory.ensures ∙ c.in_ok-write_limit.ensures memory ∙ before_rest _ _ _ _ (fields_tokens limit) c.in_ok-cores.ensures
    ∙ text_before_rest _ _ _ _ _ (fields_tokens cores) c.as_str.ensures c.in_ok-text.ensures ∙ ap (λ m. added m (fields_tokens (member (codes "command") (string r.command) cores))) c.in_ok-begin_object.ensures)
    c.end_object.ensures
