-- The steps one after the other, where the rows stand before the members after them.
use Rattle.std.proofs.Common.{◌≡◌, ◌++◌, ◌∷◌, []}
use Rattle.std.proofs.lemmas.Result.{on_ok_weaker}
use Rattle.json.specs.Token.{end_object}
use Rattle.farm_lines.specs.ListReplies.{list_data}
use Rattle.object_writer.proofs.Printed.{added_append}
use Rattle.report_codec.proofs.list_reply.write_list.Goals as goal

pub returns : goal.returns
unfolding list_data
returns c =
    on_ok_weaker c.end_object.result
    (λ (done : c.end_object.new.self ≡ c.whole.new.self ++ end_object ∷ []).
    simp added_append (cc (done, c.in_ok-whole.ensures, c.in_ok-write_rows.ensures, c.in_ok-truth.ensures, c.in_ok-begin_object.ensures)))
    c.end_object.ensures
