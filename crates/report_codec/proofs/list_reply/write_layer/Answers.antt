-- The steps one after the other.
use Rattle.std.proofs.lemmas.Result.{on_ok_weaker}
use Rattle.farm_lines.specs.ListReplies.{layer_row_data}
use Rattle.object_writer.proofs.Members.{last, next, next_number, next_text}
use Rattle.report_codec.proofs.list_reply.write_layer.Goals as goal

pub returns : goal.returns
unfolding layer_row_data
returns c =
    on_ok_weaker c.end_object.result
    (λ done. last _ _ _ _ (next_number _ _ _ _ _ _ c.from-6.ensures (next_number _ _ _ _ _ _ c.from-5.ensures (next_number _ _ _ _ _ _ c.from-4.ensures (next_text _ _ _ _ _ _ c.as_str-3.ensures (next_text _ _ _ _ _ _ c.as_str-2.ensures (next _ _ _ _ _ (next_text _ _ _ _ _ _ c.as_str.ensures (next_number _ _ _ _ _ _ c.from-3.ensures (next_number _ _ _ _ _ _ c.from-2.ensures (next_number _ _ _ _ _ _ c.from.ensures (next _ _ _ _ _ c.in_ok-begin_object.ensures c.in_ok-cores.ensures) c.in_ok-whole.ensures) c.in_ok-whole-2.ensures) c.in_ok-whole-3.ensures) c.in_ok-text.ensures) c.in_ok-memory.ensures) c.in_ok-text-2.ensures) c.in_ok-text-3.ensures) c.in_ok-whole-4.ensures) c.in_ok-whole-5.ensures) c.in_ok-whole-6.ensures) done)
    c.end_object.ensures
