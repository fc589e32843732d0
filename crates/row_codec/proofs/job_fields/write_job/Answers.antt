-- The steps one after the other.
use Rattle.std.proofs.lemmas.Result.{on_ok_weaker}
use Rattle.row_codec.specs.RowFields.{job_fields}
use Rattle.object_writer.proofs.Members.{last, next, next_text}
use Rattle.row_codec.proofs.job_fields.write_job.Goals as goal

pub returns : goal.returns
unfolding job_fields
returns c =
    on_ok_weaker c.end_object.result
    (λ done. last _ _ _ _ (next_text _ _ _ _ _ _ c.as_str-4.ensures (next _ _ _ _ _ (next_text _ _ _ _ _ _ c.job_word.ensures (next _ _ _ _ _ (next_text _ _ _ _ _ _ c.as_str-3.ensures (next _ _ _ _ _ (next _ _ _ _ _ (next_text _ _ _ _ _ _ c.as_str-2.ensures (next _ _ _ _ _ (next _ _ _ _ _ (next _ _ _ _ _ (next_text _ _ _ _ _ _ c.as_str.ensures (next _ _ _ _ _ (next _ _ _ _ _ c.in_ok-begin_object.ensures c.in_ok-truth.ensures) c.in_ok-number.ensures) c.in_ok-text.ensures) c.in_ok-whole.ensures) c.in_ok-number-2.ensures) c.in_ok-number-3.ensures) c.in_ok-text-2.ensures) c.in_ok-truth-2.ensures) c.in_ok-number-4.ensures) c.in_ok-text-3.ensures) c.in_ok-show.ensures) c.in_ok-text-4.ensures) c.in_ok-number-5.ensures) c.in_ok-text-5.ensures) done)
    c.end_object.ensures
