-- The examples compute.
use Rattle.std.proofs.Common.{refl}
use Rattle.farm_lines.specs.ReplyLines.{done_reply, tick_reply, full_at, full_reply, limit_reply, list_reply_at}
use Rattle.farm_lines.specs.ReplyRows.{frame_row_at, name_row_at}
use Rattle.worked_examples.proofs.tool.replies_are_read.Goals as goal

pub returns-clause-done : goal.returns-clause-done
unfolding done_reply tick_reply full_at full_reply frame_row_at name_row_at list_reply_at
returns-clause-done c = refl

pub returns-clause-tick : goal.returns-clause-tick
unfolding done_reply tick_reply full_at full_reply frame_row_at name_row_at list_reply_at
returns-clause-tick c = refl

pub returns-clause-limit : goal.returns-clause-limit
unfolding limit_reply
returns-clause-limit c = refl

pub returns-clause-stale : goal.returns-clause-stale
unfolding done_reply tick_reply full_at full_reply frame_row_at name_row_at list_reply_at
returns-clause-stale c = refl

pub returns-clause-other_code : goal.returns-clause-other_code
unfolding done_reply tick_reply full_at full_reply frame_row_at name_row_at list_reply_at
returns-clause-other_code c = refl

pub returns-clause-satisfied : goal.returns-clause-satisfied
unfolding done_reply tick_reply full_at full_reply frame_row_at name_row_at list_reply_at
returns-clause-satisfied c = refl

pub returns-clause-full : goal.returns-clause-full
unfolding done_reply tick_reply full_at full_reply frame_row_at name_row_at list_reply_at
returns-clause-full c = refl

pub returns-clause-rows : goal.returns-clause-rows
unfolding done_reply tick_reply full_at full_reply frame_row_at name_row_at list_reply_at
returns-clause-rows c = refl

pub returns-clause-mixed_rows : goal.returns-clause-mixed_rows
unfolding done_reply tick_reply full_at full_reply frame_row_at name_row_at list_reply_at
returns-clause-mixed_rows c = refl
