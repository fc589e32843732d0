-- From what an object of fields is read as to what its text is read as.
use Rattle.std.proofs.Common.{◌≡◌, Some, Ok, refl, arith}
use Rattle.serde_json.specs.Data.{object, Members}
use Rattle.serde_json.specs.Written.{compact_text}
use Rattle.farm_lines.specs.declared.reply.Reply.{Reply}
use Rattle.farm_lines.specs.ReplyLines.{reply_at, reply_of}
use Rattle.object_writer.proofs.DataBack.{Fits, object_back}

-- with lists of objects at most
pub back : (ms : Members) (r : Reply) → Fits 3 (object ms) → reply_at ms ≡ Ok r → reply_of (compact_text (object ms)) ≡ Some r
unfolding reply_of
back ms r fits read = rw (object_back 3 ms fits (omega arith), read) refl
