-- Replies that are read from their own text.
use Rattle.std.specs.Prelude.{◌≡◌, Some}
use Rattle.farm_lines.specs.declared.reply.Reply.{Reply}
use Rattle.farm_lines.specs.Reply.{reply_text}
use Rattle.farm_lines.specs.ReplyLines.{reply_of}

-- the line that the reply is written as is read as the same reply
abbrev pub IsReadBack : Reply → Type 0
IsReadBack r = reply_of (reply_text r) ≡ Some r
