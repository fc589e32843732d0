-- What a reply's line is.
use Rattle.std.specs.Prelude.{◌≡◌, ◌⊎◌, ℕ, Bool, true, false, List, [], ◌∷◌, ◌++◌}
use Rattle.farm_types.specs.declared.entry.Entry.{Entry}
use Rattle.farm_lines.specs.declared.reply.Reply.{Reply}
use Rattle.farm_lines.specs.declared.reply.Reply.TheVariants as reply
use Rattle.farm_lines.specs.Reply.{reply_text}
use Rattle.line_answers.specs.declared.reply_line.ReplyLine.{ReplyLine}
use Rattle.line_answers.specs.declared.reply_line.ReplyLine.TheVariants.{Written, TooLong, Store, NoMemory}

-- the bytes of the line, its newline too
abbrev pub shown : ReplyLine → List ℕ
shown (Written line) = line
shown TooLong = reply_text reply.TooLong ++ 10 ∷ []
shown Store = reply_text reply.Store ++ 10 ∷ []
shown NoMemory = reply_text reply.NoMemory ++ 10 ∷ []

-- the line is that of the reply, or tells that memory ran out
abbrev pub IsLineOf : Reply → List ℕ → Type 0
IsLineOf told line = (line ≡ reply_text told ++ 10 ∷ []) ⊎ (line ≡ reply_text reply.NoMemory ++ 10 ∷ [])

-- the line tells that the store failed
abbrev pub is_store_line : ReplyLine → Bool
is_store_line Store = true
is_store_line other = false

-- the line that was written for an entry tells that it was recorded
abbrev pub recorded_by : Entry → ReplyLine → List Entry
recorded_by e (Written line) = e ∷ []
recorded_by e other = []

-- the reply tells that the store failed
abbrev pub is_store_reply : Reply → Bool
is_store_reply reply.Store = true
is_store_reply other = false

-- the line is that of the reply, or tells that memory ran out for it, which it doesn't where the store failed
abbrev pub IsLineOfOther : Reply → List ℕ → Type 0
IsLineOfOther reply.Store line = line ≡ reply_text reply.Store ++ 10 ∷ []
IsLineOfOther told line = IsLineOf told line
