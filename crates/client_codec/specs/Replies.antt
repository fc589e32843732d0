-- What reading a line as a reply answers.
use Rattle.std.specs.Prelude.{◌≡◌, ℕ, List, [], ◌∷◌, codes, Option, None, Some, Result, Ok, Err}
use Rattle.serde_json.specs.Data.{Members}
use Rattle.cue_json.specs.Fields.{Fault, ◌>>=◌, others_at}
use Rattle.farm_lines.specs.ReplyLines.{code_at}
use Rattle.farm_lines.specs.declared.reply.Reply.{Reply}
use Rattle.client_codec.specs.declared.replies.reader.ReplyFault.{ReplyFault}
use Rattle.client_codec.specs.declared.replies.reader.ReplyFault.TheVariants as reply_fault

-- the call's answer is the reply that the line is, or that it is none, unless memory ran out
abbrev pub IsReply : Result Reply ReplyFault → Option Reply → Type 0
IsReply (Ok read) reply = reply ≡ Some read
IsReply (Err reply_fault.NotAReply) reply = reply ≡ None
IsReply (Err reply_fault.NoMemory) reply = Unit {0}

-- the key of its own of a refusal whose code is this one, and that has no others
abbrev pub keyed_at : {X : Type 0} → ℕ → List ℕ → (List ℕ → Members → Result X Fault) → Members → Result X Fault
keyed_at code field read ms = code_at code ms >>= λ is. read field ms >>= λ x. others_at (codes "code" ∷ field ∷ codes "ok" ∷ codes "why" ∷ []) ms >>= λ none. Ok x
