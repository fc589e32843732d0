-- Where nothing failed, the status of a request is that of its reply.
use Rattle.std.proofs.Common.{◌≡◌, ℕ, ◌<◌, ◌∙◌, List, [], inl, inr, length, Option, None, Some, Ok, ◌⊎◌, arith}
use Rattle.command_line.specs.declared.status.Status.{Status}
use Rattle.command_line.specs.declared.status.Status.TheVariants as exit
use Rattle.cue_io.specs.Input.{IsAtEnd}
use Rattle.cue_io.specs.declared.limits.TheConstants.{BYTE_LIMIT}
use Rattle.cue_words.specs.declared.asked.ToolWords.TheVariants.{Ask}
use Rattle.farm_lines.specs.ReplyLines.{reply_of}
use Rattle.cue_tool.specs.Answers.{read_shown}
use Rattle.cue_tool.specs.declared.shown.Shown.{Shown}
use Rattle.cue_tool.specs.Calls.{Answers, Call, Comes, EndsWell, IsComplete, OrRanOut}
use Rattle.cue_tool.proofs.ShownLemmas.{IsOfReply, shown_status}

module _ (ReadFails WriteFails : Type 0) (words : List (List ℕ)) (line : List ℕ) (status : Status) (call : Call) (left : Option (List ℕ))
    (read : status ≡ exit.ReadFailed → ReadFails) (write : status ≡ exit.WriteFailed → WriteFails) (no_read : ReadFails → ⊥) (no_write : WriteFails → ⊥)
    (fewer : length call.taken < BYTE_LIMIT) where
  -- of a line that may be a reply
  well_shown : (shown : Option Shown) → IsOfReply shown → Answers shown status call.printed → EndsWell (Ok (Ask line)) status call left
  well_shown None is answers = inr (inr (inl answers.0))
  well_shown (Some shown) (inl done) (inl printed) = inl (printed.0 ∙ done)
  well_shown (Some shown) (inr refused) (inl printed) = inr (inl (printed.0 ∙ refused))
  well_shown (Some shown) is (inr failed) = absurd (no_write (write failed.0))

  -- no line came
  well_ended : ((status ≡ exit.ReadFailed) × (length call.taken < BYTE_LIMIT))
      ⊎ (((status ≡ exit.Spent) × (length call.taken ≡ BYTE_LIMIT)) ⊎ ((status ≡ exit.InputEnded) × (call.taken ≡ []) × IsAtEnd left))
      → EndsWell (Ok (Ask line)) status call left
  well_ended (inl failed) = absurd (no_read (read failed.0))
  well_ended (inr (inl spent)) = absurd (omega (arith, fewer, spent.1))
  well_ended (inr (inr ended)) = inr (inr (inr ended))

  well_come : Comes words status call.taken call.printed left → EndsWell (Ok (Ask line)) status call left
  well_come (inl answered) =
      well_shown (read_shown words answered.line (reply_of answered.line)) (shown_status words answered.line (reply_of answered.line)) answered.answers
  well_come (inr (inl long)) = inr (inr (inl long.status_is))
  well_come (inr (inr unanswered)) = well_ended unanswered.why

  well_or_none : OrRanOut (Comes words status call.taken call.printed left) status call.printed → EndsWell (Ok (Ask line)) status call left ⊎ (status ≡ exit.NoMemory)
  well_or_none (inl comes) = inl (well_come comes)
  well_or_none (inr none) = inr none.0

-- of a request that was sent
pub reply_complete : (line : List ℕ) (words : List (List ℕ)) (status : Status) (call : Call) (left : Option (List ℕ)) (ReadFails WriteFails : Type 0)
    → OrRanOut (Comes words status call.taken call.printed left) status call.printed → (status ≡ exit.ReadFailed → ReadFails) → (status ≡ exit.WriteFailed → WriteFails)
    → IsComplete (Ok (Ask line)) status call left ReadFails WriteFails
reply_complete line words status call left ReadFails WriteFails came read write =
    λ no_read no_write fewer. well_or_none ReadFails WriteFails words line status call left read write no_read no_write fewer came
