-- A line that is within the limit or too long is answered.
use Rattle.std.proofs.Common.{◌≡◌, ◌≤◌, ℕ, List, [], ◌∷◌, ◌++◌, length, Ok, ap, ◌∙◌, refl, subst, arith}
use Rattle.cue_io.specs.Reader.{Whole, Long, given_by}
use Rattle.farm_lines.specs.declared.reply.Reply.TheVariants as reply
use Rattle.farm_lines.specs.Reply.{reply_text}
use Rattle.line_exchanges.specs.Exchanges.{Sends}
use Rattle.shared_lines.specs.line_answers.specs.Lines.{shown}
use Rattle.shared_sessions.proofs.Answered.{line_fits, step_answered}
use Rattle.shared_sessions.proofs.exchange.exchange.Goals as goal

pub answer_beside-reply-requires-clause-limit : goal.answer_beside-reply-requires-clause-limit
answer_beside-reply-requires-clause-limit g c =
    let is : given_by c.next.result ≡ Ok (Whole c.in-Ok-Bytes.line.now) = ap given_by (c.in-Ok-Bytes.is ∙ ap Ok c.in-Ok-Bytes.field-0-is) in
    let moves = c.next.follows.holds-at-none in
    subst (λ (limit : ℕ). length c.in-Ok-Bytes.line.now ≤ limit) c.requires.limit
    (line_fits c.next.result c.in-Ok-Bytes.line.now c.args.reader.now c.next.follows.lender-at-none moves.took c.requires.pending.0 is moves.goes c.requires.pending.1)

pub returns-in-Ok-Bytes-clause-step : goal.returns-in-Ok-Bytes-clause-step
returns-in-Ok-Bytes-clause-step g c =
    let is : given_by c.next.result ≡ Ok (Whole c.in-Ok-Bytes.line.now) = ap given_by (c.in-Ok-Bytes.is ∙ ap Ok c.in-Ok-Bytes.field-0-is) in
    let moves = c.next.follows.holds-at-none in
    let sent = c.send.ensures.sends in (
      moves.took,
      sent.0,
      c.now-moment.result ∷ [],
      moves.takes,
      sent.1,
      c.now-moment.ensures,
      step_answered c.send.result c.next.result (Whole c.in-Ok-Bytes.line.now) c.args.reader.now c.next.follows.lender-at-none (g.S.Source.left c.next.new.source)
          c.args.pass.now c.answer_beside-reply.new.pass moves.took c.now-moment.result (shown c.answer_beside-reply.result) sent.0 (omega arith) is moves.goes moves.end
          c.answer_beside-reply.ensures.answer (subst (λ (text : List ℕ). Sends c.send.result text sent.0) c.bytes.ensures sent.2),
    )

pub returns-in-Ok-TooLong-clause-step : goal.returns-in-Ok-TooLong-clause-step
returns-in-Ok-TooLong-clause-step g c =
    let is : given_by c.next.result ≡ Ok Long = ap given_by (c.in-Ok-TooLong.is ∙ ap Ok c.in-Ok-TooLong.field-0-is) in
    let moves = c.next.follows.holds-at-none in
    let sent = c.send-in-Ok-TooLong.ensures.sends in
    let text : List ℕ = reply_text reply.TooLong ++ 10 ∷ [] in (
      moves.took,
      sent.0,
      c.now-moment-in-Ok-TooLong.result ∷ [],
      moves.takes,
      sent.1,
      c.now-moment-in-Ok-TooLong.ensures,
      step_answered c.send-in-Ok-TooLong.result c.next.result Long c.args.reader.now c.next.follows.lender-at-none (g.S.Source.left c.next.new.source)
          c.args.pass.now c.args.pass.now moves.took c.now-moment-in-Ok-TooLong.result text sent.0 (omega arith) is moves.goes moves.end (refl, refl)
          (subst (λ (bytes : List ℕ). Sends c.send-in-Ok-TooLong.result bytes sent.0) c.bytes-in-Ok-TooLong.ensures sent.2),
    )
