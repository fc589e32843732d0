-- A front of the reply was written.
use Rattle.std.proofs.Common.{◌<◌, ℕ, List, take, drop, length, length-drop, take-append-drop, arith}
use Rattle.line_exchanges.specs.declared.exchanged.Exchanged.TheVariants as exchanged
use Rattle.line_exchanges.specs.Exchanges.{Sends}
use Rattle.line_exchanges.proofs.sending.send.Goals as goal

sent_part : (text : List ℕ) (count : ℕ) → count < length text → Sends exchanged.Write text (take count text)
sent_part text count short = (drop count text, omega (arith, length-drop count text), take-append-drop count text)

pub returns-in-Err-clause-sends : goal.returns-in-Err-clause-sends
returns-in-Err-clause-sends g c =
    let part = c.in-Err.ensures.err in
    (take part.count c.args.reply.now, part.adds, sent_part c.args.reply.now part.count part.cut)
