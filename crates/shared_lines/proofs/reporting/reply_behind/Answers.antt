-- The round went, and the report was replied to behind it.
use Rattle.line_answers.specs.booking_recorder.proofs.Rests.{prefix_then}
use Rattle.shared_lines.proofs.ReportAnswers.{risen_still}
use Rattle.shared_lines.proofs.reporting.reply_behind.Goals as goal

pub returns-clause-replied : goal.returns-clause-replied
returns-clause-replied g c =
    record {
      round = c.book_round-round.result;
      walked = c.book_round-round.new.pass;
      walks = c.book_round-round.ensures.round;
      booked = c.book_round-round.ensures.booked;
      caught = c.reply_locked.ensures.caught;
      replies = c.reply_locked.ensures.line;
      store = λ is.
          risen_still c.args.pass.now.faults c.book_round-round.new.pass.faults c.reply_locked.new.pass.faults (c.book_round-round.ensures.cut is)
          c.reply_locked.ensures.caught.faults;
    }

pub returns-clause-grows : goal.returns-clause-grows
returns-clause-grows g c =
    prefix_then c.args.pass.now.view.journal c.book_round-round.new.pass.view.journal c.reply_locked.new.pass.view.journal
    c.book_round-round.ensures.grows.journal
    c.reply_locked.ensures.caught.learns.journal
