use Rattle.attempt_book.proofs.Restored.{left_none}
use Rattle.attempt_book.proofs.attempts.Attempts.resume_row.Goals as goal

pub returns-in_default : goal.returns-in_default
returns-in_default c = left_none c.args.self.now c.args.slot c.args.row.now.proc c.in_default.is c.requires
