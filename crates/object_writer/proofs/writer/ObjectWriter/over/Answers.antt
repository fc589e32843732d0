-- A text of no bytes has no token.
use Rattle.object_writer.proofs.Pushed.{no_text, none}
use Rattle.object_writer.proofs.writer.ObjectWriter.over.Goals as goal

pub invariant_of-result : goal.invariant_of-result
invariant_of-result c = no_text c.args.room.items

pub returns : goal.returns
returns c = none
