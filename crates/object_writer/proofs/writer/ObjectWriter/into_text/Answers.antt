-- The text is the print of the tokens that are seen in it.
use Rattle.std.proofs.Common.{take, ap, ◌∙◌}
use Rattle.json.specs.Print.{print}
use Rattle.object_writer.proofs.Pushed.{text_is}
use Rattle.object_writer.proofs.writer.ObjectWriter.into_text.Goals as goal

pub returns : goal.returns
returns c = c.from_string.ensures ∙ ap (λ v. v.items) c.in-Ok.ensures.ok ∙ c.truncate.ensures.items ∙ text_is (take c.self.inside.len c.self.inside.room.items) c.self.inside.after_value c.self.invariant.written ∙ ap print c.self.view_is
