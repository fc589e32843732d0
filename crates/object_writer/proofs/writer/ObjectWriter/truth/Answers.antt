-- A key, and true or false.
use Rattle.std.proofs.Common.{sym, ◌∙◌}
use Rattle.json.specs.Token.{boolean, key}
use Rattle.object_writer.proofs.Pushed.{adds_member, member_tokens}
use Rattle.object_writer.proofs.writer.ObjectWriter.truth.Goals as goal

pub invariant_of-self-2 : goal.invariant_of-self-2
invariant_of-self-2 c =
    let old = c.self.inside in
    (adds_member old.room.items c.write_member.new.room.items old.len c.in_ok-self-inside.field-0 old.after_value c.self.invariant c.args.name.now c.as_bytes.result.now (boolean c.args.value) c.requires c.utf8.name (sym (c.as_bytes.ensures.value ∙ c.truth_word.ensures.text)) tt c.as_bytes.ensures.utf8 c.in_ok-self-inside.ensures.wrote).fills

pub returns : goal.returns
returns c =
    let old = c.self.inside in
    (adds_member old.room.items c.write_member.new.room.items old.len c.in_ok-self-inside.field-0 old.after_value c.self.invariant c.args.name.now c.as_bytes.result.now (boolean c.args.value) c.requires c.utf8.name (sym (c.as_bytes.ensures.value ∙ c.truth_word.ensures.text)) tt c.as_bytes.ensures.utf8 c.in_ok-self-inside.ensures.wrote).tokens_are ∙ member_tokens _ c.args.self.now (key c.args.name.now) (boolean c.args.value) c.self.view_is
