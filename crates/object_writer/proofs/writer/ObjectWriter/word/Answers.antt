-- A key and a text.
use Rattle.std.proofs.Common.{refl, ◌∙◌}
use Rattle.json.specs.Print.{quoted}
use Rattle.json.specs.Token.{key, string}
use Rattle.json.proofs.Printed.Utf8.{IsUtf8-quoted}
use Rattle.object_writer.proofs.Pushed.{adds_member, member_tokens}
use Rattle.object_writer.proofs.writer.ObjectWriter.word.Goals as goal

pub invariant_of-self-2 : goal.invariant_of-self-2
invariant_of-self-2 c =
    let old = c.self.inside in
    (adds_member old.room.items c.write_word.new.room.items old.len c.in_ok-self-inside.field-0 old.after_value c.self.invariant c.args.name.now (quoted c.args.value.now) (string c.args.value.now) c.requires.name c.utf8.name refl tt (IsUtf8-quoted c.args.value.now c.utf8.value) c.in_ok-self-inside.ensures.wrote).fills

pub returns : goal.returns
returns c =
    let old = c.self.inside in
    (adds_member old.room.items c.write_word.new.room.items old.len c.in_ok-self-inside.field-0 old.after_value c.self.invariant c.args.name.now (quoted c.args.value.now) (string c.args.value.now) c.requires.name c.utf8.name refl tt (IsUtf8-quoted c.args.value.now c.utf8.value) c.in_ok-self-inside.ensures.wrote).tokens_are ∙ member_tokens _ c.args.self.now (key c.args.name.now) (string c.args.value.now) c.self.view_is
