-- A key, and a list begins.
use Rattle.std.proofs.Common.{refl, ◌∷◌, [], ◌∙◌}
use Rattle.json.specs.Token.{begin_array, key}
use Rattle.json.proofs.Printed.Utf8.{IsUtf8-are_ascii}
use Rattle.object_writer.proofs.Pushed.{adds_member, member_tokens}
use Rattle.object_writer.proofs.writer.ObjectWriter.begin_list.Goals as goal

pub invariant_of-self-2 : goal.invariant_of-self-2
invariant_of-self-2 c =
    let old = c.self.inside in
    (adds_member old.room.items c.write_member.new.room.items old.len c.in_ok-self-inside.field-0 old.after_value c.self.invariant c.args.name.now (91 ∷ []) begin_array c.requires c.utf8.name refl tt (IsUtf8-are_ascii _ refl) c.in_ok-self-inside.ensures.wrote).fills

pub returns : goal.returns
returns c =
    let old = c.self.inside in
    (adds_member old.room.items c.write_member.new.room.items old.len c.in_ok-self-inside.field-0 old.after_value c.self.invariant c.args.name.now (91 ∷ []) begin_array c.requires c.utf8.name refl tt (IsUtf8-are_ascii _ refl) c.in_ok-self-inside.ensures.wrote).tokens_are ∙ member_tokens _ c.args.self.now (key c.args.name.now) begin_array c.self.view_is
