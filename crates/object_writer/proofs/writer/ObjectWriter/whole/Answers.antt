-- A key and a number.
use Rattle.std.proofs.Common.{refl, decimal, rules, ◌∙◌}
use Rattle.std.proofs.lemmas.Fmt.{IsAscii-decimal}
use Rattle.std.proofs.lemmas.Str.{IsUtf8-from_ascii}
use Rattle.json.specs.Token.{key, number}
use Rattle.json.proofs.Printed.Decimals.{IsNumber-decimal}
use Rattle.object_writer.proofs.Pushed.{adds_member, member_tokens}
use Rattle.object_writer.proofs.writer.ObjectWriter.whole.Goals as goal

pub invariant_of-self-2 : goal.invariant_of-self-2
invariant_of-self-2 c =
    let old = c.self.inside in
    (adds_member old.room.items c.write_number.new.room.items old.len c.in_ok-self-inside.field-0 old.after_value c.self.invariant c.args.name.now (decimal c.args.value) (number (decimal c.args.value)) c.requires c.utf8.name refl (IsNumber-decimal c.args.value (search rules)) (IsUtf8-from_ascii (decimal c.args.value) (IsAscii-decimal c.args.value (search rules))) c.in_ok-self-inside.ensures.wrote).fills

pub returns : goal.returns
returns c =
    let old = c.self.inside in
    (adds_member old.room.items c.write_number.new.room.items old.len c.in_ok-self-inside.field-0 old.after_value c.self.invariant c.args.name.now (decimal c.args.value) (number (decimal c.args.value)) c.requires c.utf8.name refl (IsNumber-decimal c.args.value (search rules)) (IsUtf8-from_ascii (decimal c.args.value) (IsAscii-decimal c.args.value (search rules))) c.in_ok-self-inside.ensures.wrote).tokens_are ∙ member_tokens _ c.args.self.now (key c.args.name.now) (number (decimal c.args.value)) c.self.view_is
