-- A text.
use Rattle.std.proofs.Common.{ap, refl, ◌++◌, ◌∷◌, [], ◌∙◌}
use Rattle.json.specs.Token.{string}
use Rattle.json.proofs.Printed.Utf8.{IsUtf8-quoted}
use Rattle.object_writer.proofs.Pushed.{adds_one}
use Rattle.object_writer.proofs.writer.ObjectWriter.text_item.Goals as goal

pub invariant_of-self-2 : goal.invariant_of-self-2
invariant_of-self-2 c =
    let old = c.self.inside in
    (adds_one old.room.items c.write_quoted.new.room.items old.len c.in_ok-self-inside.field-0 old.after_value c.self.invariant (string c.args.value.now) refl tt (IsUtf8-quoted c.args.value.now c.utf8.value) c.in_ok-self-inside.ensures.wrote).fills

pub returns : goal.returns
returns c =
    let old = c.self.inside in
    (adds_one old.room.items c.write_quoted.new.room.items old.len c.in_ok-self-inside.field-0 old.after_value c.self.invariant (string c.args.value.now) refl tt (IsUtf8-quoted c.args.value.now c.utf8.value) c.in_ok-self-inside.ensures.wrote).tokens_are ∙ ap (λ ts. ts ++ string c.args.value.now ∷ []) c.self.view_is
