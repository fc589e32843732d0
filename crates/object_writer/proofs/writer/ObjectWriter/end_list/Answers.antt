-- A list ends.
use Rattle.std.proofs.Common.{ap, refl, ◌++◌, ◌∷◌, [], ◌∙◌}
use Rattle.json.specs.Token.{end_array}
use Rattle.json.proofs.Printed.Utf8.{IsUtf8-are_ascii}
use Rattle.object_writer.proofs.Pushed.{adds_closing}
use Rattle.object_writer.proofs.writer.ObjectWriter.end_list.Goals as goal

pub invariant_of-self-2 : goal.invariant_of-self-2
invariant_of-self-2 c =
    let old = c.self.inside in
    (adds_closing old.room.items c.write_bare.new.room.items old.len c.in_ok-self-inside.field-0 old.after_value c.self.invariant end_array refl tt (IsUtf8-are_ascii _ refl) c.in_ok-self-inside.ensures.wrote).fills

pub returns : goal.returns
returns c =
    let old = c.self.inside in
    (adds_closing old.room.items c.write_bare.new.room.items old.len c.in_ok-self-inside.field-0 old.after_value c.self.invariant end_array refl tt (IsUtf8-are_ascii _ refl) c.in_ok-self-inside.ensures.wrote).tokens_are ∙ ap (λ ts. ts ++ end_array ∷ []) c.self.view_is
