-- A key alone.
use Rattle.std.proofs.Common.{ap, ◌++◌, ◌∷◌, [], ◌∙◌}
use Rattle.json.specs.Token.{key}
use Rattle.object_writer.proofs.Pushed.{adds_name}
use Rattle.object_writer.proofs.writer.ObjectWriter.key.Goals as goal

pub invariant_of-self-2 : goal.invariant_of-self-2
invariant_of-self-2 c =
    let old = c.self.inside in
    (adds_name old.room.items c.write_member.new.room.items old.len c.in_ok-self-inside.field-0 old.after_value c.self.invariant c.args.name.now c.requires c.utf8.name c.in_ok-self-inside.ensures.wrote).fills

pub returns : goal.returns
returns c =
    let old = c.self.inside in
    (adds_name old.room.items c.write_member.new.room.items old.len c.in_ok-self-inside.field-0 old.after_value c.self.invariant c.args.name.now c.requires c.utf8.name c.in_ok-self-inside.ensures.wrote).tokens_are ∙ ap (λ ts. ts ++ key c.args.name.now ∷ []) c.self.view_is
