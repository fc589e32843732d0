-- A plain text is its own escape.
use Rattle.std.proofs.Common.{[], ◌∷◌, ◌++◌, cond, sym, subst, ◌∙◌, ap}
use Rattle.std.specs.Prelude.{IfOk}
use Rattle.object_writer.specs.Written.{HasWritten, is_plain}
use Rattle.object_writer.proofs.Plain.{plain_is}
use Rattle.object_writer.proofs.text.write_quoted.Goals as goal

pub returns-clause-wrote : goal.returns-clause-wrote
returns-clause-wrote c =
    let same = plain_is c.args.value.now (ap is_plain (sym c.as_bytes.ensures.value) ∙ sym c.if-not-is_plain.ensures) in
    subst (λ text. IfOk c.write_plain.result (HasWritten c.args.room.now.items c.write_plain.new.room.items c.args.len (cond c.args.comma (44 ∷ []) [] ++ 34 ∷ (text ++ 34 ∷ []))))
    (sym same) c.write_plain.ensures.wrote
