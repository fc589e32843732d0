-- A plain text is its own escape.
use Rattle.std.proofs.Common.{[], ◌∷◌, ◌++◌, cond, sym, subst}
use Rattle.std.specs.Prelude.{IfOk}
use Rattle.object_writer.specs.Written.{HasWritten}
use Rattle.object_writer.proofs.Plain.{plain_is}
use Rattle.object_writer.proofs.text.write_word.Goals as goal

pub returns-clause-wrote : goal.returns-clause-wrote
returns-clause-wrote c =
    subst (λ text. IfOk c.write_plain_text.result (HasWritten c.args.room.now.items c.write_plain_text.new.room.items c.args.len
    (cond c.args.comma (44 ∷ []) [] ++ 34 ∷ (c.args.name.now ++ 34 ∷ 58 ∷ 34 ∷ (text ++ 34 ∷ []))))) (sym (plain_is c.args.value.now c.requires.plain)) c.write_plain_text.ensures.wrote
