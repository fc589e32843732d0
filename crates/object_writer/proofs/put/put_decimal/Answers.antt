-- A number below ten is one digit.
use Rattle.std.proofs.Common.{subst, sym}
use Rattle.std.proofs.lemmas.Fmt.{decimal_digit}
use Rattle.object_writer.specs.Written.{HasPut}
use Rattle.object_writer.proofs.put.put_decimal.Goals as goal

pub returns-then-value-lt10 : goal.returns-then-value-lt10
returns-then-value-lt10 c =
    subst (λ digits. HasPut c.args.room.now c.put_byte.new.room c.args.at digits c.put_byte.result) (sym (decimal_digit c.args.value c.if-value-lt10.true)) c.put_byte.ensures
