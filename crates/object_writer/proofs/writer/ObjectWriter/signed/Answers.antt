-- A key and a number with a sign.
use Rattle.std.proofs.Common.{arith, refl, rules, subst, cond, ◌≡◌, ◌∙◌, ◌++◌, ◌∷◌, [], to_z, of_z, w32}
use Rattle.std.specs.Fmt.{signed_decimal}
use Rattle.std.proofs.lemmas.Fmt.{IsAscii-signed}
use Rattle.std.proofs.lemmas.Int.{to_z-of_z}
use Rattle.std.proofs.lemmas.Str.{IsUtf8-from_ascii}
use Rattle.json.specs.Token.{key, number}
use Rattle.json.proofs.Printed.Decimals.{IsNumber-signed_decimal}
use Rattle.object_writer.specs.Written.{HasWritten}
use Rattle.object_writer.proofs.Pushed.{adds_member, member_tokens}
use Rattle.object_writer.proofs.writer.ObjectWriter.signed.Goals as goal

pub invariant_of-self-2 : goal.invariant_of-self-2
invariant_of-self-2 c =
    let old = c.self.inside in
    let same : to_z w32 (of_z w32 c.args.value) ≡ c.args.value = to_z-of_z w32 c.args.value c.ranges.value in
    let wrote = subst (λ z. HasWritten old.room.items c.write_signed.new.room.items old.len (cond old.after_value (44 ∷ []) [] ++ 34 ∷ (c.args.name.now ++ 34 ∷ 58 ∷ signed_decimal z)) c.in_ok-self-inside.field-0)
    same c.in_ok-self-inside.ensures.wrote in
    (adds_member old.room.items c.write_signed.new.room.items old.len c.in_ok-self-inside.field-0 old.after_value c.self.invariant c.args.name.now (signed_decimal c.args.value) (number (signed_decimal c.args.value)) c.requires c.utf8.name refl (search (rules, IsNumber-signed_decimal)) (IsUtf8-from_ascii (signed_decimal c.args.value) (IsAscii-signed c.args.value (search (rules, arith)))) wrote).fills

pub returns : goal.returns
returns c =
    let old = c.self.inside in
    let same : to_z w32 (of_z w32 c.args.value) ≡ c.args.value = to_z-of_z w32 c.args.value c.ranges.value in
    let wrote = subst (λ z. HasWritten old.room.items c.write_signed.new.room.items old.len (cond old.after_value (44 ∷ []) [] ++ 34 ∷ (c.args.name.now ++ 34 ∷ 58 ∷ signed_decimal z)) c.in_ok-self-inside.field-0)
    same c.in_ok-self-inside.ensures.wrote in
    (adds_member old.room.items c.write_signed.new.room.items old.len c.in_ok-self-inside.field-0 old.after_value c.self.invariant c.args.name.now (signed_decimal c.args.value) (number (signed_decimal c.args.value)) c.requires c.utf8.name refl (search (rules, IsNumber-signed_decimal)) (IsUtf8-from_ascii (signed_decimal c.args.value) (IsAscii-signed c.args.value (search (rules, arith)))) wrote).tokens_are ∙ member_tokens _ c.args.self.now (key c.args.name.now) (number (signed_decimal c.args.value)) c.self.view_is
