-- A plain text has no escape.
use Rattle.std.proofs.Common.{◌≡◌, ℕ, true, ◌&&◌, ◌==◌, List, [], ◌∷◌, ◌++◌, refl}
use Rattle.std.specs.Prelude.{nat_le, not}
use Rattle.std.proofs.lemmas.Bool.{and_parts, eqb-false, leb-true, not-true}
use Rattle.json.specs.Print.{escape}
use Rattle.json.proofs.Printed.Strings.{escape_byte_plain}
use Rattle.object_writer.specs.Written.{is_plain, is_plain_byte}

pub plain_is : (text : List ℕ) → is_plain text ≡ true → escape text ≡ text
plain_is [] is = refl
plain_is (byte ∷ text) is =
    let first = and_parts (is_plain_byte byte) (is_plain text) is in
    let low = and_parts (nat_le 32 byte) (not (byte == 34) && not (byte == 92)) first.0 in
    let others = and_parts (not (byte == 34)) (not (byte == 92)) low.1 in
    let rest = plain_is text first.1 in
    λ i. escape_byte_plain byte (eqb-false byte 34 (not-true (byte == 34) others.0)) (eqb-false byte 92 (not-true (byte == 92) others.1)) (leb-true 32 byte low.0) i ++ rest i
