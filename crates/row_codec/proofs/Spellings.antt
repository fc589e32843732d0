-- What is read is of that kind and id, and spelled so.
use Rattle.std.proofs.Common.{◌≡◌, ◌==◌, ◌&&◌, ℕ, List, Bool, true, false, Option, Some, None, cond, refl, subst}
use Rattle.std.specs.Prelude.{bytes_eq, option_and_then}
use Rattle.std.proofs.lemmas.Bool.{and_parts, eqb-true}
use Rattle.std.proofs.lemmas.Slice.Eq.{bytes_eq-Decides}
use Rattle.cue_json.specs.Lines.{object_in}
use Rattle.farm_rows.specs.declared.farm_row.FarmRow.{FarmRow}
use Rattle.farm_rows.specs.Rows.{row_id, row_kind}
use Rattle.row_codec.specs.RowFields.{text_in}
use Rattle.row_codec.specs.RowLaws.{IsSpelled}
use Rattle.row_codec.specs.RowReading.{is_spelled, row_from, row_in, spelled}

same : {X : Type 0} (x y : X) → Some x ≡ Some y → x ≡ y
same x y e = cc

module _ (format kind id : ℕ) (bytes : List ℕ) where
  parts : (r : FarmRow) → is_spelled format kind id bytes r ≡ true → IsSpelled format kind id bytes r
  parts r is =
      let p = and_parts (row_kind r == kind && row_id r == id) (bytes_eq (text_in format r) bytes) is in
      let q = and_parts (row_kind r == kind) (row_id r == id) p.0 in
      (eqb-true _ _ q.0, eqb-true _ _ q.1, (bytes_eq-Decides (text_in format r) bytes).0 p.1)

  spelled_is : (b : Bool) (s r : FarmRow) → is_spelled format kind id bytes s ≡ b → cond b (Some s) None ≡ Some r → IsSpelled format kind id bytes r
  spelled_is true s r is e = subst (IsSpelled format kind id bytes) (same s r e) (parts s is)
  spelled_is false s r is e = absurd (cc)

  found_is : (o : Option FarmRow) (r : FarmRow) → option_and_then (spelled format kind id bytes) o ≡ Some r → IsSpelled format kind id bytes r
  found_is None r e = absurd (cc)
  found_is (Some s) r e = spelled_is (is_spelled format kind id bytes s) s r refl e

pub read_is_spelled : (format kind id : ℕ) (bytes : List ℕ) (r : FarmRow) → row_from format kind id bytes ≡ Some r → IsSpelled format kind id bytes r
unfolding row_from
read_is_spelled format kind id bytes r e = found_is format kind id bytes (option_and_then (row_in format kind id) (object_in bytes)) r e
