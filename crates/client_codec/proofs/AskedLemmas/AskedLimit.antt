-- The line of a limit is read as that limit.
use Rattle.std.proofs.Common.{◌≡◌, ◌≤◌, ℕ, true, List, Some, Ok, refl, ap, ◌∙◌, arith}
use Rattle.std.specs.Prelude.{codes}
use Rattle.json.proofs.Printed.Utf8.{IsUtf8-are_ascii}
use Rattle.serde_json.specs.Data.{string, Members}
use Rattle.serde_json.specs.Find.{get_member}
use Rattle.cue_json.specs.Fields.{◌>>=◌, others_at}
use Rattle.farm_types.specs.declared.limits.TheConstants.{MOST_RUNNING}
use Rattle.farm_types.specs.Forms.{is_name_text}
use Rattle.farm_lines.specs.declared.limit_form.LimitForm.{LimitForm}
use Rattle.farm_lines.specs.declared.limit_form.LimitLine.{LimitLine}
use Rattle.farm_lines.specs.declared.request.Request.TheVariants as request
use Rattle.farm_lines.specs.Request.{asks_limit, judged, limit_form_at, limit_keys, limit_line_of}
use Rattle.farm_lines.specs.RequestText.{limit_line}
use Rattle.farm_lines.specs.Spec.{form_first}
use Rattle.farm_lines.specs.Words.{whole}
use Rattle.client_codec.proofs.AskedLemmas.AskedFields.{IsReadAs, number_back, within_back}
use Rattle.client_codec.proofs.AskedLemmas.TextsFit.{name_fits}
use Rattle.client_codec.proofs.FieldsBack.{name_back}
use Rattle.object_writer.proofs.DataBack.{Fits}

module _ (name : List ℕ) (most : ℕ) (named : is_name_text name ≡ true) (within : most ≤ MOST_RUNNING) where
  abbrev form : LimitForm
  form = record { name = name; most = most }

  abbrev line : LimitLine
  line = record { name = name; most = most }

  form_read : (ms : Members) → get_member (codes "name") ms ≡ Some (string name) → get_member (codes "most") ms ≡ Some (whole most) → others_at limit_keys ms ≡ Ok tt → limit_form_at ms ≡ Ok form
  unfolding limit_form_at
  form_read ms has_name has_most others = rw (name_back (codes "name") ms name has_name named, number_back (codes "most") ms most has_most (omega (arith, within)), others) refl

  amount_within : limit_line_of form ≡ Ok line
  unfolding limit_line_of
  amount_within = rw (within_back (codes "most") 0 MOST_RUNNING most (omega arith, within)) refl

  pub limit_read : IsReadAs (limit_line name most) (request.Limit name most)
  unfolding limit_line
  limit_read = ap (judged asks_limit) (ap (λ r. form_first r >>= limit_line_of) (form_read _ refl refl refl) ∙ amount_within)

  pub limit_fits : Fits 1 (limit_line name most)
  unfolding limit_line
  limit_fits = (refl, omega (arith, within), (refl, name_fits name named, (refl, IsUtf8-are_ascii (codes "limit") refl, tt)))
