-- The line of a subscription is read as that subscription.
use Rattle.std.proofs.Common.{◌≡◌, Some, Ok, refl, ap, ◌∙◌, arith}
use Rattle.std.specs.Prelude.{codes}
use Rattle.std.proofs.lemmas.Str.{IsUtf8-from_is_utf8}
use Rattle.json.proofs.Printed.Utf8.{IsUtf8-are_ascii}
use Rattle.serde_json.specs.Data.{string, Members}
use Rattle.serde_json.specs.Find.{get_member}
use Rattle.cue_json.specs.Fields.{◌>>=◌, others_at}
use Rattle.farm_types.specs.declared.limits.TheConstants.{MOST_BURST}
use Rattle.farm_types.specs.declared.sub_line.SubLine.{SubLine}
use Rattle.farm_types.specs.Formed.{IsFormedSub}
use Rattle.farm_lines.specs.declared.request.Request.TheVariants as request
use Rattle.farm_lines.specs.declared.sub_form.SubForm.{SubForm}
use Rattle.farm_lines.specs.FormedLines.{IsText}
use Rattle.farm_lines.specs.Request.{judged, sub_form_at, sub_keys, sub_line_of}
use Rattle.farm_lines.specs.RequestText.{sub_line}
use Rattle.farm_lines.specs.Spec.{form_first}
use Rattle.farm_lines.specs.Words.{whole}
use Rattle.client_codec.proofs.AskedLemmas.AskedFields.{IsReadAs, number_back, within_back}
use Rattle.object_writer.proofs.DataBack.{Fits}
use Rattle.client_codec.proofs.FieldsBack.{name_back, text_back}
use Rattle.client_codec.proofs.AskedLemmas.TextsFit.{name_fits}

abbrev form_of : SubLine → SubForm
form_of s = record { show = s.show; alloc = s.alloc; size = s.size; burst = s.burst }

module _ (s : SubLine) (h : IsFormedSub s) where
  form_read : (ms : Members) → get_member (codes "show") ms ≡ Some (string s.show) → get_member (codes "alloc") ms ≡ Some (string s.alloc) → get_member (codes "size") ms ≡ Some (whole s.size)
      → get_member (codes "burst") ms ≡ Some (whole s.burst) → others_at sub_keys ms ≡ Ok tt → sub_form_at ms ≡ Ok (form_of s)
  unfolding sub_form_at
  form_read ms show alloc size burst others =
      rw (
        name_back (codes "show") ms s.show show h.show,
        text_back (codes "alloc") ms s.alloc alloc,
        number_back (codes "size") ms s.size size (omega (arith, h.limits.size_within)),
        number_back (codes "burst") ms s.burst burst (omega (arith, h.limits.burst_within)),
        others,
      ) refl

  amounts_within : sub_line_of (form_of s) ≡ Ok s
  unfolding sub_line_of
  amounts_within =
      rw (within_back (codes "size") 0 MOST_BURST s.size (omega arith, h.limits.size_within), within_back (codes "burst") 0 MOST_BURST s.burst (omega arith, h.limits.burst_within)) refl

  pub sub_read : IsReadAs (sub_line s) (request.Sub s)
  unfolding sub_line
  sub_read = ap (judged request.Sub) (ap (λ r. form_first r >>= sub_line_of) (form_read _ refl refl refl refl refl) ∙ amounts_within)

  pub sub_fits : IsText s.alloc → Fits 1 (sub_line s)
  unfolding sub_line
  sub_fits alloc = (
    refl,
    IsUtf8-from_is_utf8 s.alloc alloc,
    (
      refl,
      omega (arith, h.limits.burst_within),
      (
        refl,
        IsUtf8-are_ascii (codes "sub") refl,
        (refl, name_fits s.show h.show, (refl, omega (arith, h.limits.size_within), tt)),
      ),
    ),
  )
