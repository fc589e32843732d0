-- The line of a host's boot is read as that boot.
use Rattle.std.proofs.Common.{◌≡◌, length, Some, Ok, refl, ap, ◌∙◌, arith}
use Rattle.std.specs.Prelude.{codes}
use Rattle.std.proofs.lemmas.Str.{IsUtf8-from_is_utf8}
use Rattle.json.proofs.Printed.Utf8.{IsUtf8-are_ascii}
use Rattle.serde_json.specs.Data.{string, Members}
use Rattle.serde_json.specs.Find.{get_member}
use Rattle.cue_json.specs.Fields.{◌>>=◌, others_at}
use Rattle.farm_types.specs.declared.boot.BootLine.{BootLine}
use Rattle.farm_types.specs.declared.limits.TheConstants.{LEAST_CORES, LEAST_MEMORY, MOST_CORES, MOST_MEMORY, MOST_TAGS}
use Rattle.farm_types.specs.Formed.{IsFormedBoot}
use Rattle.farm_lines.specs.declared.boot_form.BootForm.{BootForm}
use Rattle.farm_lines.specs.declared.request.Request.TheVariants as request
use Rattle.farm_lines.specs.FormedLines.{IsText}
use Rattle.farm_lines.specs.Request.{boot_form_at, boot_keys, boot_line_of, judged}
use Rattle.farm_lines.specs.RequestText.{boot_line, texts_data}
use Rattle.farm_lines.specs.Spec.{form_first}
use Rattle.farm_lines.specs.Words.{whole}
use Rattle.client_codec.proofs.AskedLemmas.AskedFields.{IsReadAs, number_back, tags_back, texts_fit, within_back}
use Rattle.object_writer.proofs.DataBack.{Fits}
use Rattle.client_codec.proofs.FieldsBack.{name_back, text_back}
use Rattle.client_codec.proofs.AskedLemmas.TextsFit.{name_fits}

abbrev form_of : BootLine → BootForm
form_of b = record { host = b.host; nonce = b.nonce; alloc = b.alloc; tags = b.tags; cores = b.cores; memory = b.memory }

module _ (b : BootLine) (h : IsFormedBoot b) where
  form_read : (ms : Members) → get_member (codes "host") ms ≡ Some (string b.host) → get_member (codes "nonce") ms ≡ Some (whole b.nonce) → get_member (codes "alloc") ms ≡ Some (string b.alloc)
      → get_member (codes "tags") ms ≡ Some (texts_data b.tags) → get_member (codes "cores") ms ≡ Some (whole b.cores) → get_member (codes "memory") ms ≡ Some (whole b.memory)
      → others_at boot_keys ms ≡ Ok tt → boot_form_at ms ≡ Ok (form_of b)
  unfolding boot_form_at
  form_read ms host nonce alloc tags cores memory others =
      rw (
        name_back (codes "host") ms b.host host h.host,
        number_back (codes "nonce") ms b.nonce nonce h.nonce_within,
        text_back (codes "alloc") ms b.alloc alloc,
        tags_back (codes "tags") ms b.tags tags h.tags,
        number_back (codes "cores") ms b.cores cores (omega (arith, h.limits.cores_within.1)),
        number_back (codes "memory") ms b.memory memory (omega (arith, h.limits.memory_within.1)),
        others,
      ) refl

  amounts_within : boot_line_of (form_of b) ≡ Ok b
  unfolding boot_line_of
  amounts_within =
      rw (
        within_back (codes "tags") 0 MOST_TAGS (length b.tags) (omega arith, h.limits.tags_within),
        within_back (codes "cores") LEAST_CORES MOST_CORES b.cores h.limits.cores_within,
        within_back (codes "memory") LEAST_MEMORY MOST_MEMORY b.memory h.limits.memory_within,
      ) refl

  pub boot_read : IsReadAs (boot_line b) (request.Boot b)
  unfolding boot_line
  boot_read = ap (judged request.Boot) (ap (λ r. form_first r >>= boot_line_of) (form_read _ refl refl refl refl refl refl refl) ∙ amounts_within)

  pub boot_fits : IsText b.alloc → Fits 2 (boot_line b)
  unfolding boot_line
  boot_fits alloc = (
    refl,
    IsUtf8-from_is_utf8 b.alloc alloc,
    (
      refl,
      omega (arith, h.limits.cores_within.1),
      (
        refl,
        name_fits b.host h.host,
        (
          refl,
          omega (arith, h.limits.memory_within.1),
          (refl, h.nonce_within, (refl, IsUtf8-are_ascii (codes "boot") refl, (refl, texts_fit 0 b.tags h.tags, tt))),
        ),
      ),
    ),
  )
