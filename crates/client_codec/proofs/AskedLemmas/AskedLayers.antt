-- The layers of a job's spec are read as those layers.
use Rattle.std.proofs.Common.{◌≡◌, ℕ, List, [], ◌∷◌, length, Some, Ok, IsUtf8, refl, sym, ap, ◌∙◌, arith}
use Rattle.std.specs.Prelude.{codes, map}
use Rattle.std.specs.List.{All, list_all}
use Rattle.std.specs.Str.{is_utf8}
use Rattle.std.proofs.lemmas.List.Elements.{All-head, All-tail}
use Rattle.std.proofs.lemmas.Str.{IsUtf8-from_is_utf8}
use Rattle.serde_json.specs.Data.{string, Members}
use Rattle.serde_json.specs.Find.{get_member}
use Rattle.cue_json.specs.Fields.{◌>>=◌, others_at, text_at}
use Rattle.cue_json.specs.Items.{item_at}
use Rattle.farm_types.specs.declared.job.LayerSpec.{LayerSpec}
use Rattle.farm_types.specs.declared.limits.TheConstants.{LEAST_CORES, LEAST_MEMORY, MOST_COMMAND, MOST_CORES, MOST_MEMORY, MOST_RANGE, MOST_TAGS}
use Rattle.farm_types.specs.Formed.{IsFormedLayer}
use Rattle.farm_types.specs.Forms.{is_command_byte, is_command_text}
use Rattle.farm_types.proofs.Lists.{and_both}
use Rattle.farm_types.proofs.Ranges.{IsRange, numbers_said, range_read}
use Rattle.farm_lines.specs.declared.job_form.LayerForm.{LayerForm}
use Rattle.farm_lines.specs.Points.{cores_of}
use Rattle.farm_lines.specs.RequestText.{cores_text, layer_data, texts_data}
use Rattle.farm_lines.specs.Spec.{layer_cores, layer_form_at, layer_keys, layer_of, layer_with, layers_of, number_at, tags_at}
use Rattle.farm_lines.specs.Words.{whole}
use Rattle.client_codec.proofs.AskedLemmas.AskedFields.{number_back, or_empty_back, tags_back, texts_fit, there, within_back}
use Rattle.client_codec.proofs.AskedLemmas.AskedPoints.{cores_back, cores_fit}
use Rattle.object_writer.proofs.DataBack.{Fits}
use Rattle.client_codec.proofs.FieldsBack.{form_back, name_back, text_back}
use Rattle.client_codec.proofs.AskedLemmas.TextsFit.{name_fits, name_or_empty_fits, range_fits}

-- the fields of a layer, before its amounts are tried
abbrev pub form_of : LayerSpec → LayerForm
form_of l = record { name = l.name; range = l.range; command = l.command; cores = cores_text l.cores; memory = l.memory; tags = l.tags; limit = l.limit }

module _ (l : LayerSpec) (h : IsFormedLayer l) where
  form_read : (ms : Members) → get_member (codes "name") ms ≡ Some (string l.name) → get_member (codes "range") ms ≡ Some (string l.range) → get_member (codes "command") ms ≡ Some (string l.command)
      → get_member (codes "cores") ms ≡ Some (string (cores_text l.cores)) → get_member (codes "memory") ms ≡ Some (whole l.memory) → get_member (codes "tags") ms ≡ Some (texts_data l.tags)
      → get_member (codes "limit") ms ≡ Some (string l.limit) → others_at layer_keys ms ≡ Ok tt → layer_form_at ms ≡ Ok (form_of l)
  unfolding layer_form_at
  form_read ms name range command cores memory tags limit others =
      rw (
        name_back (codes "name") ms l.name name h.name,
        text_back (codes "range") ms l.range range,
        form_back (codes "command") ms is_command_text l.command command h.command,
        there (codes "cores") ms (codes "1") (cores_text l.cores) text_at (string (cores_text l.cores)) cores (text_back (codes "cores") ms (cores_text l.cores) cores),
        there (codes "memory") ms 3355443 l.memory number_at (whole l.memory) memory (number_back (codes "memory") ms l.memory memory (omega (arith, h.limits.memory_within.1))),
        there (codes "tags") ms (codes "general" ∷ []) l.tags tags_at (texts_data l.tags) tags (tags_back (codes "tags") ms l.tags tags h.tags),
        or_empty_back (codes "limit") ms l.limit limit h.limit,
        others,
      ) refl

  pub layer_read : (field : List ℕ) → item_at field layer_form_at (layer_data l) ≡ Ok (form_of l)
  unfolding layer_data
  layer_read field = form_read _ refl refl refl refl refl refl refl refl

  range : IsRange l.range
  range = range_read l.range h.range

  cores_within : layer_cores (codes "cores") (cores_of (cores_text l.cores)) ≡ Ok l.cores
  cores_within =
      ap (layer_cores (codes "cores")) (cores_back l.cores h.limits.cores_within.1)
      ∙ ap (λ r. r >>= λ none. Ok l.cores) (within_back (codes "cores") LEAST_CORES MOST_CORES l.cores h.limits.cores_within)

  same_layer : layer_with (form_of l) range.sections l.cores ≡ l
  same_layer =
      let numbers = sym (numbers_said l.range range.sections range.read) ∙ sym h.numbers_are in
      λ i. record { name = l.name; range = range.prints i; numbers = numbers i; command = l.command; cores = l.cores; memory = l.memory; tags = l.tags; limit = l.limit }

  amounts_within : layer_of (form_of l) ≡ Ok l
  unfolding layer_of
  amounts_within =
      rw (
        within_back (codes "range") 0 MOST_RANGE (length l.range) (omega arith, range.short),
        range.read,
        within_back (codes "command") 1 MOST_COMMAND (length l.command) h.limits.command_within,
        cores_within,
        within_back (codes "memory") LEAST_MEMORY MOST_MEMORY l.memory h.limits.memory_within,
        within_back (codes "tags") 1 MOST_TAGS (length l.tags) h.limits.tags_within,
      ) (ap Ok same_layer)

  pub layer_fits : Fits 2 (layer_data l)
  unfolding layer_data
  layer_fits =
      let command : IsUtf8 l.command = IsUtf8-from_is_utf8 l.command (and_both (is_utf8 l.command) (list_all is_command_byte l.command) h.command).0 in
      (refl, command, (refl, cores_fit l.cores h.limits.cores_within.1, (refl, name_or_empty_fits l.limit h.limit, (refl, omega (arith, h.limits.memory_within.1), (refl, name_fits l.name h.name, (refl, range_fits l.range h.range, (refl, texts_fit 0 l.tags h.tags, tt)))))))

pub layers_back : (layers : List LayerSpec) → All IsFormedLayer layers → layers_of (map form_of layers) ≡ Ok layers
layers_back [] h = refl
layers_back (l ∷ ls) h = rw (amounts_within l (All-head IsFormedLayer l ls h), layers_back ls (All-tail IsFormedLayer l ls h)) refl
