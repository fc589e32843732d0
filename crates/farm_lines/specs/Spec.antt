-- What a job spec says, or its first fault. The form of every field is tried first, in order; then the amounts are, in order.
use Rattle.std.specs.Prelude.{ℕ, Bool, false, List, [], ◌∷◌, codes, length, Option, None, Some, Result, Ok, Err, ⊤, if◌then◌else◌}
use Rattle.serde_json.specs.Data.{Data, Items, no_items, item, Members}
use Rattle.serde_json.specs.Find.{as_str}
use Rattle.cue_json.specs.Fields.{Fault, WrongKind, ◌>>=◌, of_kind, text_at, whole_at, flag_at, list_at, others_at}
use Rattle.cue_json.specs.Items.{list_of}
use Rattle.frame_range.specs.declared.fault.RangeFault.{RangeFault}
use Rattle.frame_range.specs.declared.section.Section.{Section}
use Rattle.frame_range.specs.Printed.{printed}
use Rattle.frame_range.specs.Sets.{set_of, numbers_of}
use Rattle.farm_types.specs.declared.job.JobSpec.{JobSpec}
use Rattle.farm_types.specs.declared.job.LayerSpec.{LayerSpec}
use Rattle.farm_lines.specs.declared.job_form.JobForm.{JobForm}
use Rattle.farm_lines.specs.declared.job_form.LayerForm.{LayerForm}
use Rattle.farm_types.specs.Jobs.{frames_in}
use Rattle.farm_types.specs.declared.limits.TheConstants.{LEAST_CORES, LEAST_MEMORY, MOST_COMMAND, MOST_CORES, MOST_FRAMES, MOST_LAYERS, MOST_MEMORY, MOST_PRIORITY, MOST_RANGE, MOST_RETRIES, MOST_TAGS}
use Rattle.farm_types.specs.Forms.{is_command_text, is_name_or_empty, is_tag_text, is_between}
use Rattle.farm_lines.specs.Points.{cores_of}
use Rattle.farm_lines.specs.DependLines.{own_depends}
use Rattle.farm_lines.specs.Fields.{name_at, or_default}

-- why a spec isn't taken: a field is missing or not of its form, a layer's range has a fault, or the amount of a field is outside its limits
pub data SpecError : Type 0 where
  Field : Fault → SpecError
  Range : List ℕ → RangeFault → SpecError
  Amount : List ℕ → SpecError

-- ---- forms of texts

-- the text, where it is of that form
abbrev pub of_form : (List ℕ → Bool) → List ℕ → List ℕ → Result (List ℕ) Fault
of_form form field text = if form text then Ok text else Err (WrongKind field)

-- ---- fields

-- a field's text of that form
abbrev pub text_of : (List ℕ → Bool) → List ℕ → Members → Result (List ℕ) Fault
text_of form field ms = text_at field ms >>= of_form form field

-- a field's number of 64 bits
abbrev pub number_at : List ℕ → Members → Result ℕ Fault
number_at field ms = whole_at field 0 18446744073709551615 ms

-- a tag of a list; an item of another kind or form is a fault of the list's field
abbrev pub tag_item : List ℕ → Data → Result (List ℕ) Fault
tag_item field d = of_kind field (as_str d) >>= of_form is_tag_text field

abbrev pub tags_in : List ℕ → Items → Result (List (List ℕ)) Fault
tags_in field no_items = Ok []
tags_in field (item d ds) = tag_item field d >>= λ tag. tags_in field ds >>= λ tags. Ok (tag ∷ tags)

abbrev pub tags_at : List ℕ → Members → Result (List (List ℕ)) Fault
tags_at field ms = list_at field ms >>= tags_in field

-- ---- the form of a spec

abbrev pub layer_keys : List (List ℕ)
layer_keys = codes "command" ∷ codes "cores" ∷ codes "limit" ∷ codes "memory" ∷ codes "name" ∷ codes "range" ∷ codes "tags" ∷ []

-- a layer: its fields in order, and no others
unfoldable pub layer_form_at : Members → Result LayerForm Fault
layer_form_at ms =
    name_at (codes "name") ms >>= λ name. text_at (codes "range") ms >>= λ range.
    text_of is_command_text (codes "command") ms >>= λ command. or_default (codes "1") text_at (codes "cores") ms >>= λ cores.
    or_default 3355443 number_at (codes "memory") ms >>= λ memory. or_default (codes "general" ∷ []) tags_at (codes "tags") ms >>= λ tags.
    or_default [] (text_of is_name_or_empty) (codes "limit") ms >>= λ limit. others_at layer_keys ms >>= λ none.
    Ok (record { name = name; range = range; command = command; cores = cores; memory = memory; tags = tags; limit = limit })

abbrev pub job_keys : List (List ℕ)
job_keys =
    codes "auto_eat" ∷ codes "depends" ∷ codes "facility" ∷ codes "layers" ∷ codes "max_retries" ∷ codes "name" ∷ codes "paused" ∷ codes "priority"
    ∷ codes "shot" ∷ codes "show" ∷ codes "user" ∷ []

-- a job: its fields in order, each layer and each depend with its field, and no others
unfoldable pub job_form_at : Members → Result JobForm Fault
job_form_at ms =
    name_at (codes "name") ms >>= λ name. name_at (codes "show") ms >>= λ show.
    text_of is_tag_text (codes "facility") ms >>= λ facility. or_default [] (text_of is_name_or_empty) (codes "shot") ms >>= λ shot.
    or_default [] (text_of is_name_or_empty) (codes "user") ms >>= λ user. or_default 100 number_at (codes "priority") ms >>= λ priority.
    or_default 3 number_at (codes "max_retries") ms >>= λ max_retries. or_default false flag_at (codes "auto_eat") ms >>= λ auto_eat.
    or_default false flag_at (codes "paused") ms >>= λ paused. list_of (codes "layers") layer_form_at ms >>= λ layers.
    or_default [] (own_depends name) (codes "depends") ms >>= λ depends. others_at job_keys ms >>= λ none.
    Ok (record {
      name = name;
      show = show;
      facility = facility;
      shot = shot;
      user = user;
      priority = priority;
      max_retries = max_retries;
      auto_eat = auto_eat;
      paused = paused;
      layers = layers;
      depends = depends;
    })

-- ---- amounts

-- nothing where the amount of the field is within its limits
abbrev pub within : List ℕ → ℕ → ℕ → ℕ → Result ⊤ SpecError
within field least most amount = if is_between least most amount then Ok tt else Err (Amount field)

-- the sections of a layer's range
abbrev pub range_of : List ℕ → Result (List Section) RangeFault → Result (List Section) SpecError
range_of layer (Ok sections) = Ok sections
range_of layer (Err fault) = Err (Range layer fault)

-- the hundredths of a core that the text of the field says, where they are within the limits of a layer
abbrev pub layer_cores : List ℕ → Option ℕ → Result ℕ SpecError
layer_cores field None = Err (Amount field)
layer_cores field (Some cores) = within field LEAST_CORES MOST_CORES cores >>= λ ok. Ok cores

-- the layer of a form, with the sections of its range and its cores
abbrev pub layer_with : LayerForm → List Section → ℕ → LayerSpec
layer_with form sections cores =
    record {
      name = form.name;
      range = printed sections;
      numbers = numbers_of sections;
      command = form.command;
      cores = cores;
      memory = form.memory;
      tags = form.tags;
      limit = form.limit;
    }

-- a layer's amounts in order: a range text of 1,024 bytes at most, its range, a command of 1 to 4,096 bytes, cores, memory, and 1 to 32 tags
unfoldable pub layer_of : LayerForm → Result LayerSpec SpecError
layer_of form =
    within (codes "range") 0 MOST_RANGE (length form.range) >>= λ short. range_of form.name (set_of form.range) >>= λ sections.
    within (codes "command") 1 MOST_COMMAND (length form.command) >>= λ some. layer_cores (codes "cores") (cores_of form.cores) >>= λ cores.
    within (codes "memory") LEAST_MEMORY MOST_MEMORY form.memory >>= λ enough. within (codes "tags") 1 MOST_TAGS (length form.tags) >>= λ tagged.
    Ok (layer_with form sections cores)

abbrev pub layers_of : List LayerForm → Result (List LayerSpec) SpecError
layers_of [] = Ok []
layers_of (form ∷ forms) = layer_of form >>= λ layer. layers_of forms >>= λ layers. Ok (layer ∷ layers)

-- a job's amounts in order: priority, retries, 1 to 64 layers, each layer's, and 1 to 10,000 frames
unfoldable pub job_of : JobForm → Result JobSpec SpecError
job_of form =
    within (codes "priority") 1 MOST_PRIORITY form.priority >>= λ ranked. within (codes "max_retries") 0 MOST_RETRIES form.max_retries >>= λ retried.
    within (codes "layers") 1 MOST_LAYERS (length form.layers) >>= λ layered. layers_of form.layers >>= λ layers.
    within (codes "layers") 1 MOST_FRAMES (frames_in layers) >>= λ framed.
    Ok (record {
      name = form.name;
      show = form.show;
      facility = form.facility;
      shot = form.shot;
      user = form.user;
      priority = form.priority;
      max_retries = form.max_retries;
      auto_eat = form.auto_eat;
      paused = form.paused;
      layers = layers;
      depends = form.depends;
    })

-- ---- a spec

-- a fault of the form comes before every fault of an amount
abbrev pub form_first : {X : Type 0} → Result X Fault → Result X SpecError
form_first (Ok form) = Ok form
form_first (Err fault) = Err (Field fault)

-- what the spec says, or its first fault
unfoldable pub spec_at : Members → Result JobSpec SpecError
spec_at ms = form_first (job_form_at ms) >>= job_of
