-- What is read of a job spec is within its forms and limits.
use Rattle.std.proofs.Common.{◌≡◌, ℕ, suc, ◌≤◌, List, [], ◌∷◌, length, Bool, true, false, cond, refl, sym, ap, arith, Option, None, Some, Result, Ok, Err}
use Rattle.std.specs.Prelude.{IfOk, codes, nat_le, ⊤}
use Rattle.std.specs.List.{All, list_all}
use Rattle.std.proofs.lemmas.Bool.{and_parts, leb-true}
use Rattle.std.proofs.lemmas.List.Elements.{All-cons, All-head, All-nil, All-tail, All-weaker}
use Rattle.serde_json.specs.Data.{Members}
use Rattle.cue_json.specs.Fields.{Fault, flag_at, others_at, text_at}
use Rattle.cue_json.specs.Items.{list_of}
use Rattle.frame_range.specs.declared.fault.RangeFault.{RangeFault}
use Rattle.frame_range.specs.declared.section.Section.{Section}
use Rattle.frame_range.specs.Printed.{printed}
use Rattle.frame_range.specs.Sets.{set_of}
use Rattle.frame_range.proofs.AgainLemmas.{read_again, read_set}
use Rattle.frame_range.proofs.DistinctLemmas.{numbers_distinct, numbers_some}
use Rattle.frame_range.proofs.LengthLemmas.{printed_short}
use Rattle.farm_types.specs.declared.job.LayerSpec.{LayerSpec}
use Rattle.farm_types.specs.Formed.{IsFormedJob, IsFormedLayer, IsFormedOwn}
use Rattle.farm_types.specs.Forms.{is_between, is_command_text, is_name_or_empty, is_name_text, is_tag_text}
use Rattle.farm_types.specs.Jobs.{frames_in}
use Rattle.farm_types.specs.Limits.{IsBetween}
use Rattle.farm_types.specs.Ranges.{is_range_text}
use Rattle.farm_types.specs.SpecLimits.{LayerKeepsLimits}
use Rattle.farm_lines.specs.declared.job_form.JobForm.{JobForm}
use Rattle.farm_lines.specs.declared.job_form.LayerForm.{LayerForm}
use Rattle.farm_lines.specs.DependLines.{own_depend_at, own_depends}
use Rattle.farm_lines.specs.Fields.{name_at, or_default}
use Rattle.farm_lines.specs.Points.{cores_of}
use Rattle.farm_lines.specs.Spec.{SpecError, Amount, text_of, number_at, tags_at, layer_keys, job_keys, layer_form_at, job_form_at, within, range_of, layer_cores, layer_with, layer_of, layers_of, job_of, form_first, spec_at}
use Rattle.farm_lines.proofs.DependLemmas.{own_formed}
use Rattle.farm_lines.proofs.FieldLemmas.{step, step_any, name_formed, text_formed, tags_formed, list_formed, default_formed}
use Rattle.farm_types.proofs.Ranges.{numbers_said, range_formed}
use Rattle.farm_types.specs.declared.limits.TheConstants.{LEAST_CORES, LEAST_MEMORY, MOST_COMMAND, MOST_CORES, MOST_FRAMES, MOST_LAYERS, MOST_MEMORY, MOST_PRIORITY, MOST_RANGE, MOST_RETRIES, MOST_TAGS}

-- ---- forms

-- the texts of a layer are of their forms
pub record IsLayerForm (form : LayerForm) : Type 0 where
  pub name : is_name_text form.name ≡ true
  pub command : is_command_text form.command ≡ true
  pub tags : list_all is_tag_text form.tags ≡ true
  pub limit : is_name_or_empty form.limit ≡ true

or_empty : (field : List ℕ) (ms : Members) → IfOk (or_default [] (text_of is_name_or_empty) field ms) (λ text. is_name_or_empty text ≡ true)
or_empty field ms = default_formed (λ text. is_name_or_empty text ≡ true) [] (text_of is_name_or_empty) field ms refl (text_formed is_name_or_empty field ms)

layer_form_formed : (ms : Members) → IfOk (layer_form_at ms) IsLayerForm
unfolding layer_form_at
layer_form_formed ms =
    step (λ name. is_name_text name ≡ true) IsLayerForm (name_at (codes "name") ms) _ (name_formed (codes "name") ms) (λ name named.
    step_any IsLayerForm (text_at (codes "range") ms) _ (λ range.
    step (λ command. is_command_text command ≡ true) IsLayerForm (text_of is_command_text (codes "command") ms) _ (text_formed is_command_text (codes "command") ms) (λ command commanded.
    step_any IsLayerForm (or_default (codes "1") text_at (codes "cores") ms) _ (λ cores.
    step_any IsLayerForm (or_default 3355443 number_at (codes "memory") ms) _ (λ memory.
    step (λ tags. list_all is_tag_text tags ≡ true) IsLayerForm (or_default (codes "general" ∷ []) tags_at (codes "tags") ms) _ (default_formed (λ tags. list_all is_tag_text tags ≡ true) (codes "general" ∷ []) tags_at (codes "tags") ms refl (tags_formed (codes "tags") ms)) (λ tags tagged.
    step (λ limit. is_name_or_empty limit ≡ true) IsLayerForm (or_default [] (text_of is_name_or_empty) (codes "limit") ms) _ (or_empty (codes "limit") ms) (λ limit limited.
    step_any IsLayerForm (others_at layer_keys ms) _ (λ none.
    record { name = named; command = commanded; tags = tagged; limit = limited }))))))))

-- the texts of a job are of their forms, its layers' and its depends' too
pub record IsJobForm (form : JobForm) : Type 0 where
  pub name : is_name_text form.name ≡ true
  pub show : is_name_text form.show ≡ true
  pub facility : is_tag_text form.facility ≡ true
  pub shot : is_name_or_empty form.shot ≡ true
  pub user : is_name_or_empty form.user ≡ true
  pub each_layer : All IsLayerForm form.layers
  pub each_depend : All (IsFormedOwn form.name) form.depends

depends_formed : (own : List ℕ) (field : List ℕ) (ms : Members) → is_name_text own ≡ true → IfOk (or_default [] (own_depends own) field ms) (All (IsFormedOwn own))
depends_formed own field ms named =
    default_formed (All (IsFormedOwn own)) [] (own_depends own) field ms (All-nil (IsFormedOwn own)) (list_formed (IsFormedOwn own) field (own_depend_at own) (own_formed own named) ms)

job_form_formed : (ms : Members) → IfOk (job_form_at ms) IsJobForm
unfolding job_form_at
job_form_formed ms =
    step (λ name. is_name_text name ≡ true) IsJobForm (name_at (codes "name") ms) _ (name_formed (codes "name") ms) (λ name named.
    step (λ show. is_name_text show ≡ true) IsJobForm (name_at (codes "show") ms) _ (name_formed (codes "show") ms) (λ show shown.
    step (λ facility. is_tag_text facility ≡ true) IsJobForm (text_of is_tag_text (codes "facility") ms) _ (text_formed is_tag_text (codes "facility") ms) (λ facility placed.
    step (λ shot. is_name_or_empty shot ≡ true) IsJobForm (or_default [] (text_of is_name_or_empty) (codes "shot") ms) _ (or_empty (codes "shot") ms) (λ shot shot_formed.
    step (λ user. is_name_or_empty user ≡ true) IsJobForm (or_default [] (text_of is_name_or_empty) (codes "user") ms) _ (or_empty (codes "user") ms) (λ user user_formed.
    step_any IsJobForm (or_default 100 number_at (codes "priority") ms) _ (λ priority.
    step_any IsJobForm (or_default 3 number_at (codes "max_retries") ms) _ (λ max_retries.
    step_any IsJobForm (or_default false flag_at (codes "auto_eat") ms) _ (λ auto_eat.
    step_any IsJobForm (or_default false flag_at (codes "paused") ms) _ (λ paused.
    step (All IsLayerForm) IsJobForm (list_of (codes "layers") layer_form_at ms) _ (list_formed IsLayerForm (codes "layers") layer_form_at layer_form_formed ms) (λ layers layered.
    step (All (IsFormedOwn name)) IsJobForm (or_default [] (own_depends name) (codes "depends") ms) _ (depends_formed name (codes "depends") ms named) (λ depends depending.
    step_any IsJobForm (others_at job_keys ms) _ (λ none.
    record { name = named; show = shown; facility = placed; shot = shot_formed; user = user_formed; each_layer = layered; each_depend = depending }))))))))))))

-- ---- amounts

between_is : (least most amount : ℕ) → is_between least most amount ≡ true → IsBetween least most amount
between_is least most amount h = let parts = and_parts (nat_le least amount) (nat_le amount most) h in (leb-true least amount parts.0, leb-true amount most parts.1)

within_if : (field : List ℕ) (least most amount : ℕ) (b : Bool) → is_between least most amount ≡ b → IfOk {E = SpecError} (cond b (Ok tt) (Err (Amount field))) (λ (none : ⊤). IsBetween least most amount)
within_if field least most amount true h = between_is least most amount h
within_if field least most amount false h = tt

pub within_formed : (field : List ℕ) (least most amount : ℕ) → IfOk (within field least most amount) (λ none. IsBetween least most amount)
within_formed field least most amount = within_if field least most amount (is_between least most amount) refl

sections_formed : (layer : List ℕ) (read : Result (List Section) RangeFault) → IfOk (range_of layer read) (λ sections. read ≡ Ok sections)
sections_formed layer (Ok sections) = refl
sections_formed layer (Err fault) = tt

cores_formed : (field : List ℕ) (read : Option ℕ) → IfOk (layer_cores field read) (λ cores. IsBetween LEAST_CORES MOST_CORES cores)
cores_formed field None = tt
cores_formed field (Some cores) =
    step (λ none. IsBetween LEAST_CORES MOST_CORES cores) (λ cores. IsBetween LEAST_CORES MOST_CORES cores) (within field LEAST_CORES MOST_CORES cores) _ (within_formed field LEAST_CORES MOST_CORES cores) (λ none between. between)

-- ---- ranges

-- the text that a set prints as is a range's
printed_range : (text : List ℕ) (sections : List Section) → set_of text ≡ Ok sections → length text ≤ MOST_RANGE → is_range_text (printed sections) ≡ true
printed_range text sections read short =
    let shorter : length (printed sections) ≤ MOST_RANGE = omega (arith, printed_short text sections read) in
    range_formed (printed sections) sections (read_again text sections read) refl shorter

-- ---- layers and jobs

layer_made : (form : LayerForm) (sections : List Section) (cores : ℕ) → IsLayerForm form → length form.range ≤ MOST_RANGE → set_of form.range ≡ Ok sections
    → IsBetween 1 MOST_COMMAND (length form.command) → IsBetween LEAST_CORES MOST_CORES cores → IsBetween LEAST_MEMORY MOST_MEMORY form.memory
    → IsBetween 1 MOST_TAGS (length form.tags) → IsFormedLayer (layer_with form sections cores)
layer_made form sections cores ok short read commanded some enough tagged = record {
  name = ok.name;
  range = printed_range form.range sections read short;
  numbers_are = sym (numbers_said (printed sections) sections (read_again form.range sections read));
  command = ok.command;
  tags = ok.tags;
  limit = ok.limit;
  limits = record {
    some = numbers_some sections (read_set form.range sections read);
    distinct = numbers_distinct sections;
    command_within = commanded;
    cores_within = some;
    memory_within = enough;
    tags_within = tagged;
  };
}

layer_formed : (form : LayerForm) → IsLayerForm form → IfOk (layer_of form) IsFormedLayer
unfolding layer_of
layer_formed form ok =
    step (λ none. IsBetween 0 MOST_RANGE (length form.range)) IsFormedLayer (within (codes "range") 0 MOST_RANGE (length form.range)) _ (within_formed (codes "range") 0 MOST_RANGE (length form.range)) (λ none short.
    step (λ sections. set_of form.range ≡ Ok sections) IsFormedLayer (range_of form.name (set_of form.range)) _ (sections_formed form.name (set_of form.range)) (λ sections read.
    step (λ none. IsBetween 1 MOST_COMMAND (length form.command)) IsFormedLayer (within (codes "command") 1 MOST_COMMAND (length form.command)) _ (within_formed (codes "command") 1 MOST_COMMAND (length form.command)) (λ none commanded.
    step (λ cores. IsBetween LEAST_CORES MOST_CORES cores) IsFormedLayer (layer_cores (codes "cores") (cores_of form.cores)) _ (cores_formed (codes "cores") (cores_of form.cores)) (λ cores some.
    step (λ none. IsBetween LEAST_MEMORY MOST_MEMORY form.memory) IsFormedLayer (within (codes "memory") LEAST_MEMORY MOST_MEMORY form.memory) _ (within_formed (codes "memory") LEAST_MEMORY MOST_MEMORY form.memory) (λ none enough.
    step (λ none. IsBetween 1 MOST_TAGS (length form.tags)) IsFormedLayer (within (codes "tags") 1 MOST_TAGS (length form.tags)) _ (within_formed (codes "tags") 1 MOST_TAGS (length form.tags)) (λ none tagged.
    layer_made form sections cores ok short.1 read commanded some enough tagged))))))

-- each of the layers is so, and there are as many as forms
abbrev AreLayers : List LayerForm → List LayerSpec → Type 0
AreLayers forms layers = All IsFormedLayer layers × (length layers ≡ length forms)

layers_formed : (forms : List LayerForm) → All IsLayerForm forms → IfOk (layers_of forms) (AreLayers forms)
layers_formed [] ok = (All-nil IsFormedLayer, refl)
layers_formed (form ∷ forms) ok =
    step IsFormedLayer (AreLayers (form ∷ forms)) (layer_of form) _ (layer_formed form (All-head IsLayerForm form forms ok)) (λ layer made.
    step (AreLayers forms) (AreLayers (form ∷ forms)) (layers_of forms) _ (layers_formed forms (All-tail IsLayerForm form forms ok)) (λ layers rest.
    (All-cons IsFormedLayer layer layers made rest.0, ap suc rest.1)))

job_formed : (form : JobForm) → IsJobForm form → IfOk (job_of form) IsFormedJob
unfolding job_of
job_formed form ok =
    step (λ none. IsBetween 1 MOST_PRIORITY form.priority) IsFormedJob (within (codes "priority") 1 MOST_PRIORITY form.priority) _ (within_formed (codes "priority") 1 MOST_PRIORITY form.priority) (λ none ranked.
    step (λ none. IsBetween 0 MOST_RETRIES form.max_retries) IsFormedJob (within (codes "max_retries") 0 MOST_RETRIES form.max_retries) _ (within_formed (codes "max_retries") 0 MOST_RETRIES form.max_retries) (λ none retried.
    step (λ none. IsBetween 1 MOST_LAYERS (length form.layers)) IsFormedJob (within (codes "layers") 1 MOST_LAYERS (length form.layers)) _ (within_formed (codes "layers") 1 MOST_LAYERS (length form.layers)) (λ none layered.
    step (AreLayers form.layers) IsFormedJob (layers_of form.layers) _ (layers_formed form.layers ok.each_layer) (λ layers made.
    step (λ none. IsBetween 1 MOST_FRAMES (frames_in layers)) IsFormedJob (within (codes "layers") 1 MOST_FRAMES (frames_in layers)) _ (within_formed (codes "layers") 1 MOST_FRAMES (frames_in layers)) (λ none framed.
    record {
      name = ok.name;
      show = ok.show;
      facility = ok.facility;
      shot = ok.shot;
      user = ok.user;
      limits = record {
        priority_within = ranked;
        retries_within = retried.1;
        layers_within = (omega (arith, layered.0, made.1), omega (arith, layered.1, made.1));
        frames_within = framed;
        each_layer = All-weaker IsFormedLayer LayerKeepsLimits (λ layer h. h.limits) layers made.0;
      };
      each_layer = made.0;
      each_depend = ok.each_depend;
    })))))

-- ---- a spec

pub first_formed : {X : Type 0} (P : X → Type 0) (read : Result X Fault) → IfOk read P → IfOk (form_first read) P
first_formed P (Ok form) h = h
first_formed P (Err fault) h = tt

pub spec_formed : (ms : Members) → IfOk (spec_at ms) IsFormedJob
unfolding spec_at
spec_formed ms = step IsJobForm IsFormedJob (form_first (job_form_at ms)) job_of (first_formed IsJobForm (job_form_at ms) (job_form_formed ms)) job_formed
