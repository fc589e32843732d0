-- Fields that the tests of a kept farm let through: texts are UTF-8, and numbers are those of their types.
use Rattle.std.proofs.Common.{◌≡◌, ◌<◌, ◌≤◌, ◌^◌, ◌+◌, ℕ, ◌&&◌, Bool, true, false, cond, eqb, leb, ltb, List, [], ◌∷◌, length, Option, Some, None, refl, ap, sym, ◌∙◌, arith, inl, inr}
use Rattle.std.specs.Prelude.{ℤ, is_some}
use Rattle.std.specs.List.{AllByRecursion, list_all}
use Rattle.std.proofs.lemmas.Bool.{eqb-true, false≢true, leb-true, ltb-true, or_cases}
use Rattle.farm_types.specs.declared.attempt.ProcRow.{ProcRow}
use Rattle.farm_types.specs.declared.depend.DependEnd.{DependEnd}
use Rattle.farm_types.specs.declared.limits.TheConstants.{LAST_BOOT, LAST_JOB, LEAST_CORES, LEAST_MEMORY, MOST_COMMAND, MOST_CORES, MOST_FRAMES, MOST_LAYERS, MOST_MEMORY, MOST_PRIORITY, MOST_RETRIES, MOST_TAGS}
use Rattle.farm_types.specs.declared.rows.HostRow.{HostRow}
use Rattle.farm_types.specs.declared.rows.JobRow.{JobRow}
use Rattle.farm_types.specs.declared.rows.LayerRow.{LayerRow}
use Rattle.farm_types.specs.declared.states.FrameState.{FrameState}
use Rattle.farm_types.specs.declared.states.FrameState.TheVariants as frame_state
use Rattle.farm_types.specs.Formed.{is_layer_name}
use Rattle.farm_types.specs.Forms.{is_between, is_command_text, is_name_or_empty, is_name_text, is_tag_text}
use Rattle.farm_types.specs.Farm.{for_any}
use Rattle.farm_types.specs.Kept.{are_tags, is_formed_end, is_formed_host, is_formed_job, is_formed_layer, is_given, is_number_named}
use Rattle.farm_types.specs.Ranges.{is_range_text}
use Rattle.farm_types.proofs.Lists.{and_both}
use Rattle.farm_types.proofs.Utf8.{ascii_utf8, name_utf8, tag_utf8}
use Rattle.farm_rows.specs.Rows.{running_state, stored_state}
use Rattle.row_codec.specs.RowLaws.{EndFits, FrameNamed, IsText, LayerNamed, StateFits}

-- ---- numbers and texts

within_most : (least most b : ℕ) → is_between least most b ≡ true → b ≤ most
within_most least most b h = leb-true b most (and_both (leb least b) (leb b most) h).1

tags_fit : (tags : List (List ℕ)) → list_all is_tag_text tags ≡ true → AllByRecursion IsText tags
tags_fit [] h = tt
tags_fit (t ∷ ts) h =
    let both = and_both (is_tag_text t) (list_all is_tag_text ts) h in
    (tag_utf8 t both.0, tags_fit ts both.1)

pub are_texts : (least : ℕ) (tags : List (List ℕ)) → are_tags least tags ≡ true → AllByRecursion IsText tags
are_texts least tags h = tags_fit tags (and_both (is_between least MOST_TAGS (length tags)) (list_all is_tag_text tags) h).1

empty_text : (text : List ℕ) → length text ≡ 0 → IsText text
empty_text [] h = ascii_utf8 [] refl
empty_text (b ∷ bs) h = absurd (omega (arith, h))

pub name_or_empty : (text : List ℕ) → is_name_or_empty text ≡ true → IsText text
name_or_empty text h = elim (or_cases (eqb (length text) 0) (is_name_text text) h) [
  | inl none ↦ empty_text text (eqb-true (length text) 0 none)
  | inr name ↦ name_utf8 text name
]

-- ---- the parts of tests

pub record HostParts (x : HostRow) : Type 0 where
  pub name : is_name_text x.name ≡ true
  pub tags : are_tags 0 x.tags ≡ true
  pub cores : x.cores ≤ MOST_CORES
  pub memory : x.memory ≤ MOST_MEMORY
  pub boot : x.boot ≤ LAST_BOOT
  pub nonce : x.nonce < 2 ^ 64
  pub seq : x.seq < 2 ^ 64

pub host_parts : (x : HostRow) → is_formed_host x ≡ true → HostParts x
host_parts x h =
    let name = and_both (is_name_text x.name) _ h in
    let tags = and_both (are_tags 0 x.tags) _ name.1 in
    let cores = and_both (is_between LEAST_CORES MOST_CORES x.cores) _ tags.1 in
    let memory = and_both (is_between LEAST_MEMORY MOST_MEMORY x.memory) _ cores.1 in
    let boot = and_both (is_between 1 LAST_BOOT x.boot) _ memory.1 in
    let nonce = and_both (ltb x.nonce (2 ^ 64)) (ltb x.seq (2 ^ 64)) boot.1 in
    record {
      name = name.0;
      tags = tags.0;
      cores = within_most LEAST_CORES MOST_CORES x.cores cores.0;
      memory = within_most LEAST_MEMORY MOST_MEMORY x.memory memory.0;
      boot = within_most 1 LAST_BOOT x.boot boot.0;
      nonce = ltb-true x.nonce (2 ^ 64) nonce.0;
      seq = ltb-true x.seq (2 ^ 64) nonce.1;
    }

pub record JobParts (shows : ℕ) (x : JobRow) : Type 0 where
  pub name : is_name_text x.name ≡ true
  pub show : x.show < shows
  pub facility : is_tag_text x.facility ≡ true
  pub shot : is_name_or_empty x.shot ≡ true
  pub user : is_name_or_empty x.user ≡ true
  pub priority : x.priority ≤ MOST_PRIORITY
  pub max_retries : x.max_retries ≤ MOST_RETRIES
  pub frames : x.frames ≤ MOST_FRAMES

pub job_parts : (shows : ℕ) (x : JobRow) → is_formed_job shows x ≡ true → JobParts shows x
job_parts shows x h =
    let name = and_both (is_name_text x.name) _ h in
    let show = and_both (ltb x.show shows) _ name.1 in
    let facility = and_both (is_tag_text x.facility) _ show.1 in
    let shot = and_both (is_name_or_empty x.shot) _ facility.1 in
    let user = and_both (is_name_or_empty x.user) _ shot.1 in
    let priority = and_both (is_between 1 MOST_PRIORITY x.priority) _ user.1 in
    let retries = and_both (leb x.max_retries MOST_RETRIES) (is_between 1 MOST_FRAMES x.frames) priority.1 in
    record {
      name = name.0;
      show = ltb-true x.show shows show.0;
      facility = facility.0;
      shot = shot.0;
      user = user.0;
      priority = within_most 1 MOST_PRIORITY x.priority priority.0;
      max_retries = leb-true x.max_retries MOST_RETRIES retries.0;
      frames = within_most 1 MOST_FRAMES x.frames retries.1;
    }

pub record LayerParts (x : LayerRow) : Type 0 where
  pub name : is_name_text x.name ≡ true
  pub place : x.place < MOST_LAYERS
  pub range : is_range_text x.range ≡ true
  pub command : is_command_text x.command ≡ true
  pub cores : x.cores ≤ MOST_CORES
  pub memory : x.memory ≤ MOST_MEMORY
  pub tags : are_tags 1 x.tags ≡ true

pub layer_parts : (x : LayerRow) → is_formed_layer x ≡ true → LayerParts x
layer_parts x h =
    let name = and_both (is_name_text x.name) _ h in
    let place = and_both (ltb x.place MOST_LAYERS) _ name.1 in
    let range = and_both (is_range_text x.range) _ place.1 in
    let long = and_both (is_between 1 MOST_COMMAND (length x.command)) _ range.1 in
    let command = and_both (is_command_text x.command) _ long.1 in
    let cores = and_both (is_between LEAST_CORES MOST_CORES x.cores) _ command.1 in
    let memory = and_both (is_between LEAST_MEMORY MOST_MEMORY x.memory) (are_tags 1 x.tags) cores.1 in
    record {
      name = name.0;
      place = ltb-true x.place MOST_LAYERS place.0;
      range = range.0;
      command = command.0;
      cores = within_most LEAST_CORES MOST_CORES x.cores cores.0;
      memory = within_most LEAST_MEMORY MOST_MEMORY x.memory memory.0;
      tags = memory.1;
    }

pub finish_fits : (pending : Bool) (finish next : ℕ) → next ≤ LAST_JOB + 1 → cond pending (eqb finish 0) (ltb 0 finish && ltb finish next) ≡ true → finish < 2 ^ 64
finish_fits true finish next most h = omega (arith, eqb-true finish 0 h)
finish_fits false finish next most h = omega (arith, most, ltb-true finish next (and_both (ltb 0 finish) (ltb finish next) h).1)

pub counts_fit : (pending : Bool) (eaten succeeded frames : ℕ) → frames ≤ MOST_FRAMES → cond pending (eqb eaten 0 && eqb succeeded 0) (eqb (eaten + succeeded) frames) ≡ true
    → (eaten < 2 ^ 32) × (succeeded < 2 ^ 32)
counts_fit true eaten succeeded frames most h =
    let both = and_both (eqb eaten 0) (eqb succeeded 0) h in
    (omega (arith, eqb-true eaten 0 both.0), omega (arith, eqb-true succeeded 0 both.1))
counts_fit false eaten succeeded frames most h =
    let sum = eqb-true (eaten + succeeded) frames h in
    (omega (arith, most, sum), omega (arith, most, sum))

-- ---- ends of depends

named_layer : (layered : Bool) (o : Option (List ℕ)) → is_given layered o ≡ true → is_some o ≡ layered
named_layer true o h = h
named_layer false None h = refl
named_layer false (Some name) h = absurd (false≢true h)

named_frame : (framed : Bool) (o : Option ℤ) → is_given framed o ≡ true → is_some o ≡ framed
named_frame true o h = h
named_frame false None h = refl
named_frame false (Some number) h = absurd (false≢true h)

layer_fits : (o : Option (List ℕ)) → is_layer_name o ≡ true → LayerNamed o
layer_fits None h = tt
layer_fits (Some name) h = name_utf8 name h

frame_fits : (o : Option ℤ) → is_number_named o ≡ true → FrameNamed o
frame_fits None h = tt
frame_fits (Some number) h = h

pub end_fits : (layered framed : Bool) (e : DependEnd) → is_formed_end layered framed e ≡ true → EndFits layered framed e
end_fits layered framed e h =
    let job = and_both (is_between 1 LAST_JOB e.job) _ h in
    let has_layer = and_both (is_given layered e.layer) _ job.1 in
    let layer = and_both (is_layer_name e.layer) _ has_layer.1 in
    let frame = and_both (is_given framed e.frame) (is_number_named e.frame) layer.1 in
    record {
      job = omega (arith, within_most 1 LAST_JOB e.job job.0);
      has_layer = named_layer layered e.layer has_layer.0;
      has_frame = named_frame framed e.frame frame.0;
      layer = layer_fits e.layer layer.0;
      frame = frame_fits e.frame frame.1;
    }

-- ---- attempts

abbrev pub ProcFits : ProcRow → Type 0
ProcFits p = (p.boot < 2 ^ 32) × (p.host < 2 ^ 16) × (p.since < 2 ^ 64)

running_fits : (proc : Option ProcRow) → ((p : ProcRow) → proc ≡ Some p → ProcFits p) → StateFits (running_state proc)
running_fits None each = (omega arith, omega arith, omega arith)
running_fits (Some p) each = each p refl

pub state_fits : (proc : Option ProcRow) → ((p : ProcRow) → proc ≡ Some p → ProcFits p) → (state : FrameState) → StateFits (stored_state proc state)
state_fits proc each frame_state.Waiting = tt
state_fits proc each frame_state.Setup = tt
state_fits proc each frame_state.Running = running_fits proc each
state_fits proc each frame_state.Succeeded = tt
state_fits proc each frame_state.Depend = tt
state_fits proc each frame_state.Dead = tt
state_fits proc each frame_state.Eaten = tt

-- a test of an attempt that is there
pub tested : (o : Option ProcRow) (test : ProcRow → Bool) (p : ProcRow) → for_any o test ≡ true → o ≡ Some p → test p ≡ true
tested o test p h is = sym (ap (λ (q : Option ProcRow). for_any q test) is) ∙ h
