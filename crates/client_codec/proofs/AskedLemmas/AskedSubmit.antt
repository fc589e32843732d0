-- The line of a job's spec is read as that spec.
use Rattle.std.proofs.Common.{◌≡◌, ℕ, Bool, false, List, [], length, Some, Ok, refl, sym, subst, ap, ◌∙◌, arith}
use Rattle.std.specs.Prelude.{codes, map}
use Rattle.std.proofs.lemmas.List.{length-map}
use Rattle.json.proofs.Printed.Utf8.{IsUtf8-are_ascii}
use Rattle.serde_json.specs.Data.{array, boolean, string, Members}
use Rattle.serde_json.specs.Find.{get_member}
use Rattle.serde_json.specs.View.{items_of}
use Rattle.cue_json.specs.Fields.{◌>>=◌, flag_at, others_at}
use Rattle.farm_types.specs.declared.job.JobSpec.{JobSpec}
use Rattle.farm_types.specs.declared.limits.TheConstants.{MOST_FRAMES, MOST_LAYERS, MOST_PRIORITY, MOST_RETRIES}
use Rattle.farm_types.specs.Formed.{IsFormedJob, IsFormedLayer, IsFormedOwn}
use Rattle.farm_types.specs.Forms.{is_tag_text}
use Rattle.farm_types.specs.Jobs.{frames_in}
use Rattle.farm_types.specs.Limits.{IsBetween}
use Rattle.farm_lines.specs.declared.job_form.JobForm.{JobForm}
use Rattle.farm_lines.specs.declared.request.Request.TheVariants as request
use Rattle.farm_lines.specs.DependLines.{own_depend_at, own_depends}
use Rattle.farm_lines.specs.Fields.{or_default}
use Rattle.farm_lines.specs.Request.{after_others, judged, submit_at}
use Rattle.farm_lines.specs.RequestText.{layer_data, own_depend_data, spec_data, submit_line}
use Rattle.farm_lines.specs.Spec.{form_first, job_form_at, job_keys, job_of, layer_form_at, number_at, spec_at}
use Rattle.farm_lines.specs.Words.{whole}
use Rattle.client_codec.proofs.AskedLemmas.AskedFields.{IsReadAs, list_back, list_seen, number_back, or_empty_back, there, within_back}
use Rattle.client_codec.proofs.AskedLemmas.AskedLayers.{form_of, layer_fits, layer_read, layers_back}
use Rattle.client_codec.proofs.AskedLemmas.AskedOwn.{own_fits, own_read}
use Rattle.object_writer.proofs.DataBack.{Fits}
use Rattle.client_codec.proofs.FieldsBack.{fields_in, flag_back, form_back, name_back}
use Rattle.client_codec.proofs.ItemsBack.{items_fit}
use Rattle.client_codec.proofs.AskedLemmas.TextsFit.{name_fits, name_or_empty_fits, tag_fits}

-- the fields of a job, before its amounts are tried
abbrev job_form : JobSpec → JobForm
job_form s =
    record {
      name = s.name;
      show = s.show;
      facility = s.facility;
      shot = s.shot;
      user = s.user;
      priority = s.priority;
      max_retries = s.max_retries;
      auto_eat = s.auto_eat;
      paused = s.paused;
      layers = map form_of s.layers;
      depends = s.depends;
    }

-- a flag, which is there though it may be left out
or_false_back : (field : List ℕ) (ms : Members) (b : Bool) → get_member field ms ≡ Some (boolean b) → or_default false flag_at field ms ≡ Ok b
or_false_back field ms b found = there field ms false b flag_at (boolean b) found (flag_back field ms b found)

module _ (s : JobSpec) (h : IsFormedJob s) where
  form_read : (ms : Members) → get_member (codes "auto_eat") ms ≡ Some (boolean s.auto_eat) → get_member (codes "depends") ms ≡ Some (array (items_of (map own_depend_data s.depends)))
      → get_member (codes "facility") ms ≡ Some (string s.facility) → get_member (codes "layers") ms ≡ Some (array (items_of (map layer_data s.layers)))
      → get_member (codes "max_retries") ms ≡ Some (whole s.max_retries) → get_member (codes "name") ms ≡ Some (string s.name) → get_member (codes "paused") ms ≡ Some (boolean s.paused)
      → get_member (codes "priority") ms ≡ Some (whole s.priority) → get_member (codes "shot") ms ≡ Some (string s.shot) → get_member (codes "show") ms ≡ Some (string s.show)
      → get_member (codes "user") ms ≡ Some (string s.user) → others_at job_keys ms ≡ Ok tt → job_form_at ms ≡ Ok (job_form s)
  unfolding job_form_at
  form_read ms auto_eat depends facility layers max_retries name paused priority shot show user others =
      rw (
        name_back (codes "name") ms s.name name h.name,
        name_back (codes "show") ms s.show show h.show,
        form_back (codes "facility") ms is_tag_text s.facility facility h.facility,
        or_empty_back (codes "shot") ms s.shot shot h.shot,
        or_empty_back (codes "user") ms s.user user h.user,
        there (codes "priority") ms 100 s.priority number_at (whole s.priority) priority (number_back (codes "priority") ms s.priority priority (omega (arith, h.limits.priority_within.1))),
        there (codes "max_retries") ms 3 s.max_retries number_at (whole s.max_retries) max_retries (number_back (codes "max_retries") ms s.max_retries max_retries (omega (arith, h.limits.retries_within))),
        or_false_back (codes "auto_eat") ms s.auto_eat auto_eat,
        or_false_back (codes "paused") ms s.paused paused,
        list_seen (codes "layers") ms layer_data form_of layer_form_at IsFormedLayer (λ l ok. layer_read l ok (codes "layers")) s.layers layers h.each_layer,
        there (codes "depends") ms [] s.depends (own_depends s.name) (array (items_of (map own_depend_data s.depends))) depends
            (list_back (codes "depends") ms own_depend_data (own_depend_at s.name) (IsFormedOwn s.name) (own_read s.name (codes "depends")) s.depends depends h.each_depend),
        others,
      ) refl

  layers_within : IsBetween 1 MOST_LAYERS (length (map form_of s.layers))
  layers_within = subst (IsBetween 1 MOST_LAYERS) (sym (length-map s.layers form_of)) h.limits.layers_within

  amounts_within : job_of (job_form s) ≡ Ok s
  unfolding job_of
  amounts_within =
      rw (
        within_back (codes "priority") 1 MOST_PRIORITY s.priority h.limits.priority_within,
        within_back (codes "max_retries") 0 MOST_RETRIES s.max_retries (omega arith, h.limits.retries_within),
        within_back (codes "layers") 1 MOST_LAYERS (length (map form_of s.layers)) layers_within,
        layers_back s.layers h.each_layer,
        within_back (codes "layers") 1 MOST_FRAMES (frames_in s.layers) h.limits.frames_within,
      ) refl

  spec_read : spec_at (fields_in (spec_data s)) ≡ Ok s
  unfolding spec_at spec_data
  spec_read = ap (λ r. form_first r >>= job_of) (form_read _ refl refl refl refl refl refl refl refl refl refl refl refl) ∙ amounts_within

  pub submit_read : IsReadAs (submit_line s) (request.Submit s)
  unfolding submit_line submit_at spec_data
  submit_read = ap (λ r. judged request.Submit (after_others r (Ok tt))) spec_read

  pub submit_fits : Fits 5 (submit_line s)
  unfolding submit_line spec_data
  submit_fits = (
    refl,
    (
      refl,
      tt,
      (
        refl,
        items_fit own_depend_data (IsFormedOwn s.name) 2 (own_fits s.name) s.depends h.each_depend,
        (
          refl,
          tag_fits s.facility h.facility,
          (
            refl,
            items_fit layer_data IsFormedLayer 2 layer_fits s.layers h.each_layer,
            (
              refl,
              omega (arith, h.limits.retries_within),
              (
                refl,
                name_fits s.name h.name,
                (
                  refl,
                  tt,
                  (refl, omega (arith, h.limits.priority_within.1), (refl, name_or_empty_fits s.shot h.shot, (refl, name_fits s.show h.show, (refl, name_or_empty_fits s.user h.user, tt)))),
                ),
              ),
            ),
          ),
        ),
      ),
    ),
    (refl, IsUtf8-are_ascii (codes "submit") refl, tt),
  )
