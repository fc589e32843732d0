-- A depend in the spec of its own job is read as that depend.
use Rattle.std.proofs.Common.{◌≡◌, ℕ, List, Some, None, Ok, refl, ap, subst}
use Rattle.std.specs.Prelude.{codes, false, option_map}
use Rattle.serde_json.specs.Data.{boolean, string, Members}
use Rattle.serde_json.specs.Find.{get_member}
use Rattle.cue_json.specs.Fields.{first_other, flag_at, no_other}
use Rattle.cue_json.specs.Items.{item_at}
use Rattle.farm_types.specs.declared.depend.DependSpec.{DependSpec}
use Rattle.farm_types.specs.Formed.{IsFormedDepend, IsFormedOwn}
use Rattle.state_names.specs.Words.{kind_of, kind_word}
use Rattle.farm_lines.specs.DependLines.{own_depend_at, own_keys}
use Rattle.farm_lines.specs.Fields.{name_at}
use Rattle.farm_lines.specs.RequestText.{own_depend_data}
use Rattle.farm_lines.specs.Words.{signed}
use Rattle.client_codec.proofs.AskedLemmas.AskedEnds.{frame_expected, frame_fits, layer_expected, layer_fits, on_frame_expected, on_layer_expected, target_read, waiter_read}
use Rattle.client_codec.proofs.AskedLemmas.AskedFields.{there}
use Rattle.client_codec.proofs.AskedLemmas.AskedOptions.{adds_fit, expected, optional_signed, optional_text, own, skip}
use Rattle.object_writer.proofs.DataBack.{Fits}
use Rattle.client_codec.proofs.FieldsBack.{fields_in, flag_back, name_back, word_back}
use Rattle.client_codec.proofs.AskedLemmas.TextsFit.{name_fits}
use Rattle.state_names.proofs.WordsBack.{kind_back, kind_utf8}

module _ (d : DependSpec) (h : IsFormedDepend d) where
  parts_read : (ms : Members) → get_member (codes "any") ms ≡ Some (boolean d.any) → get_member (codes "frame") ms ≡ option_map signed d.waiter.frame
      → get_member (codes "kind") ms ≡ Some (string (kind_word d.kind)) → get_member (codes "layer") ms ≡ option_map string d.waiter.layer
      → get_member (codes "on_frame") ms ≡ option_map signed d.target.frame → get_member (codes "on_job") ms ≡ Some (string d.target.job)
      → get_member (codes "on_layer") ms ≡ option_map string d.target.layer → first_other (own_keys d.kind) ms ≡ None → own_depend_at d.waiter.job ms ≡ Ok d
  unfolding own_depend_at
  parts_read ms any frame kind layer on_frame on_job on_layer others =
      rw (
        word_back (codes "kind") ms kind_of (kind_word d.kind) d.kind kind (kind_back d.kind),
        there (codes "any") ms false d.any flag_at (boolean d.any) any (flag_back (codes "any") ms d.any any),
        waiter_read d h ms layer frame,
        there (codes "on_job") ms d.waiter.job d.target.job name_at (string d.target.job) on_job (name_back (codes "on_job") ms d.target.job on_job h.target.job),
        target_read d h ms on_layer on_frame,
        ap no_other others,
      ) refl

  abbrev fields : Members
  fields = fields_in (own_depend_data d)

  any_found : get_member (codes "any") fields ≡ Some (boolean d.any)
  unfolding own_depend_data
  any_found = refl

  frame_found : get_member (codes "frame") fields ≡ option_map signed d.waiter.frame
  unfolding own_depend_data
  frame_found =
      own optional_signed (codes "frame") d.waiter.frame _ refl
      (skip optional_text (codes "frame") (codes "layer") d.waiter.layer _ None refl
      (skip optional_signed (codes "frame") (codes "on_frame") d.target.frame _ None refl
      (skip optional_text (codes "frame") (codes "on_layer") d.target.layer _ None refl refl)))

  kind_found : get_member (codes "kind") fields ≡ Some (string (kind_word d.kind))
  unfolding own_depend_data
  kind_found = skip optional_signed (codes "kind") (codes "frame") d.waiter.frame _ _ refl refl

  layer_found : get_member (codes "layer") fields ≡ option_map string d.waiter.layer
  unfolding own_depend_data
  layer_found =
      skip optional_signed (codes "layer") (codes "frame") d.waiter.frame _ _ refl
      (own optional_text (codes "layer") d.waiter.layer _ refl
      (skip optional_signed (codes "layer") (codes "on_frame") d.target.frame _ None refl
      (skip optional_text (codes "layer") (codes "on_layer") d.target.layer _ None refl refl)))

  on_frame_found : get_member (codes "on_frame") fields ≡ option_map signed d.target.frame
  unfolding own_depend_data
  on_frame_found =
      skip optional_signed (codes "on_frame") (codes "frame") d.waiter.frame _ _ refl
      (skip optional_text (codes "on_frame") (codes "layer") d.waiter.layer _ _ refl
      (own optional_signed (codes "on_frame") d.target.frame _ refl
      (skip optional_text (codes "on_frame") (codes "on_layer") d.target.layer _ None refl refl)))

  on_job_found : get_member (codes "on_job") fields ≡ Some (string d.target.job)
  unfolding own_depend_data
  on_job_found =
      skip optional_signed (codes "on_job") (codes "frame") d.waiter.frame _ _ refl
      (skip optional_text (codes "on_job") (codes "layer") d.waiter.layer _ _ refl
      (skip optional_signed (codes "on_job") (codes "on_frame") d.target.frame _ _ refl refl))

  on_layer_found : get_member (codes "on_layer") fields ≡ option_map string d.target.layer
  unfolding own_depend_data
  on_layer_found =
      skip optional_signed (codes "on_layer") (codes "frame") d.waiter.frame _ _ refl
      (skip optional_text (codes "on_layer") (codes "layer") d.waiter.layer _ _ refl
      (skip optional_signed (codes "on_layer") (codes "on_frame") d.target.frame _ _ refl
      (own optional_text (codes "on_layer") d.target.layer _ refl refl)))

  all_expected : first_other (own_keys d.kind) fields ≡ None
  unfolding own_depend_data
  all_expected =
      expected optional_signed (own_keys d.kind) (codes "frame") d.waiter.frame _ (frame_expected d h)
      (expected optional_text (own_keys d.kind) (codes "layer") d.waiter.layer _ (layer_expected d h)
      (expected optional_signed (own_keys d.kind) (codes "on_frame") d.target.frame _ (on_frame_expected d h)
      (expected optional_text (own_keys d.kind) (codes "on_layer") d.target.layer _ (on_layer_expected d h) refl)))

  item_read : (field : List ℕ) → item_at field (own_depend_at d.waiter.job) (own_depend_data d) ≡ Ok d
  unfolding own_depend_data
  item_read field = parts_read fields any_found frame_found kind_found layer_found on_frame_found on_job_found on_layer_found all_expected

  item_fits : Fits 2 (own_depend_data d)
  unfolding own_depend_data
  item_fits = (
    refl,
    tt,
    adds_fit optional_signed 1 (codes "any") (codes "frame") d.waiter.frame _ refl (frame_fits 1 d.waiter.frame h.waiter.frame_named) (
      refl,
      kind_utf8 d.kind,
      adds_fit optional_text 1 (codes "kind") (codes "layer") d.waiter.layer _ refl (layer_fits 1 d.waiter.layer h.waiter.layer_name)
          (adds_fit optional_signed 1 (codes "layer") (codes "on_frame") d.target.frame _ refl (frame_fits 1 d.target.frame h.target.frame_named)
          (refl, name_fits d.target.job h.target.job, adds_fit optional_text 1 (codes "on_job") (codes "on_layer") d.target.layer _ refl (layer_fits 1 d.target.layer h.target.layer_name) tt)),
    ),
  )

pub own_read : (job field : List ℕ) (d : DependSpec) → IsFormedOwn job d → item_at field (own_depend_at job) (own_depend_data d) ≡ Ok d
own_read job field d h = subst (λ job. item_at field (own_depend_at job) (own_depend_data d) ≡ Ok d) h.own (item_read d h.depend field)

pub own_fits : (job : List ℕ) (d : DependSpec) → IsFormedOwn job d → Fits 2 (own_depend_data d)
own_fits job d h = item_fits d h.depend
