-- The line of a depend is read as that depend.
use Rattle.std.proofs.Common.{◌≡◌, Some, None, Ok, refl, ap, ◌∙◌}
use Rattle.std.specs.Prelude.{codes, false, option_map}
use Rattle.json.proofs.Printed.Utf8.{IsUtf8-are_ascii}
use Rattle.serde_json.specs.Data.{boolean, string, Members}
use Rattle.serde_json.specs.Find.{as_str, get_member}
use Rattle.cue_json.specs.Fields.{first_other, flag_at, no_other, of_member}
use Rattle.farm_types.specs.declared.depend.DependSpec.{DependSpec}
use Rattle.farm_types.specs.Formed.{IsFormedDepend}
use Rattle.state_names.specs.Words.{kind_of, kind_word}
use Rattle.farm_lines.specs.declared.request.Request.TheVariants as request
use Rattle.farm_lines.specs.DependLines.{depend_at, depend_keys}
use Rattle.farm_lines.specs.Request.{after_op, asked}
use Rattle.farm_lines.specs.RequestText.{depend_line}
use Rattle.farm_lines.specs.Words.{signed}
use Rattle.client_codec.proofs.AskedLemmas.AskedEnds.{frame_expected, frame_fits, layer_expected, layer_fits, on_frame_expected, on_layer_expected, target_read, waiter_read}
use Rattle.client_codec.proofs.AskedLemmas.AskedFields.{IsReadAs, there}
use Rattle.client_codec.proofs.AskedLemmas.AskedOptions.{adds_fit, expected, optional_signed, optional_text, own, skip}
use Rattle.object_writer.proofs.DataBack.{Fits}
use Rattle.client_codec.proofs.FieldsBack.{fields_in, flag_back, name_back, word_back}
use Rattle.client_codec.proofs.AskedLemmas.TextsFit.{name_fits}
use Rattle.state_names.proofs.WordsBack.{kind_back, kind_utf8}

module _ (d : DependSpec) (h : IsFormedDepend d) where
  parts_read : (ms : Members) → get_member (codes "any") ms ≡ Some (boolean d.any) → get_member (codes "frame") ms ≡ option_map signed d.waiter.frame → get_member (codes "job") ms ≡ Some (string d.waiter.job)
      → get_member (codes "kind") ms ≡ Some (string (kind_word d.kind)) → get_member (codes "layer") ms ≡ option_map string d.waiter.layer
      → get_member (codes "on_frame") ms ≡ option_map signed d.target.frame → get_member (codes "on_job") ms ≡ Some (string d.target.job)
      → get_member (codes "on_layer") ms ≡ option_map string d.target.layer → first_other (depend_keys d.kind) ms ≡ None → depend_at ms ≡ Ok d
  unfolding depend_at
  parts_read ms any frame job kind layer on_frame on_job on_layer others =
      rw (
        word_back (codes "kind") ms kind_of (kind_word d.kind) d.kind kind (kind_back d.kind),
        there (codes "any") ms false d.any flag_at (boolean d.any) any (flag_back (codes "any") ms d.any any),
        name_back (codes "job") ms d.waiter.job job h.waiter.job,
        waiter_read d h ms layer frame,
        name_back (codes "on_job") ms d.target.job on_job h.target.job,
        target_read d h ms on_layer on_frame,
        ap no_other others,
      ) refl

  abbrev fields : Members
  fields = fields_in (depend_line d)

  frame_found : get_member (codes "frame") fields ≡ option_map signed d.waiter.frame
  unfolding depend_line
  frame_found =
      own optional_signed (codes "frame") d.waiter.frame _ refl
      (skip optional_text (codes "frame") (codes "layer") d.waiter.layer _ None refl
      (skip optional_signed (codes "frame") (codes "on_frame") d.target.frame _ None refl
      (skip optional_text (codes "frame") (codes "on_layer") d.target.layer _ None refl refl)))

  job_found : get_member (codes "job") fields ≡ Some (string d.waiter.job)
  unfolding depend_line
  job_found = skip optional_signed (codes "job") (codes "frame") d.waiter.frame _ _ refl refl

  kind_found : get_member (codes "kind") fields ≡ Some (string (kind_word d.kind))
  unfolding depend_line
  kind_found = skip optional_signed (codes "kind") (codes "frame") d.waiter.frame _ _ refl refl

  layer_found : get_member (codes "layer") fields ≡ option_map string d.waiter.layer
  unfolding depend_line
  layer_found =
      skip optional_signed (codes "layer") (codes "frame") d.waiter.frame _ _ refl
      (own optional_text (codes "layer") d.waiter.layer _ refl
      (skip optional_signed (codes "layer") (codes "on_frame") d.target.frame _ None refl
      (skip optional_text (codes "layer") (codes "on_layer") d.target.layer _ None refl refl)))

  on_frame_found : get_member (codes "on_frame") fields ≡ option_map signed d.target.frame
  unfolding depend_line
  on_frame_found =
      skip optional_signed (codes "on_frame") (codes "frame") d.waiter.frame _ _ refl
      (skip optional_text (codes "on_frame") (codes "layer") d.waiter.layer _ _ refl
      (own optional_signed (codes "on_frame") d.target.frame _ refl
      (skip optional_text (codes "on_frame") (codes "on_layer") d.target.layer _ None refl refl)))

  on_job_found : get_member (codes "on_job") fields ≡ Some (string d.target.job)
  unfolding depend_line
  on_job_found =
      skip optional_signed (codes "on_job") (codes "frame") d.waiter.frame _ _ refl
      (skip optional_text (codes "on_job") (codes "layer") d.waiter.layer _ _ refl
      (skip optional_signed (codes "on_job") (codes "on_frame") d.target.frame _ _ refl refl))

  on_layer_found : get_member (codes "on_layer") fields ≡ option_map string d.target.layer
  unfolding depend_line
  on_layer_found =
      skip optional_signed (codes "on_layer") (codes "frame") d.waiter.frame _ _ refl
      (skip optional_text (codes "on_layer") (codes "layer") d.waiter.layer _ _ refl
      (skip optional_signed (codes "on_layer") (codes "on_frame") d.target.frame _ _ refl
      (own optional_text (codes "on_layer") d.target.layer _ refl refl)))

  op_found : get_member (codes "op") fields ≡ Some (string (codes "depend"))
  unfolding depend_line
  op_found =
      skip optional_signed (codes "op") (codes "frame") d.waiter.frame _ _ refl
      (skip optional_text (codes "op") (codes "layer") d.waiter.layer _ _ refl
      (skip optional_signed (codes "op") (codes "on_frame") d.target.frame _ _ refl
      (skip optional_text (codes "op") (codes "on_layer") d.target.layer _ _ refl refl)))

  all_expected : first_other (depend_keys d.kind) fields ≡ None
  unfolding depend_line
  all_expected =
      expected optional_signed (depend_keys d.kind) (codes "frame") d.waiter.frame _ (frame_expected d h)
      (expected optional_text (depend_keys d.kind) (codes "layer") d.waiter.layer _ (layer_expected d h)
      (expected optional_signed (depend_keys d.kind) (codes "on_frame") d.target.frame _ (on_frame_expected d h)
      (expected optional_text (depend_keys d.kind) (codes "on_layer") d.target.layer _ (on_layer_expected d h) refl)))

  any_found : get_member (codes "any") fields ≡ Some (boolean d.any)
  unfolding depend_line
  any_found = refl

  fields_read : depend_at fields ≡ Ok d
  fields_read = parts_read fields any_found frame_found job_found kind_found layer_found on_frame_found on_job_found on_layer_found all_expected

  pub depend_read : IsReadAs (depend_line d) (request.Depend d)
  unfolding depend_line
  depend_read = ap (after_op fields) (ap (of_member (codes "op") as_str) op_found) ∙ ap (asked request.Depend) fields_read

  pub depend_fits : Fits 1 (depend_line d)
  unfolding depend_line
  depend_fits = (
    refl,
    tt,
    adds_fit optional_signed 0 (codes "any") (codes "frame") d.waiter.frame _ refl (frame_fits 0 d.waiter.frame h.waiter.frame_named) (
      refl,
      name_fits d.waiter.job h.waiter.job,
      (
        refl,
        kind_utf8 d.kind,
        adds_fit optional_text 0 (codes "kind") (codes "layer") d.waiter.layer _ refl (layer_fits 0 d.waiter.layer h.waiter.layer_name)
            (adds_fit optional_signed 0 (codes "layer") (codes "on_frame") d.target.frame _ refl (frame_fits 0 d.target.frame h.target.frame_named) (
              refl,
              name_fits d.target.job h.target.job,
              adds_fit optional_text 0 (codes "on_job") (codes "on_layer") d.target.layer _ refl (layer_fits 0 d.target.layer h.target.layer_name)
                  (refl, IsUtf8-are_ascii (codes "depend") refl, tt),
            )),
      ),
    ),
  )
