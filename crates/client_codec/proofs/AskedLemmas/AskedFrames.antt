-- The line of a frame that is killed, eaten or retried is read as that frame.
use Rattle.std.proofs.Common.{◌≡◌, true, List, ℕ, Some, Ok, IsUtf8, refl, ap}
use Rattle.std.specs.Prelude.{codes}
use Rattle.serde_json.specs.Data.{string, Members}
use Rattle.serde_json.specs.Find.{get_member}
use Rattle.cue_json.specs.Fields.{others_at}
use Rattle.farm_types.specs.declared.entry.FramePlace.{FramePlace}
use Rattle.farm_types.specs.Formed.{IsFormedFrame}
use Rattle.farm_types.specs.Forms.{is_frame_number}
use Rattle.farm_lines.specs.declared.request.Request.TheVariants as request
use Rattle.farm_lines.specs.OperatorLines.{frame_at, frame_keys, frame_of_job_at, kill_at, names_frame}
use Rattle.farm_lines.specs.Request.{asked, asks_kill}
use Rattle.farm_lines.specs.RequestText.{frame_line}
use Rattle.farm_lines.specs.Words.{signed}
use Rattle.client_codec.proofs.AskedLemmas.AskedFields.{IsReadAs, signed_back, signed_fits}
use Rattle.object_writer.proofs.DataBack.{Fits}
use Rattle.client_codec.proofs.FieldsBack.{name_back}
use Rattle.client_codec.proofs.AskedLemmas.TextsFit.{name_fits}

module _ (p : FramePlace) (h : IsFormedFrame p) (numbered : is_frame_number p.frame ≡ true) where
  place_read : (ms : Members) → get_member (codes "layer") ms ≡ Some (string p.layer) → get_member (codes "frame") ms ≡ Some (signed p.frame) → others_at frame_keys ms ≡ Ok tt
      → frame_of_job_at p.job ms ≡ Ok p
  unfolding frame_of_job_at
  place_read ms layer frame others = rw (name_back (codes "layer") ms p.layer layer h.layer, signed_back (codes "frame") ms p.frame frame numbered, others) refl

  frame_read : (ms : Members) → get_member (codes "job") ms ≡ Some (string p.job) → frame_of_job_at p.job ms ≡ Ok p → frame_at ms ≡ Ok p
  unfolding frame_at
  frame_read ms job read = rw (name_back (codes "job") ms p.job job h.job, read) refl

  killed_read : (ms : Members) → get_member (codes "job") ms ≡ Some (string p.job) → names_frame ms ≡ true → frame_of_job_at p.job ms ≡ Ok p → kill_at ms ≡ Ok (request.KillFrame p)
  unfolding kill_at
  killed_read ms job framed read = rw (name_back (codes "job") ms p.job job h.job, framed, read) refl

  pub kill_frame_read : IsReadAs (frame_line (codes "kill") p) (request.KillFrame p)
  unfolding frame_line
  kill_frame_read = ap (asked asks_kill) (killed_read _ refl refl (place_read _ refl refl refl))

  pub eat_read : IsReadAs (frame_line (codes "eat") p) (request.EatFrame p)
  unfolding frame_line
  eat_read = ap (asked request.EatFrame) (frame_read _ refl (place_read _ refl refl refl))

  pub retry_read : IsReadAs (frame_line (codes "retry") p) (request.RetryFrame p)
  unfolding frame_line
  retry_read = ap (asked request.RetryFrame) (frame_read _ refl (place_read _ refl refl refl))

  pub frame_fits : (word : List ℕ) → IsUtf8 word → Fits 1 (frame_line word p)
  unfolding frame_line
  frame_fits word text = (refl, signed_fits 0 p.frame numbered, (refl, name_fits p.job h.job, (refl, name_fits p.layer h.layer, (refl, text, tt))))
