-- The lines of shows, allocations, locks, dropped depends, and jobs that are paused or killed are read as what they ask.
use Rattle.std.proofs.Common.{◌≡◌, ℕ, Bool, true, false, List, [], ◌∷◌, ◌++◌, length, Some, Ok, refl, ap, arith}
use Rattle.std.specs.Prelude.{codes}
use Rattle.std.specs.List.{list_all}
use Rattle.std.proofs.lemmas.Str.{IsUtf8-append}
use Rattle.json.proofs.Printed.Utf8.{IsUtf8-are_ascii}
use Rattle.serde_json.specs.Data.{string, Members}
use Rattle.serde_json.specs.Find.{get_member}
use Rattle.cue_json.specs.Fields.{others_at}
use Rattle.farm_types.specs.declared.limits.TheConstants.{LAST_DEPEND, MOST_TAG}
use Rattle.farm_types.specs.declared.states.LockState.{LockState}
use Rattle.farm_types.specs.Forms.{is_between, is_name_text, is_tag_byte, is_tag_text}
use Rattle.farm_types.specs.Limits.{IsBetween}
use Rattle.farm_types.proofs.Lists.{and_both}
use Rattle.state_names.specs.Words.{lock_of, lock_word}
use Rattle.farm_lines.specs.declared.request.Request.TheVariants as request
use Rattle.farm_lines.specs.OperatorLines.{asks_pause, job_at, job_keys, kill_at, names_frame}
use Rattle.farm_lines.specs.Request.{alloc_at, alloc_of_name, asked, asks_alloc, asks_kill, asks_lock, drop_at, drop_keys, lock_keys, lock_line_at, name_keys, show_at}
use Rattle.farm_lines.specs.RequestText.{drop_line, job_line, lock_line, name_line, pause_word}
use Rattle.farm_lines.specs.Words.{whole}
use Rattle.client_codec.proofs.AskedLemmas.AskedFields.{IsReadAs}
use Rattle.client_codec.proofs.AskedLemmas.AskedPoints.{points}
use Rattle.object_writer.proofs.DataBack.{Fits}
use Rattle.client_codec.proofs.FieldsBack.{name_back, whole_back, word_back}
use Rattle.client_codec.proofs.AskedLemmas.TextsFit.{name_fits, tag_fits}
use Rattle.state_names.proofs.WordsBack.{lock_back, lock_utf8}

-- ---- shows

module _ (name : List ℕ) (h : is_name_text name ≡ true) where
  name_read : (ms : Members) → get_member (codes "name") ms ≡ Some (string name) → others_at name_keys ms ≡ Ok tt → show_at ms ≡ Ok name
  unfolding show_at
  name_read ms named others = rw (name_back (codes "name") ms name named h, others) refl

  pub show_read : IsReadAs (name_line (codes "show") name) (request.Show name)
  unfolding name_line
  show_read = ap (asked request.Show) (name_read _ refl refl)

  pub show_fits : Fits 1 (name_line (codes "show") name)
  unfolding name_line
  show_fits = (refl, name_fits name h, (refl, IsUtf8-are_ascii (codes "show") refl, tt))

-- ---- allocations

module _ (facility tag : List ℕ) (h : is_tag_text facility ≡ true) (t : is_tag_text tag ≡ true) where
  parts : alloc_of_name (facility ++ 46 ∷ tag) ≡ Some (record { facility = facility; tag = tag })
  parts =
      let split = points is_tag_byte refl facility tag (and_both (is_between 1 MOST_TAG (length facility)) (list_all is_tag_byte facility) h).1 in
      rw (split.0, split.1, h, t) refl

  alloc_name_read : (ms : Members) → get_member (codes "name") ms ≡ Some (string (facility ++ 46 ∷ tag)) → others_at name_keys ms ≡ Ok tt
      → alloc_at ms ≡ Ok (record { facility = facility; tag = tag })
  unfolding alloc_at
  alloc_name_read ms named others =
      rw (word_back (codes "name") ms alloc_of_name (facility ++ 46 ∷ tag) (record { facility = facility; tag = tag }) named parts, others) refl

  pub alloc_read : IsReadAs (name_line (codes "alloc") (facility ++ 46 ∷ tag)) (request.Alloc facility tag)
  unfolding name_line
  alloc_read = ap (asked asks_alloc) (alloc_name_read _ refl refl)

  pub alloc_fits : Fits 1 (name_line (codes "alloc") (facility ++ 46 ∷ tag))
  unfolding name_line
  alloc_fits = (
    refl,
    IsUtf8-append facility (46 ∷ tag) (tag_fits facility h) (IsUtf8-append (46 ∷ []) tag (IsUtf8-are_ascii (46 ∷ []) refl) (tag_fits tag t)),
    (refl, IsUtf8-are_ascii (codes "alloc") refl, tt),
  )

-- ---- locks

module _ (host : List ℕ) (lock : LockState) (h : is_name_text host ≡ true) where
  lock_line_read : (ms : Members) → get_member (codes "host") ms ≡ Some (string host) → get_member (codes "lock") ms ≡ Some (string (lock_word lock)) → others_at lock_keys ms ≡ Ok tt
      → lock_line_at ms ≡ Ok (record { host = host; lock = lock })
  unfolding lock_line_at
  lock_line_read ms named locked others =
      rw (name_back (codes "host") ms host named h, word_back (codes "lock") ms lock_of (lock_word lock) lock locked (lock_back lock), others) refl

  pub lock_read : IsReadAs (lock_line host lock) (request.Lock host lock)
  unfolding lock_line
  lock_read = ap (asked asks_lock) (lock_line_read _ refl refl refl)

  pub lock_fits : Fits 1 (lock_line host lock)
  unfolding lock_line
  lock_fits = (refl, name_fits host h, (refl, lock_utf8 lock, (refl, IsUtf8-are_ascii (codes "host") refl, tt)))

-- ---- dropped depends

module _ (depend : ℕ) (h : IsBetween 1 LAST_DEPEND depend) where
  number_read : (ms : Members) → get_member (codes "depend") ms ≡ Some (whole depend) → others_at drop_keys ms ≡ Ok tt → drop_at ms ≡ Ok depend
  unfolding drop_at
  number_read ms numbered others = rw (whole_back (codes "depend") ms 1 LAST_DEPEND depend numbered h, others) refl

  pub drop_read : IsReadAs (drop_line depend) (request.Drop depend)
  unfolding drop_line
  drop_read = ap (asked request.Drop) (number_read _ refl refl)

  pub drop_fits : Fits 1 (drop_line depend)
  unfolding drop_line
  drop_fits = (refl, omega (arith, h.1), (refl, IsUtf8-are_ascii (codes "drop") refl, tt))

-- ---- jobs

module _ (job : List ℕ) (h : is_name_text job ≡ true) where
  job_read : (ms : Members) → get_member (codes "job") ms ≡ Some (string job) → others_at job_keys ms ≡ Ok tt → job_at ms ≡ Ok job
  unfolding job_at
  job_read ms named others = rw (name_back (codes "job") ms job named h, others) refl

  pub pause_read : (paused : Bool) → IsReadAs (job_line (pause_word paused) job) (request.Pause job paused)
  unfolding job_line
  pause_read true = ap (asked (asks_pause true)) (job_read _ refl refl)
  pause_read false = ap (asked (asks_pause false)) (job_read _ refl refl)

  pub pause_fits : (paused : Bool) → Fits 1 (job_line (pause_word paused) job)
  unfolding job_line
  pause_fits true = (refl, name_fits job h, (refl, IsUtf8-are_ascii (codes "pause") refl, tt))
  pause_fits false = (refl, name_fits job h, (refl, IsUtf8-are_ascii (codes "resume") refl, tt))

  killed_read : (ms : Members) → get_member (codes "job") ms ≡ Some (string job) → names_frame ms ≡ false → others_at job_keys ms ≡ Ok tt → kill_at ms ≡ Ok (request.KillJob job)
  unfolding kill_at
  killed_read ms named whole_job others = rw (name_back (codes "job") ms job named h, whole_job, others) refl

  pub kill_job_read : IsReadAs (job_line (codes "kill") job) (request.KillJob job)
  unfolding job_line
  kill_job_read = ap (asked asks_kill) (killed_read _ refl refl refl)

  pub kill_job_fits : Fits 1 (job_line (codes "kill") job)
  unfolding job_line
  kill_job_fits = (refl, name_fits job h, (refl, IsUtf8-are_ascii (codes "kill") refl, tt))
