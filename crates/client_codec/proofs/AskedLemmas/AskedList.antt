-- The line of a list is read as that list.
use Rattle.std.proofs.Common.{◌≡◌, ℕ, ◌<◌, ◌^◌, true, List, Some, Ok, refl, ap, ◌∙◌}
use Rattle.std.specs.Prelude.{codes}
use Rattle.json.proofs.Printed.Utf8.{IsUtf8-are_ascii}
use Rattle.serde_json.specs.Data.{string, Members}
use Rattle.serde_json.specs.Find.{get_member}
use Rattle.cue_json.specs.Fields.{others_at}
use Rattle.farm_types.specs.Forms.{is_name_text}
use Rattle.farm_lines.specs.declared.query.Listed.{Listed}
use Rattle.farm_lines.specs.declared.query.Listed.TheVariants as listed
use Rattle.farm_lines.specs.declared.query.Query.{Query}
use Rattle.farm_lines.specs.declared.request.Request.TheVariants as request
use Rattle.farm_lines.specs.FormedLines.{IsFormedListed, IsFormedQuery}
use Rattle.farm_lines.specs.ListLines.{listed_at, of_job_at, query_at, query_keys}
use Rattle.farm_lines.specs.Request.{asked}
use Rattle.farm_lines.specs.RequestText.{list_line}
use Rattle.farm_lines.specs.Spec.{number_at}
use Rattle.farm_lines.specs.Words.{whole}
use Rattle.client_codec.proofs.AskedLemmas.AskedFields.{IsReadAs, number_back, there}
use Rattle.object_writer.proofs.DataBack.{Fits}
use Rattle.client_codec.proofs.FieldsBack.{name_back}
use Rattle.client_codec.proofs.AskedLemmas.TextsFit.{name_fits}

module _ (from : ℕ) (within : from < 2 ^ 64) where
  query_back : (what : Listed) (ms : Members) → listed_at ms ≡ Ok what → get_member (codes "from") ms ≡ Some (whole from) → others_at (query_keys what) ms ≡ Ok tt
      → query_at ms ≡ Ok (record { what = what; from = from })
  unfolding query_at
  query_back what ms named placed others = rw (named, there (codes "from") ms 0 from number_at (whole from) placed (number_back (codes "from") ms from placed within), others) refl

  job_back : (lists : List ℕ → Listed) (job : List ℕ) (ms : Members) → get_member (codes "job") ms ≡ Some (string job) → is_name_text job ≡ true → of_job_at lists ms ≡ Ok (lists job)
  job_back lists job ms found h = rw (name_back (codes "job") ms job found h) refl

  job_query : (lists : List ℕ → Listed) (job : List ℕ) (ms : Members) → is_name_text job ≡ true → get_member (codes "job") ms ≡ Some (string job) → listed_at ms ≡ of_job_at lists ms
      → get_member (codes "from") ms ≡ Some (whole from) → others_at (query_keys (lists job)) ms ≡ Ok tt → query_at ms ≡ Ok (record { what = lists job; from = from })
  job_query lists job ms h found named placed others = query_back (lists job) ms (named ∙ job_back lists job ms found h) placed others

  what_read : (what : Listed) → IsFormedListed what → IsReadAs (list_line (record { what = what; from = from })) (request.List (record { what = what; from = from }))
  unfolding list_line
  what_read listed.Shows h = ap (asked request.List) (query_back listed.Shows _ refl refl refl)
  what_read listed.Allocs h = ap (asked request.List) (query_back listed.Allocs _ refl refl refl)
  what_read listed.Subs h = ap (asked request.List) (query_back listed.Subs _ refl refl refl)
  what_read listed.Limits h = ap (asked request.List) (query_back listed.Limits _ refl refl refl)
  what_read listed.Hosts h = ap (asked request.List) (query_back listed.Hosts _ refl refl refl)
  what_read listed.Jobs h = ap (asked request.List) (query_back listed.Jobs _ refl refl refl)
  what_read (listed.Layers job) h = ap (asked request.List) (job_query listed.Layers job _ h refl refl refl refl)
  what_read (listed.Frames job) h = ap (asked request.List) (job_query listed.Frames job _ h refl refl refl refl)
  what_read (listed.Depends job) h = ap (asked request.List) (job_query listed.Depends job _ h refl refl refl refl)
  what_read listed.Procs h = ap (asked request.List) (query_back listed.Procs _ refl refl refl)

  what_fits : (what : Listed) → IsFormedListed what → Fits 1 (list_line (record { what = what; from = from }))
  unfolding list_line
  what_fits listed.Shows h = (refl, within, (refl, IsUtf8-are_ascii (codes "list") refl, (refl, IsUtf8-are_ascii (codes "shows") refl, tt)))
  what_fits listed.Allocs h = (refl, within, (refl, IsUtf8-are_ascii (codes "list") refl, (refl, IsUtf8-are_ascii (codes "allocs") refl, tt)))
  what_fits listed.Subs h = (refl, within, (refl, IsUtf8-are_ascii (codes "list") refl, (refl, IsUtf8-are_ascii (codes "subs") refl, tt)))
  what_fits listed.Limits h = (refl, within, (refl, IsUtf8-are_ascii (codes "list") refl, (refl, IsUtf8-are_ascii (codes "limits") refl, tt)))
  what_fits listed.Hosts h = (refl, within, (refl, IsUtf8-are_ascii (codes "list") refl, (refl, IsUtf8-are_ascii (codes "hosts") refl, tt)))
  what_fits listed.Jobs h = (refl, within, (refl, IsUtf8-are_ascii (codes "list") refl, (refl, IsUtf8-are_ascii (codes "jobs") refl, tt)))
  what_fits (listed.Layers job) h = (refl, within, (refl, name_fits job h, (refl, IsUtf8-are_ascii (codes "list") refl, (refl, IsUtf8-are_ascii (codes "layers") refl, tt))))
  what_fits (listed.Frames job) h = (refl, within, (refl, name_fits job h, (refl, IsUtf8-are_ascii (codes "list") refl, (refl, IsUtf8-are_ascii (codes "frames") refl, tt))))
  what_fits (listed.Depends job) h = (refl, within, (refl, name_fits job h, (refl, IsUtf8-are_ascii (codes "list") refl, (refl, IsUtf8-are_ascii (codes "depends") refl, tt))))
  what_fits listed.Procs h = (refl, within, (refl, IsUtf8-are_ascii (codes "list") refl, (refl, IsUtf8-are_ascii (codes "procs") refl, tt)))

pub list_read : (q : Query) → IsFormedQuery q → IsReadAs (list_line q) (request.List q)
list_read q h = what_read q.from h.from_within q.what h.listed

pub list_fits : (q : Query) → IsFormedQuery q → Fits 1 (list_line q)
list_fits q h = what_fits q.from h.from_within q.what h.listed
