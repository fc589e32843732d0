-- The line of a report is read as that report.
use Rattle.std.proofs.Common.{◌≡◌, ℕ, ◌≤◌, List, Option, Some, None, Ok, refl, ap, arith}
use Rattle.std.specs.Prelude.{codes, map}
use Rattle.std.specs.List.{All}
use Rattle.json.proofs.Printed.Utf8.{IsUtf8-are_ascii}
use Rattle.serde_json.specs.Data.{array, string, Members}
use Rattle.serde_json.specs.Find.{get_member}
use Rattle.serde_json.specs.View.{items_of}
use Rattle.cue_json.specs.Fields.{others_at, whole_at}
use Rattle.cue_json.specs.Items.{item_at}
use Rattle.farm_types.specs.declared.attempt.Attempt.{Attempt}
use Rattle.farm_types.specs.declared.attempt.DoneItem.{DoneItem}
use Rattle.farm_types.specs.declared.attempt.Exit.{Exit}
use Rattle.farm_types.specs.declared.limits.TheConstants.{LAST_BOOT, LAST_SLOT, LAST_VERSION, MOST_CORES, MOST_EXIT}
use Rattle.farm_types.specs.Formed.{IsFormedDone, IsFormedHeard}
use Rattle.farm_lines.specs.declared.report.Report.{Report}
use Rattle.farm_lines.specs.declared.request.Request.TheVariants as request
use Rattle.farm_lines.specs.Fields.{optional_whole_at}
use Rattle.farm_lines.specs.FormedLines.{IsFormedAttempt}
use Rattle.farm_lines.specs.Reply.{attempt_data, attempts_data}
use Rattle.farm_lines.specs.Request.{asked, attempt_at, done_at, done_keys, report_at, report_keys}
use Rattle.farm_lines.specs.RequestText.{done_item_data, report_line}
use Rattle.farm_lines.specs.Words.{whole}
use Rattle.client_codec.proofs.AskedLemmas.AskedFields.{IsReadAs, list_back, told}
use Rattle.client_codec.proofs.AttemptsBack.{attempt_back, attempt_fits}
use Rattle.object_writer.proofs.DataBack.{Fits}
use Rattle.client_codec.proofs.FieldsBack.{name_back, whole_back}
use Rattle.client_codec.proofs.ItemsBack.{items_fit}
use Rattle.client_codec.proofs.AskedLemmas.TextsFit.{name_fits}

-- ---- completions

module _ (d : DoneItem) (h : IsFormedDone d) where
  fields_read : (ms : Members) → get_member (codes "slot") ms ≡ Some (whole d.attempt.slot) → get_member (codes "version") ms ≡ Some (whole d.attempt.version)
      → get_member (codes "status") ms ≡ Some (whole d.exit.status) → get_member (codes "signal") ms ≡ Some (whole d.exit.signal)
      → optional_whole_at (codes "free") 0 MOST_CORES ms ≡ Ok d.free → others_at done_keys ms ≡ Ok tt → done_at ms ≡ Ok d
  unfolding done_at
  fields_read ms slot version status signal free others =
      rw (
        whole_back (codes "slot") ms 0 LAST_SLOT d.attempt.slot slot (omega arith, h.slot_within),
        whole_back (codes "version") ms 0 LAST_VERSION d.attempt.version version (omega arith, h.version_within),
        whole_back (codes "status") ms 0 MOST_EXIT d.exit.status status (omega arith, h.status_within),
        whole_back (codes "signal") ms 0 MOST_EXIT d.exit.signal signal (omega arith, h.signal_within),
        free,
        others,
      ) refl

free_read : (ms : Members) (cores : ℕ) → get_member (codes "free") ms ≡ Some (whole cores) → cores ≤ MOST_CORES → optional_whole_at (codes "free") 0 MOST_CORES ms ≡ Ok (Some cores)
free_read ms cores found h = told (codes "free") ms cores (whole_at (codes "free") 0 MOST_CORES ms) (whole cores) found (whole_back (codes "free") ms 0 MOST_CORES cores found (omega arith, h))

-- with free cores, where they are told
module _ (attempt : Attempt) (exit : Exit) where
  abbrev item : Option ℕ → DoneItem
  item free = record { attempt = attempt; exit = exit; free = free }

  with_free : (cores : ℕ) → IsFormedDone (item (Some cores)) → (ms : Members) → get_member (codes "slot") ms ≡ Some (whole attempt.slot) → get_member (codes "version") ms ≡ Some (whole attempt.version)
      → get_member (codes "status") ms ≡ Some (whole exit.status) → get_member (codes "signal") ms ≡ Some (whole exit.signal) → get_member (codes "free") ms ≡ Some (whole cores)
      → others_at done_keys ms ≡ Ok tt → done_at ms ≡ Ok (item (Some cores))
  with_free cores h ms slot version status signal free others = fields_read (item (Some cores)) h ms slot version status signal (free_read ms cores free h.free_within) others

  item_read : (field : List ℕ) (free : Option ℕ) → IsFormedDone (item free) → item_at field done_at (done_item_data (item free)) ≡ Ok (item free)
  item_read field None h = fields_read (item None) h _ refl refl refl refl refl refl
  item_read field (Some cores) h = with_free cores h _ refl refl refl refl refl refl

  item_fits : (free : Option ℕ) → IsFormedDone (item free) → Fits 1 (done_item_data (item free))
  item_fits None h = (refl, omega (arith, h.signal_within), (refl, omega (arith, h.slot_within), (refl, omega (arith, h.status_within), (refl, omega (arith, h.version_within), tt))))
  item_fits (Some cores) h =
      let free : cores ≤ MOST_CORES = h.free_within in
      (refl, omega (arith, free), (refl, omega (arith, h.signal_within), (refl, omega (arith, h.slot_within), (refl, omega (arith, h.status_within), (refl, omega (arith, h.version_within), tt)))))

done_read : (field : List ℕ) (d : DoneItem) → IsFormedDone d → item_at field done_at (done_item_data d) ≡ Ok d
done_read field d h = item_read d.attempt d.exit field d.free h

done_fits : (d : DoneItem) → IsFormedDone d → Fits 1 (done_item_data d)
done_fits d h = item_fits d.attempt d.exit d.free h

-- ---- the report

module _ (r : Report) (h : IsFormedHeard r.heard) (running : All IsFormedAttempt r.running) where
  parts_read : (ms : Members) → get_member (codes "host") ms ≡ Some (string r.heard.host) → get_member (codes "boot") ms ≡ Some (whole r.heard.boot) → get_member (codes "seq") ms ≡ Some (whole r.heard.seq)
      → get_member (codes "running") ms ≡ Some (attempts_data r.running) → get_member (codes "done") ms ≡ Some (array (items_of (map done_item_data r.heard.done)))
      → others_at report_keys ms ≡ Ok tt → report_at ms ≡ Ok r
  unfolding report_at
  parts_read ms host boot seq run done others =
      rw (
        name_back (codes "host") ms r.heard.host host h.host,
        whole_back (codes "boot") ms 1 LAST_BOOT r.heard.boot boot h.boot_within,
        whole_back (codes "seq") ms 1 18446744073709551615 r.heard.seq seq (h.seq_within.0, omega (arith, h.seq_within.1)),
        list_back (codes "running") ms attempt_data attempt_at IsFormedAttempt (attempt_back (codes "running")) r.running run running,
        list_back (codes "done") ms done_item_data done_at IsFormedDone (done_read (codes "done")) r.heard.done done h.each_done,
        others,
      ) refl

  pub report_read : IsReadAs (report_line r) (request.Report r)
  unfolding report_line
  report_read = ap (asked request.Report) (parts_read _ refl refl refl refl refl refl)

  pub report_fits : Fits 3 (report_line r)
  unfolding report_line
  report_fits = (
    refl,
    omega (arith, h.boot_within.1),
    (
      refl,
      items_fit done_item_data IsFormedDone 1 done_fits r.heard.done h.each_done,
      (
        refl,
        name_fits r.heard.host h.host,
        (
          refl,
          IsUtf8-are_ascii (codes "report") refl,
          (refl, items_fit attempt_data IsFormedAttempt 1 attempt_fits r.running running, (refl, h.seq_within.1, tt)),
        ),
      ),
    ),
  )
