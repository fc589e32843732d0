-- What the reply to a line tells a host: a boot number that it came to, or what is over and what is live on it.
use Rattle.std.proofs.Common.{◌≡◌, ◌<◌, ◌^◌, ℕ, zero, suc, false, List, ◌∷◌, take, Option, None, Some, Ok, refl, sym, ap, subst, ◌∙◌, ◌⊎◌, inl, inr}
use Rattle.std.specs.List.{AllByRecursion, list_any}
use Rattle.std.proofs.lemmas.Option.{none-some, same_Some}
use Rattle.farm_types.specs.declared.attempt.DoneItem.{DoneItem}
use Rattle.farm_types.specs.declared.boot.BootLine.{BootLine}
use Rattle.farm_types.specs.declared.dispatch.Cut.{Cut}
use Rattle.farm_types.specs.declared.dispatch.Cut.TheVariants as cut
use Rattle.farm_types.specs.declared.entry.Act.{Act}
use Rattle.farm_types.specs.declared.entry.Act.TheVariants as act
use Rattle.farm_types.specs.declared.entry.Entry.{Entry}
use Rattle.farm_types.specs.EntryAnswers.{answer_of, boot_number, row_named}
use Rattle.farm_types.specs.Farm.{Farm, host_named}
use Rattle.farm_types.specs.Kept.{IsKeptFarm}
use Rattle.farm_types.specs.Run.{IsLegal, IsLegalStep, is_same, run_of}
use Rattle.farm_types.specs.Step.{after}
use Rattle.farm_law.proofs.LegalRuns.{legal_take}
use Rattle.farm_lines.specs.declared.asked.Asked.{Asked}
use Rattle.farm_lines.specs.declared.asked.Asked.TheVariants as asked
use Rattle.farm_lines.specs.declared.launch.Launch.{Launch}
use Rattle.farm_lines.specs.declared.reply.Reply.{Reply}
use Rattle.farm_lines.specs.declared.reply.Reply.TheVariants as reply
use Rattle.farm_lines.specs.declared.reply.ReportReply.{ReportReply}
use Rattle.farm_lines.specs.declared.report.Report.{Report}
use Rattle.farm_lines.specs.declared.request.Request.{Request}
use Rattle.farm_lines.specs.declared.request.Request.TheVariants as request
use Rattle.farm_lines.specs.Asked.{asked_of, entry_at, heard_entry}
use Rattle.farm_lines.specs.Reply.{acks_of, kills_of, launches_of, ok_reply, report_reply}
use Rattle.farm_lines.specs.Request.{request_of}
use Rattle.farm_lines.specs.Transcript.{Answered, entry_answer, marked_answer}
use Rattle.depend_law.proofs.KeptRuns.{kept_run, kept_step}
use Rattle.world_law.specs.Attempts.{IsOwn, IsSpent}
use Rattle.world_law.specs.Boots.{CameToBoot}
use Rattle.world_law.specs.Lines.{mark_of}
use Rattle.world_law.proofs.AttemptsGo.{spent_later}
use Rattle.world_law.proofs.Booted.{told_boot}
use Rattle.world_law.proofs.Each.{each_from}
use Rattle.world_law.proofs.Heard.{heard_over}
use Rattle.world_law.proofs.HostsGo.{named_later, run_goes}
use Rattle.world_law.proofs.Launched.{IsLaunchOf, are_launches, launch_apart, launch_live, launch_own}
use Rattle.world_law.proofs.LineKinds.{IsOther, IsPlainAct, LineKind, round_legal, round_of}

-- ---- what is told

-- a boot's number and nonce, to which its host came
pub record IsBootTold (g : Farm) (line : List ℕ) (r : Reply) : Type 0 where
  pub boot : BootLine
  pub reads : request_of line ≡ Ok (request.Boot boot)
  pub number : ℕ
  pub is : r ≡ reply.Boot number boot.nonce
  pub came : CameToBoot g boot.host number boot.nonce
  pub exact : number ≡ came.row.boot

-- What a report's reply acknowledges is over, where it was the host's own before. What it launches is the host's own, live, and not acknowledged.
pub record IsReportTold (f g : Farm) (line : List ℕ) (r : Reply) : Type 0 where
  pub report : Report
  pub reads : request_of line ≡ Ok (request.Report report)
  pub replied : ReportReply
  pub is : r ≡ reply.Report replied
  pub boot : replied.boot ≡ report.heard.boot
  pub seq : replied.seq ≡ report.heard.seq
  pub acks : replied.acks ≡ acks_of report.heard.done
  pub over : AllByRecursion (λ (d : DoneItem). IsOwn f report.heard.host d.attempt → IsSpent g d.attempt) report.heard.done
  pub own : AllByRecursion (λ (l : Launch). IsOwn g report.heard.host l.attempt) replied.launches
  pub live : AllByRecursion (λ (l : Launch). IsSpent g l.attempt → ⊥) replied.launches
  pub apart : AllByRecursion (λ (l : Launch). list_any (is_same l.attempt) replied.acks ≡ false) replied.launches

abbrev pub IsTold : Farm → Farm → List ℕ → Reply → Type 0
IsTold f g line r = IsOther r ⊎ (IsBootTold g line r ⊎ IsReportTold f g line r)

-- ---- an entry

-- the boot that is asked, if it is one
abbrev boot_in : Asked → Option BootLine
boot_in (asked.Act (act.Boot line)) = Some line
boot_in other = None

boot_of : (what : Request) (line : BootLine) → asked_of what ≡ asked.Act (act.Boot line) → what ≡ request.Boot line
boot_of (request.Boot boot) line asks = ap request.Boot (same_Some boot line (ap boot_in asks))
boot_of what line asks = absurd (none-some line (ap boot_in asks))

module _ (f : Farm) (line : List ℕ) (moment : ℕ) where
  act_told : (what : Request) (does : Act) → request_of line ≡ Ok what → asked_of what ≡ asked.Act does → IsPlainAct does → IsLegalStep f (entry_at moment does)
      → IsTold f (after f (entry_at moment does)) line (ok_reply does (answer_of f (entry_at moment does)))
  act_told what (act.Boot boot) reads asks plain legal =
      inr (inl (record {
        boot = boot;
        reads = reads ∙ ap Ok (boot_of what boot asks);
        number = boot_number boot (row_named f boot);
        is = refl;
        came = (told_boot f moment boot legal).0;
        exact = (told_boot f moment boot legal).1;
      }))
  act_told what (act.Heard heard) reads asks plain legal = absurd plain
  act_told what (act.Book slot host) reads asks plain legal = absurd plain
  act_told what does reads asks plain legal = inl tt

  -- what an answer tells of the farm that it leaves
  abbrev Tells : Answered → Type 0
  Tells a = IsTold f (run_of f a.entries) line a.reply

  entry_told : (what : Request) (does : Act) → request_of line ≡ Ok what → asked_of what ≡ asked.Act does → IsPlainAct does → IsLegalStep f (entry_at moment does)
      → (o : Option ℕ) → Tells (entry_answer f (entry_at moment does) (mark_of o) None)
  entry_told what does reads asks plain legal None = act_told what does reads asks plain legal
  entry_told what does reads asks plain legal (Some zero) = inl tt
  entry_told what does reads asks plain legal (Some (suc k)) = act_told what does reads asks plain legal

  -- ---- a report

  module _ (k : IsKeptFarm f) (report : Report) (host : ℕ) (reads : request_of line ≡ Ok (request.Report report)) (named : host_named f report.heard.host ≡ Some host)
      (legal : IsLegalStep f (heard_entry report moment)) where
    abbrev heard : Entry
    heard = heard_entry report moment

    round_told : (es : List Entry) (ended : Cut) → IsLegal (after f heard) es → IsReportTold f (run_of f (heard ∷ es)) line (report_reply (run_of (after f heard) es) host report ended)
    round_told es ended later =
        let g = run_of (after f heard) es in
        let kept = kept_run (after f heard) es (kept_step f heard legal k) later in
        let still = named_later f g (run_goes f (heard ∷ es)) report.heard.host host named in
        let launches = are_launches g host report in
        record {
          report = report;
          reads = reads;
          replied =
              record {
                acks = acks_of report.heard.done;
                boot = report.heard.boot;
                cut = ended;
                kills = kills_of g host report.heard.boot report.running;
                launches = launches_of g host report;
                seq = report.heard.seq;
              };
          is = refl;
          boot = refl;
          seq = refl;
          acks = refl;
          over =
              each_from (λ (d : DoneItem). IsOwn f report.heard.host d.attempt → IsSpent (after f heard) d.attempt) (λ (d : DoneItem). IsOwn f report.heard.host d.attempt → IsSpent g d.attempt)
              (λ d over own. spent_later (after f heard) es d.attempt later (over own)) report.heard.done (heard_over f moment report.heard k legal);
          own =
              each_from (IsLaunchOf g host report) (λ (l : Launch). IsOwn g report.heard.host l.attempt)
              (λ l of. launch_own g host report l of kept.rows.sound report.heard.host still) (launches_of g host report) launches;
          live =
              each_from (IsLaunchOf g host report) (λ (l : Launch). IsSpent g l.attempt → ⊥) (λ l of. launch_live g host report l of kept.rows.sound)
              (launches_of g host report) launches;
          apart =
              each_from (IsLaunchOf g host report) (λ (l : Launch). list_any (is_same l.attempt) (acks_of report.heard.done) ≡ false)
              (λ l of. launch_apart g host report l of kept.rows.sound) (launches_of g host report) launches;
        }

    report_told : (round : List Entry) → IsLegal (after f heard) round → (o : Option ℕ) → Tells (marked_answer f host report heard round (mark_of o))
    report_told round later None = inr (inr (round_told round cut.Whole later))
    report_told round later (Some zero) = inl tt
    report_told round later (Some (suc n)) = inr (inr (round_told (take n round) cut.Store (legal_take (after f heard) n round later)))

-- ---- each line

module _ (f : Farm) (line : List ℕ) (moment : ℕ) (low : moment < 2 ^ 64) (made : Option ℕ → Answered) (k : IsKeptFarm f) where
  pub line_told : LineKind f line moment made → (o : Option ℕ) → IsTold f (run_of f (made o).entries) line (made o).reply
  line_told (inl it) o = subst (λ (a : Answered). IsTold f (run_of f a.entries) line a.reply) (sym (it.is o)) (inl it.other)
  line_told (inr (inl it)) o =
      subst (λ (a : Answered). IsTold f (run_of f a.entries) line a.reply) (sym (it.is o)) (entry_told f line moment it.what it.does it.reads it.asks it.plain it.legal o)
  line_told (inr (inr it)) o =
      subst (λ (a : Answered). IsTold f (run_of f a.entries) line a.reply) (sym (it.is o))
      (report_told f line moment k it.report it.host it.reads it.named it.legal (round_of f line moment low made it) (round_legal f line moment low made it) o)
