-- The entries that a load records are a legal run, since each of its reports is formed.
use Rattle.std.proofs.Common.{◌≡◌, ℕ, ◌+◌, ◌*◌, ◌%◌, ◌≤◌, ◌<◌, Bool, true, false, cond, List, [], ◌∷◌, ◌++◌, None, refl, sym, ap, ◌∙◌, arith, subst}
use Rattle.std.specs.Prelude.{◌==◌, codes}
use Rattle.std.specs.List.{All}
use Rattle.std.proofs.lemmas.List.Elements.{All-from_recursion, All-head, All-map, All-nil, All-push, All-tail, All-weaker}
use Rattle.farm_types.specs.declared.attempt.Attempt.{Attempt}
use Rattle.farm_types.specs.declared.entry.Entry.{Entry}
use Rattle.farm_types.specs.declared.limits.TheConstants.{MOST_EXIT}
use Rattle.farm_types.specs.Farm.{Farm}
use Rattle.farm_types.specs.Formed.{IsFormed, IsFormedDone}
use Rattle.farm_types.specs.Forms.{is_name_text}
use Rattle.farm_types.specs.Kept.{KeepsRows}
use Rattle.farm_types.specs.Run.{IsLegal, run_of}
use Rattle.farm_types.specs.Step.{after}
use Rattle.farm_law.proofs.LegalRuns.{legal_append}
use Rattle.farm_lines.specs.Asked.{heard_entry}
use Rattle.farm_lines.specs.Transcript.{Mark}
use Rattle.farm_lines.specs.declared.report.Report.{Report}
use Rattle.farm_gen.specs.Load.{load_exit}
use Rattle.line_answers.specs.LineAnswers.{reported}
use Rattle.farm_load.specs.declared.load_host.LoadHost.{LoadHost}
use Rattle.farm_load.specs.Loads.{AreMarks, Load, launched_by, load_after, load_hosts, load_next, load_report, load_run, load_start, most_reports, new_host, next_by, round_after, turn_of}
use Rattle.farm_load.specs.Turns.{IsFormedAttempt, IsFormedHost}
use Rattle.farm_load.proofs.LaunchLemmas.{reported_launches}

-- ---- runs

run_append : (f : Farm) (xs ys : List Entry) → run_of f (xs ++ ys) ≡ run_of (run_of f xs) ys
run_append f [] ys = refl
run_append f (x ∷ xs) ys = run_append (after f x) xs ys

-- ---- the farm

-- the farm is the one that the recorded entries make of the first
abbrev IsOf : Farm → Load → Type 0
IsOf first l = l.farm ≡ run_of first l.recorded

next_farm : (n : ℕ) (first : Farm) (l : Load) (mark : Mark) (hosts : List LoadHost) → IsOf first l → IsOf first (next_by n l hosts mark)
next_farm n first l mark [] is = is
next_farm n first l mark (h ∷ others) is =
    ap (λ (f : Farm). run_of f (turn_of n l h mark).entries) is ∙ sym (run_append first l.recorded (turn_of n l h mark).entries)

after_farm : (n : ℕ) (first : Farm) (l : Load) (marks : List Mark) → IsOf first l → IsOf first (load_after n l marks)
after_farm n first l [] is = is
after_farm n first l (mark ∷ marks) is = after_farm n first (load_next n l mark) marks (next_farm n first l mark l.hosts is)

pub load_farm : (n : ℕ) (f : Farm) (marks : List Mark) → (load_run n f marks).farm ≡ run_of f (load_run n f marks).recorded
load_farm n f marks = after_farm n f (load_start f) marks refl

-- ---- a report is formed

status_low : (b : Bool) → cond b 1 0 ≤ MOST_EXIT
status_low true = omega arith
status_low false = omega arith

done_formed : (n : ℕ) (a : Attempt) → IsFormedAttempt a → IsFormedDone (record { attempt = a; exit = load_exit n a; free = None })
done_formed n a formed =
    record {
      slot_within = formed.slot_within;
      version_within = formed.version_within;
      status_within = status_low ((7 * a.slot + 3 * a.version + n) % 11 == 0);
      signal_within = omega arith;
      free_within = tt;
    }

pub report_formed : (n reports : ℕ) (h : LoadHost) → reports < most_reports → IsFormedHost h
    → IsFormed (heard_entry (load_report n (round_after reports) h) (round_after reports))
report_formed n reports h left formed =
    record {
      moment_within = omega (arith, left);
      act_formed =
          record {
            host = formed.name;
            boot_within = (omega arith, omega arith);
            seq_within = (omega arith, omega (arith, left));
            each_done =
                All-map IsFormedDone (λ (a : Attempt). record { attempt = a; exit = load_exit n a; free = None }) h.launched
                (All-weaker IsFormedAttempt (λ (a : Attempt). IsFormedDone (record { attempt = a; exit = load_exit n a; free = None })) (done_formed n) h.launched formed.each);
          };
    }

-- ---- the hosts

-- the host waits behind the others, with what was launched
pub host_formed : (f : Farm) (h : LoadHost) (report : Report) (moment : ℕ) (mark : Mark) → IsFormedHost h → KeepsRows (run_of f (reported f report moment mark).entries)
    → IsFormedHost (record { name = h.name; launched = launched_by (reported f report moment mark).reply })
host_formed f h report moment mark formed keeps =
    let launches = reported_launches f report moment mark keeps in
    record { name = formed.name; few = launches.few; each = launches.each }

new_formed : (name : List ℕ) → is_name_text name ≡ true → IsFormedHost (new_host name)
new_formed name named = record { name = named; few = omega arith; each = All-nil IsFormedAttempt }

pub hosts_formed : All IsFormedHost load_hosts
hosts_formed =
    All-from_recursion IsFormedHost load_hosts
    (new_formed (codes "h1") refl, (new_formed (codes "h2") refl, (new_formed (codes "h3") refl, (new_formed (codes "h4") refl, tt))))

-- ---- the run

-- Every legal run keeps rows, and what is recorded of a formed report is a legal run.
pub record Laws : Type 0 where
  pub keep : (f : Farm) (es : List Entry) → KeepsRows f → IsLegal f es → KeepsRows (run_of f es)
  pub legal : (f : Farm) (report : Report) (moment : ℕ) (mark : Mark) → IsFormed (heard_entry report moment) → IsLegal f (reported f report moment mark).entries

-- what holds of a load of a first farm, report after report
record Stands (first : Farm) (l : Load) : Type 0 where
  farm : IsOf first l
  legal : IsLegal first l.recorded
  hosts : All IsFormedHost l.hosts

module _ (laws : Laws) (n : ℕ) (first : Farm) (keeps : KeepsRows first) where
  now_keeps : (l : Load) → Stands first l → KeepsRows l.farm
  now_keeps l s = subst KeepsRows (sym s.farm) (laws.keep first l.recorded keeps s.legal)

  next_stands : (l : Load) (mark : Mark) (hosts : List LoadHost) → l.reports < most_reports → Stands first l → All IsFormedHost hosts → Stands first (next_by n l hosts mark)
  next_stands l mark [] left s formed = s
  next_stands l mark (h ∷ others) left s formed =
      let own = All-head IsFormedHost h others formed in
      let report = load_report n (round_after l.reports) h in
      let taken = laws.legal l.farm report (round_after l.reports) mark (report_formed n l.reports h left own) in
      record {
        farm = next_farm n first l mark (h ∷ others) s.farm;
        legal = legal_append first l.recorded (turn_of n l h mark).entries s.legal (subst (λ (f : Farm). IsLegal f (turn_of n l h mark).entries) s.farm taken);
        hosts =
            All-push IsFormedHost others (record { name = h.name; launched = launched_by (turn_of n l h mark).reply }) (All-tail IsFormedHost h others formed)
            (host_formed l.farm h report (round_after l.reports) mark own (laws.keep l.farm (turn_of n l h mark).entries (now_keeps l s) taken));
      }

  after_stands : (l : Load) (marks : List Mark) → Stands first l → AreMarks n l marks → Stands first (load_after n l marks)
  after_stands l [] s are = s
  after_stands l (mark ∷ marks) s are = after_stands (load_next n l mark) marks (next_stands l mark l.hosts are.1 s s.hosts) are.3

  pub load_legal : (marks : List Mark) → AreMarks n (load_start first) marks → IsLegal first (load_run n first marks).recorded
  load_legal marks are = (after_stands (load_start first) marks (record { farm = refl; legal = tt; hosts = hosts_formed }) are).legal
