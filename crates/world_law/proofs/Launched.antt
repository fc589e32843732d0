-- What a reply to a report launches is live on the report's host, and nothing that the report lists.
use Rattle.std.proofs.Common.{◌≡◌, ℕ, Bool, true, false, cond, eqb, not, ◌&&◌, ◌||◌, List, [], ◌∷◌, Option, None, Some, refl, sym, ap, subst, ◌∙◌, inl, inr, arith}
use Rattle.std.specs.List.{AllByRecursion, filter_map, list_any, slice_get}
use Rattle.std.specs.Prelude.{option_and_then, option_map}
use Rattle.std.proofs.lemmas.Bool.{eqb-true, false≢true}
use Rattle.std.proofs.lemmas.Option.{none-some, same_Some, slice_get_within}
use Rattle.farm_types.specs.declared.attempt.Attempt.{Attempt}
use Rattle.farm_types.specs.declared.attempt.DoneItem.{DoneItem}
use Rattle.farm_types.specs.declared.attempt.ProcRow.{ProcRow}
use Rattle.farm_types.specs.declared.rows.JobRow.{JobRow}
use Rattle.farm_types.specs.declared.rows.LayerRow.{LayerRow}
use Rattle.farm_types.specs.declared.slot_row.Frame.{Frame}
use Rattle.farm_types.specs.declared.slot_row.SlotRow.{SlotRow}
use Rattle.farm_types.specs.Booking.{version_at, version_of}
use Rattle.farm_types.specs.DependActs.{is_running}
use Rattle.farm_types.specs.Farm.{Farm, host_named, job_at, layer_at}
use Rattle.farm_types.specs.Run.{HasItsAttempt, IsSound, is_same, live_at}
use Rattle.farm_types.proofs.Lists.{and_both}
use Rattle.farm_law.proofs.RunningFrames.{frame_runs}
use Rattle.farm_lines.specs.declared.launch.Launch.{Launch}
use Rattle.farm_lines.specs.declared.report.Report.{Report}
use Rattle.farm_lines.specs.declared.limits.TheConstants.{LAUNCHES_EACH}
use Rattle.farm_lines.specs.Reply.{acks_of, due_in, is_due, is_listed, launch_for, launch_of, launches_of}
use Rattle.world_law.specs.Among.{Has}
use Rattle.world_law.specs.Attempts.{IsOwn, IsSpent, IsSpentAt}
use Rattle.world_law.proofs.Each.{all_has, each_found, each_take}

-- ---- a launch is of a live attempt that is due

abbrev attempt_of : ProcRow → Attempt
attempt_of p = record { slot = p.slot; version = p.version }

pub record IsLaunchOf (f : Farm) (host : ℕ) (r : Report) (l : Launch) : Type 0 where
  pub place : ℕ
  pub row : SlotRow
  pub proc : ProcRow
  pub at : slice_get f.slots place ≡ Some row
  pub is : row.proc ≡ Some proc
  pub due : is_due host r proc ≡ true
  pub attempt : l.attempt ≡ attempt_of proc

layer_launch : (p : ProcRow) (x : Frame) (j : JobRow) (o : Option LayerRow) (l : Launch) → option_map (λ layer. launch_for p x j layer) o ≡ Some l → l.attempt ≡ attempt_of p
layer_launch p x j None l is = absurd (none-some l is)
layer_launch p x j (Some layer) l is = ap (λ (m : Launch). m.attempt) (sym (same_Some (launch_for p x j layer) l is))

job_launch : (f : Farm) (p : ProcRow) (x : Frame) (o : Option JobRow) (l : Launch)
    → option_and_then (λ job. option_map (λ layer. launch_for p x job layer) (layer_at f x.job x.layer)) o ≡ Some l → l.attempt ≡ attempt_of p
job_launch f p x None l is = absurd (none-some l is)
job_launch f p x (Some j) l is = layer_launch p x j (layer_at f x.job x.layer) l is

frame_launch : (f : Farm) (p : ProcRow) (o : Option Frame) (l : Launch)
    → option_and_then (λ frame. option_and_then (λ job. option_map (λ layer. launch_for p frame job layer) (layer_at f frame.job frame.layer)) (job_at f frame.job)) o ≡ Some l
    → l.attempt ≡ attempt_of p
frame_launch f p None l is = absurd (none-some l is)
frame_launch f p (Some x) l is = job_launch f p x (job_at f x.job) l is

module _ (f : Farm) (host : ℕ) (r : Report) where
  due_launch : (place : ℕ) (s : SlotRow) (p : ProcRow) (b : Bool) (l : Launch) → slice_get f.slots place ≡ Some s → s.proc ≡ Some p → is_due host r p ≡ b
      → cond b (launch_of f s p) None ≡ Some l → IsLaunchOf f host r l
  due_launch place s p true l at is due found =
      record { place = place; row = s; proc = p; at = at; is = is; due = due; attempt = frame_launch f p s.frame l found }
  due_launch place s p false l at is due found = absurd (none-some l found)

  proc_launch : (place : ℕ) (s : SlotRow) (o : Option ProcRow) (l : Launch) → slice_get f.slots place ≡ Some s → s.proc ≡ o
      → option_and_then (λ p. cond (is_due host r p) (launch_of f s p) None) o ≡ Some l → IsLaunchOf f host r l
  proc_launch place s None l at is found = absurd (none-some l found)
  proc_launch place s (Some p) l at is found = due_launch place s p (is_due host r p) l at is refl found

  pub are_launches : AllByRecursion (IsLaunchOf f host r) (launches_of f host r)
  are_launches =
      each_take (IsLaunchOf f host r) LAUNCHES_EACH (filter_map (due_in f host r) f.slots)
      (each_found (Has f.slots) (IsLaunchOf f host r) (due_in f host r) (λ s l has found. proc_launch has.0 s s.proc l has.1 refl found) f.slots (all_has f.slots))

-- ---- what follows for it

left_false : (b c : Bool) → (b || c) ≡ false → b ≡ false
left_false true c is = absurd (false≢true (sym is))
left_false false c is = refl

right_false : (b c : Bool) → (b || c) ≡ false → c ≡ false
right_false true c is = absurd (false≢true (sym is))
right_false false c is = is

not_true : (b : Bool) → not b ≡ true → b ≡ false
not_true true is = absurd (false≢true is)
not_true false is = refl

none_acked : (a : Attempt) (ds : List DoneItem) → list_any (λ (d : DoneItem). is_same a d.attempt) ds ≡ false → list_any (is_same a) (acks_of ds) ≡ false
none_acked a [] none = refl
none_acked a (d ∷ ds) none =
    rw (left_false (is_same a d.attempt) (list_any (λ (d : DoneItem). is_same a d.attempt) ds) none)
    (none_acked a ds (right_false (is_same a d.attempt) (list_any (λ (d : DoneItem). is_same a d.attempt) ds) none))

module _ (f : Farm) (host : ℕ) (r : Report) (l : Launch) (of : IsLaunchOf f host r l) (ok : IsSound f) where
  runs : (x : Frame) × (of.row.frame ≡ Some x) × (is_running x.state ≡ true) × (of.proc.slot ≡ of.place) × (of.proc.version ≡ of.row.version)
  runs =
      frame_runs of.place of.row.version of.row.frame of.proc
      (subst (λ (o : Option ProcRow). HasItsAttempt of.place of.row.version of.row.frame o) of.is (ok.attempts of.place of.row of.at))

  slot_is : l.attempt.slot ≡ of.place
  slot_is = ap (λ (a : Attempt). a.slot) of.attempt ∙ runs.3

  version_is : l.attempt.version ≡ of.row.version
  version_is = ap (λ (a : Attempt). a.version) of.attempt ∙ runs.4

  row_at : slice_get f.slots l.attempt.slot ≡ Some of.row
  row_at = ap (slice_get f.slots) slot_is ∙ of.at

  live_is : live_at f l.attempt.slot ≡ Some of.proc
  live_is = ap (option_and_then (λ (s : SlotRow). s.proc)) row_at ∙ of.is

  on_host : of.proc.host ≡ host
  on_host =
      let all = and_both (eqb of.proc.host host && eqb of.proc.boot r.heard.boot) (not (is_listed r (attempt_of of.proc))) of.due in
      eqb-true of.proc.host host (and_both (eqb of.proc.host host) (eqb of.proc.boot r.heard.boot) all.0).0

  pub launch_own : (name : List ℕ) → host_named f name ≡ Some host → IsOwn f name l.attempt
  launch_own name named =
      record {
        slot = slice_get_within f.slots l.attempt.slot of.row row_at;
        reached = let version = version_is in let row : version_at f l.attempt.slot ≡ of.row.version = ap version_of row_at in omega (arith, version, row);
        here = λ p is same. named ∙ ap Some (sym on_host ∙ ap (λ (q : ProcRow). q.host) (same_Some of.proc p (sym live_is ∙ is)));
      }

  live_spent : IsSpentAt l.attempt of.row → ⊥
  live_spent (inl below) = let version = version_is in omega (arith, version, below)
  live_spent (inr at) = none-some of.proc (sym at.1 ∙ of.is)

  pub launch_live : IsSpent f l.attempt → ⊥
  launch_live spent = live_spent (spent.1 of.row row_at)

  pub launch_apart : list_any (is_same l.attempt) (acks_of r.heard.done) ≡ false
  launch_apart =
      let all = and_both (eqb of.proc.host host && eqb of.proc.boot r.heard.boot) (not (is_listed r (attempt_of of.proc))) of.due in
      let unlisted = not_true (is_listed r (attempt_of of.proc)) all.1 in
      subst (λ (a : Attempt). list_any (is_same a) (acks_of r.heard.done) ≡ false) (sym of.attempt)
      (none_acked (attempt_of of.proc) r.heard.done
      (right_false (list_any (is_same (attempt_of of.proc)) r.running) (list_any (λ (d : DoneItem). is_same (attempt_of of.proc) d.attempt) r.heard.done) unlisted))
