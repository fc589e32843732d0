-- Acts that complete frames leave jobs as they are, and each frame in its slot.
use Rattle.std.proofs.Common.{◌≡◌, ℕ, zero, suc, true, eqb, List, [], ◌∷◌, Option, Some, None, refl, sym, ap, ◌∙◌}
use Rattle.std.specs.List.{slice_get}
use Rattle.std.proofs.lemmas.Bool.{false≢true}
use Rattle.farm_types.specs.declared.attempt.DoneItem.{DoneItem}
use Rattle.farm_types.specs.declared.entry.Act.{Act}
use Rattle.farm_types.specs.declared.entry.Act.TheVariants.{EatFrame, Heard, KillJob}
use Rattle.farm_types.specs.declared.entry.Entry.{Entry}
use Rattle.farm_types.specs.declared.entry.HeardAct.{HeardAct}
use Rattle.farm_types.specs.declared.rows.JobRow.{JobRow}
use Rattle.farm_types.specs.declared.slot_row.Frame.{Frame}
use Rattle.farm_types.specs.declared.slot_row.SlotRow.{SlotRow}
use Rattle.farm_types.specs.declared.states.FrameState.TheVariants.{Eaten}
use Rattle.farm_types.specs.DependActs.{pending_named}
use Rattle.farm_types.specs.Farm.{Farm, changed_at, for_some, host_named, is_placed}
use Rattle.farm_types.specs.Finish.{is_frame_of}
use Rattle.farm_types.specs.Hosts.{heard_row}
use Rattle.farm_types.specs.Operators.{is_left_of, killed_row, slot_named, stopped_row, with_killed, with_row_at}
use Rattle.farm_types.specs.Settle.{settle}
use Rattle.farm_types.specs.Step.{acted, after_act, after_heard, at_moment, end_all, end_attempt, expire, followed, is_live, is_silent, moment_of}
use Rattle.farm_types.proofs.Passes.{cond_each}
use Rattle.farm_law.proofs.Ended.{ended}
use Rattle.farm_law.proofs.KeptJobsCounts.{at_stands, stands_at}
use Rattle.farm_law.proofs.KeptJobsZip.{zip_map}
use Rattle.depend_law.proofs.Shapes.{SameFrames, SamePlace, changed_frames, ended_frames, frames_same, frames_then, lose_frames, place_same, state_stays}
use Rattle.farm_depends.specs.Completing.{IsCompleting}

-- ---- whose frame a slot has

own_place : (x : Frame) → is_placed x.job x.layer x.position x ≡ true
own_place x = at_stands x.job x.layer x.position x (record { job_is = refl; layer_is = refl; position_is = refl })

frame_same : (n : ℕ) (o p : Option Frame) → ((job layer position : ℕ) → for_some p (is_placed job layer position) ≡ for_some o (is_placed job layer position))
    → for_some p (λ (x : Frame). eqb x.job n) ≡ for_some o (λ (x : Frame). eqb x.job n)
frame_same n None None same = refl
frame_same n None (Some y) same = absurd (false≢true (sym (same y.job y.layer y.position) ∙ own_place y))
frame_same n (Some x) None same = absurd (false≢true (same x.job x.layer x.position ∙ own_place x))
frame_same n (Some x) (Some y) same = ap (λ (job : ℕ). eqb job n) (stands_at x.job x.layer x.position y (same x.job x.layer x.position ∙ own_place x)).job_is

-- where frames stand in their slots, each slot has a frame of the same job
pub frames_of_same : (olds news : List SlotRow) → SameFrames olds news → (job slot : ℕ) → for_some (slice_get news slot) (is_frame_of job) ≡ for_some (slice_get olds slot) (is_frame_of job)
frames_of_same [] [] same job slot = refl
frames_of_same [] (t ∷ ts) same job slot = absurd same
frames_of_same (s ∷ ss) [] same job slot = absurd same
frames_of_same (s ∷ ss) (t ∷ ts) same job zero = frame_same job s.frame t.frame same.0
frames_of_same (s ∷ ss) (t ∷ ts) same job (suc slot) = frames_of_same ss ts same.1 job slot

-- ---- acts

-- the same jobs, and each frame in its slot
abbrev pub Stands : Farm → Farm → Type 0
Stands f g = (g.jobs ≡ f.jobs) × SameFrames f.slots g.slots

stands_same : (f : Farm) → Stands f f
stands_same f = (refl, frames_same f.slots)

stands_then : (f g k : Farm) → Stands f g → Stands g k → Stands f k
stands_then f g k first second = (second.0 ∙ first.0, frames_then f.slots g.slots k.slots first.1 second.1)

ends_stand : (f : Farm) (host boot : ℕ) (ds : List DoneItem) → Stands f (end_all f host boot ds)
ends_stand f host boot [] = stands_same f
ends_stand f host boot (d ∷ ds) =
    let now = end_attempt f host boot d in
    stands_then f now (end_all now host boot ds)
    (cond_each (Stands f) (is_live f host boot d.attempt.slot d.attempt.version) (ended f d.attempt.slot d.exit) f (refl, ended_frames f d.exit f.slots d.attempt.slot) (stands_same f))
    (ends_stand now host boot ds)

heard_stands : (f : Farm) (heard : HeardAct) (moment : ℕ) (o : Option ℕ) → Stands f (after_heard (expire f moment) heard moment o)
heard_stands f heard moment None = (refl, lose_frames (is_silent f moment) f.slots)
heard_stands f heard moment (Some host) =
    let now = record (expire f moment) { hosts = changed_at (expire f moment).hosts host (heard_row heard.seq moment) } in
    stands_then f now (end_all now host heard.boot heard.done) (refl, lose_frames (is_silent f moment) f.slots) (ends_stand now host heard.boot heard.done)

eaten_stands : (s : SlotRow) → SamePlace s (stopped_row Eaten s)
eaten_stands s = state_stays Eaten s.frame

killed_stands : (job : ℕ) (s : SlotRow) → SamePlace s (killed_row job s)
killed_stands job s = cond_each (SamePlace s) (is_left_of job s) (stopped_row Eaten s) s (eaten_stands s) (place_same s)

kill_stands : (f : Farm) (o : Option JobRow) → Stands f (with_killed f o)
kill_stands f None = stands_same f
kill_stands f (Some j) = (refl, zip_map SamePlace (killed_row j.job) (killed_stands j.job) f.slots)

eat_stands : (f : Farm) (o : Option ℕ) → Stands f (with_row_at f (stopped_row Eaten) o)
eat_stands f None = stands_same f
eat_stands f (Some slot) = (refl, changed_frames (stopped_row Eaten) eaten_stands f.slots slot)

act_stands : (f : Farm) (moment : ℕ) (act : Act) → IsCompleting act → Stands f (after_act f moment act)
act_stands f moment (Heard heard) c = heard_stands f heard moment (host_named f heard.host)
act_stands f moment (KillJob job) c = kill_stands f (pending_named f job)
act_stands f moment (EatFrame p) c = eat_stands f (slot_named f p)
act_stands f moment other c = absurd c

-- at the entry's moment
pub acted_stands : (f : Farm) (e : Entry) → IsCompleting e.act → Stands f (acted f e)
acted_stands f e c = act_stands (at_moment f (moment_of f e.moment)) (moment_of f e.moment) e.act c

-- what follows leaves the jobs too
pub followed_jobs : (f : Farm) (act : Act) → IsCompleting act → (followed act f).jobs ≡ f.jobs
unfolding settle
followed_jobs f (Heard heard) c = refl
followed_jobs f (KillJob job) c = refl
followed_jobs f (EatFrame p) c = refl
followed_jobs f other c = absurd c
