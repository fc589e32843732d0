-- After an act that may complete frames, and what follows it, those jobs finish that the counts say.
use Rattle.std.proofs.Common.{◌≡◌, ℕ, suc, Bool, true, false, ◌&&◌, ◌||◌, not, eqb, List, [], ◌∷◌, length, map, All, Option, Some, None, refl, sym, ap, subst, ◌∙◌, arith}
use Rattle.std.specs.Prelude.{is_some, nat_eq, option_and_then}
use Rattle.std.specs.List.{AllByRecursion, IsDistinct, count_by, filter, find, slice_get}
use Rattle.std.proofs.lemmas.Bool.{eq-eqb, eqb-true, false≢true, or_right}
use Rattle.std.proofs.lemmas.List.Elements.{All-from_recursion, recursion_from_All}
use Rattle.farm_types.specs.declared.entry.Entry.{Entry}
use Rattle.farm_types.specs.declared.rows.JobRow.{JobRow}
use Rattle.farm_types.specs.declared.slot_row.Frame.{Frame}
use Rattle.farm_types.specs.declared.slot_row.SlotRow.{SlotRow}
use Rattle.farm_types.specs.Booking.{is_pending}
use Rattle.farm_types.specs.Depends.{is_done, is_done_state}
use Rattle.farm_types.specs.Farm.{Farm, for_some, for_any}
use Rattle.farm_types.specs.Finish.{finishes, is_frame_of}
use Rattle.farm_types.specs.Kept.{KeepsRows, is_of_pending, is_pending_job}
use Rattle.farm_types.specs.Operators.{is_left_of}
use Rattle.farm_types.specs.Step.{acted, finishing, lists_of, moment_of}
use Rattle.farm_types.proofs.Lists.{for_some_true}
use Rattle.farm_types.proofs.Passes.{for_some-there}
use Rattle.farm_law.proofs.FinishedKept.{found_by_number}
use Rattle.farm_law.proofs.KeptAttempts.{frames_owned}
use Rattle.farm_law.proofs.KeptChanges.{kept_hosts}
use Rattle.farm_law.proofs.SafeRuns.{moment_law}
use Rattle.depend_law.proofs.Shapes.{SamePlace, frames_then}
use Rattle.depend_book.specs.Book.{DependLists, joined}
use Rattle.depend_graph.proofs.Counts.{count_by-cons, one_if}
use Rattle.farm_changes.specs.Change.{Makes, after_change}
use Rattle.farm_changes.specs.declared.change.Change.{Change}
use Rattle.farm_depends.specs.Completing.{IsCompleting}
use Rattle.depend_book.specs.Fits.{IsBeside}
use Rattle.farm_depends.specs.Follow.{Follows, after_follow, is_listed, is_one}
use Rattle.farm_depends.specs.declared.follow.Follow.{Follow}
use Rattle.farm_depends.proofs.CompletionLemmas.Completions.{CompletesFrames, acted_completes}
use Rattle.farm_depends.proofs.FollowSlots.{follow_done, follow_stand}
use Rattle.farm_depends.proofs.Joined.{joined_acted}
use Rattle.depend_book.proofs.Zips.{zip_length}
use Rattle.farm_finish.specs.Closing.{HasItsJob, finished_by, job_in, job_of, left_in}
use Rattle.farm_finish.proofs.CountLemmas.FinishingLaw.{finishing_is}
use Rattle.farm_finish.proofs.CountLemmas.Stands.{Stands, acted_stands, followed_jobs, frames_of_same}

-- ---- lists

listed_by : (P : ℕ → Type 0) (list : List ℕ) (slot : ℕ) → AllByRecursion P list → is_listed list slot ≡ true → P slot
listed_by P [] slot all there = absurd (false≢true there)
listed_by P (n ∷ ns) slot all there = by_test (eqb n slot) refl (listed_by P ns slot all.1) where
  by_test : (b : Bool) → eqb n slot ≡ b → (is_listed ns slot ≡ true → P slot) → P slot
  by_test true is later = subst P (eqb-true n slot is) all.0
  by_test false is later = later (ap (λ (b : Bool). b || is_listed ns slot) (sym is) ∙ there)

each_listed : (P : ℕ → Type 0) (list : List ℕ) → ((slot : ℕ) → is_listed list slot ≡ true → P slot) → AllByRecursion P list
each_listed P [] each = tt
each_listed P (n ∷ ns) each =
    (each n (ap (λ (b : Bool). b || is_listed ns n) (eq-eqb n n refl)), each_listed P ns (λ slot there. each slot (or_right (eqb n slot) (is_listed ns slot) there)))

none_counted : (test : SlotRow → Bool) (slots : List SlotRow) → ((n : ℕ) (s : SlotRow) → slice_get slots n ≡ Some s → test s ≡ false) → count_by test slots ≡ 0
none_counted test [] none = refl
none_counted test (s ∷ ss) none = omega (arith, count_by-cons test s ss, ap one_if (none 0 s refl), none_counted test ss (λ n t at. none (suc n) t at))

-- what was done is done still, so that none comes back
still_done : (was back listed now : Bool) → (was ≡ true → now ≡ true) → now ≡ ((was && not back) || listed) → now ≡ (was || listed)
still_done true back listed now stays is = stays refl
still_done false back listed now stays is = is

-- ---- jobs that aren't pending

unowned : (jobs : List JobRow) (job : ℕ) (frame : Option Frame) → for_any frame (λ x. is_of_pending jobs x.job) ≡ true → is_of_pending jobs job ≡ false → for_some frame (λ (x : Frame). eqb x.job job && not (is_done_state x.state)) ≡ false
unowned jobs job None owned gone = refl
unowned jobs job (Some x) owned gone = by_test (eqb x.job job) refl where
  by_test : (b : Bool) → eqb x.job job ≡ b → (b && not (is_done_state x.state)) ≡ false
  by_test true is = absurd (false≢true (sym gone ∙ (ap (is_of_pending jobs) (sym (eqb-true x.job job is)) ∙ owned)))
  by_test false is = refl

-- no frame of them is left
none_left : (f : Farm) → KeepsRows f → (n : ℕ) (j : JobRow) → slice_get f.jobs n ≡ Some j → is_pending j.state ≡ false → left_in j.job f.slots ≡ 0
none_left f rows n j at gone =
    let found = found_by_number 1 f.jobs f.next_job n j rows.jobs.jobs_rise at in
    let over : is_of_pending f.jobs j.job ≡ false = ap (λ (o : Option JobRow). for_some o is_pending_job) found ∙ gone in
    none_counted (is_left_of j.job) f.slots (λ i s here. unowned f.jobs j.job s.frame (frames_owned f rows i s here) over)

-- ---- the slots that are done

has_its : (f : Farm) → KeepsRows f → (slot : ℕ) (x : Frame) → for_some (slice_get f.slots slot) (is_frame_of x.job) ≡ true → HasItsJob (lists_of f) slot
has_its f rows slot x there =
    let s = for_some_true (slice_get f.slots slot) (is_frame_of x.job) there in
    let y = for_some_true s.0.frame (λ (y : Frame). eqb y.job x.job) s.2 in
    let owned : is_of_pending f.jobs y.0.job ≡ true = subst (λ (o : Option Frame). for_any o (λ z. is_of_pending f.jobs z.job) ≡ true) y.1 (frames_owned f rows slot s.0 s.1) in
    let j = for_some_true (find (λ (j : JobRow). eqb j.job y.0.job) f.jobs) is_pending_job owned in
    let job : job_in f.slots slot ≡ y.0.job = ap (λ (o : Option SlotRow). job_of (option_and_then (λ (t : SlotRow). t.frame) o)) s.1 ∙ ap job_of y.1 in
    record {
      framed = for_some-there (slice_get f.slots slot) (λ (t : SlotRow). is_some t.frame) s.0 s.1 (ap is_some y.1);
      owned = ap (λ (n : ℕ). is_some (find (λ (k : JobRow). eqb k.job n) f.jobs)) job ∙ ap is_some j.1;
    }

-- ---- the entry

-- exactly these frames are done now that weren't, each named once
pub record AreCompleted (olds news : List SlotRow) (done : List ℕ) : Type 0 where
  pub differ : IsDistinct nat_eq done
  pub undone : All (λ slot. is_done olds slot ≡ false) done
  pub done_are : (slot : ℕ) → is_done news slot ≡ (is_done olds slot || is_listed done slot)

module _ (f : Farm) (b : DependLists) (e : Entry) (change : Change) (w : Follow) (whole : IsBeside f b) (made : Makes f e change)
    (follows : Follows (joined f b) (joined (after_change f change) b) e.act w) (c : IsCompleting e.act) where
  abbrev pub old : Farm
  old = joined f b

  abbrev pub now : Farm
  now = joined (after_change f change) b

  pub made_farm : now ≡ acted old e
  made_farm = ap (λ (g : Farm). joined g b) made.farm ∙ joined_acted b f e

  pub completes : CompletesFrames old now
  completes =
      let moment = moment_of old e.moment in
      let there = kept_hosts old whole.kept.rows in
      subst (CompletesFrames old) (sym made_farm)
      (acted_completes old e c ((moment_law old moment).sound whole.kept.rows.sound there) ((moment_law old moment).hosts whole.kept.rows.sound there))

  stands : Stands old now
  stands = subst (Stands old) (sym made_farm) (acted_stands old e c)

  -- those that what follows names
  pub follow_lists : AreCompleted f.slots now.slots w.done
  follow_lists =
      record {
        differ = follows.fits.done_differ;
        undone = follows.fits.undone;
        done_are = λ slot. still_done (is_done f.slots slot) (is_one w.reopened slot) (is_listed w.done slot) (is_done now.slots slot) (completes.slots slot).done (follows.fits.done_are slot);
      }

  -- the slots that are listed have frames, whose jobs are there
  pub listed_there : (done : List ℕ) → AreCompleted f.slots now.slots done → All (HasItsJob (lists_of f)) done
  listed_there done are =
      All-from_recursion (HasItsJob (lists_of f)) done
      (each_listed (HasItsJob (lists_of f)) done
      (λ slot listed.
      let is : is_done now.slots slot ≡ true = are.done_are slot ∙ or_right (is_done f.slots slot) (is_listed done slot) listed in
      let t = for_some_true (slice_get now.slots slot) (λ (s : SlotRow). for_some s.frame (λ x. is_done_state x.state)) is in
      let x = for_some_true t.0.frame (λ (x : Frame). is_done_state x.state) t.2 in
      let mine : is_frame_of x.0.job t.0 ≡ true = for_some-there t.0.frame (λ (y : Frame). eqb y.job x.0.job) x.0 x.1 (eq-eqb x.0.job x.0.job refl) in
      let there = for_some-there (slice_get now.slots slot) (is_frame_of x.0.job) t.0 t.1 mine in
      has_its old whole.kept.rows slot x.0 (sym (frames_of_same old.slots now.slots stands.1 x.0.job slot) ∙ there)))

  abbrev pub then : Farm
  then = after_follow now w

  pub frames : (job slot : ℕ) → for_some (slice_get then.slots slot) (is_frame_of job) ≡ for_some (slice_get f.slots slot) (is_frame_of job)
  frames = frames_of_same f.slots then.slots (frames_then f.slots now.slots then.slots stands.1 (follow_stand now.slots w))

  long : length f.slots ≡ length then.slots
  long = zip_length SamePlace f.slots now.slots stands.1 ∙ zip_length SamePlace now.slots then.slots (follow_stand now.slots w)

  pub jobs_then : then.jobs ≡ f.jobs
  jobs_then = ap (λ (g : Farm). g.jobs) follows.farm ∙ (followed_jobs now e.act c ∙ stands.0)

  -- exactly those finish of which no frame is left
  pub completed_finish : (done : List ℕ) → AreCompleted f.slots now.slots done → finished_by (lists_of f) done ≡ finishing then
  completed_finish done are =
      let done_then : (slot : ℕ) → is_done then.slots slot ≡ (is_done f.slots slot || is_listed done slot) =
      λ slot. follow_done now.slots w follows.fits.opened_movable follows.fits.blocked_movable slot ∙ are.done_are slot in
      let undone : (slot : ℕ) → is_listed done slot ≡ true → is_done f.slots slot ≡ false =
      λ slot listed. listed_by (λ n. is_done f.slots n ≡ false) done slot (recursion_from_All (λ n. is_done f.slots n ≡ false) done are.undone) listed in
      finishing_is (lists_of f) then.slots done long are.differ done_then undone frames whole.kept.rows.jobs.jobs_rise whole.kept.work (none_left old whole.kept.rows)
      ∙ ap (λ (jobs : List JobRow). map (λ (j : JobRow). j.job) (filter (finishes then.slots) jobs)) (sym jobs_then)
