-- What the books say of the farm after an act that completes frames and what follows it.
use Rattle.std.proofs.Common.{◌≡◌, ℕ, List, [], ◌∷◌, Option, None, Some, refl, sym, ap, ◌∙◌, arith}
use Rattle.std.specs.List.{list_any, slice_get}
use Rattle.farm_types.specs.declared.attempt.DoneItem.{DoneItem}
use Rattle.farm_types.specs.declared.depend.DependRow.{DependRow}
use Rattle.farm_types.specs.declared.entry.Act.{Act}
use Rattle.farm_types.specs.declared.entry.Act.TheVariants.{EatFrame, Heard, KillJob}
use Rattle.farm_types.specs.declared.entry.Entry.{Entry}
use Rattle.farm_types.specs.declared.entry.HeardAct.{HeardAct}
use Rattle.farm_types.specs.declared.rows.JobRow.{JobRow}
use Rattle.farm_types.specs.declared.slot_row.SlotRow.{SlotRow}
use Rattle.farm_types.specs.declared.states.FrameState.TheVariants.{Eaten}
use Rattle.farm_types.specs.DependActs.{pending_named}
use Rattle.farm_types.specs.Depends.{groups_of}
use Rattle.farm_types.specs.Farm.{Farm, changed_at, host_named}
use Rattle.farm_types.specs.Finish.{count_where, has_succeeded, was_eaten}
use Rattle.farm_types.specs.Hosts.{heard_row}
use Rattle.farm_types.specs.Operators.{slot_named, stopped_row, with_killed, with_row_at}
use Rattle.farm_types.specs.Settle.{met_rows, settle, with_met}
use Rattle.farm_types.specs.Step.{acted, after_act, after_heard, at_moment, end_all, end_attempt, expire, followed, is_live, lists_of, moment_of}
use Rattle.farm_types.proofs.Passes.{cond_each}
use Rattle.farm_law.proofs.Ended.{ended}
use Rattle.farm_rows.specs.Changes.{is_mark}
use Rattle.depend_book.specs.Book.{DependLists, IsBook, joined, waits_in_one}
use Rattle.farm_draft.specs.Rows.{put_slots}
use Rattle.farm_changes.specs.Change.{Makes, after_change, with_more, with_rows}
use Rattle.farm_changes.specs.declared.change.Change.{Change}
use Rattle.farm_changes.specs.declared.change.More.{More}
use Rattle.farm_changes.specs.declared.change.More.TheVariants as more
use Rattle.farm_depends.specs.Completing.{IsCompleting}
use Rattle.depend_book.specs.Fits.{IsBeside}
use Rattle.farm_depends.specs.Follow.{Follows, NoneCome, after_follow, with_all, without}
use Rattle.farm_depends.specs.declared.follow.Follow.{Follow}
use Rattle.farm_finish.specs.AfterAct.{IsAfter}
use Rattle.farm_finish.specs.Gone.{version_in}
use Rattle.farm_finish.proofs.CountLemmas.AfterBase.{counts_stay, done_stays, ended_done, mark_has_group, not_eaten, not_succeeded, waits_settled}
use Rattle.farm_finish.proofs.CountLemmas.CompletedJobs.{completes, frames, jobs_then, made_farm}

-- ---- layers and finishing numbers

abbrev SameRest : Farm → Farm → Type 0
SameRest f g = (g.layers ≡ f.layers) × (g.next_finish ≡ f.next_finish)

rest_then : (f g k : Farm) → SameRest f g → SameRest g k → SameRest f k
rest_then f g k first second = (second.0 ∙ first.0, second.1 ∙ first.1)

ends_rest : (f : Farm) (host boot : ℕ) (ds : List DoneItem) → SameRest f (end_all f host boot ds)
ends_rest f host boot [] = (refl, refl)
ends_rest f host boot (d ∷ ds) =
    let next = end_attempt f host boot d in
    rest_then f next (end_all next host boot ds)
    (cond_each (SameRest f) (is_live f host boot d.attempt.slot d.attempt.version) (ended f d.attempt.slot d.exit) f (refl, refl) (refl, refl)) (ends_rest next host boot ds)

heard_rest : (f : Farm) (heard : HeardAct) (moment : ℕ) (o : Option ℕ) → SameRest f (after_heard (expire f moment) heard moment o)
heard_rest f heard moment None = (refl, refl)
heard_rest f heard moment (Some host) = ends_rest (record (expire f moment) { hosts = changed_at (expire f moment).hosts host (heard_row heard.seq moment) }) host heard.boot heard.done

kill_rest : (f : Farm) (o : Option JobRow) → SameRest f (with_killed f o)
kill_rest f None = (refl, refl)
kill_rest f (Some j) = (refl, refl)

eat_rest : (f : Farm) (o : Option ℕ) → SameRest f (with_row_at f (stopped_row Eaten) o)
eat_rest f None = (refl, refl)
eat_rest f (Some slot) = (refl, refl)

act_rest : (f : Farm) (moment : ℕ) (act : Act) → IsCompleting act → SameRest f (after_act f moment act)
act_rest f moment (Heard heard) c = heard_rest f heard moment (host_named f heard.host)
act_rest f moment (KillJob job) c = kill_rest f (pending_named f job)
act_rest f moment (EatFrame p) c = eat_rest f (slot_named f p)
act_rest f moment other c = absurd c

acted_rest : (f : Farm) (e : Entry) → IsCompleting e.act → SameRest f (acted f e)
acted_rest f e c = act_rest (at_moment f (moment_of f e.moment)) (moment_of f e.moment) e.act c

followed_rest : (f : Farm) (act : Act) → IsCompleting act → SameRest f (followed act f)
unfolding settle
followed_rest f (Heard heard) c = (refl, refl)
followed_rest f (KillJob job) c = (refl, refl)
followed_rest f (EatFrame p) c = (refl, refl)
followed_rest f other c = absurd c

-- ---- slots

-- no job comes, so that the slots are those that the rows leave
more_slots : (g : Farm) (moment : ℕ) (m : More) → (with_more g moment m).next_job ≡ g.next_job → (with_more g moment m).slots ≡ g.slots
more_slots g moment more.Nothing same = refl
more_slots g moment (more.Show name) same = refl
more_slots g moment (more.Alloc facility tag) same = refl
more_slots g moment (more.Sub sub size burst) same = refl
more_slots g moment (more.Limit planned name most) same = refl
more_slots g moment (more.Boot planned line) same = refl
more_slots g moment (more.Paused job paused) same = refl
more_slots g moment (more.Job placing spec) same = absurd (omega (arith, same))

joined_groups : (f : Farm) (b : DependLists) (d : DependRow) → groups_of f d ≡ groups_of (joined f b) d
unfolding groups_of
joined_groups f b d = refl

module _ (f : Farm) (b : DependLists) (e : Entry) (change : Change) (w : Follow) (whole : IsBeside f b) (made : Makes f e change)
    (follows : Follows (joined f b) (joined (after_change f change) b) e.act w) (c : IsCompleting e.act) (book : IsBook b) (none : NoneCome w) where
  abbrev acted_slots : List SlotRow
  acted_slots = put_slots f.slots change.rows.slots.items

  abbrev here : Farm
  here = joined (after_change f change) b

  abbrev last : Farm
  last = after_follow here w

  slots_are : here.slots ≡ acted_slots
  slots_are = more_slots (with_rows f change) change.moment change.more (completes f b e change w whole made follows c).next

  rest : SameRest f last
  rest =
      let done = made_farm f b e change w whole made follows c in
      let first = acted_rest (joined f b) e c in
      let then_rest = followed_rest here e.act c in (
        ap (λ (g : Farm). g.layers) follows.farm ∙ (then_rest.0 ∙ (ap (λ (g : Farm). g.layers) done ∙ first.0)),
        ap (λ (g : Farm). g.next_finish) follows.farm ∙ (then_rest.1 ∙ (ap (λ (g : Farm). g.next_finish) done ∙ first.1)),
      )

  met_are : last.met ≡ met_rows here b.rows
  met_are i = (with_met (without (with_all here (none.0 i)) (none.1 i))).met

  -- what the books say
  pub is_after : IsAfter (lists_of f) acted_slots b last
  is_after =
      let opened = follows.fits.opened_movable in
      let blocked = follows.fits.blocked_movable in
      record {
        jobs = jobs_then f b e change w whole made follows c;
        layers = rest.0;
        next_finish = rest.1;
        frames = λ job n. frames f b e change w whole made follows c job n;
        versions = λ job ends n mine. ap version_in (ap (λ (ss : List SlotRow). slice_get ss n) (sym slots_are) ∙ sym (done_stays here.slots w opened blocked n (ended_done job last.slots ends n mine)));
        eaten = λ job. counts_stay job was_eaten not_eaten here.slots w opened blocked ∙ ap (count_where job was_eaten) slots_are;
        succeeded = λ job. counts_stay job has_succeeded not_succeeded here.slots w opened blocked ∙ ap (count_where job has_succeeded) slots_are;
        waits = λ job n. (λ i. waits_in_one job (with_met (without (with_all here (none.0 i)) (none.1 i))).depends n) ∙ waits_settled here job n b.rows;
        marks = λ n position there.
            mark_has_group here n position 1 b.rows b.graph.depends b.next whole.kept.depends.rise book.numbers
            (λ k d v row watch unmet. whole.fits.groups k d v row watch unmet ∙ (joined_groups f b d ∙ sym (follows.fits.groups_stay k d row unmet)))
            (sym (ap (list_any (is_mark n position)) met_are) ∙ there);
      }
