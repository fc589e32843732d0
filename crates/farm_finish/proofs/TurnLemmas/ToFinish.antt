-- What the books keep where jobs finish with an entry.
use Rattle.std.proofs.Common.{◌≡◌, ℕ, ◌-◌, ◌<◌, ◌^◌, Bool, true, false, cond, ◌&&◌, eqb, ltb, List, [], ◌∷◌, map, All, refl, sym, ap, subst, ◌∙◌, inl, inr, arith}
use Rattle.std.specs.Prelude.{is_some}
use Rattle.std.specs.List.{AllByRecursion, filter, find}
use Rattle.std.proofs.lemmas.Bool.{ltb-true, ne_eqb}
use Rattle.std.proofs.lemmas.List.Elements.{All-from_recursion}
use Rattle.farm_types.specs.declared.entry.Act.{Act}
use Rattle.farm_types.specs.declared.entry.Act.TheVariants.{EatFrame, Heard, KillJob}
use Rattle.farm_types.specs.declared.entry.Entry.{Entry}
use Rattle.farm_types.specs.declared.rows.JobRow.{JobRow}
use Rattle.farm_types.specs.declared.slot_row.SlotRow.{SlotRow}
use Rattle.farm_types.specs.Farm.{Farm}
use Rattle.farm_types.specs.Jobs.{JobLists}
use Rattle.farm_types.specs.Kept.{is_pending_job}
use Rattle.farm_types.specs.Step.{finishing, lists_of}
use Rattle.farm_types.proofs.Lists.{for_some_true}
use Rattle.depend_law.specs.Ending.{CanEnd, Ends}
use Rattle.depend_law.proofs.Among.{each_weaker}
use Rattle.depend_book.specs.Book.{DependLists, IsBook, joined}
use Rattle.job_book.specs.Book.{has_job}
use Rattle.farm_draft.specs.Rows.{AreReady, put_slots}
use Rattle.farm_changes.specs.Change.{Makes, after_change}
use Rattle.farm_changes.specs.declared.change.Change.{Change}
use Rattle.farm_depends.specs.Completing.{IsCompleting}
use Rattle.depend_book.specs.Fits.{IsBeside}
use Rattle.farm_depends.specs.Follow.{Follows, IsOneKind, NoneCome, after_follow}
use Rattle.farm_depends.specs.declared.follow.Follow.{Follow}
use Rattle.farm_finish.specs.AfterAct.{IsAfter}
use Rattle.farm_finish.specs.Closing.{closing, ends, ends_by, finished_by, left_in}
use Rattle.farm_finish.specs.Versions.{AreSet}
use Rattle.farm_finish.proofs.CountLemmas.AfterFollow.{is_after}
use Rattle.farm_finish.proofs.CountLemmas.CompletedJobs.{completed_finish, follow_lists}
use Rattle.farm_finish.proofs.TurnLemmas.Turns.{number_below}

pub are_set : (f : Farm) (change : Change) → AreReady f change.rows → AreSet f.slots change.rows.slots.items
are_set f change ready = record { stood = ready.slots_stood; differ = ready.slots_differ }

-- ---- acts

completing_by : (act : Act) (g : Farm) → (closing act g ≡ [] → ⊥) → IsCompleting act
completing_by (Heard heard) g some = tt
completing_by (KillJob job) g some = tt
completing_by (EatFrame p) g some = tt
completing_by other g some = absurd (some refl)

closing_is : (act : Act) (g : Farm) → IsCompleting act → closing act g ≡ finishing g
closing_is (Heard heard) g c = refl
closing_is (KillJob job) g c = refl
closing_is (EatFrame p) g c = refl
closing_is other g c = absurd c

-- ---- where no frame is done, no job finishes

none_more : (left : ℕ) → ends_by left 0 ≡ false
none_more left = by (ltb 0 left) refl where
  by : (b : Bool) → ltb 0 left ≡ b → (b && eqb (left - 0) 0) ≡ false
  by true is = ne_eqb (left - 0) 0 (λ e. omega (arith, e, ltb-true 0 left is))
  by false is = refl

none_ends : (slots : List SlotRow) (jobs : List JobRow) → filter (λ (j : JobRow). ends slots [] j.job) jobs ≡ []
none_ends slots [] = refl
none_ends slots (j ∷ js) =
    ap (λ (b : Bool). cond b (j ∷ filter (λ (k : JobRow). ends slots [] k.job) js) (filter (λ (k : JobRow). ends slots [] k.job) js)) (none_more (left_in j.job slots)) ∙ none_ends slots js

none_finish : (b : JobLists) (done : List ℕ) → done ≡ [] → finished_by b done ≡ []
none_finish b done none = ap (finished_by b) none ∙ ap (map (λ (j : JobRow). j.job)) (none_ends b.slots b.jobs)

-- ---- the entry

first_ends : (g : Farm) (jobs : List ℕ) → (jobs ≡ [] → ⊥) → AllByRecursion (Ends g) jobs → (n : ℕ) × Ends g n
first_ends g [] some all = absurd (some refl)
first_ends g (n ∷ ns) some all = (n, all.0)

module _ (f : Farm) (b : DependLists) (e : Entry) (change : Change) (w : Follow) (whole : IsBeside f b) (made : Makes f e change)
    (follows : Follows (joined f b) (joined (after_change f change) b) e.act w) (jobs : List ℕ) (are : jobs ≡ closing e.act (after_follow (joined (after_change f change) b) w))
    (some : jobs ≡ [] → ⊥) (can : CanEnd (after_follow (joined (after_change f change) b) w) jobs) (book : IsBook b) where
  abbrev last : Farm
  last = after_follow (joined (after_change f change) b) w

  completing : IsCompleting e.act
  completing = completing_by e.act last (λ none. some (are ∙ none))

  none_come_by : IsOneKind w → NoneCome w
  none_come_by (inl kind) = kind.0
  none_come_by (inr (inl kind)) =
      absurd (some (are ∙ (closing_is e.act last completing ∙ (sym (completed_finish f b e change w whole made follows completing w.done (follow_lists f b e change w whole made follows completing)) ∙ none_finish (lists_of f) w.done kind.0))))
  none_come_by (inr (inr kind)) = kind.0

  -- the books say what the farm is
  pub after : IsAfter (lists_of f) (put_slots f.slots change.rows.slots.items) b last
  after = is_after f b e change w whole made follows completing book (none_come_by follows.fits.one_kind)

  job_there : (n : ℕ) → Ends last n → has_job (lists_of f) n ≡ true
  job_there n its =
      let j = for_some_true (find (λ (k : JobRow). eqb k.job n) last.jobs) is_pending_job its.0 in
      ap (λ (js : List JobRow). is_some (find (λ (k : JobRow). eqb k.job n) js)) (sym after.jobs) ∙ ap is_some j.1

  pub all_there : All (λ n. has_job (lists_of f) n ≡ true) jobs
  all_there = All-from_recursion (λ n. has_job (lists_of f) n ≡ true) jobs (each_weaker (Ends last) (λ n. has_job (lists_of f) n ≡ true) job_there jobs can.ends)

  pub number_left : f.next_finish < 2 ^ 32
  number_left =
      let first = first_ends last jobs some can.ends in
      omega (arith, after.next_finish, number_below last first.0 can.settled.rows first.1.0)
