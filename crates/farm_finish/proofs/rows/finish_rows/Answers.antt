use Rattle.std.proofs.Common.{◌≡◌, ◌∙◌, ◌<◌, ◌^◌, ℕ, eqb, List, [], All, true, length, sym, ap, subst}
use Rattle.std.specs.List.{list_all}
use Rattle.std.proofs.lemmas.Bool.{false≢true}
use Rattle.std.proofs.lemmas.Result.{IfOk-weaker}
use Rattle.farm_types.specs.Jobs.{JobLists}
use Rattle.farm_types.specs.Kept.{EachOnce, is_kept_slot}
use Rattle.farm_types.specs.Step.{lists_of}
use Rattle.farm_types.specs.declared.entry.Entry.{Entry}
use Rattle.farm_types.specs.Farm.{Farm}
use Rattle.depend_law.specs.Ending.{CanEnd}
use Rattle.depend_book.specs.Book.{DependLists, joined}
use Rattle.farm_books.specs.Books.{FarmBooks, IsWhole, depends_of}
use Rattle.farm_books.proofs.WholeBooks.{whole_beside}
use Rattle.farm_changes.specs.declared.change.Change.{Change}
use Rattle.farm_depends.specs.declared.follow.Follow.{Follow}
use Rattle.farm_depends.proofs.Wholes.{changed_farm, follows_beside}
use Rattle.farm_finish.specs.Closing.{closing}
use Rattle.job_book.specs.Book.{has_job}
use Rattle.farm_draft.specs.declared.slot_change.SlotChange.{SlotChange}
use Rattle.farm_draft.specs.Rows.{put_slots}
use Rattle.farm_changes.specs.Change.{after_change}
use Rattle.farm_depends.specs.Follow.{Follows, after_follow}
use Rattle.farm_finish.specs.AfterAct.{IsAfter}
use Rattle.farm_finish.specs.Versions.{AreSet}
use Rattle.farm_finish.proofs.TurnLemmas.ToFinish.{after, all_there, are_set, number_left}
use Rattle.farm_finish.proofs.rows.finish_rows.Goals as goal

pub each_job-requires-clause-rows : goal.each_job-requires-clause-rows
each_job-requires-clause-rows c =
    let f = c.args.books.now.farm in
    let set = are_set f c.args.change.now c.requires.made.ready.rows in
    subst (λ (b : JobLists). AreSet b.slots c.slot_rows.result.now) (sym c.jobs.ensures) (subst (λ (es : List SlotChange). AreSet f.slots es) (sym c.slot_rows.ensures) set)

pub each_job-requires-clause-kept : goal.each_job-requires-clause-kept
each_job-requires-clause-kept c = subst (λ (b : JobLists). list_all (is_kept_slot b.layers) b.slots ≡ true) (sym c.jobs.ensures) c.requires.whole.kept.rows.jobs.slots_kept

pub each_job-requires-clause-once : goal.each_job-requires-clause-once
each_job-requires-clause-once c = subst (λ (b : JobLists). EachOnce b.slots) (sym c.jobs.ensures) c.requires.whole.kept.rows.jobs.frames_once

-- what is asked of the farm with the book of its depends
module _ (v : FarmBooks) (whole : IsWhole v) (e : Entry) (change : Change) (w : Follow) (jobs : List ℕ) where
  abbrev here : Farm
  here = after_change v.farm change

  abbrev there : Farm
  there = joined here (depends_of v)

  same_farm : there ≡ here
  same_farm = changed_farm v whole change

  follows_there : Follows v.farm here e.act w → Follows (joined v.farm (depends_of v)) there e.act w
  follows_there follows = follows_beside v whole here e.act w same_farm follows

  closing_there : jobs ≡ closing e.act (after_follow here w) → jobs ≡ closing e.act (after_follow there w)
  closing_there are = are ∙ ap (λ (f : Farm). closing e.act (after_follow f w)) (sym same_farm)

  ends_there : CanEnd (after_follow here w) jobs → CanEnd (after_follow there w) jobs
  ends_there ends = subst (λ (f : Farm). CanEnd (after_follow f w) jobs) (sym same_farm) ends

pub each_job-requires-clause-there : goal.each_job-requires-clause-there
each_job-requires-clause-there c =
    let v = c.args.books.now in
    let e = c.args.entry.now in
    let change = c.args.change.now in
    let w = c.args.follow.now in
    let jobs = c.args.jobs.now in
    let whole = c.requires.whole in
    let some : jobs ≡ [] → ⊥ = λ none. false≢true (sym (sym c.is_empty.ensures ∙ c.if-is_empty.false) ∙ ap (λ (ns : List ℕ). eqb (length ns) 0) none) in
    subst (λ (b : JobLists). All (λ n. has_job b n ≡ true) jobs) (sym c.jobs.ensures)
    (all_there v.farm (depends_of v) e change w (whole_beside v whole) c.requires.made (follows_there v whole e change w jobs c.requires.follows) jobs (closing_there v whole e change w jobs c.requires.jobs)
    some (ends_there v whole e change w jobs c.requires.ends) c.kept.ensures.book)

pub each_job-requires-clause-number : goal.each_job-requires-clause-number
each_job-requires-clause-number c =
    let v = c.args.books.now in
    let e = c.args.entry.now in
    let change = c.args.change.now in
    let w = c.args.follow.now in
    let jobs = c.args.jobs.now in
    let whole = c.requires.whole in
    let some : jobs ≡ [] → ⊥ = λ none. false≢true (sym (sym c.is_empty.ensures ∙ c.if-is_empty.false) ∙ ap (λ (ns : List ℕ). eqb (length ns) 0) none) in
    subst (λ (b : JobLists). b.next_finish < 2 ^ 32) (sym c.jobs.ensures)
    (number_left v.farm (depends_of v) e change w (whole_beside v whole) c.requires.made (follows_there v whole e change w jobs c.requires.follows) jobs (closing_there v whole e change w jobs c.requires.jobs)
    some (ends_there v whole e change w jobs c.requires.ends) c.kept.ensures.book)

pub returns : goal.returns
returns c =
    let v = c.args.books.now in
    let f = v.farm in
    let e = c.args.entry.now in
    let change = c.args.change.now in
    let w = c.args.follow.now in
    let jobs = c.args.jobs.now in
    let whole = c.requires.whole in
    let some : jobs ≡ [] → ⊥ = λ none. false≢true (sym (sym c.is_empty.ensures ∙ c.if-is_empty.false) ∙ ap (λ (ns : List ℕ). eqb (length ns) 0) none) in
    let last = after_follow (after_change f change) w in
    let then = after f (depends_of v) e change w (whole_beside v whole) c.requires.made (follows_there v whole e change w jobs c.requires.follows) jobs (closing_there v whole e change w jobs c.requires.jobs)
    some (ends_there v whole e change w jobs c.requires.ends) c.kept.ensures.book in
    let here : IsAfter (lists_of f) (put_slots f.slots change.rows.slots.items) (depends_of v) last =
    subst (λ (g : Farm). IsAfter (lists_of f) (put_slots f.slots change.rows.slots.items) (depends_of v) (after_follow g w)) (same_farm v whole e change w jobs) then in
    let read : IsAfter c.jobs.result.now (put_slots c.jobs.result.now.slots c.slot_rows.result.now) c.depends.result.now last =
    subst (λ (d : DependLists). IsAfter c.jobs.result.now (put_slots c.jobs.result.now.slots c.slot_rows.result.now) d last) (sym c.depends.ensures)
    (subst (λ (b : JobLists). IsAfter b (put_slots b.slots c.slot_rows.result.now) (depends_of v) last) (sym c.jobs.ensures)
    (subst (λ (es : List SlotChange). IsAfter (lists_of f) (put_slots f.slots es) (depends_of v) last) (sym c.slot_rows.ensures) here))
    in
    IfOk-weaker c.each_job.result _ _ (λ changes makes. makes last read c.requires.ends) c.each_job.ensures
