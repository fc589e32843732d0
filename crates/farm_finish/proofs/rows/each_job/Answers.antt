use Rattle.std.proofs.Common.{◌≡◌, ℕ, List, true, sym, ap, subst, arith}
use Rattle.std.proofs.lemmas.List.{take_all}
use Rattle.std.proofs.lemmas.List.Elements.{All-get_or}
use Rattle.std.proofs.lemmas.Option.{get_or_from_slice_get, slice_get_within}
use Rattle.farm_types.specs.Step.{finish_each}
use Rattle.farm_rows.specs.declared.row_change.RowChange.{RowChange}
use Rattle.farm_rows.specs.Changes.{MakesRows, row_after, row_at}
use Rattle.job_book.specs.Book.{has_job}
use Rattle.farm_draft.specs.Rows.{put_slots}
use Rattle.farm_finish.proofs.TurnLemmas.EachTurn.{finished_more}
use Rattle.farm_finish.proofs.rows.each_job.Goals as goal

pub loop-place-init : goal.loop-place-init
loop-place-init c = λ f after can k named. ap (λ (cs : List RowChange). row_after cs k (row_at f k)) (sym c.new-changes.ensures.items)

pub add_job-requires-clause-there : goal.add_job-requires-clause-there
add_job-requires-clause-there c =
    let jobs = c.args.jobs.now in
    let job = c.turn_at-turn.result.job in
    let place = c.loop-place.place in
    let at = c.turn_at-turn.ensures.job in
    subst (λ (n : ℕ). has_job c.args.book.now n ≡ true) (get_or_from_slice_get jobs place job job at)
    (All-get_or (λ (n : ℕ). has_job c.args.book.now n ≡ true) jobs place job (slice_get_within jobs place job at) c.requires.there)

pub loop-place-preserved : goal.loop-place-preserved
loop-place-preserved c =
    let b = c.args.book.now in
    let turn = c.turn_at-turn in
    finished_more b (put_slots b.slots c.args.rows.now) c.args.depends.now c.args.jobs.now c.loop-place.place turn.result.job turn.result.finish turn.result.gone c.loop-place.changes.items c.add_job.new.changes.items
    turn.ensures.job turn.ensures.finish turn.ensures.gone c.in_ok-add_job.ensures c.loop-place.invariant

pub returns : goal.returns
returns c = λ f after can.
    subst (λ (ns : List ℕ). MakesRows f (finish_each ns f) c.loop-place.changes.items) (take_all c.loop-place.place c.args.jobs.now (omega arith)) (c.loop-place.invariant f after can)
