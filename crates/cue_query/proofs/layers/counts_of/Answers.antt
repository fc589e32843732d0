use Rattle.std.proofs.Common.{◌≡◌, ◌∙◌, ℕ, length, take, Option, refl, sym, ap, arith}
use Rattle.std.specs.Prelude.{filter_map, slice_get}
use Rattle.std.proofs.lemmas.Option.{slice_get_read}
use Rattle.farm_types.specs.declared.states.FrameState.{FrameState}
use Rattle.farm_types.specs.Depends.{layer_shape}
use Rattle.farm_types.specs.Jobs.{JobLists}
use Rattle.job_book.specs.Book.{state_at}
use Rattle.job_entries.specs.Counting.{part, counted_in}
use Rattle.farm_types.specs.Step.{lists_of}
use Rattle.cue_query.specs.Counts.{counts_among}
use Rattle.cue_query.proofs.Counted.{all_counted, next_counted, next_passed, part_below}
use Rattle.cue_query.proofs.OwnSlots.{own_count, own_slots}
use Rattle.cue_query.proofs.layers.counts_of.Goals as goal

pub loop-slot-preserved-in_default : goal.loop-slot-preserved-in_default
loop-slot-preserved-in_default c =
    let l = c.loop-slot in
    let ns = c.layer_slots-slot-items.result.now in
    let n = c.slot-item.result in
    let at = slice_get_read ns (length ns) l.slot-index n refl c.loop-slot-test.true c.slot-item.is in
    let is = sym (ap (λ (p : Option FrameState × ℕ). p.0) (c.state.ensures ∙ ap (λ (b : JobLists). state_at b n) (c.jobs-in-loop-slot.ensures ∙ ap lists_of c.books-in-loop-slot.ensures.farm))) ∙ c.in_default.is in
    l.invariant ∙ next_passed c.args.farm.now.slots ns l.slot-index n at is

pub count-requires : goal.count-requires
count-requires c =
    let f = c.args.farm.now in
    let l = c.loop-slot in
    let ns = c.layer_slots-slot-items.result.now in
    let same : part c.in-Some.state l.counts ≡ part c.in-Some.state (counts_among (filter_map (slice_get f.slots) (take l.slot-index ns))) = ap (part c.in-Some.state) l.invariant in
    omega (
      arith,
      same,
      part_below f.slots ns l.slot-index c.in-Some.state,
      own_count f c.kept.ensures c.args.layer.now c.requires c.jobs.result.now ns (c.jobs.ensures ∙ ap lists_of c.books.ensures.farm) c.layer_slots-slot-items.ensures,
    )

pub loop-slot-preserved : goal.loop-slot-preserved
loop-slot-preserved c =
    let l = c.loop-slot in
    let ns = c.layer_slots-slot-items.result.now in
    let n = c.slot-item.result in
    let at = slice_get_read ns (length ns) l.slot-index n refl c.loop-slot-test.true c.slot-item.is in
    let is = sym (ap (λ (p : Option FrameState × ℕ). p.0) (c.state.ensures ∙ ap (λ (b : JobLists). state_at b n) (c.jobs-in-loop-slot.ensures ∙ ap lists_of c.books-in-loop-slot.ensures.farm))) ∙ c.in-Some.is in
    c.count.ensures ∙ (ap (counted_in c.in-Some.state) l.invariant ∙ next_counted c.args.farm.now.slots ns l.slot-index n at c.in-Some.state is)

pub returns : goal.returns
returns c =
    let f = c.args.farm.now in
    let l = c.loop-slot in
    let ns = c.layer_slots-slot-items.result.now in
    l.invariant
    ∙ all_counted f.slots ns (layer_shape f.slots c.args.layer.now).slots l.slot-index (omega (arith, c.loop-slot-test.false))
    (own_slots f c.kept.ensures c.args.layer.now c.requires c.jobs.result.now ns (c.jobs.ensures ∙ ap lists_of c.books.ensures.farm) c.layer_slots-slot-items.ensures)
