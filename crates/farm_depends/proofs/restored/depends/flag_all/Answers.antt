use Rattle.std.proofs.Common.{◌≡◌, ◌∙◌, ◌<◌, ◌≤◌, List, length, ap, arith}
use Rattle.std.proofs.lemmas.List.{take_all}
use Rattle.farm_types.specs.declared.limits.TheConstants.{SLOT_LIMIT}
use Rattle.farm_types.specs.declared.slot_row.SlotRow.{SlotRow}
use Rattle.farm_types.specs.Depends.{is_done}
use Rattle.farm_types.proofs.Lists.{slice_get_below}
use Rattle.farm_books.specs.Books.{FarmBooks, depends_of}
use Rattle.farm_books.proofs.WholeBooks.{own_books}
use Rattle.farm_depends.specs.Completing.{is_done_row}
use Rattle.farm_depends.proofs.RestoringLemmas.RestoredFlags.{done_at, flag_then, flags_begin, flags_end, flags_next, rest_then}
use Rattle.farm_depends.proofs.restored.depends.flag_all.Goals as goal

pub loop-place-init : goal.loop-place-init
loop-place-init c =
    let v = c.args.books.now in
    record { rest = own_books v c.kept.ensures.met; flags = flags_begin v.farm.slots (depends_of v) c.requires }

pub loop-place-preserved : goal.loop-place-preserved
loop-place-preserved c =
    let first = c.args.books.now in
    let slots = first.farm.slots in
    let l = c.loop-place in
    let k = l.place in
    let b = depends_of l.books in
    let count : length c.slots-count.result.now ≡ length slots = ap (λ (ss : List SlotRow). length ss) c.slots-count.ensures.value in
    let within : k < length slots = omega (arith, c.loop-place-test.true, count) in
    let low : k < SLOT_LIMIT = omega (arith, c.loop-place-test.true, c.slots-count.ensures.count) in
    let there = slice_get_below slots k within in
    let s = there.0 in
    let same : l.books.farm.slots ≡ slots = ap (λ (v : FarmBooks). v.farm.slots) l.invariant.rest in
    let done = c.is_done_in-done.result in
    let own : done ≡ is_done_row s = c.is_done_in-done.ensures ∙ (ap (λ (ss : List SlotRow). is_done ss k) same ∙ done_at slots k s there.1) in
    record {
      rest = rest_then first l.books c.flag.new.books k done l.invariant.rest c.flag.ensures;
      flags = flags_next slots k s b there.1 low l.invariant.flags done (depends_of c.flag.new.books) own (ap depends_of c.flag.ensures ∙ flag_then l.books k done);
    }

pub returns-clause-flagged : goal.returns-clause-flagged
returns-clause-flagged c =
    let slots = c.args.books.now.farm.slots in
    let l = c.loop-place in
    let count : length c.slots-count.result.now ≡ length slots = ap (λ (ss : List SlotRow). length ss) c.slots-count.ensures.value in
    let ended : length slots ≤ l.place = omega (arith, c.loop-place-test.false, c.loop-place.auto.place-end, count) in
    flags_end slots l.place (depends_of l.books) (take_all l.place slots ended) l.invariant.flags
