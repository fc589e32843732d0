use Rattle.std.proofs.Common.{◌≡◌, ◌∙◌, ◌+◌, Bool, List, Some, true, false, cond, min, refl, sym, ap, arith, rules}
use Rattle.std.specs.List.{slice_get, slice_set}
use Rattle.std.proofs.lemmas.Option.{same_Some, slice_get_within}
use Rattle.farm_types.specs.declared.slot_row.SlotRow.{SlotRow}
use Rattle.farm_types.specs.Farm.{changed_at}
use Rattle.farm_types.specs.Finish.{freed_row, is_frame_of}
use Rattle.farm_types.specs.Jobs.{is_free}
use Rattle.farm_types.proofs.Changed.{changed_at_is}
use Rattle.farm_types.proofs.ChangedLists.{changed_at_kept}
use Rattle.job_book.specs.Freed.{without_frame}
use Rattle.job_book.proofs.EndingLemmas.FreedSlots.{fewer_free, freed_keeps, not_free, picked_free}
use Rattle.job_book.proofs.ending.freeing.free_slot.Goals as goal

pub returns-then-not-is_of-clause-slots : goal.returns-then-not-is_of-clause-slots
returns-then-not-is_of-clause-slots c =
    let slots = c.args.slots.now.items in
    let job = c.args.job in
    let row = c.in-Some.row in
    let at : slice_get slots c.args.slot ≡ Some row = ap (slice_get slots) (sym c.slot.view_is) ∙ ap (λ (ss : List SlotRow). slice_get ss c.slot.inside.0) (sym c.as_slice.ensures.value) ∙ sym c.in-Some.ensures in
    let value : c.is_of.result ≡ false = search rules in
    let not_its : is_frame_of job row ≡ false = sym c.is_of.ensures ∙ value in
    sym (changed_at_kept slots c.args.slot (freed_row job) (λ (x : SlotRow) here.
    let same : row ≡ x = same_Some row x (sym at ∙ here) in
    ap (λ (b : Bool). cond b (without_frame x) x) (ap (is_frame_of job) (sym same) ∙ not_its)))

pub set_row-requires : goal.set_row-requires
set_row-requires c =
    let slots = c.args.slots.now.items in
    let job = c.args.job in
    let row = c.in-Some.row in
    let at : slice_get slots c.args.slot ≡ Some row = ap (slice_get slots) (sym c.slot.view_is) ∙ ap (λ (ss : List SlotRow). slice_get ss c.slot.inside.0) (sym c.as_slice.ensures.value) ∙ sym c.in-Some.ensures in
    slice_get_within slots c.args.slot row at

pub with_free-requires : goal.with_free-requires
with_free-requires c =
    let slots = c.args.slots.now.items in
    let job = c.args.job in
    let row = c.in-Some.row in
    let at : slice_get slots c.args.slot ≡ Some row = ap (slice_get slots) (sym c.slot.view_is) ∙ ap (λ (ss : List SlotRow). slice_get ss c.slot.inside.0) (sym c.as_slice.ensures.value) ∙ sym c.in-Some.ensures in
    let value : c.is_of.result ≡ true = search rules in
    let its : is_frame_of job row ≡ true = sym c.is_of.ensures ∙ value in
    let freed : c.freed_row-freed.result ≡ freed_row job row = c.freed_row-freed.ensures ∙ sym (ap (λ (b : Bool). cond b (without_frame row) row) its) in
    omega (arith, fewer_free slots c.args.slot row at (not_free job row its), c.requires.free.free_is, c.requires.slot_count)

pub returns-clause-slots : goal.returns-clause-slots
returns-clause-slots c =
    let slots = c.args.slots.now.items in
    let job = c.args.job in
    let row = c.in-Some.row in
    let at : slice_get slots c.args.slot ≡ Some row = ap (slice_get slots) (sym c.slot.view_is) ∙ ap (λ (ss : List SlotRow). slice_get ss c.slot.inside.0) (sym c.as_slice.ensures.value) ∙ sym c.in-Some.ensures in
    let value : c.is_of.result ≡ true = search rules in
    let its : is_frame_of job row ≡ true = sym c.is_of.ensures ∙ value in
    let freed : c.freed_row-freed.result ≡ freed_row job row = c.freed_row-freed.ensures ∙ sym (ap (λ (b : Bool). cond b (without_frame row) row) its) in
    c.set_row.ensures.items ∙ ap (slice_set slots c.args.slot) freed ∙ sym (changed_at_is slots c.args.slot (freed_row job) row at)

pub returns-clause-free : goal.returns-clause-free
returns-clause-free c =
    let slots = c.args.slots.now.items in
    let job = c.args.job in
    let row = c.in-Some.row in
    let at : slice_get slots c.args.slot ≡ Some row = ap (slice_get slots) (sym c.slot.view_is) ∙ ap (λ (ss : List SlotRow). slice_get ss c.slot.inside.0) (sym c.as_slice.ensures.value) ∙ sym c.in-Some.ensures in
    let value : c.is_of.result ≡ true = search rules in
    let its : is_frame_of job row ≡ true = sym c.is_of.ensures ∙ value in
    let freed : c.freed_row-freed.result ≡ freed_row job row = c.freed_row-freed.ensures ∙ sym (ap (λ (b : Bool). cond b (without_frame row) row) its) in
    let free = c.args.free in
    let new : c.set_row.new.slots.items ≡ changed_at slots c.args.slot (freed_row job) = c.set_row.ensures.items ∙ ap (slice_set slots c.args.slot) freed ∙ sym (changed_at_is slots c.args.slot (freed_row job) row at) in
    let result = c.with_free.ensures ∙ ap (λ (r : SlotRow). cond (is_free r) (record { count = free.count + 1; lowest = min free.lowest c.args.slot }) free) freed in
    let keeps = freed_keeps slots c.args.slot row at (freed_row job) (not_free job row its) free.count free.lowest c.requires.free (is_free (freed_row job row)) refl in
    rw (result, new) (picked_free (is_free (freed_row job row)) free c.args.slot (changed_at slots c.args.slot (freed_row job)) keeps)
