use Rattle.std.proofs.Common.{◌≡◌, ◌-◌, ◌<◌, ◌∙◌, suc, length, List, Option, Some, true, ℕ, refl, ap, sym, subst, arith}
use Rattle.std.specs.List.{list_all, slice_get, slice_set}
use Rattle.std.specs.Option.{option_map}
use Rattle.std.proofs.lemmas.List.{length-map}
use Rattle.std.proofs.lemmas.Option.{slice_get-map, slice_get_read}
use Rattle.farm_types.specs.declared.attempt.ProcRow.{ProcRow}
use Rattle.farm_types.specs.declared.rows.SubRow.{SubRow}
use Rattle.farm_types.specs.declared.slot_row.SlotRow.{SlotRow}
use Rattle.attempt_book.specs.Book.{AttemptLists}
use Rattle.attempt_book.specs.Restore.{is_known_proc, procs_in}
use Rattle.attempt_book.proofs.Restored.{can_resume, resumed}
use Rattle.attempt_book.proofs.attempts.Attempts.resume_all.Goals as goal

pub overflow_cast-place : goal.overflow_cast-place
overflow_cast-place c = omega (arith, length-map c.args.slots.now (λ (s : SlotRow). s.proc), c.requires.count)

-- the attempt of the slot at a place
proc_at : (slots : List SlotRow) (k : ℕ) (row : SlotRow) → slice_get slots k ≡ Some row → slice_get (procs_in slots) k ≡ Some row.proc
proc_at slots k row at = slice_get-map (λ (s : SlotRow). s.proc) slots k ∙ ap (option_map (λ (s : SlotRow). s.proc)) at

pub resume_row-requires : goal.resume_row-requires
resume_row-requires c =
    let slots = c.args.slots.now in
    let n = c.loop-place.place in
    let row = c.index-slots-place.result in
    let next : n ≡ suc (n - 1) = omega arith in
    let below : n - 1 < length slots = omega arith in
    let at = slice_get_read slots (length slots) (n - 1) row refl below c.index-slots-place.is in
    let known = subst (λ (subs : List SubRow). list_all (is_known_proc subs) (procs_in slots) ≡ true) (sym c.loop-place.invariant.subs) c.requires.known in
    can_resume c.loop-place.self (procs_in slots) n (n - 1) row.proc c.loop-place.invariant.procs next (proc_at slots (n - 1) row at) known c.requires.booked

pub loop-place-preserved : goal.loop-place-preserved
loop-place-preserved c =
    let slots = c.args.slots.now in
    let n = c.loop-place.place in
    let row = c.index-slots-place.result in
    let next : n ≡ suc (n - 1) = omega arith in
    let below : n - 1 < length slots = omega arith in
    let at = slice_get_read slots (length slots) (n - 1) row refl below c.index-slots-place.is in
    record {
      within = omega arith;
      subs = ap (λ (b : AttemptLists). b.subs) c.resume_row.ensures ∙ c.loop-place.invariant.subs;
      procs =
          ap (λ (b : AttemptLists). b.procs) c.resume_row.ensures
          ∙ ap (λ (ps : List (Option ProcRow)). slice_set ps (n - 1) row.proc) c.loop-place.invariant.procs
          ∙ resumed n (n - 1) (procs_in slots) row.proc next (proc_at slots (n - 1) row at);
    }
