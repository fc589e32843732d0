use Rattle.std.proofs.Common.{◌≡◌, ◌&&◌, ◌∙◌, ℕ, [], ◌∷◌, true, false, eqb, sym, ap, subst}
use Rattle.farm_types.specs.Step.{after, moment_of}
use Rattle.farm_rows.specs.declared.farm_row.FarmRow.TheVariants as row
use Rattle.farm_rows.specs.declared.row_change.RowChange.{RowChange}
use Rattle.farm_rows.specs.declared.row_change.RowChange.TheVariants as change
use Rattle.farm_rows.specs.Changes.{NamesExactly}
use Rattle.farm_rows.specs.Rows.{head_row}
use Rattle.farm_books.specs.Bookings.{entry_of}
use Rattle.farm_books.proofs.BookedRow.{booked_row_allowed}
use Rattle.farm_core.proofs.BookedRows.{names_both, names_slot}
use Rattle.farm_core.proofs.booking.rows_of_booking.Goals as goal

pub returns-then-is_head_at : goal.returns-then-is_head_at
returns-then-is_head_at c =
    let f = c.args.books.now.farm in
    let b = c.args.booked.now in
    let allowed = booked_row_allowed f b.slot b.host (moment_of f b.moment) b.row c.requires in
    let same : (f.recorded && eqb f.moment (moment_of f b.moment)) ≡ true =
    ap (λ (n : ℕ). f.recorded && eqb f.moment n) (sym c.later_of-now.ensures) ∙ (sym c.is_head_at.ensures ∙ c.if-is_head_at.true)
    in
    subst (λ (x : RowChange). NamesExactly f (after f (entry_of b)) (x ∷ [])) (sym c.of_slot-slot.ensures) (names_slot f b.slot b.host b.moment allowed b.row c.requires same)

pub returns : goal.returns
returns c =
    let f = c.args.books.now.farm in
    let b = c.args.booked.now in
    let allowed = booked_row_allowed f b.slot b.host (moment_of f b.moment) b.row c.requires in
    let other : (f.recorded && eqb f.moment (moment_of f b.moment)) ≡ false =
    ap (λ (n : ℕ). f.recorded && eqb f.moment n) (sym c.later_of-now.ensures) ∙ (sym c.is_head_at.ensures ∙ c.if-is_head_at.false)
    in
    let head = c.head_at.ensures ∙ ap (λ (n : ℕ). record (head_row f) { moment = n }) c.later_of-now.ensures in
    subst (λ (x : RowChange). NamesExactly f (after f (entry_of b)) (x ∷ change.Put (row.Head c.head_at.result) ∷ [])) (sym c.of_slot-slot.ensures)
    (names_both f b.slot b.host b.moment allowed b.row c.head_at.result c.requires head other)
