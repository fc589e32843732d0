use Rattle.std.proofs.Common.{◌≡◌, ◌∙◌, ◌<◌, ◌≤◌, Some, drop, length, sym, ap, subst, arith}
use Rattle.std.specs.List.{slice_get}
use Rattle.std.proofs.lemmas.Option.{slice_get-get_or}
use Rattle.farm_types.specs.declared.depend.DependRow.{DependRow}
use Rattle.farm_types.specs.Kept.{IsKeptFarm, KeepsRows}
use Rattle.farm_rows.specs.Changes.{beside}
use Rattle.depend_book.specs.Book.{joined, marks_of}
use Rattle.depend_book.specs.Restored.{skipped}
use Rattle.farm_books.specs.Books.{FarmBooks, IsWhole, depends_of, with_depends}
use Rattle.farm_books.proofs.WholeBooks.{beside_whole}
use Rattle.farm_depends.specs.Restored.{groups_for, restored_in}
use Rattle.farm_depends.proofs.ComingLemmas.PlacedFollows.{rows_with}
use Rattle.farm_depends.proofs.RestoringLemmas.RestoredFlags.{rest_more}
use Rattle.farm_depends.proofs.RestoringLemmas.RestoredRows.{above, can_restore_by, groups_for_joined, next_below, restored, restoring_begin, restoring_by}
use Rattle.farm_depends.proofs.restored.depends.restore_depends.Goals as goal

pub loop-row-init : goal.loop-row-init
loop-row-init c =
    let f = c.args.books.farm in
    record {
      rest = c.flag_all.ensures.rest;
      so_far = restoring_begin f c.args.rows.now c.args.met.now c.args.next c.requires.kept (depends_of c.flag_all.new.books) c.flag_all.ensures.flagged;
    }

pub restore_row-requires-clause-kept : goal.restore_row-requires-clause-kept
restore_row-requires-clause-kept c =
    let f = c.args.books.farm in
    let l = c.loop-row in
    let b = depends_of l.restored in
    subst KeepsRows (ap (λ (v : FarmBooks). v.farm) (sym l.invariant.rest))
    (rows_with (beside f c.args.rows.now c.args.met.now c.args.next) b.rows (marks_of b.graph.depends) b.next c.requires.kept.rows)

pub restore_row-requires-clause-above : goal.restore_row-requires-clause-above
restore_row-requires-clause-above c =
    let rows = c.args.rows.now in
    let met = c.args.met.now in
    let l = c.loop-row in
    let row = c.row-item.result in
    let within : l.row-index < length rows = omega (arith, c.loop-row-test.true) in
    let at : slice_get rows l.row-index ≡ Some row = slice_get-get_or rows l.row-index row within ∙ ap (λ (d : DependRow). Some d) (sym c.row-item.is) in
    above (beside c.args.books.farm rows met c.args.next) c.requires.kept l.row-index (depends_of l.restored) (drop l.at met) l.invariant.so_far row at

pub restore_row-requires-clause-can : goal.restore_row-requires-clause-can
restore_row-requires-clause-can c =
    let f = c.args.books.farm in
    let rows = c.args.rows.now in
    let met = c.args.met.now in
    let next = c.args.next in
    let l = c.loop-row in
    let b = depends_of l.restored in
    let row = c.row-item.result in
    let within : l.row-index < length rows = omega (arith, c.loop-row-test.true) in
    let at : slice_get rows l.row-index ≡ Some row = slice_get-get_or rows l.row-index row within ∙ ap (λ (d : DependRow). Some d) (sym c.row-item.is) in
    let farm : l.restored.farm ≡ joined f b = ap (λ (v : FarmBooks). v.farm) l.invariant.rest in
    can_restore_by (beside f rows met next) c.requires.kept l.row-index b (drop l.at met) l.invariant.so_far row at (groups_for l.restored.farm row)
    (groups_for_joined f rows met next c.requires.kept l.restored.farm b row farm)

pub loop-row-preserved : goal.loop-row-preserved
loop-row-preserved c =
    let f = c.args.books.farm in
    let rows = c.args.rows.now in
    let met = c.args.met.now in
    let next = c.args.next in
    let l = c.loop-row in
    let b = depends_of l.restored in
    let row = c.row-item.result in
    let new = c.restore_row.new.books in
    let within : l.row-index < length rows = omega (arith, c.loop-row-test.true) in
    let at : slice_get rows l.row-index ≡ Some row = slice_get-get_or rows l.row-index row within ∙ ap (λ (d : DependRow). Some d) (sym c.row-item.is) in
    let farm : l.restored.farm ≡ joined f b = ap (λ (v : FarmBooks). v.farm) l.invariant.rest in
    record {
      rest = rest_more c.args.books l.restored new (restored_in b row (groups_for l.restored.farm row) (drop l.at met)) l.invariant.rest c.in_ok-restore_row.ensures.books;
      so_far =
          restoring_by (beside f rows met next) c.requires.kept l.row-index b (drop l.at met) l.invariant.so_far row at (groups_for l.restored.farm row) (depends_of new) (drop c.restore_row.new.at met)
          (groups_for_joined f rows met next c.requires.kept l.restored.farm b row farm) (ap depends_of c.in_ok-restore_row.ensures.books) c.in_ok-restore_row.ensures.rest;
    }

pub skip_depends-requires-clause-above : goal.skip_depends-requires-clause-above
skip_depends-requires-clause-above c =
    let rows = c.args.rows.now in
    let met = c.args.met.now in
    let l = c.loop-row in
    let ended : length rows ≤ l.row-index = omega (arith, c.loop-row-test.false, c.loop-row.auto.row-index-end) in
    next_below c.args.books.farm rows met c.args.next c.requires.kept l.row-index (depends_of l.restored) (drop l.at met) l.invariant.so_far ended

pub returns-clause-farm : goal.returns-clause-farm
returns-clause-farm c =
    let f = c.args.books.farm in
    let rows = c.args.rows.now in
    let met = c.args.met.now in
    let l = c.loop-row in
    let b = depends_of l.restored in
    let ended : length rows ≤ l.row-index = omega (arith, c.loop-row-test.false, c.loop-row.auto.row-index-end) in
    let last = restored f rows met c.args.next c.requires.kept l.row-index b (drop l.at met) l.invariant.so_far ended in
    ap (λ (v : FarmBooks). v.farm) (c.skip_depends.ensures ∙ ap (λ (v : FarmBooks). with_depends v (skipped b c.args.next)) l.invariant.rest) ∙ last.joined_is

pub returns-clause-whole : goal.returns-clause-whole
returns-clause-whole c =
    let f = c.args.books.farm in
    let rows = c.args.rows.now in
    let met = c.args.met.now in
    let l = c.loop-row in
    let b = depends_of l.restored in
    let ended : length rows ≤ l.row-index = omega (arith, c.loop-row-test.false, c.loop-row.auto.row-index-end) in
    let last = restored f rows met c.args.next c.requires.kept l.row-index b (drop l.at met) l.invariant.so_far ended in
    subst IsWhole (sym (c.skip_depends.ensures ∙ ap (λ (v : FarmBooks). with_depends v (skipped b c.args.next)) l.invariant.rest))
    (beside_whole f (skipped b c.args.next) (record { kept = subst IsKeptFarm (sym last.joined_is) c.requires.kept; fits = last.fits }))
