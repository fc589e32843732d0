use Rattle.std.proofs.Common.{◌≡◌, ◌∙◌, [], sym, ap, subst}
use Rattle.farm_types.specs.Kept.{IsKeptFarm}
use Rattle.farm_rows.specs.Changes.{beside}
use Rattle.farm_books.specs.Books.{FarmBooks, depends_of}
use Rattle.farm_depends.proofs.ComingLemmas.PlacedFollows.{rows_with}
use Rattle.farm_core.specs.Restore.{whole_in}
use Rattle.farm_core.proofs.farm.Farm.of_lists.Goals as goal

pub of_lists-requires : goal.of_lists-requires
of_lists-requires c = rows_with (whole_in c.args.lists c.args.depends.items c.args.met.items c.args.next_depend) [] [] 1 c.requires.rows

pub restore_depends-requires-clause-none : goal.restore_depends-requires-clause-none
restore_depends-requires-clause-none c = ap depends_of c.in_ok-books.ensures

pub restore_depends-requires-clause-kept : goal.restore_depends-requires-clause-kept
restore_depends-requires-clause-kept c =
    let same : whole_in c.args.lists c.args.depends.items c.args.met.items c.args.next_depend ≡ beside c.in_ok-books.books.farm c.as_slice.result.now c.as_slice-2.result.now c.args.next_depend =
    λ i. beside (ap (λ (v : FarmBooks). v.farm) (sym c.in_ok-books.ensures) i) (sym c.as_slice.ensures.value i) (sym c.as_slice-2.ensures.value i) c.args.next_depend in
    subst IsKeptFarm same c.requires

pub returns : goal.returns
returns c =
    let same : whole_in c.args.lists c.args.depends.items c.args.met.items c.args.next_depend ≡ beside c.in_ok-books.books.farm c.as_slice.result.now c.as_slice-2.result.now c.args.next_depend =
    λ i. beside (ap (λ (v : FarmBooks). v.farm) (sym c.in_ok-books.ensures) i) (sym c.as_slice.ensures.value i) (sym c.as_slice-2.ensures.value i) c.args.next_depend in
    c.in_ok-whole.ensures.farm ∙ sym same
