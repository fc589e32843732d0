use Rattle.std.proofs.Common.{◌≡◌, ◌∙◌, rules, sym, ap, subst}
use Rattle.farm_types.specs.Kept.{IsKeptFarm}
use Rattle.depend_book.specs.Book.{DependLists}
use Rattle.farm_books.specs.Books.{FarmBooks, depends_of}
use Rattle.farm_core.specs.AllRows.{depend_rows, depends_listed, marks_listed}
use Rattle.farm_core.proofs.Listed.{beside_listed}
use Rattle.farm_core.proofs.farm.Farm.copy.Goals as goal

pub restore_depends-requires-clause-none : goal.restore_depends-requires-clause-none
restore_depends-requires-clause-none c = ap depends_of c.in_ok-books.ensures

pub restore_depends-requires-clause-kept : goal.restore_depends-requires-clause-kept
restore_depends-requires-clause-kept c =
    let v = c.self.inside.books in
    let listed : c.as_slice.result.now ≡ depend_rows (depends_of v) = search rules in
    let all_depends : c.as_slice-2.result.now ≡ depends_listed c.as_slice.result.now = search rules in
    let all_marks : c.as_slice-3.result.now ≡ marks_listed c.as_slice.result.now = search rules in
    let same =
    beside_listed v c.self.invariant c.in_ok-books.books.farm c.as_slice.result.now c.as_slice-2.result.now c.as_slice-3.result.now c.next_number.result
    (ap (λ (b : FarmBooks). b.farm) c.in_ok-books.ensures) listed all_depends all_marks (c.next_number.ensures ∙ ap (λ (b : DependLists). b.next) c.depends.ensures) in
    subst IsKeptFarm (sym same) c.self.invariant.kept

pub returns : goal.returns
returns c =
    let v = c.self.inside.books in
    let listed : c.as_slice.result.now ≡ depend_rows (depends_of v) = search rules in
    let all_depends : c.as_slice-2.result.now ≡ depends_listed c.as_slice.result.now = search rules in
    let all_marks : c.as_slice-3.result.now ≡ marks_listed c.as_slice.result.now = search rules in
    let same =
    beside_listed v c.self.invariant c.in_ok-books.books.farm c.as_slice.result.now c.as_slice-2.result.now c.as_slice-3.result.now c.next_number.result
    (ap (λ (b : FarmBooks). b.farm) c.in_ok-books.ensures) listed all_depends all_marks (c.next_number.ensures ∙ ap (λ (b : DependLists). b.next) c.depends.ensures) in
    c.in_ok-whole.ensures.farm ∙ (same ∙ c.self.view_is)
