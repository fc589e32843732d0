use Rattle.std.proofs.Common.{◌≡◌, ◌≤◌, ◌∙◌, ℕ, List, Some, true, length, ap, refl, sym, subst, arith}
use Rattle.std.specs.Prelude.{option_copied}
use Rattle.farm_types.specs.declared.limits.TheConstants.{SLOT_LIMIT}
use Rattle.farm_types.specs.DependActs.{depend_at}
use Rattle.farm_types.specs.declared.entry.Act.TheVariants as act
use Rattle.depend_graph.specs.Graph.{has_depend, opened_between, without_depend}
use Rattle.depend_book.specs.Book.{DependLists}
use Rattle.farm_books.specs.Books.{depends_of}
use Rattle.farm_books.proofs.WholeBooks.{whole_beside, whole_farm}
use Rattle.farm_depends.specs.Completing.{blocked_among}
use Rattle.farm_depends.proofs.CompletionLemmas.NoneMet.{none_met}
use Rattle.farm_depends.proofs.CompletionLemmas.Undepended.{drop_follows, drop_in_graph, dropping_few}
use Rattle.farm_depends.proofs.Wholes.{follows_of}
use Rattle.farm_depends.proofs.completing.follow_drop.Goals as goal

pub would_open_without-requires : goal.would_open_without-requires
would_open_without-requires c =
    let v = c.args.books.now in
    let found : depend_at v.farm c.args.depend ≡ Some c.in-Some.row.now = sym c.depend.ensures ∙ ap option_copied c.in-Some.is in
    subst (λ (b : DependLists). has_depend b.graph c.args.depend ≡ true) (sym c.depends.ensures)
    (drop_in_graph v.farm (depends_of v) c.args.depend (whole_beside v c.requires.whole) c.kept.ensures.book c.in-Some.row.now found)

pub overflow_cast-count : goal.overflow_cast-count
overflow_cast-count c =
    let v = c.args.books.now in
    let depend = c.args.depend in
    let f = v.farm in
    let would = ap (λ (b : DependLists). opened_between b.graph.depends (without_depend b.graph depend).depends) c.depends.ensures in
    let opened = c.in_ok-opened.ensures ∙ ap (blocked_among f.slots) (c.as_slice.ensures ∙ (c.in_ok-opening.ensures ∙ would)) in
    let few : length c.in_ok-opened.opened ≤ SLOT_LIMIT = subst (λ (list : List ℕ). length list ≤ SLOT_LIMIT) (sym opened) (dropping_few f (depends_of v) depend) in
    omega (arith, few, c.len-count.ensures)

pub returns-clause-prepares : goal.returns-clause-prepares
returns-clause-prepares c =
    let v = c.args.books.now in
    let depend = c.args.depend in
    let f = v.farm in
    let b = depends_of v in
    let found : depend_at f depend ≡ Some c.in-Some.row.now = sym c.depend.ensures ∙ ap option_copied c.in-Some.is in
    let would = ap (λ (x : DependLists). opened_between x.graph.depends (without_depend x.graph depend).depends) c.depends.ensures in
    let opened = c.in_ok-opened.ensures ∙ ap (blocked_among f.slots) (c.as_slice.ensures ∙ (c.in_ok-opening.ensures ∙ would)) in
    follows_of v c.requires.whole f (act.DropDepend depend) _ (whole_farm v c.requires.whole)
    (drop_follows f b depend (whole_beside v c.requires.whole) c.kept.ensures.book c.in-Some.row.now found c.if-row.false _
    c.new.ensures c.new-2.ensures refl c.new-3.ensures refl opened c.new-4.ensures c.len-count.ensures)

pub returns-clause-marks : goal.returns-clause-marks
returns-clause-marks c = none_met c.args.books.now.graph _ _ c.new-3.ensures c.none.ensures
