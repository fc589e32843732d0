use Rattle.std.proofs.Common.{◌≡◌, ◌∙◌, ◌≤◌, ◌++◌, ℕ, List, length, sym, ap, subst, arith}
use Rattle.farm_types.specs.Farm.{Farm}
use Rattle.farm_rows.specs.declared.row_change.RowChange.{RowChange}
use Rattle.farm_rows.specs.Changes.{MakesRows}
use Rattle.depend_book.specs.declared.new_depend.NewDepend.{NewDepend}
use Rattle.depend_book.specs.Book.{DependLists}
use Rattle.farm_books.specs.Books.{depends_of}
use Rattle.farm_books.proofs.WholeBooks.{whole_beside}
use Rattle.farm_depends.specs.Follow.{after_follow, slots_after}
use Rattle.farm_depends.specs.FollowRows.{all_coming_rows, dropped_rows, met_rows}
use Rattle.farm_depends.proofs.RowLemmas.RowsAfter.{makes_follow, room_left}
use Rattle.farm_depends.proofs.Wholes.{fits_beside, same_depends}
use Rattle.farm_depends.proofs.rows.changed.follow_rows.Goals as goal

pub add_coming-requires : goal.add_coming-requires
add_coming-requires c =
    let v = c.args.books.now in
    let a = c.requires.acted in
    let here = c.depends-depends.result.now in
    let next : here.next ≡ v.farm.next_depend = ap (λ (b : DependLists). b.next) c.depends-depends.ensures in
    let left = room_left a.0 c.args.follow.now.depends (subst (λ (n : ℕ). n ≤ 4294967296) (ap (λ (g : Farm). g.next_depend) a.1.depends) c.kept.ensures.book.next_within) a.1.fits.room in
    let same : a.0.next_depend ≡ v.farm.next_depend = ap (λ (g : Farm). g.next_depend) (sym a.1.depends) in
    omega (arith, left, same, next, ap length c.as_slice.ensures)

pub returns : goal.returns
returns c = λ f a.
    let v = c.args.books.now in
    let b = depends_of v in
    let here = c.depends-depends.result.now in
    let w = c.args.follow.now in
    let rows = c.in_ok-rows.rows.items in
    let own = c.depends-depends.ensures in
    let all : c.add_met.new.rows.items ≡ ((rows ++ all_coming_rows b.graph.done b.next w.depends) ++ dropped_rows b w.dropped) ++ met_rows b w.marks =
    c.in_ok-add_met.ensures
    ∙ (ap (λ (cs : List RowChange). cs ++ met_rows here w.marks)
    (c.in_ok-add_dropped.ensures
    ∙ ap (λ (cs : List RowChange). cs ++ dropped_rows here w.dropped)
    (c.in_ok-add_coming.ensures ∙ ap (λ (ns : List NewDepend). rows ++ all_coming_rows here.graph.done here.next ns) c.as_slice.ensures))
    ∙ ap (λ (x : DependLists). ((rows ++ all_coming_rows x.graph.done x.next w.depends) ++ dropped_rows x w.dropped) ++ met_rows x w.marks) own)
    in
    let same = same_depends v c.requires.whole f a.depends in
    subst (λ (cs : List RowChange). MakesRows f (after_follow f w) cs) (sym all)
    (subst (λ (g : Farm). MakesRows g (after_follow g w) (((rows ++ all_coming_rows b.graph.done b.next w.depends) ++ dropped_rows b w.dropped) ++ met_rows b w.marks)) same
    (makes_follow v.farm f b w (whole_beside v c.requires.whole) c.kept.ensures.book (fits_beside v c.requires.whole f w same a.fits) a.count c.requires.marks rows
    (subst (λ (g : Farm). MakesRows g (record g { slots = slots_after g.slots w }) rows) (sym same) (c.in_ok-rows.ensures f a))))
