use Rattle.std.proofs.Common.{◌≡◌, ◌∙◌, List, [], ◌∷◌, Err, None, length, refl, ap, sym, subst, arith}
use Rattle.std.specs.Prelude.{Result}
use Rattle.std.proofs.lemmas.Bool.{eqb-true}
use Rattle.std.proofs.lemmas.Result.{err_from_is_err_and}
use Rattle.farm_types.specs.declared.depend.DependSpec.{DependSpec}
use Rattle.farm_types.specs.declared.entry.Act.TheVariants as act
use Rattle.farm_types.specs.Farm.{show_named}
use Rattle.depend_book.specs.Book.{DependLists}
use Rattle.farm_books.specs.Books.{depends_of}
use Rattle.farm_books.proofs.WholeBooks.{whole_beside}
use Rattle.farm_types.specs.declared.fault.FarmFault.{FarmFault}
use Rattle.farm_depends.specs.declared.new_depends.room.Counts.{Counts}
use Rattle.farm_depends.specs.declared.follow.Follow.{Follow}
use Rattle.farm_depends.specs.Coming.{ComeAll, refusal_with_all}
use Rattle.farm_depends.specs.Follow.{Follows, PreparesFollow, nothing_follows}
use Rattle.farm_depends.specs.Placed.{follow_own, placed}
use Rattle.farm_depends.proofs.CompletionLemmas.NoneMet.{none_met}
use Rattle.farm_depends.proofs.ComingLemmas.PlacedBlocked.{slots_below}
use Rattle.farm_depends.proofs.ComingLemmas.PlacedFollows.{can_place, none_come, submit_follows, submit_refused}
use Rattle.farm_depends.proofs.Wholes.{counts_told, follows_of, placed_farm, prepares_of}
use Rattle.farm_depends.proofs.new_depends.submitted.follow_submit.Goals as goal

empty : (ds : List DependSpec) → length ds ≡ 0 → ds ≡ []
empty [] is = refl
empty (d ∷ ds) is = absurd (omega arith)

pub own_job-requires : goal.own_job-requires
own_job-requires c =
    let v = c.args.books.now in
    can_place v.farm (depends_of v) c.kept.ensures.book (whole_beside v c.requires.whole) c.args.spec.now c.requires.formed c.requires.accepted

pub all_coming-requires-clause-can : goal.all_coming-requires-clause-can
all_coming-requires-clause-can c =
    let v = c.args.books.now in
    can_place v.farm (depends_of v) c.kept.ensures.book (whole_beside v c.requires.whole) c.args.spec.now c.requires.formed c.requires.accepted

pub follow_own-requires : goal.follow_own-requires
follow_own-requires c =
    let v = c.args.books.now in
    let spec = c.args.spec.now in
    let can = can_place v.farm (depends_of v) c.kept.ensures.book (whole_beside v c.requires.whole) spec c.requires.formed c.requires.accepted in
    slots_below v.farm spec can c.in_ok-own.own c.in_ok-own.ensures

pub returns-in_err-all-clause-prepares : goal.returns-in_err-all-clause-prepares
returns-in_err-all-clause-prepares c =
    let p = err_from_is_err_and c.from_residual-in_err-all.result c.from_residual-in_err-all.ensures.1 in
    let v = c.args.books.now in
    let f = v.farm in
    let spec = c.args.spec.now in
    let comes = subst (λ (e : FarmFault). ComeAll (placed f spec) c.counts_of-counts.result spec.depends (Err e)) (sym p.2) c.in_err-all.ensures in
    let counted = subst (λ (n : Counts). ComeAll (placed f spec) n spec.depends (Err p.0)) (c.counts_of-counts.ensures.value ∙ ap counts_told c.depends.ensures) comes in
    subst (λ (r : Result Follow FarmFault). PreparesFollow f (placed f spec) (act.Submit spec) r) (sym p.1)
    (prepares_of v c.requires.whole (placed f spec) (act.Submit spec) (Err p.0) (placed_farm v c.requires.whole spec (show_named f spec.show))
    (submit_refused f (depends_of v) c.kept.ensures.book (whole_beside v c.requires.whole) spec c.requires.formed c.requires.accepted p.0 counted))

pub returns-clause-prepares : goal.returns-clause-prepares
returns-clause-prepares c =
    let v = c.args.books.now in
    let f = v.farm in
    let spec = c.args.spec.now in
    let none = subst (λ (n : Counts). refusal_with_all (placed f spec) n spec.depends ≡ None) (c.counts_of-counts.ensures.value ∙ ap counts_told c.depends.ensures) c.in_ok-all.ensures.0 in
    let follow = c.in_ok-follow.ensures ∙ ap (λ (b : DependLists). follow_own b.graph.done c.in_ok-own.own c.in_ok-all.all) c.depends-2.ensures in
    follows_of v c.requires.whole (placed f spec) (act.Submit spec) c.in_ok-follow.follow (placed_farm v c.requires.whole spec (show_named f spec.show))
    (submit_follows f (depends_of v) c.kept.ensures.book (whole_beside v c.requires.whole) spec c.requires.formed c.requires.accepted c.in_ok-own.own c.in_ok-own.ensures c.in_ok-all.all none
    c.in_ok-all.ensures.1 c.in_ok-follow.follow follow)

pub returns-then-is_empty-clause-prepares : goal.returns-then-is_empty-clause-prepares
returns-then-is_empty-clause-prepares c =
    let v = c.args.books.now in
    let f = v.farm in
    let spec = c.args.spec.now in
    let none = empty spec.depends (eqb-true (length spec.depends) 0 (sym c.is_empty.ensures ∙ c.if-is_empty.true)) in
    subst (Follows f (placed f spec) (act.Submit spec)) (sym c.follow_nothing.ensures)
    (follows_of v c.requires.whole (placed f spec) (act.Submit spec) nothing_follows (placed_farm v c.requires.whole spec (show_named f spec.show))
    (none_come f (depends_of v) c.kept.ensures.book (whole_beside v c.requires.whole) spec c.requires.formed c.requires.accepted none))

pub returns-clause-marks : goal.returns-clause-marks
returns-clause-marks c =
    none_met c.args.books.now.graph _ _ (ap (λ (w : Follow). w.done) c.in_ok-follow.ensures) (ap (λ (w : Follow). w.marks) c.in_ok-follow.ensures)

pub returns-then-is_empty-clause-marks : goal.returns-then-is_empty-clause-marks
returns-then-is_empty-clause-marks c =
    none_met c.args.books.now.graph _ _ (ap (λ (w : Follow). w.done) c.follow_nothing.ensures) (ap (λ (w : Follow). w.marks) c.follow_nothing.ensures)
