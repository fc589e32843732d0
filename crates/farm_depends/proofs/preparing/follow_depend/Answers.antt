use Rattle.std.proofs.Common.{◌≡◌, ◌∙◌, Err, None, ap, sym, subst}
use Rattle.std.specs.Prelude.{Result}
use Rattle.std.proofs.lemmas.Result.{err_from_is_err_and}
use Rattle.farm_types.specs.declared.entry.Act.TheVariants as act
use Rattle.farm_books.specs.Books.{depends_of}
use Rattle.farm_books.proofs.WholeBooks.{whole_beside, whole_farm}
use Rattle.farm_types.specs.declared.fault.FarmFault.{FarmFault}
use Rattle.farm_depends.specs.declared.new_depends.room.Counts.{Counts}
use Rattle.farm_depends.specs.declared.follow.Follow.{Follow}
use Rattle.farm_depends.specs.Coming.{Comes, refusal_with}
use Rattle.farm_depends.specs.Follow.{PreparesFollow}
use Rattle.farm_depends.proofs.ComingLemmas.AddedFollows.{depend_follows, depend_refused, unmet_few}
use Rattle.farm_depends.proofs.CompletionLemmas.NoneMet.{none_met}
use Rattle.farm_depends.proofs.Wholes.{counts_told, follows_of, prepares_of}
use Rattle.farm_depends.proofs.preparing.follow_depend.Goals as goal

pub returns-in_err-new-clause-prepares : goal.returns-in_err-new-clause-prepares
returns-in_err-new-clause-prepares c =
    let p = err_from_is_err_and c.from_residual.result c.from_residual.ensures.1 in
    let v = c.args.books.now in
    let f = v.farm in
    let spec = c.args.spec.now in
    let comes = subst (λ (e : FarmFault). Comes f c.counts_of-counts.result spec (Err e)) (sym p.2) c.in_err-new.ensures in
    let counted = subst (λ (n : Counts). Comes f n spec (Err p.0)) (c.counts_of-counts.ensures.value ∙ ap counts_told c.depends.ensures) comes in
    subst (λ (r : Result Follow FarmFault). PreparesFollow f f (act.AddDepend spec) r) (sym p.1)
    (prepares_of v c.requires.whole f (act.AddDepend spec) (Err p.0) (whole_farm v c.requires.whole)
    (depend_refused f (depends_of v) c.kept.ensures.book (whole_beside v c.requires.whole) spec c.requires.formed p.0 counted))

pub added-requires : goal.added-requires
added-requires c =
    let v = c.args.books.now in
    let f = v.farm in
    let spec = c.args.spec.now in
    let none = subst (λ (n : Counts). refusal_with f n spec ≡ None) (c.counts_of-counts.ensures.value ∙ ap counts_told c.depends.ensures) c.in_ok-new.ensures.0 in
    unmet_few f (depends_of v) c.kept.ensures.book (whole_beside v c.requires.whole) spec c.requires.formed none c.in_ok-new.new c.in_ok-new.ensures.1

pub returns-clause-prepares : goal.returns-clause-prepares
returns-clause-prepares c =
    let v = c.args.books.now in
    let f = v.farm in
    let spec = c.args.spec.now in
    let none = subst (λ (n : Counts). refusal_with f n spec ≡ None) (c.counts_of-counts.ensures.value ∙ ap counts_told c.depends.ensures) c.in_ok-new.ensures.0 in
    follows_of v c.requires.whole f (act.AddDepend spec) c.in_ok-follow.follow (whole_farm v c.requires.whole)
    (depend_follows f (depends_of v) c.kept.ensures.book (whole_beside v c.requires.whole) spec c.requires.formed c.in_ok-new.new none c.in_ok-new.ensures.1 c.in_ok-follow.follow c.in_ok-follow.ensures)

pub returns-clause-marks : goal.returns-clause-marks
returns-clause-marks c =
    none_met c.args.books.now.graph _ _ (ap (λ (w : Follow). w.done) c.in_ok-follow.ensures) (ap (λ (w : Follow). w.marks) c.in_ok-follow.ensures)
