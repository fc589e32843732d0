use Rattle.std.proofs.Common.{ap, sym, subst}
use Rattle.farm_types.specs.Farm.{Farm}
use Rattle.farm_types.specs.Step.{HasCondition}
use Rattle.farm_books.specs.Books.{depends_of}
use Rattle.farm_books.proofs.WholeBooks.{to_whole, whole_beside}
use Rattle.farm_changes.specs.Change.{after_change}
use Rattle.farm_depends.specs.Follow.{Follows, nothing_follows}
use Rattle.farm_depends.specs.declared.follow.Follow.{Follow}
use Rattle.farm_depends.proofs.Later.{depend_prepared, drop_prepared, submit_prepared}
use Rattle.farm_depends.proofs.CompletionLemmas.NoneMet.{none_met, retry_met}
use Rattle.farm_depends.proofs.Quiet.{quiet_by, quiet_follows}
use Rattle.farm_depends.proofs.CompletionLemmas.RetriedFollows.{retry_prepared}
use Rattle.farm_depends.proofs.Wholes.{changed_farm, follows_of, prepares_of}
use Rattle.farm_depends.proofs.preparing.prepare_follow.Goals as goal

pub returns-in-Submit-clause-prepares : goal.returns-in-Submit-clause-prepares
returns-in-Submit-clause-prepares c =
    submit_prepared c.args.books.now.farm c.args.entry.now c.args.change.now c.requires.made c.in-Submit.spec c.follow_submit.result c.in-Submit.is c.follow_submit.ensures.prepares

pub returns-in-AddDepend-clause-prepares : goal.returns-in-AddDepend-clause-prepares
returns-in-AddDepend-clause-prepares c =
    depend_prepared c.args.books.now.farm c.args.entry.now c.args.change.now c.requires.made c.in-AddDepend.spec c.follow_depend.result c.in-AddDepend.is c.follow_depend.ensures.prepares

pub returns-in-DropDepend-clause-prepares : goal.returns-in-DropDepend-clause-prepares
returns-in-DropDepend-clause-prepares c =
    drop_prepared c.args.books.now.farm c.args.entry.now c.args.change.now c.requires.made c.in-DropDepend.depend c.follow_drop.result c.in-DropDepend.is c.follow_drop.ensures.prepares

pub follow_retried-requires : goal.follow_retried-requires
follow_retried-requires c = c.requires.whole.kept.rows

pub returns-in-RetryFrame-clause-prepares : goal.returns-in-RetryFrame-clause-prepares
returns-in-RetryFrame-clause-prepares c =
    let v = c.args.books.now in
    let e = c.args.entry.now in
    let change = c.args.change.now in
    prepares_of v c.requires.whole (after_change v.farm change) e.act c.follow_retried.result (changed_farm v c.requires.whole change)
    (retry_prepared v.farm (depends_of v) e change (whole_beside v c.requires.whole) c.requires.made c.kept.ensures.book c.in-RetryFrame.place c.in-RetryFrame.is c.follow_retried.result
    c.follow_retried.ensures)

pub returns-in_default-clause-prepares : goal.returns-in_default-clause-prepares
returns-in_default-clause-prepares c =
    let v = c.args.books.now in
    let f = v.farm in
    let e = c.args.entry.now in
    let change = c.args.change.now in
    let quiet = quiet_by e.act c.in_default.not-Heard c.in_default.not-Submit c.in_default.not-AddDepend c.in_default.not-DropDepend c.in_default.not-KillJob c.in_default.not-EatFrame c.in_default.not-RetryFrame in
    let allowed = to_whole v c.requires.whole (λ (g : Farm). HasCondition g e.act) c.requires.condition in
    subst (λ (w : Follow). Follows f (after_change f change) e.act w) (sym c.follow_nothing.ensures)
    (follows_of v c.requires.whole (after_change f change) e.act nothing_follows (changed_farm v c.requires.whole change)
    (quiet_follows f (depends_of v) e change (whole_beside v c.requires.whole) allowed c.requires.made quiet))

pub returns-in-RetryFrame-clause-marks : goal.returns-in-RetryFrame-clause-marks
returns-in-RetryFrame-clause-marks c = retry_met c.args.books.now c.in-RetryFrame.place c.follow_retried.result c.follow_retried.ensures

pub returns-in_default-clause-marks : goal.returns-in_default-clause-marks
returns-in_default-clause-marks c =
    none_met c.args.books.now.graph _ _ (ap (λ (w : Follow). w.done) c.follow_nothing.ensures) (ap (λ (w : Follow). w.marks) c.follow_nothing.ensures)
