use Rattle.std.proofs.Common.{◌≡◌, ◌≤◌, length, sym, ap, subst, ◌∙◌}
use Rattle.farm_types.specs.Farm.{Farm}
use Rattle.farm_books.specs.Books.{FarmBooks, with_farm}
use Rattle.farm_draft.specs.Rows.{installed}
use Rattle.farm_changes.specs.Change.{after_change, with_more}
use Rattle.farm_changes.proofs.HostsStay.{change_count}
use Rattle.farm_changes.proofs.applying.apply.Goals as goal

pub returns-clause-hosts : goal.returns-clause-hosts
returns-clause-hosts c =
    let f = c.args.books.now.farm in
    let change = c.args.change in
    let is : c.watch.new.self.farm ≡ after_change f change =
    ap (λ (v : FarmBooks). v.farm) (c.watch.ensures ∙ (c.install_more.ensures
    ∙ ap (λ (v : FarmBooks). with_farm v (with_more v.farm change.moment change.more))
    (c.install_rows.ensures ∙ ap (λ (v : FarmBooks). with_farm v (installed v.farm change.rows)) c.advance_to.ensures))) in
    subst (λ (g : Farm). length f.hosts ≤ length g.hosts) (sym is) (change_count f change)
