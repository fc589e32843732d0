use Rattle.std.proofs.Common.{sym, ap, subst, ◌+◌, ◌∙◌}
use Rattle.farm_types.specs.Farm.{changed_at}
use Rattle.sub_ledger.specs.Inside.{ledger_for}
use Rattle.sub_ledger.specs.Ledger.{Ledger, CanAdd}
use Rattle.sub_ledger.proofs.Books.{takes_cores, ledger_more}
use Rattle.sub_ledger.proofs.subs.Subs.add.Goals as goal

pub add_at-requires : goal.add_at-requires
add_at-requires c =
    takes_cores c.self.inside.places.items c.args.sub c.args.cores (subst (λ (b : Ledger). CanAdd b c.args.sub c.args.cores) (sym c.self.view_is) c.requires)

pub returns : goal.returns
returns c =
    let places = c.self.inside.places.items in
    let can = subst (λ (b : Ledger). CanAdd b c.args.sub c.args.cores) (sym c.self.view_is) c.requires in
    ap ledger_for c.add_at.ensures
    ∙ (ledger_more places c.args.sub c.args.cores (takes_cores places c.args.sub c.args.cores can)
    ∙ ap (λ (b : Ledger). record b { booked = changed_at b.booked c.args.sub (λ total. total + c.args.cores) }) c.self.view_is)
