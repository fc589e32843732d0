use Rattle.std.proofs.Common.{sym, ap, subst, ◌+◌, ◌∙◌}
use Rattle.farm_types.specs.Farm.{changed_at}
use Rattle.sub_ledger.specs.Inside.{ledger_for}
use Rattle.sub_ledger.specs.Ledger.{Ledger, CanCount}
use Rattle.sub_ledger.proofs.Books.{counts_cores, ledger_counted}
use Rattle.sub_ledger.proofs.subs.Subs.count.Goals as goal

pub count_at-requires : goal.count_at-requires
count_at-requires c =
    counts_cores c.self.inside.places.items c.args.sub c.args.cores (subst (λ (b : Ledger). CanCount b c.args.sub c.args.cores) (sym c.self.view_is) c.requires)

pub returns : goal.returns
returns c =
    let places = c.self.inside.places.items in
    let can = subst (λ (b : Ledger). CanCount b c.args.sub c.args.cores) (sym c.self.view_is) c.requires in
    ap ledger_for c.count_at.ensures
    ∙ (ledger_counted places c.args.sub c.args.cores (counts_cores places c.args.sub c.args.cores can)
    ∙ ap (λ (b : Ledger). record b { booked = changed_at b.booked c.args.sub (λ total. total + c.args.cores) }) c.self.view_is)
