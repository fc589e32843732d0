use Rattle.std.proofs.Common.{sym, ap, subst, ◌-◌, ◌∙◌}
use Rattle.farm_types.specs.Farm.{changed_at}
use Rattle.sub_ledger.specs.Inside.{ledger_for}
use Rattle.sub_ledger.specs.Ledger.{Ledger, CanRemove}
use Rattle.sub_ledger.proofs.Books.{gives_cores, ledger_less}
use Rattle.sub_ledger.proofs.subs.Subs.remove.Goals as goal

pub remove_at-requires : goal.remove_at-requires
remove_at-requires c =
    gives_cores c.self.inside.places.items c.args.sub c.args.cores (subst (λ (b : Ledger). CanRemove b c.args.sub c.args.cores) (sym c.self.view_is) c.requires)

pub returns : goal.returns
returns c =
    ap ledger_for c.remove_at.ensures
    ∙ (ledger_less c.self.inside.places.items c.args.sub c.args.cores
    ∙ ap (λ (b : Ledger). record b { booked = changed_at b.booked c.args.sub (λ total. total - c.args.cores) }) c.self.view_is)
