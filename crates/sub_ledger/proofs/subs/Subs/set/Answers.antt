use Rattle.std.proofs.Common.{sym, ap, subst, ◌<◌, ◌∙◌}
use Rattle.farm_types.specs.Subs.{with_sub}
use Rattle.sub_ledger.specs.Inside.{ledger_for}
use Rattle.sub_ledger.specs.Ledger.{Ledger}
use Rattle.sub_ledger.proofs.Books.{ledger_set}
use Rattle.sub_ledger.proofs.subs.Subs.set.Goals as goal

pub returns : goal.returns
returns c =
    let within = subst (λ n. c.args.sub < n) (sym c.self.invariant) c.requires in
    ap ledger_for c.set_at.ensures
    ∙ (ledger_set c.self.inside.places.items c.args.sub c.args.size c.args.burst within
    ∙ ap (λ (b : Ledger). record b { subs = with_sub (record { sub = c.args.sub; size = c.args.size; burst = c.args.burst }) b.subs }) c.self.view_is)
