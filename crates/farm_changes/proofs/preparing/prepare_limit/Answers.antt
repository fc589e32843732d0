use Rattle.std.proofs.Common.{◌≡◌, ◌∙◌, ℕ, List, sym, subst}
use Rattle.std.specs.Prelude.{Ok}
use Rattle.limit_book.specs.Book.{check_of}
use Rattle.farm_changes.proofs.LimitsSet.{limit_makes}
use Rattle.farm_changes.proofs.preparing.prepare_limit.Goals as goal

pub returns : goal.returns
returns c =
    let f = c.args.books.now.farm in
    let plan = c.in-Ok.plan in
    limit_makes f c.args.name.now c.in_ok-name.name c.args.most c.args.moment c.running_in.result plan c.none.result c.change_of.result c.requires.kept c.requires.ahead
    (subst (λ (name : List ℕ). check_of f.limits name ≡ Ok plan) c.as_str.ensures (sym c.check_limit.ensures ∙ c.in-Ok.is)) c.running_in.ensures c.in_ok-name.ensures
    (record { hosts = c.none.ensures.hosts; slots = c.none.ensures.slots }) c.change_of.ensures
