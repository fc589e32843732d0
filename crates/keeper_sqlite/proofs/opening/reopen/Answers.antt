use Rattle.std.proofs.Common.{rules, ◌≡◌, ◌∙◌, false, sym, arith}
use Rattle.sqlite_trees.specs.View.{IsClean}
use Rattle.keeper_sqlite.proofs.OverLemmas.{is_fresh, reopened}
use Rattle.keeper_sqlite.proofs.opening.reopen.Goals as goal

pub over-requires : goal.over-requires
over-requires g c clean =
    let store = c.into_store-store.result in
    let whole : c.is_broken.result ≡ false = search rules in
    is_fresh (g.S.Store.view c.args.connection.store) (g.S.Store.view store) clean (sym (c.is_broken.ensures clean) ∙ whole) (g.met.S.Store.broken_if_shut store)
    c.into_store-store.ensures.undone (c.into_store-store.ensures.numbered clean)

pub returns-in-Ok-clause-again : goal.returns-in-Ok-clause-again
returns-in-Ok-clause-again g c clean =
    let store = c.into_store-store.result in
    let whole : c.is_broken.result ≡ false = search rules in
    let earlier : IsClean (g.S.Store.view store) = omega (arith, clean, c.in-Ok.ensures.clean) in
    let unbroken : (g.S.Store.view store).is_broken ≡ false = sym (c.is_broken.ensures earlier) ∙ whole in
    reopened g.S.Store c.args.connection c.in-Ok.conn store earlier unbroken (g.met.S.Store.broken_if_shut store) c.into_store-store.ensures.undone
    (c.in-Ok.ensures.opens clean) (c.in-Ok.ensures.trees clean) (g.met.S.Store.ordered store unbroken) (g.met.S.Alter.listed store unbroken)
