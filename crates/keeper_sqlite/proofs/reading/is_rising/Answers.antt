use Rattle.std.proofs.Common.{rules, ◌≡◌, ◌∷◌, ◌∙◌, sym, subst}
use Rattle.keeper_sqlite.specs.Told.{IsRising}
use Rattle.keeper_sqlite.proofs.ReadLemmas.{is_risen}
use Rattle.keeper_sqlite.proofs.reading.is_rising.Goals as goal

pub returns : goal.returns
returns c rises =
    let is : c.args.rows.now ≡ c.in-Some.first.now ∷ c.in-Some.rest.now = search rules in
    subst IsRising (sym is) (is_risen c.in-Some.first.now c.in-Some.rest.now (sym c.rises_after.ensures ∙ rises))
